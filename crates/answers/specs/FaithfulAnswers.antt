-- What `text` and `compile` write where they end well: texts that are faithful to the auction that the input describes.
use Rattle.std.specs.Prelude.{◌≡◌, ℕ, false, List, Ok, Option}
use Rattle.std.specs.Io.KnownBytes.{Appends}
use Rattle.auction_input.specs.Input.{Input}
use Rattle.auction_input.specs.Auction.{Auction}
use Rattle.auction_input.specs.Described.{Describes}
use Rattle.answers.specs.Programs.{program_for}
use Rattle.auction_input.specs.declared.request.Request.TheVariants.{Compile, Text}
use Rattle.auction_terms.specs.Groups.{has}
use Rattle.mps_text.specs.FaithfulText.{IsFaithfulText}
use Rattle.mps_text.specs.Text.{text}
use Rattle.bid_desk.specs.Sale.{Sale}
use Rattle.answers.specs.Answer.{answer}
use Rattle.answers.specs.FaithfulTexts.{AreFaithfulTexts, WritesFaithfulTexts}

-- the text of a group's program says of the auction, and of the group left out, what the allocations say
abbrev pub IsFaithfulToSale : Sale → List ℕ → Type 0
IsFaithfulToSale sale group = IsFaithfulText sale.lots sale.book (has group) (text (program_for sale group))

-- what `text` answers of an input is a text that is faithful to the auction which the input describes, with nobody left out
abbrev pub TextIsFaithful : Type 0
TextIsFaithful = (input : Input) (out : List ℕ) → answer Text input ≡ Ok out
    → (auction : Auction) × Describes Text input auction × IsFaithfulText auction.sale.lots auction.sale.book (λ b. false) out

-- what `compile` answers of an input is the line and a faithful text of each group of the auction which the input describes
abbrev pub CompiledIsFaithful : Type 0
CompiledIsFaithful = (workers : ℕ) (input : Input) (out : List ℕ) → answer (Compile workers) input ≡ Ok out
    → (auction : Auction) × Describes (Compile workers) input auction × AreFaithfulTexts auction.sale 1 auction.groups out

-- a text that is faithful to the auction which an input describes, with nobody left out, was written, and nothing else
abbrev pub WritesFaithfulTextOn : Input → Option (List ℕ) → Option (List ℕ) → Type 0
WritesFaithfulTextOn input taken taken' =
    (auction : Auction) × Describes Text input auction × (out : List ℕ) × IsFaithfulText auction.sale.lots auction.sale.book (λ b. false) out
    × Appends taken taken' out

-- the line and a faithful text of each group of the auction which an input describes were written, and nothing else
abbrev pub WritesFaithfulTextsOn : ℕ → Input → Option (List ℕ) → Option (List ℕ) → Type 0
WritesFaithfulTextsOn workers input taken taken' =
    (auction : Auction) × Describes (Compile workers) input auction × WritesFaithfulTexts auction.sale auction.groups taken taken'
