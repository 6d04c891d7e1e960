-- The texts of rules and of forms that an input has, by what it describes; and that inputs with the same ones are of one sale.
use Rattle.std.specs.Prelude.{◌≡◌, ◌≤◌, ◌++◌, ℕ, List, codes, length}
use Rattle.std.specs.List.{zip}
use Rattle.auction_input.specs.Auction.{Auction}
use Rattle.auction_input.specs.Described.{Describes, texts_named}
use Rattle.auction_input.specs.Input.{Input}
use Rattle.auction_input.specs.ParsedParts.{only_text}
use Rattle.auction_input.specs.SameForms.{last_bytes}
use Rattle.auction_input.specs.declared.request.Request.{Request}
use Rattle.bid_forms.specs.Offers.{Offers}

-- the text of the rules
abbrev pub rules_in : Input → List ℕ
rules_in input = only_text (texts_named (codes "%rules") input)

-- forms, each with the text that it is read from
abbrev pub with_texts : Input → List Offers → List (Offers × List ℕ)
with_texts input forms = zip forms (texts_named (codes "%form") input)

-- the texts of rules and of forms
abbrev pub sealed_texts : Input → List (List ℕ)
sealed_texts input = texts_named (codes "%rules") input ++ texts_named (codes "%form") input

-- where the text of the rules is the same, and that of each bidder's last form, the rules are the same, and the sale is
abbrev pub SameTextsAreOneSale : Type 0
SameTextsAreOneSale = (asked asked' : Request) (input input' : Input) (auction auction' : Auction)
    (one : Describes asked input auction) (other : Describes asked' input' auction') → rules_in input ≡ rules_in input'
    → ((bidder : ℕ) → 1 ≤ bidder → bidder ≤ length auction.rules.bidders → last_bytes (with_texts input one.forms) bidder ≡ last_bytes (with_texts input' other.forms) bidder)
    → (auction.rules ≡ auction'.rules) × (auction.sale ≡ auction'.sale)
