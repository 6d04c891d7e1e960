-- What `text` and `compile` answer is faithful to the auction that the input describes.
use Rattle.std.proofs.Common.{◌≡◌, ◌+◌, ◌++◌, ◌∷◌, [], ℕ, false, List, Ok, ap, append_assoc, codes, map, refl, subst, sym}
use Rattle.auction_input.specs.Input.{Input}
use Rattle.auction_terms.specs.Groups.{has}
use Rattle.auction_terms.specs.Limits.{IsBook, IsLots}
use Rattle.auction_terms.specs.Terms.{lots_in}
use Rattle.auction_input.specs.Auction.{Auction, parsed_auction}
use Rattle.answers.specs.Programs.{program_for}
use Rattle.auction_input.specs.declared.request.Request.{Request}
use Rattle.auction_input.specs.declared.request.Request.TheVariants as request
use Rattle.auction_input.proofs.AnswerFacts.{ok-after, ok-is}
use Rattle.auction_input.proofs.DescribedFacts.{described-auction}
use Rattle.auction_input.proofs.WithinFacts.{auction-within}
use Rattle.mps_text.specs.FaithfulText.{IsFaithfulText}
use Rattle.mps_text.specs.Text.{text}
use Rattle.mps_text.proofs.FaithfulTextFacts.{presolved_text_is_faithful}
use Rattle.bid_desk.specs.Closing.{Closing, book_of}
use Rattle.bid_desk.specs.Sale.{Sale, sale_of}
use Rattle.group_compiler.specs.Compiled.{compiled}
use Rattle.answers.specs.FaithfulAnswers.{CompiledIsFaithful, IsFaithfulToSale, TextIsFaithful}
use Rattle.outcome.specs.Report.{heading, in_turn}
use Rattle.answers.specs.FaithfulTexts.{AreFaithfulTexts}
use Rattle.answers.specs.GroupTexts.{program_bytes, program_text, programs_bytes}
use Rattle.answers.specs.Answer.{output_of}

pub faithful-without : (asked : Request) (input : Input) (auction : Auction) → parsed_auction asked input ≡ Ok auction → (group : List ℕ)
    → IsFaithfulToSale auction.sale group
faithful-without asked input auction parsed group =
    let (lots, book) = auction-within asked input auction parsed in
    presolved_text_is_faithful auction.sale.lots auction.sale.book (has group) lots book

-- the line and the text of each group, one after the other
faithful-texts : (sale : Sale) → ((group : List ℕ) → IsFaithfulToSale sale group) → (k : ℕ) (groups : List (List ℕ))
    → AreFaithfulTexts sale k groups (in_turn (program_text sale) k groups)
faithful-texts sale faithful k [] = refl
faithful-texts sale faithful k (group ∷ groups) =
    let own = text (program_for sale group) in
    let more = in_turn (program_text sale) (k + 1) groups in
    (own, more, append_assoc (heading (codes "* program ") sale.names k group) own more, faithful group, faithful-texts sale faithful (k + 1) groups)

-- those of what was compiled of a book
compiled-texts : (book : Closing) (k : ℕ) (groups : List (List ℕ))
    → in_turn (program_bytes book) k (map (compiled book) groups) ≡ in_turn (program_text (sale_of book)) k groups
compiled-texts book k [] = refl
compiled-texts book k (group ∷ groups) =
    ap (λ (more : List ℕ). program_text (sale_of book) k group ++ more) (compiled-texts book (k + 1) groups)

pub written-texts-are-faithful : (book : Closing) → IsLots (lots_in book.rules) → IsBook (lots_in book.rules) (book_of book) → (groups : List (List ℕ))
    → AreFaithfulTexts (sale_of book) 1 groups (programs_bytes book (map (compiled book) groups))
written-texts-are-faithful book lots within groups =
    subst (AreFaithfulTexts (sale_of book) 1 groups) (sym (compiled-texts book 1 groups))
    (faithful-texts (sale_of book) (λ group. presolved_text_is_faithful (lots_in book.rules) (book_of book) (has group) lots within) 1 groups)

pub text-is-faithful : TextIsFaithful
text-is-faithful input out parsed =
    let (auction, auction_is, made) = ok-after (parsed_auction request.Text input) (output_of request.Text) out parsed in
    let is : text (program_for auction.sale []) ≡ out = ok-is _ (text (program_for auction.sale [])) out refl made in (
      auction,
      (described-auction request.Text input auction).0 auction_is,
      subst (λ (bytes : List ℕ). IsFaithfulText auction.sale.lots auction.sale.book (λ b. false)
          bytes) is (faithful-without request.Text input auction auction_is []),
    )

pub compiled-is-faithful : CompiledIsFaithful
compiled-is-faithful workers input out parsed =
    let (auction, auction_is, made) = ok-after (parsed_auction (request.Compile workers) input) (output_of (request.Compile workers)) out parsed in
    let is : in_turn (program_text auction.sale) 1 auction.groups ≡ out = ok-is _ (in_turn (program_text auction.sale) 1 auction.groups) out refl made in (
      auction,
      (described-auction (request.Compile workers) input auction).0 auction_is,
      subst (AreFaithfulTexts auction.sale 1 auction.groups) is
          (faithful-texts auction.sale (faithful-without (request.Compile workers) input auction auction_is) 1 auction.groups),
    )
