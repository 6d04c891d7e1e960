use Rattle.std.proofs.Common.{◌∙◌, ℕ, List, Ok, ap, inl, inr, refl, subst, sym}
use Rattle.auction_input.specs.Auction.{Auction}
use Rattle.auction_input.specs.Parts.{parts_held}
use Rattle.auction_input.specs.Settled.{RefusesAuction}
use Rattle.auction_input.specs.declared.parts.Part as declared
use Rattle.auction_input.specs.declared.refusal.Refusal.TheVariants as refusal
use Rattle.auction_input.specs.inside.Auctions.{HasRun, HoldTexts, RefusesRun}
use Rattle.auction_input.proofs.AuctionFacts.{auction-held, rest-same, rest_in, run-refused, sold, parsed-is}
use Rattle.auction_input.proofs.DescribedFacts.{described-auction, has-forms}
use Rattle.auction_input.proofs.StageFacts.{stop}
use Rattle.bid_desk.specs.Sale.{sale_of}
use Rattle.auction_input.proofs.StepFacts.{if-err-of}
use Rattle.auction_input.proofs.auction.read_auction.Goals as goal

abbrev Parts : Type 0
Parts = List declared.Part

pub returns-in_err-parts-clause-refuses : goal.returns-in_err-parts-clause-refuses
returns-in_err-parts-clause-refuses g c =
    let asked = c.args.request.now in
    let input = c.args.input.now in
    let r = c.in_err-parts.field-0.0 in
    if-err-of (RefusesAuction asked input) c.from_residual.result r c.from_residual.ensures.1 (inl (stop _ _ r c.in_err-parts.ensures.refuses))

pub returns-in_err-beside-clause-refuses : goal.returns-in_err-beside-clause-refuses
returns-in_err-beside-clause-refuses g c =
    if-err-of (RefusesAuction c.args.request.now c.args.input.now) c.from_residual-in_err-beside.result refusal.OutOfMemory
    c.from_residual-in_err-beside.ensures.1 (inl (inr refl))

pub returns-in_err-book-clause-refuses : goal.returns-in_err-book-clause-refuses
returns-in_err-book-clause-refuses g c =
    let asked = c.args.request.now in
    let input = c.args.input.now in
    let r = c.in_err-book.field-0.0 in
    let refused = subst (λ (xs : Parts). RefusesRun c.last_wins.result (parts_held xs) r) c.as_slice-2.ensures.value c.in_err-book.ensures.refuses in
    if-err-of (RefusesAuction asked input) c.from_residual-in_err-book.result r c.from_residual-in_err-book.ensures.1
    (run-refused asked input _ (sym c.last_wins.ensures) (parts_held c.in_ok-parts.parts.items) c.in_ok-parts.ensures.parsed c.requires.reads r refused)

pub returns-clause-parsed : goal.returns-clause-parsed
returns-clause-parsed g c =
    let book = c.in_ok-book.field-0.book in
    let bidders = c.in_ok-book.field-0.form_bidders.items in
    let groups = c.in_ok-book.field-0.groups in
    let parts = parts_held c.in_ok-parts.parts.items in
    let run = subst (λ (xs : Parts). HasRun c.last_wins.result (parts_held xs) book bidders groups) c.as_slice-2.ensures.value c.in_ok-book.ensures.parsed in
    let hold = subst (λ (xs : Parts). HoldTexts (parts_held xs) c.in_ok-beside.beside) c.as_slice.ensures.value c.in_ok-beside.ensures in
    parsed-is c.args.request.now c.args.input.now _ (sym c.last_wins.ensures) parts c.in_ok-parts.ensures.parsed book.rules run.forms groups run.parsed
    ∙ ap (λ (a : Auction). Ok a) (auction-held book book.rules run.forms groups (rest_in parts) refl run.submitted
    ∙ ap (λ (xs : List ℕ). sold book.rules (sale_of book) xs groups (rest_in parts)) (sym run.bidders_are)
    ∙ ap (sold book.rules (sale_of book) bidders groups) (rest-same c.in_ok-beside.beside parts hold))

pub returns-clause-submitted : goal.returns-clause-submitted
returns-clause-submitted g c =
    let book = c.in_ok-book.field-0.book in
    let bidders = c.in_ok-book.field-0.form_bidders.items in
    let groups = c.in_ok-book.field-0.groups in
    let run = subst (λ (xs : Parts). HasRun c.last_wins.result (parts_held xs) book bidders groups) c.as_slice-2.ensures.value c.in_ok-book.ensures.parsed in
    record {
      forms = run.forms;
      forms_are = has-forms c.args.request.now c.args.input.now _ (sym c.last_wins.ensures) (parts_held c.in_ok-parts.parts.items)
          c.in_ok-parts.ensures.parsed book.rules run.forms groups run.parsed;
      submitted = run.submitted;
    }

pub returns-clause-sold : goal.returns-clause-sold
returns-clause-sold g c =
    let book = c.in_ok-book.field-0.book in
    record {
      described = (described-auction c.args.request.now c.args.input.now _).0 (returns-clause-parsed g c);
      book = book;
      closed = c.well_formed-2.ensures.closing;
      holds = returns-clause-submitted g c;
      rules_are = refl;
      sale_is = refl;
    }
