use Rattle.std.proofs.Common.{◌≡◌, List, sym, ap₂, ◌∙◌, subst}
use Rattle.std.specs.Prelude.{All, length}
use Rattle.std.proofs.lemmas.Result.{IfOk-weaker}
use Rattle.auction_terms.specs.declared.bids.KeptBid.{KeptBid}
use Rattle.auction_terms.specs.Groups.{has}
use Rattle.auction_terms.specs.Keeping.{Offer}
use Rattle.auction_terms.specs.Offers.{offers}
use Rattle.auction_terms.specs.Terms.{Terms, lots_in}
use Rattle.bid_desk.specs.Closing.{book_of}
use Rattle.mps_text.proofs.FaithfulTextFacts.{presolved_text_is_faithful}
use Rattle.mps_text.specs.FaithfulText.{IsFaithfulText}
use Rattle.mps_text.specs.Text.{text}
use Rattle.program_rows.proofs.FaithfulFacts.{presolved_is_faithful}
use Rattle.program_rows.specs.Faithful.{IsFaithful}
use Rattle.program_rows.specs.Program.{Table}
use Rattle.program_rows.specs.Rows.{program_of}
use Rattle.group_compiler.specs.Compiled.{program_without}
use Rattle.group_compiler.proofs.CompileFacts.{kept_are_sized}
use Rattle.group_compiler.proofs.compiling.compile.Goals as goal

pub build-requires : goal.build-requires
build-requires c = record {
  sized = subst (λ (t : Terms). All (λ (k : KeptBid). length k.offer.now.package ≡ length t.categories) c.in_ok-kept.kept) (sym c.rules.ensures.rules)
      (kept_are_sized c.args.book.now.rules (book_of c.args.book.now) (has c.args.group.now) c.in_ok-kept.kept c.rules.ensures.book c.in_ok-kept.ensures);
}

pub returns : goal.returns
returns c =
    let lots = lots_in c.args.book.now.rules in
    let book = book_of c.args.book.now in
    let group = has c.args.group.now in
    let kept = c.in_ok-kept.kept in
    let built = λ (p : Table). p ≡ program_of (lots_in c.rules.result.now) (offers kept) in
    let is : (p : Table) → built p → p ≡ program_without c.args.book.now c.args.group.now =
    λ p e. e ∙ ap₂ (λ (t : Terms) (os : List Offer). program_of (lots_in t) os) c.rules.ensures.rules c.in_ok-kept.ensures in
    record {
      program = IfOk-weaker c.build.result built (λ (p : Table). p ≡ program_without c.args.book.now c.args.group.now) is c.build.ensures;
      faithful = IfOk-weaker c.build.result built (λ (p : Table). IsFaithful lots book group p)
          (λ p e. subst (λ (q : Table). IsFaithful lots book group q) (sym (is p e))
          (presolved_is_faithful lots book group c.rules.ensures.book)) c.build.ensures;
      text = IfOk-weaker c.build.result built (λ (p : Table). IsFaithfulText lots book group (text p))
          (λ p e. subst (λ (q : Table). IsFaithfulText lots book group (text q)) (sym (is p e))
          (presolved_text_is_faithful lots book group c.rules.ensures.lots c.rules.ensures.book)) c.build.ensures;
    }
