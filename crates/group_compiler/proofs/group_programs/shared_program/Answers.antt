use Rattle.std.proofs.Common.{◌≡◌, ◌∙◌, [], List, ap, ap₂, subst, sym, ℕ}
use Rattle.std.specs.Prelude.{All, length, slice_index_or}
use Rattle.std.proofs.lemmas.Result.{IfOk-weaker}
use Rattle.auction_terms.specs.declared.bids.KeptBid.{KeptBid}
use Rattle.auction_terms.specs.Groups.{has}
use Rattle.auction_terms.specs.Keeping.{Offer, kept_of}
use Rattle.auction_terms.specs.Offers.{offers}
use Rattle.auction_terms.specs.Terms.{Terms, lots_in}
use Rattle.bid_desk.specs.Closing.{book_of}
use Rattle.program_rows.specs.Selections.{Shared, shared_of}
use Rattle.group_compiler.specs.inside.Sharing.{shared_program}
use Rattle.group_compiler.proofs.CompileFacts.{kept_are_sized}
use Rattle.group_compiler.proofs.group_programs.shared_program.Goals as goal

pub build_shared-requires : goal.build_shared-requires
build_shared-requires c = record {
  sized = subst (λ (t : Terms). All (λ (k : KeptBid). length k.offer.now.package ≡ length t.categories) c.in_ok-kept.kept) (sym c.rules.ensures.rules)
      (kept_are_sized c.args.book.now.rules (book_of c.args.book.now) (has c.group.result.now) c.in_ok-kept.kept c.rules.ensures.book c.in_ok-kept.ensures);
}

pub returns : goal.returns
returns c =
    let book = c.args.book.now in
    let kept = c.in_ok-kept.kept in
    let nobody : c.group.result.now ≡ [] = c.group.ensures ∙ ap (λ (gs : List (List ℕ)). slice_index_or gs 0 []) c.in_ok-nobody.ensures in
    IfOk-weaker c.build_shared.result (λ (s : Shared). s ≡ shared_of (lots_in c.rules.result.now) (offers kept)) (λ (s : Shared). s ≡ shared_program book)
    (λ s e. e ∙ ap₂ (λ (t : Terms) (os : List Offer). shared_of (lots_in t) os) c.rules.ensures.rules
    (c.in_ok-kept.ensures ∙ ap (λ (g : List ℕ). kept_of (lots_in book.rules) (book_of book) (has g)) nobody))
    c.build_shared.ensures
