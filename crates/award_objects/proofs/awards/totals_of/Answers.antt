use Rattle.std.proofs.Common.{◌∙◌, ◌<◌, ◌≤◌, ◌^◌, ◌++◌, ◌∷◌, [], ℕ, List, ap, ap₂, arith, get_or, length, map, subst, sym}
use Rattle.std.specs.Prelude.{All}
use Rattle.std.proofs.lemmas.List.{take_all, take_more}
use Rattle.std.proofs.lemmas.List.Elements.{All-push}
use Rattle.auction_terms.specs.Allocations.{total}
use Rattle.auction_terms.specs.Terms.{lots_in}
use Rattle.bid_desk.specs.Closing.{book_of}
use Rattle.award_objects.proofs.ListFacts.{map_more}
use Rattle.award_objects.proofs.awards.totals_of.Goals as goal

pub loop-place-preserved : goal.loop-place-preserved
loop-place-preserved c =
    let outcome = c.args.outcome.now in
    let won = outcome.won.now in
    let at = c.loop-place.place in
    let of = total (lots_in outcome.book.now.rules) (book_of outcome.book.now) in
    let within : at < length won = omega (arith, c.loop-place-test.true, c.count-place-end.ensures.count, c.requires) in
    let all = map_more of _ _ (get_or won at c.index-outcome-place.result) (take_more won at c.index-outcome-place.result within) in
    let count = c.loop-place.invariant.count in
    let longer = c.push.ensures.len in
    record {
      totals = c.push.ensures.items ∙ ap₂ (λ (ns : List ℕ) (n : ℕ). ns ++ n ∷ []) c.loop-place.invariant.totals c.small_total.ensures.total ∙ sym all;
      small = subst (All (λ (n : ℕ). n ≤ 2 ^ 60)) (sym c.push.ensures.items)
          (All-push (λ (n : ℕ). n ≤ 2 ^ 60) c.loop-place.totals.items c.small_total.result c.loop-place.invariant.small c.small_total.ensures.small);
      count = omega arith;
    }

pub returns-clause-totals : goal.returns-clause-totals
returns-clause-totals c =
    let outcome = c.args.outcome.now in
    let end = c.loop-place-test.false in
    let count = c.count-place-end.ensures.count in
    let same = c.requires in
    c.loop-place.invariant.totals ∙ ap (map (total (lots_in outcome.book.now.rules) (book_of outcome.book.now)))
    (take_all c.loop-place.place outcome.won.now (omega arith))
