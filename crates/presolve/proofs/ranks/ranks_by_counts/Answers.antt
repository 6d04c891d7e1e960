use Rattle.std.proofs.Common.{◌≡◌, ◌<◌, ◌≤◌, ◌^◌, ◌∷◌, ◌++◌, [], List, ℕ, arith, length, length-append, sym, subst, ap}
use Rattle.std.specs.Prelude.{All}
use Rattle.std.specs.List.Sorted.{IsNonDecreasing}
use Rattle.presolve.proofs.SieveFacts.{next_rank}
use Rattle.presolve.proofs.ranks.ranks_by_counts.Goals.{then-middle-next_step+then-count-gt0, else-middle-next_step}
use Rattle.presolve.proofs.ranks.ranks_by_counts.Goals as goal

pub loop-count-preserved : goal.loop-count-preserved
loop-count-preserved c =
    let before = c.loop-count.invariant in
    let ranks = c.loop-count.ranks.items in
    let rank = c.if-middle-next_step.rank in
    let pushed : c.push.new.self.items ≡ ranks ++ rank ∷ [] = c.in_ok-push.ensures.items in
    let up : c.loop-count.rank ≤ rank = elim c.if-middle-next_step.branch [
      | then-middle-next_step+then-count-gt0 w ↦ (let is = w.rank-is in let sum = w.saturating_add-rank.ensures in let fits = before.fits in omega arith)
      | else-middle-next_step w ↦ (let is = w.rank-is in omega arith)
    ] in
    let small : rank < 2 ^ 8 = elim c.if-middle-next_step.branch [
      | then-middle-next_step+then-count-gt0 w ↦ (let is = w.rank-is in let fits = w.saturating_add-rank.type_inv in omega arith)
      | else-middle-next_step w ↦ (let is = w.rank-is in let fits = before.fits in omega arith)
    ] in
    let next = next_rank ranks c.loop-count.rank rank up before.rising before.below in
    record {
      count = (let grown = ap (λ (xs : List ℕ). length xs) pushed in let size = length-append ranks (rank ∷ []) in let count = before.count in omega arith);
      rising = subst IsNonDecreasing (sym pushed) next.0;
      below = subst (λ (xs : List ℕ). All (λ r. r ≤ rank) xs) (sym pushed) next.1;
      fits = small;
    }
