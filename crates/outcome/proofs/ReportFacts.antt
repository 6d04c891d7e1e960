-- The report so far, and what is left of it.
use Rattle.std.proofs.Common.{◌≡◌, ℕ, zero, suc, ◌+◌, ◌<◌, List, [], ◌∷◌, ◌++◌, take, length, sym, ap, ◌∙◌, arith, append_assoc}
use Rattle.std.specs.Prelude.{get_or}
use Rattle.std.specs.List.{zip}
use Rattle.std.proofs.lemmas.List.{append-nil}
use Rattle.auction_terms.specs.declared.bids.Choice.{Choice}
use Rattle.bid_desk.specs.Sale.{Sale}
use Rattle.outcome.specs.Report.{group_report, in_turn}

module _ (sale : Sale) (first : List Choice) where
  report-more : (k i n : ℕ) (groups : List (List ℕ)) (allocations : List (List Choice)) → length groups ≡ length allocations → i < length groups → n ≡ k + i
      → in_turn (group_report sale first) k (zip (take i groups) (take i allocations)) ++ group_report sale first n
      (get_or groups i [], get_or allocations i []) ≡ in_turn (group_report sale first) k
      (zip (take (i + 1) groups) (take (i + 1) allocations))
  report-more k i n [] allocations e l f = absurd (omega arith)
  report-more k i n (x ∷ groups) [] e l f = absurd (omega arith)
  report-more k zero n (x ∷ groups) (a ∷ allocations) e l f =
      let same : n ≡ k = omega arith in rw same (sym (append-nil (group_report sale first k (x, a))))
  report-more k (suc i) n (x ∷ groups) (a ∷ allocations) e l f =
      let next : suc i + 1 ≡ suc (i + 1) = omega arith in
      rw next (append_assoc (group_report sale first k (x, a)) (in_turn (group_report sale first) (k + 1)
      (zip (take i groups) (take i allocations))) (group_report sale first n (get_or groups i [], get_or allocations i []))
      ∙ ap (λ (w : List ℕ). group_report sale first k (x, a) ++ w) (report-more (k + 1) i n groups allocations (omega arith) (omega arith) (omega arith)))

  -- one group more, with the allocation at its place
  pub more_at : (k i n : ℕ) (groups : List (List ℕ)) (allocations : List (List Choice)) (group : List ℕ) (a : List Choice)
      → length groups ≡ length allocations → i < length groups → n ≡ k + i → group ≡ get_or groups i [] → a ≡ get_or allocations i []
      → in_turn (group_report sale first) k (zip (take i groups) (take i allocations)) ++ group_report sale first n (group, a)
      ≡ in_turn (group_report sale first) k (zip (take (i + 1) groups) (take (i + 1) allocations))
  more_at k i n groups allocations group a e l f p q = rw (p, q) (report-more k i n groups allocations e l f)
