use Rattle.std.proofs.Common.{◌≡◌, ◌-◌, drop, length, sum_by}
use Rattle.bid_desk.specs.Closing.{book_of}
use Rattle.presolve.specs.declared.few_bids.TheConstants.{FEW_BIDS}
use Rattle.presolve.proofs.few_bids.has_few_bids.Given as goal

-- what is left, less the bids of the bidders to come, is what is left of all
abbrev pub invariant-loop-place : goal.invariant-loop-place
invariant-loop-place l = l.left - sum_by (λ form. length form) (drop l.place (book_of l.book)) ≡ FEW_BIDS - sum_by (λ form. length form) (book_of l.book)
