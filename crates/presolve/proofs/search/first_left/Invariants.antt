use Rattle.std.proofs.Common.{◌≡◌, ◌<◌, ◌*◌, ℕ, false, length, slice_index_or}
use Rattle.presolve.specs.declared.order.SizedBid.{SizedBid}
use Rattle.presolve.specs.inside.Sieves.{IsMarked}
use Rattle.presolve.specs.inside.Sizes.{beats}
use Rattle.presolve.proofs.search.first_left.Given as goal

-- no candidate with a bit in the words so far beats the bid
abbrev pub invariant-loop-word : goal.invariant-loop-word
invariant-loop-word l = (i : ℕ) (d : SizedBid) → i < l.word * 64 → IsMarked l.left i → i < length l.rivals → beats l.bid (slice_index_or l.rivals i d) ≡ false
