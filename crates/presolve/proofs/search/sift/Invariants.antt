use Rattle.std.proofs.Common.{◌≡◌, ◌<◌, List, length, slice_index_or}
use Rattle.std.specs.Prelude.{All}
use Rattle.presolve.specs.declared.order.SizedBid.{SizedBid}
use Rattle.presolve.specs.inside.Sieves.{IsSieve, Sifts}
use Rattle.presolve.proofs.search.sift.Given as goal

-- what is left sifts as it did at first
abbrev pub invariant-loop-group : goal.invariant-loop-group
invariant-loop-group l = record {
  count : length l.left ≡ length l.initial.left;
  sifts : (rivals : List SizedBid) (x : SizedBid) → All (IsSieve rivals) l.sieves → l.place < length rivals
      → x ≡ slice_index_or rivals l.place x → Sifts rivals x l.initial.left → Sifts rivals x l.left;
}
