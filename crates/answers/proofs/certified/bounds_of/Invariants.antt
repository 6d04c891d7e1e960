use Rattle.std.proofs.Common.{◌≡◌, ◌++◌, drop, map}
use Rattle.answers.specs.inside.Judging.{bounds_by, bound_held}
use Rattle.auction_terms.specs.Lines.{bytes_of}
use Rattle.answers.proofs.certified.bounds_of.Given as goal

abbrev pub invariant-loop-place : goal.invariant-loop-place
invariant-loop-place l =
    map (bound_held l.book) l.bounds.items ++ bounds_by l.book (drop l.place l.groups) (drop l.place l.allocations)
    (bytes_of (drop l.place l.certificates)) ≡ bounds_by l.book l.groups l.allocations (bytes_of l.certificates)
