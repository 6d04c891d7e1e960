use Rattle.std.specs.Prelude.{map, take}
use Rattle.bid_book.specs.History.{entry_value}
use Rattle.bid_desk.specs.inside.Comparing.{AreCompared}
use Rattle.bid_desk.proofs.comparing.compare.Given as goal

abbrev pub invariant-loop-place : goal.invariant-loop-place
invariant-loop-place g l = AreCompared (take l.place (map entry_value l.history)) l.sessions l.chair l.comparisons
