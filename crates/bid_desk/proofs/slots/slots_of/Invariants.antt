use Rattle.bid_desk.specs.inside.Slots.{AreSlots}
use Rattle.bid_desk.proofs.slots.slots_of.Given as goal

abbrev pub invariant-loop-place : goal.invariant-loop-place
invariant-loop-place g l = AreSlots g.L.Round.rules l.sessions l.place l.slots.items
