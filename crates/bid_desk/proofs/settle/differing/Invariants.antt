use Rattle.std.specs.Prelude.{ℕ, ◌<◌, map}
use Rattle.bid_book.specs.History.{entry_value}
use Rattle.bid_desk.specs.Sessions.{IsSessionOf}
use Rattle.bid_desk.specs.Settlement.{AgreesAt}
use Rattle.bid_desk.specs.inside.Slots.{slot_of}
use Rattle.bid_desk.proofs.settle.differing.Given as goal

abbrev pub invariant-loop-slot : goal.invariant-loop-slot
invariant-loop-slot g l = (b s : ℕ) → IsSessionOf g.L.Round.rules b s → slot_of b s < l.slot → AgreesAt (map entry_value l.history) l.sessions b s
