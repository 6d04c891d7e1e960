use Rattle.std.specs.Prelude.{ℕ, ◌≡◌, ◌<◌}
use Rattle.bid_desk.specs.Sessions.{IsSessionOf}
use Rattle.bid_desk.specs.inside.Slots.{slot_at, slot_of}
use Rattle.bid_desk.proofs.slots.missing.Given as goal

abbrev pub invariant-loop-place : goal.invariant-loop-place
invariant-loop-place l = (b s : ℕ) → IsSessionOf l.rules b s → slot_of b s < l.place → (slot_at l.slots b s).times ≡ 1
