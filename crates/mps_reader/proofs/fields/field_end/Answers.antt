use Rattle.std.proofs.Common.{◌≡◌, ◌<◌, ℕ, true, arith}
use Rattle.std.proofs.lemmas.Bool.Decides.{nat_tests}
use Rattle.mps_reader.specs.inside.Reading.{is_after}
use Rattle.mps_reader.proofs.FieldFacts.{place_is, no_place}
use Rattle.mps_reader.proofs.fields.field_end.Goals.{then-text-i-lt33-via-then-text-i-lt33, then-text-i-lt33-via-else-text-i-lt33+then-text-i-gt126}
use Rattle.mps_reader.proofs.fields.field_end.Goals as goal

after-low : (b : ℕ) → b < 33 → is_after b ≡ true
after-low b l = grind (arith, nat_tests)

after-high : (b : ℕ) → 126 < b → is_after b ≡ true
after-high b l = grind (arith, nat_tests)

pub returns-then-text-i-lt33 : goal.returns-then-text-i-lt33
returns-then-text-i-lt33 c = place_is is_after c.args.text.now c.loop-i.i c.loop-i-test.true c.loop-i.invariant.1 (elim c.then-text-i-lt33.branch [
  | then-text-i-lt33-via-then-text-i-lt33 w ↦ after-low _ w.if-text-i-lt33.true
  | then-text-i-lt33-via-else-text-i-lt33+then-text-i-gt126 w ↦ after-high _ w.if-text-i-gt126.true
])

pub returns : goal.returns
returns c = no_place is_after c.args.text.now c.loop-i.i (omega (arith, c.loop-i-test.false)) c.loop-i.invariant.1
