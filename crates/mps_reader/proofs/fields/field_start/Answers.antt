use Rattle.std.proofs.Common.{not, ap, sym, ◌∙◌, arith}
use Rattle.mps_reader.specs.inside.Reading.{is_other}
use Rattle.mps_reader.proofs.FieldFacts.{place_is, no_place}
use Rattle.mps_reader.proofs.fields.field_start.Goals as goal

pub returns-then-not-is_space_byte : goal.returns-then-not-is_space_byte
returns-then-not-is_space_byte c =
    place_is is_other c.args.rest.now c.loop-i.i c.loop-i-test.true c.loop-i.invariant.1 (ap not (sym c.is_space_byte.ensures ∙ c.if-not-is_space_byte.true))

pub returns : goal.returns
returns c = no_place is_other c.args.rest.now c.loop-i.i (omega (arith, c.loop-i-test.false)) c.loop-i.invariant.1
