use Rattle.std.proofs.Common.{◌∙◌, get_or, true, false, sym, add-one}
use Rattle.std.proofs.lemmas.Option.{slice_get-get_or}
use Rattle.std.proofs.lemmas.Iterator.Adapters.{position_from-zero}
use Rattle.std.specs.List.{zip}
use Rattle.outcome.proofs.BoundFacts.{bound_at, breaks}
use Rattle.outcome.proofs.reading.broken_bound.Goals as goal

pub loop-column-init : goal.loop-column-init
loop-column-init c = sym (position_from-zero breaks (zip c.args.program.now.columns c.args.values.now))

pub returns-then-not-allows : goal.returns-then-not-allows
returns-then-not-allows c =
    let at = c.loop-column.column in
    let values = c.args.values.now in
    let here = bound_at at at c.args.program.now.columns values c.bounds.result (get_or values at false) false c.bounds.ensures
    (slice_get-get_or values at false c.loop-column-test.true) (sym c.allows.ensures ∙ c.if-not-allows.true) in
    sym (sym c.loop-column.invariant ∙ here)

pub loop-column-preserved : goal.loop-column-preserved
loop-column-preserved c =
    let at = c.loop-column.column in
    let values = c.args.values.now in
    let more = bound_at at at c.args.program.now.columns values c.bounds.result (get_or values at false) true c.bounds.ensures
    (slice_get-get_or values at false c.loop-column-test.true) (sym c.allows.ensures ∙ c.if-not-allows.false) in
    rw (← add-one at) at (sym more ∙ c.loop-column.invariant)
