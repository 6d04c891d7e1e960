use Rattle.std.proofs.Common.{arith}
use Rattle.optimality.proofs.NameFacts.{column-found, column-missing}
use Rattle.optimality.proofs.terms.column_place.Goals as goal

pub returns-then-place-column_count : goal.returns-then-place-column_count
returns-then-place-column_count c = column-missing c.args.name.now c.args.program.now.columns c.place_or_count-place.result
    c.place_or_count-place.ensures (omega (arith, c.if-place-column_count.true, c.column_count.ensures))

pub returns : goal.returns
returns c = column-found c.args.name.now c.args.program.now.columns c.place_or_count-place.result c.place_or_count-place.ensures
    (omega (arith, c.if-place-column_count.false, c.column_count.ensures))
