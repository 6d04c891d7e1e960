use Rattle.std.proofs.Common.{refl, length, rules, w64}
use Rattle.std.proofs.lemmas.Int.{to_z-of_z}
use mir.Val.{SFits}
use Rattle.mps_reader.proofs.ColumnStepFacts.{closed-fit}
use Rattle.mps_reader.proofs.ColumnFacts.{closed-tells}
use Rattle.mps_reader.proofs.columns.close_column.Goals as goal

pub returns-clause-fit : goal.returns-clause-fit
returns-clause-fit c = λ count fit.
    let shown = c.as_slice.ensures.value in
    closed-fit count c.args.columns.now _ c.as_slice.result.now c.in-Some.name _ fit c.in-Some.is (rw shown c.sort_entries.ensures.moved)
    (rw shown c.sort_entries.ensures.sorted) refl refl c.in_ok-push.ensures.ok refl c.clear.ensures.items

pub returns-clause-tells : goal.returns-clause-tells
returns-clause-tells c = λ objective rows lines bounds fit h.
    let shown = c.as_slice.ensures.value in
    let fits : SFits w64 c.args.columns.now.current_column.cost = search rules in
    closed-tells objective rows lines bounds c.args.columns.now _ c.as_slice.result.now c.in-Some.name _ fit c.in-Some.is
    (to_z-of_z w64 c.args.columns.now.current_column.cost fits) (rw shown c.sort_entries.ensures.moved) (rw shown c.sort_entries.ensures.sorted)
    refl refl refl c.in_ok-push.ensures.ok refl refl
    (closed-fit (length rows) c.args.columns.now _ c.as_slice.result.now c.in-Some.name _ fit c.in-Some.is (rw shown c.sort_entries.ensures.moved)
    (rw shown c.sort_entries.ensures.sorted) refl refl c.in_ok-push.ensures.ok refl c.clear.ensures.items) h
