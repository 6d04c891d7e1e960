use Rattle.std.proofs.Common.{◌≡◌, ◌<◌, ℕ, ℤ, arith, length, rules, w64}
use Rattle.std.proofs.lemmas.Int.{to_z-of_z}
use Rattle.std.proofs.lemmas.Bool.Decides.{nat_tests}
use mir.Val.{SFits}
use Rattle.optimality.specs.RowForms.{forms_held, with_term}
use Rattle.optimality.proofs.RowFacts.{entry-taken, term-nowhere, term-pushed}
use Rattle.optimality.proofs.row_forms.add_column.Goals as goal
use Rattle.optimality.proofs.row_forms.add_column.Goals.{then-row-forms+in_ok-push, else-row-forms}

pub loop-i-preserved : goal.loop-i-preserved
loop-i-preserved c =
    let fits : SFits w64 c.entry-row.result.1 = search rules in
    let row = c.entry-row.result.0 in
    let term : ℕ × ℤ = (c.args.column, c.entry-row.result.1) in
    let forms = c.loop-i.forms in
    let taken : forms_held c.if-row-forms.forms ≡ with_term row term (forms_held forms) = elim c.if-row-forms.branch [
      | then-row-forms+in_ok-push w ↦
          (let within : row < length forms = (let test = w.if-row-forms.true in grind (arith, nat_tests)) in
          let pushed = simp to_z-of_z at w.in_ok-push.ensures in
          rw w.forms-is (term-pushed forms row term _ w.push.new.self within pushed))
      | else-row-forms w ↦ rw w.forms-is (term-nowhere forms row term w.if-row-forms.false)
    ] in
    entry-taken c.args.column c.args.entries.now c.loop-i.i c.entry-row.result (forms_held forms) (forms_held c.if-row-forms.forms)
    _ c.entry-row.ensures taken c.loop-i.invariant
