use Rattle.std.proofs.Common.{rules, ◌≡◌, ◌≤◌, true, arith, ◌&&◌, ◌++◌, ◌∙◌, ap, sym, subst, ℕ, Some, None}
use Rattle.std.specs.Prelude.{nat_le, flat_map}
use Rattle.std.proofs.lemmas.Bool.Decides.{nat_tests}
use Rattle.program_rows.specs.MpsProgram.{number_beside, line_right_sides, first_free}
use Rattle.program_rows.specs.MpsFaults.{pairs_fault}
use Rattle.auction_terms.specs.Lines.{bytes_of}
use Rattle.mps_reader.specs.inside.Rows.{names_of, option_now, StampsAre, rows_by, bound_lines_of}
use Rattle.mps_reader.proofs.NameFacts.{length-bytes}
use Rattle.mps_reader.proofs.AnswerFacts.{handed-on}
use Rattle.mps_reader.proofs.SideFacts.{line-pairs, line-fault}
use Rattle.mps_reader.proofs.PairFaultFacts.{has_row}
use Rattle.mps_reader.proofs.right_sides.take_right_side_line.Goals as goal

two-to-five : (n : ℕ) → 2 ≤ n → n ≤ 5 → (nat_le 2 n && nat_le n 5) ≡ true
two-to-five n l h = grind (arith, nat_tests)

pub returns-in_err-take_right_sides-clause-fault : goal.returns-in_err-take_right_sides-clause-fault
returns-in_err-take_right_sides-clause-fault c = λ before d o s.
    let fields = bytes_of c.args.fields.now in
    let shown = line-pairs c.args.fields.now in
    let count = ap (λ (n : ℕ). nat_le 2 n && nat_le n 5) (length-bytes c.args.fields.now)
    ∙ two-to-five _ c.if-fields-lt2.false c.if-fields-gt5.false in
    handed-on (Unit {0}) c.from_residual.result c.in_err-take_right_sides.field-0.0 _ _ (search rules)
    (λ kind h. line-fault before fields (Some kind) count (ap
    (pairs_fault before.rows (first_free before.rows) (flat_map line_right_sides before.right_sides)) shown ∙ h))
    (c.in_err-take_right_sides.ensures.fault before.rows (flat_map line_right_sides before.right_sides) d o s)

pub returns-clause-fault : goal.returns-clause-fault
returns-clause-fault c = λ before d o s.
    let fields = bytes_of c.args.fields.now in
    let shown = line-pairs c.args.fields.now in
    let count = ap (λ (n : ℕ). nat_le 2 n && nat_le n 5) (length-bytes c.args.fields.now)
    ∙ two-to-five _ c.if-fields-lt2.false c.if-fields-gt5.false in
    line-fault before fields None count (ap (pairs_fault before.rows (first_free before.rows) (flat_map line_right_sides before.right_sides)) shown
    ∙ c.in_ok-take_right_sides.ensures.fault before.rows (flat_map line_right_sides before.right_sides) d o s)

pub returns-clause-stamps : goal.returns-clause-stamps
returns-clause-stamps c = λ rights s.
    let fields = bytes_of c.args.fields.now in
    let shown = line-pairs c.args.fields.now in
    subst (λ ps. StampsAre c.take_right_sides.new.rows.stamps.items c.args.stamp (names_of c.args.rows.now.names)
    (has_row (ps ++ flat_map line_right_sides rights))) (sym shown) (c.in_ok-take_right_sides.ensures.stamps (flat_map line_right_sides rights) s)

pub returns-clause-tells : goal.returns-clause-tells
returns-clause-tells c = λ lines rights s h.
    let fields = bytes_of c.args.fields.now in
    let shown = line-pairs c.args.fields.now in
    record {
      names = ap names_of c.in_ok-take_right_sides.ensures.names ∙ h.names;
      shown = c.in_ok-take_right_sides.ensures.rows (flat_map line_right_sides rights) (bound_lines_of lines) s h.shown
          ∙ ap (λ ps. rows_by (number_beside (ps ++ flat_map line_right_sides rights)) (bound_lines_of lines)) (sym shown);
      objective = ap option_now c.in_ok-take_right_sides.ensures.objective ∙ h.objective;
    }
