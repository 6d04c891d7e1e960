use Rattle.std.proofs.Common.{rules, ◌≡◌, ◌∙◌, ap, sym, subst, length, ◌+◌, ℕ}
use Rattle.std.specs.Prelude.{bytes_eq, ◌∷◌, flat_map}
use Rattle.std.specs.List.{list_any}
use Rattle.program_rows.specs.MpsProgram.{line_right_sides}
use Rattle.auction_terms.specs.Lines.{bytes_of}
use Rattle.mps_reader.specs.inside.Rows.{names_of, option_now, declared_row_names, StampsAre}
use Rattle.mps_reader.specs.inside.Sections.{word_of}
use Rattle.mps_reader.proofs.NameFacts.{length-bytes}
use Rattle.mps_reader.proofs.AnswerFacts.{handed-on}
use Rattle.mps_reader.proofs.FitFacts.{row-fits, bound-fits}
use Rattle.mps_reader.proofs.DataFacts.{rows-fault, in-columns, in-right-sides, in-bounds, declared-is, objective-is}
use Rattle.mps_reader.proofs.DataFacts.{at-columns, right-stamps, row-step, right-step, bound-step}
use Rattle.mps_reader.proofs.reader.take_data.Goals as goal

pub returns-in_ok-take_row-in-Rows : goal.returns-in_ok-take_row-in-Rows
returns-in_ok-take_row-in-Rows c = record {
  fit = row-fits c.args.reading.now c.take_row.new.rows c.requires.fit c.in-Rows.is c.in_ok-take_row-in-Rows.ensures.fit c.in_ok-take_row-in-Rows.ensures.grows;
  fault = λ before h. rows-fault before (bytes_of c.args.fields.now) c.args.reading.now c.in-Rows.is h ∙ c.in_ok-take_row-in-Rows.ensures.fault;
  tells = λ before h. row-step before (bytes_of c.args.fields.now) c.args.reading.now c.take_row.new.rows c.in-Rows.is c.requires.fit
      c.in_ok-take_row-in-Rows.ensures.tells c.in_ok-take_row-in-Rows.ensures.stamps h;
}

pub returns-in_ok-take_bound-in-Bounds : goal.returns-in_ok-take_bound-in-Bounds
returns-in_ok-take_bound-in-Bounds c = record {
  fit = bound-fits c.args.reading.now c.take_bound.new.columns c.requires.fit c.in-Bounds.is
      (c.in_ok-take_bound-in-Bounds.ensures.fit c.args.reading.now.rows c.requires.fit.both) c.in_ok-take_bound-in-Bounds.ensures.current;
  fault = λ before h. in-bounds before (bytes_of c.args.fields.now) (h.section ∙ ap word_of c.in-Bounds.is)
      ∙ c.in_ok-take_bound-in-Bounds.ensures.fault before.columns h.lines.of_columns.names;
  tells = λ before h. bound-step before (bytes_of c.args.fields.now) c.args.reading.now c.take_bound.new.columns c.in-Bounds.is
      (c.in_ok-take_bound-in-Bounds.ensures.tells (option_now c.args.reading.now.rows.objective)
      (declared_row_names c.args.reading.now.rows.rows.items) before.columns before.bounds c.requires.fit.both.columns.distinct h.lines.of_columns) h;
}

pub returns-in_err-take_row-in-Rows-clause-fault : goal.returns-in_err-take_row-in-Rows-clause-fault
returns-in_err-take_row-in-Rows-clause-fault c = λ before h.
    handed-on (Unit {0}) c.from_residual.result c.in_err-take_row-in-Rows.field-0.0 _ _ (search rules)
    (λ kind k. rows-fault before (bytes_of c.args.fields.now) c.args.reading.now c.in-Rows.is h ∙ k) c.in_err-take_row-in-Rows.ensures.fault

pub returns-in_err-take_column_line-in-Columns-clause-fault : goal.returns-in_err-take_column_line-in-Columns-clause-fault
returns-in_err-take_column_line-in-Columns-clause-fault c = λ before h.
    let at = at-columns before c.args.reading.now c.in-Columns.is h in
    handed-on (Unit {0}) c.from_residual-in_err-take_column_line-in-Columns.result c.in_err-take_column_line-in-Columns.field-0.0 _ _ (search rules)
    (λ kind k. in-columns before (bytes_of c.args.fields.now) (h.section ∙ ap word_of c.in-Columns.is) ∙ k)
    (c.in_err-take_column_line-in-Columns.ensures.fault before (declared-is before before.right_sides c.args.reading.now.rows h.lines.of_rows)
    c.requires.fit.both at.1 at.0)

pub returns-in_ok-take_column_line-in-Columns-clause-fault : goal.returns-in_ok-take_column_line-in-Columns-clause-fault
returns-in_ok-take_column_line-in-Columns-clause-fault c = λ before h.
    let at = at-columns before c.args.reading.now c.in-Columns.is h in
    in-columns before (bytes_of c.args.fields.now) (h.section ∙ ap word_of c.in-Columns.is)
    ∙ c.in_ok-take_column_line-in-Columns.ensures.fault before (declared-is before before.right_sides c.args.reading.now.rows h.lines.of_rows)
    c.requires.fit.both at.1 at.0

pub returns-in_err-take_right_side_line-in-RightSides-clause-fault : goal.returns-in_err-take_right_side_line-in-RightSides-clause-fault
returns-in_err-take_right_side_line-in-RightSides-clause-fault c = λ before h.
    handed-on (Unit {0}) c.from_residual-in_err-take_right_side_line-in-RightSides.result c.in_err-take_right_side_line-in-RightSides.field-0.0 _ _
    (search rules) (λ kind k. in-right-sides before (bytes_of c.args.fields.now) (h.section ∙ ap word_of c.in-RightSides.is) ∙ k)
    (c.in_err-take_right_side_line-in-RightSides.ensures.fault before (declared-is before before.right_sides c.args.reading.now.rows h.lines.of_rows)
    (objective-is before before.right_sides c.args.reading.now.rows h.lines.of_rows)
    (right-stamps before c.args.reading.now _ c.in-RightSides.is (ap (λ (n : ℕ). n + 1) c.len.ensures.len) h))

pub returns-in_ok-take_right_side_line-in-RightSides-clause-fault : goal.returns-in_ok-take_right_side_line-in-RightSides-clause-fault
returns-in_ok-take_right_side_line-in-RightSides-clause-fault c = λ before h.
    in-right-sides before (bytes_of c.args.fields.now) (h.section ∙ ap word_of c.in-RightSides.is)
    ∙ c.in_ok-take_right_side_line-in-RightSides.ensures.fault before (declared-is before before.right_sides c.args.reading.now.rows h.lines.of_rows)
    (objective-is before before.right_sides c.args.reading.now.rows h.lines.of_rows)
    (right-stamps before c.args.reading.now _ c.in-RightSides.is (ap (λ (n : ℕ). n + 1) c.len.ensures.len) h)

pub returns-in_ok-take_right_side_line-in-RightSides-clause-tells : goal.returns-in_ok-take_right_side_line-in-RightSides-clause-tells
returns-in_ok-take_right_side_line-in-RightSides-clause-tells c = λ before h.
    let stamps = right-stamps before c.args.reading.now _ c.in-RightSides.is (ap (λ (n : ℕ). n + 1) c.len.ensures.len) h in
    let size : c.len.result + 1 ≡ length (names_of c.args.reading.now.columns.names) + 1 =
    ap (λ (n : ℕ). n + 1) (c.len.ensures.len ∙ sym (length-bytes c.args.reading.now.columns.names.keys)) in
    right-step before (bytes_of c.args.fields.now) c.args.reading.now c.take_right_side_line.new.rows c.in-RightSides.is
    c.in_ok-take_right_side_line-in-RightSides.ensures.names c.in_ok-take_right_side_line-in-RightSides.ensures.objective
    (c.in_ok-take_right_side_line-in-RightSides.ensures.tells before.rows before.right_sides stamps h.lines.of_rows)
    (subst (λ n. StampsAre c.take_right_side_line.new.rows.stamps.items n (names_of c.args.reading.now.rows.names)
    (λ row. list_any (λ other. bytes_eq row other.0) (flat_map line_right_sides (bytes_of c.args.fields.now ∷ before.right_sides)))) size
    (c.in_ok-take_right_side_line-in-RightSides.ensures.stamps before.right_sides stamps)) h
