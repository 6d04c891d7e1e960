use Rattle.std.proofs.Common.{rules, ◌≡◌, ◌∙◌, ap, sym, refl, arith, get_or, Some, None}
use Rattle.std.specs.Prelude.{option_map, position, not}
use Rattle.program_rows.specs.declared.mps_fault_kind.MpsFaultKind.TheVariants.{NotBinary}
use Rattle.auction_terms.specs.LineFields.{field}
use Rattle.auction_terms.specs.Lines.{bytes_of}
use Rattle.mps_reader.specs.inside.States.{is_binary_state}
use Rattle.mps_reader.proofs.RowStepFacts.{no_name, field-at}
use Rattle.mps_reader.proofs.AnswerFacts.{handed-on, handed-up}
use Rattle.mps_reader.proofs.HeaderFacts.{header-is, lacks-objective, first-open, header-tells, end-fault, other-fault}
use Rattle.mps_reader.specs.declared.sections.Section.{Section}
use Rattle.mps_reader.proofs.FitFacts.{header-fits}
use Rattle.mps_reader.proofs.reader.take_header_line.Goals as goal

pub returns-then-is_word-clause-fit : goal.returns-then-is_word-clause-fit
returns-then-is_word-clause-fit c = header-fits c.args.reading.now _ c.requires.fit c.in_ok-close_column.ensures.fit c.in_ok-close_column.ensures.closed refl

pub returns-clause-fit : goal.returns-clause-fit
returns-clause-fit c = header-fits c.args.reading.now _ c.requires.fit c.in_ok-close_column.ensures.fit c.in_ok-close_column.ensures.closed refl

pub returns-in_err-reading-clause-fault : goal.returns-in_err-reading-clause-fault
returns-in_err-reading-clause-fault c = λ before h.
    handed-up Section c.from_residual-in_err-reading.result c.in_err-reading.field-0.0 _ _ _ (search rules)
    (λ kind k. header-is before c.args.fields.now c.requires.some ∙ k)
    (c.in_err-reading.ensures.fault before h.section (lacks-objective before c.args.reading.now h ∙ ap not (sym c.is_some-has_objective.ensures)))

pub returns-in_err-refuse_open-clause-fault : goal.returns-in_err-refuse_open-clause-fault
returns-in_err-refuse_open-clause-fault c = λ before h.
    let lacks = lacks-objective before c.args.reading.now h ∙ ap not (sym c.is_some-has_objective.ensures) in
    let states = ap (λ ss. option_map NotBinary (position (λ s. not (is_binary_state s)) ss))
    (c.as_slice.ensures.value ∙ ap (λ s. s.items) c.in_ok-close_column.ensures.states)
    ∙ first-open before c.args.reading.now.columns.states.items h.lines.of_columns.states in
    handed-on (Unit {0}) c.from_residual-in_err-refuse_open.result c.in_err-refuse_open.field-0.0 _ _ (search rules)
    (λ kind k. end-fault before (get_or c.args.fields.now 0 no_name).now _ (Some kind)
    (header-is before c.args.fields.now c.requires.some ∙ c.in_ok-reading.ensures.fault before h.section lacks)
    (sym c.is_word.ensures ∙ c.if-is_word.true) (sym states ∙ k))
    c.in_err-refuse_open.ensures

pub returns-then-is_word-clause-fault : goal.returns-then-is_word-clause-fault
returns-then-is_word-clause-fault c = λ before h.
    let lacks = lacks-objective before c.args.reading.now h ∙ ap not (sym c.is_some-has_objective.ensures) in
    let states = ap (λ ss. option_map NotBinary (position (λ s. not (is_binary_state s)) ss))
    (c.as_slice.ensures.value ∙ ap (λ s. s.items) c.in_ok-close_column.ensures.states)
    ∙ first-open before c.args.reading.now.columns.states.items h.lines.of_columns.states in
    end-fault before (get_or c.args.fields.now 0 no_name).now _ None (header-is before c.args.fields.now c.requires.some
    ∙ c.in_ok-reading.ensures.fault before h.section lacks) (sym c.is_word.ensures ∙ c.if-is_word.true) (sym states ∙ c.in_ok-refuse_open.ensures)

pub returns-clause-fault : goal.returns-clause-fault
returns-clause-fault c = λ before h.
    let lacks = lacks-objective before c.args.reading.now h ∙ ap not (sym c.is_some-has_objective.ensures) in
    other-fault (get_or c.args.fields.now 0 no_name).now _ _ (header-is before c.args.fields.now c.requires.some ∙ c.in_ok-reading.ensures.fault
    before h.section lacks) (sym c.is_word.ensures ∙ c.if-is_word.false)

pub returns-then-is_word-clause-tells : goal.returns-then-is_word-clause-tells
returns-then-is_word-clause-tells c = λ before more h.
    let word : field 0 (bytes_of c.args.fields.now) ≡ (get_or c.args.fields.now 0 no_name).now =
    field-at c.args.fields.now 0 (omega (arith, c.requires.some)) in
    header-tells before (field 0 (bytes_of c.args.fields.now)) more c.args.reading.now c.in_ok-reading.field-0 c.close_column.new.columns
    c.in_ok-reading.ensures.order (c.in_ok-reading.ensures.opened ∙ sym word) c.in_ok-close_column.ensures.names
    c.in_ok-close_column.ensures.closed c.in_ok-close_column.ensures.tells c.requires.fit h

pub returns-clause-tells : goal.returns-clause-tells
returns-clause-tells c = λ before more h.
    let word : field 0 (bytes_of c.args.fields.now) ≡ (get_or c.args.fields.now 0 no_name).now =
    field-at c.args.fields.now 0 (omega (arith, c.requires.some)) in
    header-tells before (field 0 (bytes_of c.args.fields.now)) more c.args.reading.now c.in_ok-reading.field-0 c.close_column.new.columns
    c.in_ok-reading.ensures.order (c.in_ok-reading.ensures.opened ∙ sym word) c.in_ok-close_column.ensures.names
    c.in_ok-close_column.ensures.closed c.in_ok-close_column.ensures.tells c.requires.fit h
