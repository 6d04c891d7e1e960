use Rattle.std.proofs.Common.{rules, ◌≡◌, ◌+◌, ◌∙◌, ap, sym, refl, arith, Bool, Some, None, true, false, map, get_or}
use Rattle.mps_reader.proofs.PairFaultFacts.{last-one}
use Rattle.std.proofs.lemmas.Option.{slice_get_within, slice_get_read}
use Rattle.std.specs.Prelude.{codes, slice_get}
use Rattle.program_rows.specs.declared.mps_fault_kind.MpsFaultKind.TheVariants.{UnknownColumn}
use Rattle.auction_terms.specs.LineFields.{field}
use Rattle.program_rows.specs.MpsProgram.{value, bound_pair}
use Rattle.auction_terms.specs.Lines.{bytes_of}
use Rattle.mps_reader.specs.inside.Rows.{names_of}
use Rattle.mps_reader.specs.inside.Tracking.{state_values, parsed_values, bounded_values}
use Rattle.mps_reader.proofs.NameFacts.{length-bytes, own_name, same_name}
use Rattle.mps_reader.proofs.RowStepFacts.{no_name, field-at}
use Rattle.mps_reader.proofs.SeenRowFacts.{found-row}
use Rattle.mps_reader.specs.declared.tables.ColumnState.{ColumnState}
use Rattle.mps_reader.proofs.AnswerFacts.{handed-on}
use Rattle.mps_reader.proofs.BoundFacts.{type-refused, type-taken, column-at, number-at, known-is, values-binary, values-of, parsed-at, bound-tells}
use Rattle.mps_reader.specs.inside.Reading.{bit_fault}
use Rattle.mps_reader.proofs.bounds.take_bound.Goals as goal

pub returns-in_err-is_binary-clause-fault : goal.returns-in_err-is_binary-clause-fault
returns-in_err-is_binary-clause-fault c = λ before names.
    handed-on Bool c.from_residual.result c.in_err-is_binary.field-0.0 _ _ (search rules)
    (λ kind. type-refused before (bytes_of c.args.fields.now) kind) c.in_err-is_binary.ensures.fault

pub returns-in_default-clause-fault : goal.returns-in_default-clause-fault
returns-in_default-clause-fault c = λ before names.
    let column = column-at c.args.fields.now _ _ c.in_ok-is_binary.ensures.binary c.place_of_column-at.ensures.value c.place_of_column-at.ensures.within in
    type-taken before (bytes_of c.args.fields.now) false _ (Some UnknownColumn) c.in_ok-is_binary.ensures.fault
    (known-is before c.args.columns.now.names.keys _ _ _ names column c.in_default.ensures.found) refl refl

pub returns-then-is_binary-clause-fault : goal.returns-then-is_binary-clause-fault
returns-then-is_binary-clause-fault c = λ before names.
    let column = column-at c.args.fields.now _ _ c.in_ok-is_binary.ensures.binary c.place_of_column-at.ensures.value c.place_of_column-at.ensures.within in
    type-taken before (bytes_of c.args.fields.now) true true None c.in_ok-is_binary.ensures.fault
    (known-is before c.args.columns.now.names.keys _ _ _ names column c.in-Some.ensures.found)
    (sym c.in_ok-is_binary.ensures.binary ∙ c.if-is_binary.true) refl

pub returns-then-is_binary-clause-tells : goal.returns-then-is_binary-clause-tells
returns-then-is_binary-clause-tells c = λ objective rows lines bounds distinct h.
    let fields = bytes_of c.args.fields.now in
    let column = column-at c.args.fields.now _ _ c.in_ok-is_binary.ensures.binary c.place_of_column-at.ensures.value c.place_of_column-at.ensures.within in
    let word : field 0 fields ≡ codes "BV" = same_name _ _ (sym c.in_ok-is_binary.ensures.binary ∙ c.if-is_binary.true) in
    bound-tells fields objective rows lines bounds c.args.columns.now _ c.in-Some.index _ refl refl distinct
    (found-row _ c.args.columns.now.names.keys c.in-Some.index c.in-Some.ensures.index ∙ ap (λ n. Some n) (sym column))
    (sym (values-binary fields lines bounds (field 0 (bound_pair fields)) (own_name (field 0 (bound_pair fields))) word)) h

pub returns-in_err-state-clause-fault : goal.returns-in_err-state-clause-fault
returns-in_err-state-clause-fault c = λ before names.
    let column = column-at c.args.fields.now _ _ c.in_ok-is_binary.ensures.binary c.place_of_column-at.ensures.value c.place_of_column-at.ensures.within in
    let number = number-at c.args.fields.now _ _ c.in_ok-is_binary.ensures.binary c.place_of_column-at.ensures.value
    (c.place_of_column-at.ensures.number c.if-is_binary.false) in
    handed-on ColumnState c.from_residual-in_err-state.result c.in_err-state.field-0.0 _ _ (search rules)
    (λ kind k. type-taken before (bytes_of c.args.fields.now) true false (Some kind) c.in_ok-is_binary.ensures.fault
    (known-is before c.args.columns.now.names.keys _ _ _ names column c.in-Some.ensures.found) (sym c.in_ok-is_binary.ensures.binary ∙ c.if-is_binary.false)
    (last-one _ ∙ ap bit_fault number ∙ k)) c.in_err-state.ensures.fault

pub returns-clause-fault : goal.returns-clause-fault
returns-clause-fault c = λ before names.
    let column = column-at c.args.fields.now _ _ c.in_ok-is_binary.ensures.binary c.place_of_column-at.ensures.value c.place_of_column-at.ensures.within in
    let number = number-at c.args.fields.now _ _ c.in_ok-is_binary.ensures.binary c.place_of_column-at.ensures.value
    (c.place_of_column-at.ensures.number c.if-is_binary.false) in
    type-taken before (bytes_of c.args.fields.now) true false None c.in_ok-is_binary.ensures.fault
    (known-is before c.args.columns.now.names.keys _ _ _ names column c.in-Some.ensures.found) (sym c.in_ok-is_binary.ensures.binary ∙ c.if-is_binary.false)
    (last-one _ ∙ ap bit_fault number ∙ c.in_ok-state.ensures.fault)

pub returns-clause-tells : goal.returns-clause-tells
returns-clause-tells c = λ objective rows lines bounds distinct h.
    let fields = bytes_of c.args.fields.now in
    let column = column-at c.args.fields.now _ _ c.in_ok-is_binary.ensures.binary c.place_of_column-at.ensures.value c.place_of_column-at.ensures.within in
    let number = number-at c.args.fields.now _ _ c.in_ok-is_binary.ensures.binary c.place_of_column-at.ensures.value
    (c.place_of_column-at.ensures.number c.if-is_binary.false) in
    let at = found-row _ c.args.columns.now.names.keys c.in-Some.index c.in-Some.ensures.index ∙ ap (λ n. Some n) (sym column) in
    let states = c.requires.states in
    let size = length-bytes c.args.columns.now.names.keys in
    let low = slice_get_within (names_of c.args.columns.now.names) c.in-Some.index (field 0 (bound_pair fields)) at in
    let here : slice_get c.args.columns.now.states.items c.in-Some.index ≡ Some c.index.result.now =
    slice_get_read c.args.columns.now.states.items _ c.in-Some.index c.index.result.now refl (omega arith) c.index.ensures in
    let before = parsed-at lines bounds c.args.columns.now.states.items (names_of c.args.columns.now.names) c.in-Some.index c.index.result.now
    (field 0 (bound_pair fields)) here at (h.states ∙ ap (map (parsed_values lines bounds)) (sym h.names)) in
    let word : (get_or c.args.fields.now 0 no_name).now ≡ field 0 fields = sym (field-at c.args.fields.now 0 (omega (arith, c.requires.some))) in
    let parsed = c.in_ok-state.ensures.values ∙ ap
    (λ w. bounded_values w (value (get_or c.args.fields.now (c.place_of_column-at.result + 1) no_name).now) (state_values c.index.result.now)) word
    ∙ ap (λ n. bounded_values (field 0 fields) (value n) (state_values c.index.result.now)) (sym number)
    ∙ ap (bounded_values (field 0 fields) (value (field 1 (bound_pair fields)))) before
    ∙ sym (values-of fields lines bounds (field 0 (bound_pair fields)) (own_name (field 0 (bound_pair fields)))
    (c.in_ok-is_binary.ensures.number c.if-is_binary.false)) in
    bound-tells fields objective rows lines bounds c.args.columns.now _ c.in-Some.index c.in_ok-state.state refl refl distinct at parsed h
