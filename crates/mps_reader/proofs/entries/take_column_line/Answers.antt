use Rattle.std.proofs.Common.{rules, ◌≡◌, ◌==◌, ◌||◌, ◌∙◌, ap, sym, subst, arith, true, false, length, get_or, Some}
use Rattle.std.specs.Prelude.{◌++◌, drop, bytes_eq}
use Rattle.std.specs.List.{list_any}
use Rattle.auction_terms.specs.LineFields.{field}
use Rattle.program_rows.specs.MpsProgram.{is_marker, column_pairs, pairs}
use Rattle.auction_terms.specs.Lines.{bytes_of}
use Rattle.mps_reader.specs.inside.Rows.{names_of, option_now, declared_row_names, StampsAre}
use Rattle.mps_reader.specs.inside.Tracking.{AreStampsUpTo, data_lines}
use Rattle.mps_reader.specs.inside.Columns.{ColumnsFit, IsApart, PairsFit}
use Rattle.mps_reader.proofs.RowStepFacts.{no_name, field-at}
use Rattle.mps_reader.proofs.PairStepFacts.{length-names}
use Rattle.mps_reader.proofs.AnswerFacts.{handed-on}
use Rattle.mps_reader.proofs.LineFacts.{ready-of, split-refused, not-split, pairs-fault, line-tells, line-stays}
use Rattle.mps_reader.proofs.NameFacts.{length-bytes}
use Rattle.mps_reader.proofs.ColumnStepFacts.{line-fits}
use Rattle.mps_reader.proofs.entries.take_column_line.Goals.{else-fields-ne3-via-then-fields-ne3+else-fields-ne5, else-fields-ne3-via-else-fields-ne3}
use Rattle.mps_reader.proofs.entries.take_column_line.Goals as goal

pub returns-clause-columns : goal.returns-clause-columns
returns-clause-columns c = λ both.
    line-fits c.args.rows.now c.take_entries.new.rows c.open_column.new.columns c.take_entries.new.column c.len.result _ c.in_ok-take_entries.ensures.frame
    (c.in_ok-open_column.ensures.fit (length c.args.rows.now.rows.items) both.columns)
    (c.in_ok-open_column.ensures.apart (length c.args.rows.now.rows.items) c.args.rows.now.stamps.items c.args.rows.now.places.items both.columns both.apart)
    (c.len.ensures.len ∙ sym (length-bytes c.open_column.new.columns.names.keys)) c.in_ok-open_column.ensures.current c.in_ok-take_entries.ensures.entries

pub returns-then-names_marker-clause-columns : goal.returns-then-names_marker-clause-columns
returns-then-names_marker-clause-columns c = c.in_ok-take_marker_line.ensures.fit c.args.rows.now

pub returns-in_err-open_column-clause-fault : goal.returns-in_err-open_column-clause-fault
returns-in_err-open_column-clause-fault c = λ before d both h at.
    let fields = bytes_of c.args.fields.now in
    let count : ((length fields == 3) || (length fields == 5)) ≡ true = ap (λ n. (n == 3) || (n == 5)) (length-bytes c.args.fields.now)
    ∙ elim c.else-fields-ne3.branch [
      | else-fields-ne3-via-then-fields-ne3+else-fields-ne5 w ↦ ap (λ n. (n == 3) || (n == 5)) w.if-fields-ne5.false
      | else-fields-ne3-via-else-fields-ne3 w ↦ ap (λ n. (n == 3) || (n == 5)) w.if-fields-ne3.false
    ] in
    let marker : is_marker fields ≡ false = sym c.names_marker.ensures ∙ c.if-names_marker.false in
    let named = field-at c.args.fields.now 0 (elim c.else-fields-ne3.branch [
      | else-fields-ne3-via-then-fields-ne3+else-fields-ne5 w ↦ omega arith
      | else-fields-ne3-via-else-fields-ne3 w ↦ omega arith
    ]) in
    handed-on (Unit {0}) c.from_residual-in_err-open_column.result c.in_err-open_column.field-0.0 _ _ (search rules)
    (λ kind. split-refused before fields c.args.columns.now (get_or c.args.fields.now 0 no_name).now kind count marker named at.current h.names)
    c.in_err-open_column.ensures.fault

pub returns-in_err-take_entries-clause-fault : goal.returns-in_err-take_entries-clause-fault
returns-in_err-take_entries-clause-fault c = λ before d both h at.
    let fields = bytes_of c.args.fields.now in
    let count : ((length fields == 3) || (length fields == 5)) ≡ true = ap (λ n. (n == 3) || (n == 5)) (length-bytes c.args.fields.now)
    ∙ elim c.else-fields-ne3.branch [
      | else-fields-ne3-via-then-fields-ne3+else-fields-ne5 w ↦ ap (λ n. (n == 3) || (n == 5)) w.if-fields-ne5.false
      | else-fields-ne3-via-else-fields-ne3 w ↦ ap (λ n. (n == 3) || (n == 5)) w.if-fields-ne3.false
    ] in
    let marker : is_marker fields ≡ false = sym c.names_marker.ensures ∙ c.if-names_marker.false in
    let named = field-at c.args.fields.now 0 (elim c.else-fields-ne3.branch [
      | else-fields-ne3-via-then-fields-ne3+else-fields-ne5 w ↦ omega arith
      | else-fields-ne3-via-else-fields-ne3 w ↦ omega arith
    ]) in
    let ready = ready-of fields (option_now c.args.rows.now.objective) (data_lines before) c.args.rows.now c.args.columns.now c.open_column.new.columns
    (get_or c.args.fields.now 0 no_name).now marker named c.requires.fit c.in_ok-open_column.ensures.same c.in_ok-open_column.ensures.added
    both.columns h at in
    let stamp : c.len.result ≡ length (names_of c.open_column.new.columns.names) =
    c.len.ensures.len ∙ sym (length-bytes c.open_column.new.columns.names.keys) in
    handed-on (Unit {0}) c.from_residual-in_err-take_entries.result c.in_err-take_entries.field-0.0 _ _ (search rules)
    (λ kind k. pairs-fault before fields count marker (not-split before fields c.args.columns.now (get_or c.args.fields.now 0 no_name).now named
    at.current h.names c.in_ok-open_column.ensures.fault) ∙ k)
    (c.in_err-take_entries.ensures.fault before.rows (column_pairs before.columns (field 0 fields)) d (rw stamp ready.stamps))

pub returns-clause-fault : goal.returns-clause-fault
returns-clause-fault c = λ before d both h at.
    let fields = bytes_of c.args.fields.now in
    let count : ((length fields == 3) || (length fields == 5)) ≡ true = ap (λ n. (n == 3) || (n == 5)) (length-bytes c.args.fields.now)
    ∙ elim c.else-fields-ne3.branch [
      | else-fields-ne3-via-then-fields-ne3+else-fields-ne5 w ↦ ap (λ n. (n == 3) || (n == 5)) w.if-fields-ne5.false
      | else-fields-ne3-via-else-fields-ne3 w ↦ ap (λ n. (n == 3) || (n == 5)) w.if-fields-ne3.false
    ] in
    let marker : is_marker fields ≡ false = sym c.names_marker.ensures ∙ c.if-names_marker.false in
    let named = field-at c.args.fields.now 0 (elim c.else-fields-ne3.branch [
      | else-fields-ne3-via-then-fields-ne3+else-fields-ne5 w ↦ omega arith
      | else-fields-ne3-via-else-fields-ne3 w ↦ omega arith
    ]) in
    let ready = ready-of fields (option_now c.args.rows.now.objective) (data_lines before) c.args.rows.now c.args.columns.now c.open_column.new.columns
    (get_or c.args.fields.now 0 no_name).now marker named c.requires.fit c.in_ok-open_column.ensures.same c.in_ok-open_column.ensures.added
    both.columns h at in
    let stamp : c.len.result ≡ length (names_of c.open_column.new.columns.names) =
    c.len.ensures.len ∙ sym (length-bytes c.open_column.new.columns.names.keys) in
    pairs-fault before fields count marker (not-split before fields c.args.columns.now (get_or c.args.fields.now 0 no_name).now named at.current
    h.names c.in_ok-open_column.ensures.fault)
    ∙ c.in_ok-take_entries.ensures.fault before.rows (column_pairs before.columns (field 0 fields)) d (rw stamp ready.stamps)

pub returns-clause-tells : goal.returns-clause-tells
returns-clause-tells c = λ lines both h at.
    let fields = bytes_of c.args.fields.now in
    let marker : is_marker fields ≡ false = sym c.names_marker.ensures ∙ c.if-names_marker.false in
    let named = field-at c.args.fields.now 0 (elim c.else-fields-ne3.branch [
      | else-fields-ne3-via-then-fields-ne3+else-fields-ne5 w ↦ omega arith
      | else-fields-ne3-via-else-fields-ne3 w ↦ omega arith
    ]) in
    let ready = ready-of fields (option_now c.args.rows.now.objective) lines c.args.rows.now c.args.columns.now c.open_column.new.columns
    (get_or c.args.fields.now 0 no_name).now marker named c.requires.fit c.in_ok-open_column.ensures.same c.in_ok-open_column.ensures.added
    both.columns h at in
    let stamp : c.len.result ≡ length (names_of c.open_column.new.columns.names) =
    c.len.ensures.len ∙ sym (length-bytes c.open_column.new.columns.names.keys) in
    let fit = c.in_ok-open_column.ensures.fit (length c.args.rows.now.rows.items) both.columns in
    let apart = c.in_ok-open_column.ensures.apart (length c.args.rows.now.rows.items) c.args.rows.now.stamps.items c.args.rows.now.places.items
    both.columns both.apart in
    let paired : PairsFit c.len.result c.args.rows.now c.open_column.new.columns.current_column =
    record {
      entries = fit.opened;
      apart =
          subst (λ n. IsApart c.args.rows.now.stamps.items c.args.rows.now.places.items n c.open_column.new.columns.current_column.entries.items)
          (sym stamp) apart;
    } in
    let current = c.in_ok-open_column.ensures.current ∙ ap (λ n. Some n) (sym named) in
    let kept = ap (λ q. q.names) c.in_ok-take_entries.ensures.frame in (
      line-tells fields (option_now c.args.rows.now.objective) (declared_row_names c.args.rows.now.rows.items) lines.columns c.args.rows.now
          c.open_column.new.columns c.take_entries.new.column marker
          (subst (λ n. ColumnsFit n c.open_column.new.columns) (sym (length-names c.args.rows.now.rows.items)) fit) current ready
          (c.in_ok-take_entries.ensures.tells paired (column_pairs lines.columns (field 0 fields)) (rw stamp ready.stamps) ready.tells),
      line-stays fields lines c.args.rows.now c.take_entries.new.rows c.open_column.new.columns c.take_entries.new.column marker at.no_rights at.no_bounds
          current kept
          (subst (λ n. AreStampsUpTo n c.take_entries.new.rows) stamp (c.in_ok-take_entries.ensures.low
          (subst (λ n. AreStampsUpTo n c.args.rows.now) (sym stamp) ready.low)))
          (subst (λ n. StampsAre c.take_entries.new.rows.stamps.items n (names_of c.args.rows.now.names)
          (λ row. list_any (λ other. bytes_eq row other.0) (pairs (drop 1 fields) ++ column_pairs lines.columns (field 0 fields)))) stamp
          (c.in_ok-take_entries.ensures.stamps (column_pairs lines.columns (field 0 fields)) (rw stamp ready.stamps))),
    )
