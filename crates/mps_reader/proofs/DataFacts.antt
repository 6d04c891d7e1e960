-- A data line more.
use Rattle.std.proofs.Common.{◌≡◌, ℕ, ◌+◌, false, List, [], ◌∷◌, ◌++◌, length, map, refl, sym, ap, subst, ◌∙◌, Option, Some, None}
use Rattle.std.specs.Prelude.{◌==◌, not, is_some, codes, bytes_eq, flat_map}
use Rattle.program_rows.specs.declared.mps_fault_kind.MpsFaultKind.TheVariants.{Fields, RowType, RowRepeated}
use Rattle.std.specs.List.{list_any, AllByRecursion}
use Rattle.std.specs.Option.{option_map_or, option_to_list}
use denote.Ref.{Bor}
use Rattle.auction_terms.specs.LineFields.{LineFields, field}
use Rattle.program_rows.specs.MpsLines.{Data}
use Rattle.program_rows.specs.MpsSections.{Sections, with_line}
use Rattle.program_rows.specs.MpsProgram.{is_one_of, first_free, number_beside, line_right_sides}
use Rattle.program_rows.specs.MpsFaults.{earliest_fault, is_declared, row_fault, column_fault, right_side_fault, bound_fault, fault}
use Rattle.program_rows.specs.Program.{TableColumn}
use Rattle.mps_reader.specs.inside.Rows.{names_of, option_now, declared_row_names, StampsAre, bound_lines_of}
use Rattle.mps_reader.specs.inside.Columns.{ColumnsFit}
use Rattle.mps_reader.specs.inside.Agreeing.{ReadingFits, IsClosed}
use Rattle.mps_reader.specs.inside.Sections.{word_of}
use Rattle.mps_reader.specs.inside.Tracking.{data_lines, IsAt, InRows, InColumns, InRightSides, AreStampsUpTo, ReadingTells}
use Rattle.mps_reader.specs.inside.Tracking.{RowsTell, ColumnsTell, gathered_column}
use Rattle.mps_reader.specs.declared.sections.Section.TheVariants as sections
use Rattle.mps_reader.specs.declared.tables.Rows.{Rows}
use Rattle.mps_reader.specs.declared.tables.ColumnTable.{ColumnTable}
use Rattle.mps_reader.specs.declared.tables.Reading.{Reading}
use Rattle.mps_reader.proofs.NameFacts.{length-bytes}
use Rattle.mps_reader.proofs.RowFacts.{declared-any}
use Rattle.mps_reader.proofs.SideFacts.{row-names-by}
use Rattle.mps_reader.proofs.SectionFacts.{tells-rows, tells-right-sides, tells-bounds}
use Rattle.std.specs.Bool.{then_some as when}
use Rattle.mps_reader.proofs.ColumnStepFacts.{no-column}

-- ---- what the checks of a line ask

pub declared-is : (before : Sections) (rights : List LineFields) (r : Rows) → RowsTell before.rows rights r → (name : List ℕ)
    → is_declared before.rows name ≡ list_any (bytes_eq name) (names_of r.names)
declared-is before rights r h name = sym (ap (list_any (bytes_eq name)) h.names ∙ declared-any name before.rows)

objective-any : (name : List ℕ) (o : Option (Bor (List ℕ)))
    → option_map_or (bytes_eq name) (option_now o) false ≡ option_map_or (λ other. bytes_eq name other.now) o false
objective-any name None = refl
objective-any name (Some x) = refl

pub objective-is : (before : Sections) (rights : List LineFields) (r : Rows) → RowsTell before.rows rights r → (name : List ℕ)
    → option_map_or (bytes_eq name) (first_free before.rows) false ≡ option_map_or (λ other. bytes_eq name other.now) r.objective false
objective-is before rights r h name = ap (λ o. option_map_or (bytes_eq name) o false) (sym h.objective) ∙ objective-any name r.objective

pub in-rows : (before : Sections) (f : LineFields) → before.section ≡ codes "ROWS" → fault before (Data f) ≡ row_fault before.rows f
unfolding fault
in-rows before f s = rw s refl

pub in-columns : (before : Sections) (f : LineFields) → before.section ≡ codes "COLUMNS" → fault before (Data f) ≡ column_fault before f
unfolding fault
in-columns before f s = rw s refl

pub in-right-sides : (before : Sections) (f : LineFields) → before.section ≡ codes "RHS" → fault before (Data f) ≡ right_side_fault before f
unfolding fault
in-right-sides before f s = rw s refl

pub in-bounds : (before : Sections) (f : LineFields) → before.section ≡ codes "BOUNDS" → fault before (Data f) ≡ bound_fault before.columns f
unfolding fault
in-bounds before f s = rw s refl

-- ---- a line of ROWS

no-more : (ks : List TableColumn) (ms : List (List ℕ)) → map (λ (k : TableColumn). k.name) ks ++ ms ≡ [] → ks ≡ []
no-more [] ms h = refl
no-more (k ∷ ks) ms h = absurd cc

pub columns-unnamed : (o other : Option (List ℕ)) (rows more : List (List ℕ)) (count : ℕ) (lines bounds : List LineFields) (c : ColumnTable)
    → lines ≡ [] → ColumnsFit count c → is_some c.current ≡ false → ColumnsTell o rows lines bounds c
    → ColumnsTell other more lines bounds c
columns-unnamed o other rows more count lines bounds c none fit closed h =
    let empty : names_of c.names ≡ [] = h.names ∙ rw none refl in
    let done : c.done ≡ [] = no-more c.done (option_to_list (option_now c.current)) (sym fit.done ∙ empty) in
    record {
      names = h.names;
      begun = h.begun;
      states = h.states;
      done = subst (λ ks. AllByRecursion (λ (k : TableColumn). k ≡ gathered_column other more lines k.name) ks) (sym done) tt;
      opened = no-column _ c.current closed;
      closed = h.closed;
    }

pub row-step : (before : Sections) (f : LineFields) (r : Reading) (new : Rows) → r.section ≡ sections.Rows → ReadingFits r
    → ((lines : List LineFields) → RowsTell lines [] r.rows → RowsTell (f ∷ lines) [] new)
    → ((most : ℕ) → AreStampsUpTo most r.rows → AreStampsUpTo most new) → ReadingTells before r
    → ReadingTells (with_line before (Data f)) (record r { rows = new })
row-step before f r new is fit parsed low h =
    let at : InRows (data_lines before) r.rows r.columns = subst (λ s. IsAt s (data_lines before) r.rows r.columns) is h.lines.of_section in
    let closed : is_some r.columns.current ≡ false = subst (λ s. IsClosed s r.columns) is fit.closed in
    let rows = parsed before.rows (subst (λ hs. RowsTell before.rows hs r.rows) at.no_rights h.lines.of_rows) in
    tells-rows before f (record r { rows = new }) (h.section ∙ ap word_of is) h.section (record {
      of_rows = subst (λ hs. RowsTell (f ∷ before.rows) hs new) (sym at.no_rights) rows;
      of_columns = columns-unnamed _ _ _ _ (length r.rows.rows.items) before.columns before.bounds r.columns at.no_columns fit.both.columns closed
          h.lines.of_columns;
      of_section = subst (λ s. IsAt s (record (data_lines before) { rows = f ∷ before.rows }) new r.columns) (sym is)
          (record { no_columns = at.no_columns; no_rights = at.no_rights; no_bounds = at.no_bounds; low = low (length (names_of r.columns.names)) at.low });
    })

-- ---- a line of COLUMNS

pub at-columns : (before : Sections) (r : Reading) → r.section ≡ sections.Columns → ReadingTells before r
    → InColumns (data_lines before) r.rows r.columns × ColumnsTell (option_now r.rows.objective) (declared_row_names r.rows.rows.items)
    before.columns [] r.columns
at-columns before r is h =
    let at : InColumns (data_lines before) r.rows r.columns = subst (λ s. IsAt s (data_lines before) r.rows r.columns) is h.lines.of_section in (
      at,
      subst (λ bs. ColumnsTell (option_now r.rows.objective) (declared_row_names r.rows.rows.items) before.columns bs r.columns) at.no_bounds
          h.lines.of_columns,
    )

-- ---- a line of RHS

pub at-right-sides : (before : Sections) (r : Reading) → r.section ≡ sections.RightSides → ReadingTells before r
    → InRightSides (data_lines before) r.rows r.columns
at-right-sides before r is h = subst (λ s. IsAt s (data_lines before) r.rows r.columns) is h.lines.of_section

pub right-step : (before : Sections) (f : LineFields) (r : Reading) (new : Rows) → r.section ≡ sections.RightSides
    → new.names ≡ r.rows.names → new.objective ≡ r.rows.objective → RowsTell before.rows (f ∷ before.right_sides) new
    → StampsAre new.stamps.items (length (names_of r.columns.names) + 1) (names_of r.rows.names)
    (λ row. list_any (λ other. bytes_eq row other.0) (flat_map line_right_sides (f ∷ before.right_sides)))
    → ReadingTells before r → ReadingTells (with_line before (Data f)) (record r { rows = new })
right-step before f r new is names objective parsed stamps h =
    let at = at-right-sides before r is h in
    let same : declared_row_names new.rows.items ≡ declared_row_names r.rows.rows.items =
    row-names-by new.rows.items (number_beside (flat_map line_right_sides (f ∷ before.right_sides))) (bound_lines_of before.rows) parsed.shown
    ∙ sym (row-names-by r.rows.rows.items (number_beside (flat_map line_right_sides before.right_sides)) (bound_lines_of before.rows) h.lines.of_rows.shown) in
    tells-right-sides before f (record r { rows = new }) (h.section ∙ ap word_of is) h.section (record {
      of_rows = parsed;
      of_columns = subst (λ o. ColumnsTell (option_now o) (declared_row_names new.rows.items) before.columns before.bounds r.columns) (sym objective)
          (subst (λ ns. ColumnsTell (option_now r.rows.objective) ns before.columns before.bounds r.columns) (sym same) h.lines.of_columns);
      of_section = subst (λ s. IsAt s (record (data_lines before) { right_sides = f ∷ before.right_sides }) new r.columns) (sym is)
          (record {
            no_bounds = at.no_bounds;
            stamps =
                subst (λ ns. StampsAre new.stamps.items (length (names_of r.columns.names) + 1) (names_of ns)
                (λ row. list_any (λ other. bytes_eq row other.0) (flat_map line_right_sides (f ∷ before.right_sides)))) (sym names) stamps;
          });
    })

-- ---- a line of BOUNDS, and of OBJSENSE

pub bound-step : (before : Sections) (f : LineFields) (r : Reading) (columns : ColumnTable) → r.section ≡ sections.Bounds
    → ColumnsTell (option_now r.rows.objective) (declared_row_names r.rows.rows.items) before.columns (f ∷ before.bounds) columns
    → ReadingTells before r → ReadingTells (with_line before (Data f)) (record r { columns = columns })
bound-step before f r columns is parsed h = tells-bounds before f (record r { columns = columns }) (h.section ∙ ap word_of is) h.section (record {
  of_rows = h.lines.of_rows;
  of_columns = parsed;
  of_section = subst (λ s. IsAt s (record (data_lines before) { bounds = f ∷ before.bounds }) r.rows columns) (sym is) tt;
})

-- ---- the fault of a data line, as the code looks for it

pub rows-fault : (before : Sections) (f : LineFields) (r : Reading) → r.section ≡ sections.Rows → ReadingTells before r
    → fault before (Data f) ≡ earliest_fault (when (not (length f == 2)) Fields ∷ when
    (not (is_one_of (field 0 f) (codes "N" ∷ codes "L" ∷ codes "G" ∷ codes "E" ∷ []))) RowType
    ∷ when (list_any (bytes_eq (field 1 f)) (names_of r.rows.names)) RowRepeated ∷ [])
rows-fault before f r is h =
    in-rows before f (h.section ∙ ap word_of is) ∙ ap
    (λ b. earliest_fault (when (not (length f == 2)) Fields ∷ when
    (not (is_one_of (field 0 f) (codes "N" ∷ codes "L" ∷ codes "G" ∷ codes "E" ∷ []))) RowType ∷ when b RowRepeated ∷ []))
    (declared-is before before.right_sides r.rows h.lines.of_rows (field 1 f))

-- stamps of a line of RHS
pub right-stamps : (before : Sections) (r : Reading) (stamp : ℕ) → r.section ≡ sections.RightSides → stamp ≡ length r.columns.names.keys + 1
    → ReadingTells before r
    → StampsAre r.rows.stamps.items stamp (names_of r.rows.names) (λ row. list_any (λ other. bytes_eq row other.0)
    (flat_map line_right_sides before.right_sides))
right-stamps before r stamp is size h =
    let at = at-right-sides before r is h in
    subst (λ n. StampsAre r.rows.stamps.items n (names_of r.rows.names) (λ row. list_any (λ other. bytes_eq row other.0)
    (flat_map line_right_sides before.right_sides))) (ap (λ (n : ℕ). n + 1) (length-bytes r.columns.names.keys) ∙ sym size) at.stamps
