-- A header more.
use Rattle.std.proofs.Common.{◌≡◌, ℕ, ◌+◌, ◌<◌, Bool, true, false, not, ◌&&◌, List, [], ◌∷◌, length, map, take, drop}
use Rattle.std.proofs.Common.{get_or, refl, sym, ap, subst, ◌∙◌, arith, ◌≤◌, Option, Some, None, ℤ}
use Rattle.mps_reader.proofs.RowStepFacts.{no_name, field-at}
use Rattle.std.specs.Prelude.{◌-◌, is_some, is_none, codes, bytes_eq, position, option_map, int_lt, if◌then◌else◌}
use Rattle.std.specs.List.{position_or_len}
use Rattle.std.specs.Option.{option_map_or}
use Rattle.std.proofs.lemmas.List.{length-drop, length-map, drop-map}
use Rattle.std.proofs.Math.Seq.{take-length}
use denote.Ref.{Bor}
use Rattle.auction_terms.specs.LineFields.{LineFields, field}
use Rattle.program_rows.specs.MpsLines.{Header}
use Rattle.program_rows.specs.MpsSections.{Sections, with_line}
use Rattle.program_rows.specs.MpsProgram.{first_free, columns_named}
use Rattle.program_rows.specs.MpsFaults.{place_of, header_fault, is_binary}
use Rattle.program_rows.specs.declared.mps_fault_kind.MpsFaultKind.{MpsFaultKind}
use Rattle.program_rows.specs.declared.mps_fault_kind.MpsFaultKind.TheVariants.{NotBinary}
use Rattle.auction_terms.specs.Lines.{bytes_of}
use Rattle.mps_reader.specs.inside.Rows.{option_now, declared_row_names}
use Rattle.mps_reader.specs.inside.Columns.{ColumnsFit}
use Rattle.mps_reader.specs.inside.Agreeing.{ReadingFits}
use Rattle.mps_reader.specs.inside.Sections.{word_of}
use Rattle.mps_reader.specs.inside.States.{is_binary_state, below_or_equal}
use Rattle.mps_reader.specs.inside.Tracking.{data_lines, ReadingTells, ColumnsTell, state_values, parsed_values, bit}
use Rattle.mps_reader.specs.declared.tables.ColumnState.{ColumnState}
use Rattle.mps_reader.specs.declared.sections.Section.{Section}
use Rattle.mps_reader.specs.declared.tables.ColumnTable.{ColumnTable}
use Rattle.mps_reader.specs.declared.tables.Reading.{Reading}
use Rattle.mps_reader.proofs.NameFacts.{length-bytes}
use Rattle.mps_reader.proofs.PairStepFacts.{length-names}
use Rattle.mps_reader.proofs.SectionFacts.{section-opens, no-objective}

header-more : (fields : List (Bor (List ℕ))) → bytes_of (take (length fields - 1) (drop 1 fields)) ≡ drop 1 (bytes_of fields)
header-more fields =
    let whole : take (length fields - 1) (drop 1 fields) ≡ drop 1 fields = ap (λ n. take n (drop 1 fields)) (sym (length-drop 1 fields))
    ∙ take-length (drop 1 fields) in
    ap bytes_of whole ∙ sym (drop-map (λ f. f.now) 1 fields)

-- a header's word and what follows it are its fields
pub header-is : (before : Sections) (fs : List (Bor (List ℕ))) → 1 ≤ length fs
    → header_fault before (field 0 (bytes_of fs)) (drop 1 (bytes_of fs))
    ≡ header_fault before (get_or fs 0 no_name).now (bytes_of (take (length fs - 1) (drop 1 fs)))
header-is before fs some =
    ap (λ w. header_fault before w (drop 1 (bytes_of fs))) (field-at fs 0 (omega (arith, some)))
    ∙ ap (header_fault before (get_or fs 0 no_name).now) (sym (header-more fs))

pub lacks-objective : (before : Sections) (r : Reading) → ReadingTells before r → is_none (first_free before.rows) ≡ not (is_some r.rows.objective)
lacks-objective before r h = no-objective r.rows.objective (first_free before.rows) h.lines.of_rows.objective

-- ---- columns that are not binary

abbrev binary-values : Bool × ℤ × Option ℤ → Bool
binary-values v = v.0 && option_map_or (λ high. not (int_lt high v.1)) v.2 false

state-binary : (s : ColumnState) → is_binary_state s ≡ binary-values (state_values s)
state-binary s = ap (λ b. s.is_integer && b) (by s.upper s.lower)
  where
    by : (u : Option Bool) (l : Bool) → below_or_equal u l ≡ option_map_or (λ high. not (int_lt high (bit l))) (option_map bit u) false
    by (Some true) true = refl
    by (Some false) true = refl
    by _ _ = refl

at-or-len : (before : Sections) (ss : List ColumnState) (ns : List (List ℕ)) → map state_values ss ≡ map (parsed_values before.columns before.bounds) ns
    → position_or_len (λ s. not (is_binary_state s)) ss ≡ position_or_len (λ n. not (is_binary before n)) ns
at-or-len before [] [] h = refl
at-or-len before (s ∷ ss) (n ∷ ns) h =
    let head : state_values s ≡ parsed_values before.columns before.bounds n = cc in
    let rest : map state_values ss ≡ map (parsed_values before.columns before.bounds) ns = cc in
    by (not (is_binary before n)) (ap not (state-binary s ∙ ap binary-values head)) (at-or-len before ss ns rest)
  where
    by : (b : Bool) → not (is_binary_state s) ≡ b → position_or_len (λ x. not (is_binary_state x)) ss ≡ position_or_len (λ x. not (is_binary before x)) ns
        → (if not (not (is_binary_state s)) then 1 + position_or_len (λ x. not (is_binary_state x)) ss else 0)
        ≡ (if not b then 1 + position_or_len (λ x. not (is_binary before x)) ns else 0)
    by true e more = rw e refl
    by false e more = rw e (ap (λ (k : ℕ). 1 + k) more)
at-or-len before _ _ h = absurd cc

pub first-open : (before : Sections) (states : List ColumnState)
    → map state_values states ≡ map (parsed_values before.columns before.bounds) (columns_named before.columns)
    → option_map NotBinary (position (λ s. not (is_binary_state s)) states) ≡ option_map NotBinary
    (position (λ column. not (is_binary before column)) (columns_named before.columns))
first-open before states h =
    let size : length states ≡ length (columns_named before.columns) = sym (length-map states state_values) ∙ ap length h
    ∙ length-map (columns_named before.columns) (parsed_values before.columns before.bounds) in
    rw (at-or-len before states (columns_named before.columns) h, size) refl

-- ---- a section opens

pub header-tells : (before : Sections) (word : List ℕ) (more : LineFields) (r : Reading) (s : Section) (columns : ColumnTable)
    → place_of (word_of r.section) < place_of (word_of s) → word_of s ≡ word → columns.names ≡ r.columns.names
    → is_some columns.current ≡ false
    → ((objective : Option (List ℕ)) (rows : List (List ℕ)) (lines bounds : List LineFields) → ColumnsFit (length rows) r.columns
    → ColumnsTell objective rows lines bounds r.columns → ColumnsTell objective rows lines bounds columns)
    → ReadingFits r → ReadingTells before r → ReadingTells (with_line before (Header word more)) (record r { section = s; columns = columns })
header-tells before word more r s columns up is names none closed fit h = record {
  section = sym is;
  lines = record {
    of_rows = h.lines.of_rows;
    of_columns = closed (option_now r.rows.objective) (declared_row_names r.rows.rows.items) before.columns before.bounds
        (subst (λ n. ColumnsFit n r.columns) (sym (length-names r.rows.rows.items)) fit.both.columns) h.lines.of_columns;
    of_section = section-opens r.section s (data_lines before) r.rows r.columns columns up names none
        (fit.rows.stamps ∙ sym (length-bytes r.rows.names.keys)) h.lines.of_section;
  };
}

-- what is left of a header's checks at the end
pub end-fault : (before : Sections) (word : List ℕ) (fault last : Option MpsFaultKind)
    → fault ≡ (if bytes_eq word (codes "ENDATA") then option_map NotBinary
    (position (λ column. not (is_binary before column)) (columns_named before.columns)) else None)
    → bytes_eq word (codes "ENDATA") ≡ true
    → option_map NotBinary (position (λ column. not (is_binary before column)) (columns_named before.columns)) ≡ last → fault ≡ last
end-fault before word fault last h is e = h ∙ rw is e

pub other-fault : (word : List ℕ) (fault last : Option MpsFaultKind) → fault ≡ (if bytes_eq word (codes "ENDATA") then last else None)
    → bytes_eq word (codes "ENDATA") ≡ false → fault ≡ None
other-fault word fault last h is = h ∙ rw is refl
