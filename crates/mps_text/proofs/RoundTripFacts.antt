-- The meaning of the text of a program is the program.
use Rattle.std.proofs.Common.{◌≡◌, ℕ, true, false, List, [], ◌∷◌, ◌++◌, length, map, refl, sym, ap, subst, ◌∙◌, Option, Some, None, Ok, Result}
use Rattle.std.specs.Prelude.{bytes_eq, codes, flat_map, ℤ, position, option_map, not}
use Rattle.std.specs.List.{list_any, AllByRecursion, IsDistinct}
use Rattle.auction_terms.proofs.OfferFacts.{all_agree}
use Rattle.program_rows.specs.Program.{Table, TableRow, TableColumn}
use Rattle.program_rows.specs.Parts.{IsProgram, AreEntries}
use Rattle.auction_terms.specs.LineFields.{LineFields, field}
use Rattle.program_rows.specs.MpsLines.{Line, Header, Data}
use Rattle.program_rows.specs.MpsSections.{Sections, no_lines}
use Rattle.program_rows.specs.MpsProgram.{program, column_lines, first_free, columns_named, is_column}
use Rattle.program_rows.specs.MpsFaults.{fault, is_declared, is_integer_open, stands_in_integers, is_binary}
use Rattle.program_rows.specs.MpsMeaning.{meaning, meaning_after}
use Rattle.program_rows.specs.declared.mps_fault_kind.MpsFaultKind.{MpsFaultKind}
use Rattle.mps_text.specs.Text.{text, if_any}
use Rattle.program_rows.specs.Legal.{IsWritable, IsSmall}
use Rattle.mps_text.specs.RoundTrip.{TextIsRead}
use Rattle.mps_text.proofs.SmallFacts.{small_costs, small_entries}
use Rattle.mps_text.proofs.LineFacts.{read_again}
use Rattle.mps_text.proofs.NumberFacts.{number-signed_decimal}
use Rattle.mps_text.proofs.BlockFacts.{onto, AreRead, read-through, AreRead-append, onto-append}
use Rattle.mps_text.proofs.RowPhaseFacts.{rows-read}
use Rattle.program_rows.proofs.NamedItemFacts.{bytes_flip}
use Rattle.mps_text.proofs.RightSidePhaseFacts.{right_sides-read, Ready}
use Rattle.mps_text.proofs.BoundPhaseFacts.{bounds-read}
use Rattle.std.specs.Option.{option_map_or}
use Rattle.std.proofs.lemmas.List.{map-append, append-nil}
use Rattle.mps_text.proofs.ColumnPhaseFacts.{ArePlain, same-name, IsNew, IsReady, columns-read}
use Rattle.mps_text.proofs.PushedFacts.{push, push-append, held, holds-rows, holds-columns, holds-sides, holds-bounds}
use Rattle.mps_text.proofs.ColumnsBackFacts.{plain_lines, keeps-lines, open-lines, all-stand}
use Rattle.mps_text.proofs.EntriesBackFacts.{pair_of}
use Rattle.mps_text.proofs.ListingFacts.{row_names, all_listed, at-name, column-lines, data-lines, names-listed, all-filled}
use Rattle.mps_text.proofs.ListingFacts.{all-plain, IsPlainName, pairs-differ, any-keeps, rows-declared, columns-named}
use Rattle.mps_text.proofs.WrittenLineFacts.{all-written, text_lines}
use Rattle.mps_text.proofs.ProgramBackFacts.{Lists, objective-back, program-back, all-binary}
use Rattle.program_rows.specs.ProgramNames.{row_name}
use Rattle.program_rows.specs.declared.mps_fault_kind.MpsFaultKind.TheVariants.{NotBinary}
use Rattle.mps_text.proofs.FieldFacts.{bound_fields, bounds_part, column_fields, columns_part, end_line, first_marker}
use Rattle.mps_text.proofs.FieldFacts.{last_marker, name_line, right_side_fields, row_fields, rows_part, sides_part}

-- ---- names of rows

abbrev rows_of : Table → List LineFields
rows_of p = push ((codes "N" ∷ p.objective ∷ []) ∷ map row_fields p.rows) []

-- the objective and each row is declared once the lines of ROWS are read
objective-declared : (p : Table) → list_any (λ row. bytes_eq p.objective (field 1 row)) (rows_of p) ≡ true
objective-declared p = any-keeps (λ row. bytes_eq p.objective (field 1 row)) (map row_fields p.rows) ((codes "N" ∷ p.objective ∷ []) ∷ [])
    (rw (same-name p.objective) refl)

abbrev IsKnown : Table → List ℕ → Type 0
IsKnown p name = list_any (λ row. bytes_eq name (field 1 row)) (rows_of p) ≡ true

all-known : (p : Table) → AllByRecursion (IsKnown p) (row_names p.rows)
all-known p = rows-declared p.rows ((codes "N" ∷ p.objective ∷ []) ∷ [])

-- ---- the lines of ROWS

new-rows : (p : Table) (before : Sections) (names : List (List ℕ)) → before.rows ≡ (codes "N" ∷ p.objective ∷ []) ∷ []
    → AllByRecursion (λ other. bytes_eq p.objective other ≡ false) names
    → AllByRecursion (λ name. is_declared before.rows name ≡ false) names
new-rows p before [] e d = tt
new-rows p before (name ∷ names) e d = (rw (e, bytes_flip p.objective name d.0) refl, new-rows p before names e d.1)

-- ---- the lines of COLUMNS

ready-entries : (p : Table) (before : Sections) (name : List ℕ) (es : List (ℕ × ℤ)) → before.rows ≡ rows_of p
    → column_lines before.columns ≡ [] → AllByRecursion IsPlainName (row_names p.rows) → AreEntries (length p.rows) es
    → AllByRecursion (λ e. IsSmall e.1) es
    → AllByRecursion (IsReady before name) (map (pair_of (row_name p.rows)) es)
ready-entries p before name [] rs none plain legal small = tt
ready-entries p before name (e ∷ es) rs none plain legal small = (
  record {
    declared = rw rs (at-name (IsKnown p) p.rows e.0 (all-known p) legal.0);
    plain = at-name IsPlainName p.rows e.0 plain legal.0;
    new = rw none refl;
    read = rw (number-signed_decimal e.1 small.0) refl;
  },
  ready-entries p before name es rs none plain legal.3 small.1,
)

new-columns : (p : Table) (before : Sections) (cs : List TableColumn) → before.rows ≡ rows_of p → column_lines before.columns ≡ []
    → AllByRecursion IsPlainName (p.objective ∷ row_names p.rows) → IsDistinct bytes_eq (p.objective ∷ row_names p.rows)
    → AllByRecursion (λ c. AreEntries (length p.rows) c.entries) cs → AllByRecursion (λ c. IsSmall c.cost) cs
    → AllByRecursion (λ c. AllByRecursion (λ e. IsSmall e.1) c.entries) cs → AllByRecursion (IsNew before) (all_listed p cs)
new-columns p before [] rs none plain differ legal cost small = tt
new-columns p before (c ∷ cs) rs none plain differ legal cost small = (
  record {
    name = rw none refl;
    ready = (
      record {
        declared = rw rs (objective-declared p);
        plain = plain.0;
        new = rw none refl;
        read = rw (number-signed_decimal c.cost cost.0) refl;
      },
      ready-entries p before c.name c.entries rs none plain.1 legal.0 small.0,
    );
    differ = pairs-differ p c differ legal.0;
  },
  new-columns p before cs rs none plain differ legal.1 cost.1 small.1,
)

-- ---- the lines of RHS

ready-sides : (p : Table) (before : Sections) (rows : List TableRow) → before.rows ≡ rows_of p → before.right_sides ≡ []
    → AllByRecursion (IsKnown p) (row_names rows) → AllByRecursion (λ other. bytes_eq p.objective other ≡ false) (row_names rows)
    → AllByRecursion (λ r. IsSmall r.right_side) rows → AllByRecursion (Ready before) rows
ready-sides p before [] rs none known differ small = tt
ready-sides p before (r ∷ rows) rs none known differ small = (
  record {
    declared = rw rs known.0;
    new = rw none refl;
    bound = ap (λ (w : Option (List ℕ)). option_map_or (bytes_eq r.name) w false) (objective-back before p rs) ∙ bytes_flip p.objective r.name differ.0;
    small = small.0;
  },
  ready-sides p before rows rs none known.1 differ.1 small.1,
)

-- ---- the lines of BOUNDS

known-columns : (p : Table) (before : Sections) (cs : List TableColumn) (ls : List LineFields) → column_lines before.columns ≡ ls
    → AllByRecursion (λ c. list_any (λ f. bytes_eq c.name (field 0 f)) ls ≡ true) cs
    → AllByRecursion (λ c. is_column before.columns c.name ≡ true) cs
known-columns p before cs ls e h = all_agree (λ c. list_any (λ f. bytes_eq c.name (field 0 f)) ls ≡ true)
    (λ c. is_column before.columns c.name ≡ true) cs (λ c k. rw e k) h

-- ---- headers

columns-header : (before : Sections) (name : List ℕ) → before.section ≡ codes "ROWS" → first_free before.rows ≡ Some name
    → fault before (Header (codes "COLUMNS") []) ≡ None
unfolding fault
columns-header before name s o = rw (s, o) refl

sides-header : (before : Sections) (name : List ℕ) → before.section ≡ codes "COLUMNS" → first_free before.rows ≡ Some name
    → fault before (Header (codes "RHS") []) ≡ None
unfolding fault
sides-header before name s o = rw (s, o) refl

bounds-header : (before : Sections) (name : List ℕ) → before.section ≡ codes "RHS" → first_free before.rows ≡ Some name
    → fault before (Header (codes "BOUNDS") []) ≡ None
unfolding fault
bounds-header before name s o = rw (s, o) refl

end-after_sides : (before : Sections) (name : List ℕ) → before.section ≡ codes "RHS" → first_free before.rows ≡ Some name
    → option_map NotBinary (position (λ column. not (is_binary before column)) (columns_named before.columns)) ≡ None
    → fault before (Header (codes "ENDATA") []) ≡ None
unfolding fault
end-after_sides before name s o b = rw (s, o, b) refl

end-after_bounds : (before : Sections) (name : List ℕ) → before.section ≡ codes "BOUNDS" → first_free before.rows ≡ Some name
    → option_map NotBinary (position (λ column. not (is_binary before column)) (columns_named before.columns)) ≡ None
    → fault before (Header (codes "ENDATA") []) ≡ None
unfolding fault
end-after_bounds before name s o b = rw (s, o, b) refl

-- ---- the whole text

-- what comes before a line, and that all of it was read
pub record IsAfter (ls : List Line) (word : List ℕ) (rs cs ss bs : List LineFields) : Type 0 where
  pub read : AreRead no_lines ls
  pub holds : onto ls no_lines ≡ held word rs cs ss bs

-- a block after others
after-then : (ls more : List Line) (old word : List ℕ) (rs cs ss bs rs' cs' ss' bs' : List LineFields) → IsAfter ls old rs cs ss bs
    → AreRead (held old rs cs ss bs) more → onto more (held old rs cs ss bs) ≡ held word rs' cs' ss' bs'
    → IsAfter (ls ++ more) word rs' cs' ss' bs'
after-then ls more old word rs cs ss bs rs' cs' ss' bs' h read holds = record {
  read = AreRead-append no_lines ls more h.read (subst (λ s. AreRead s more) (sym h.holds) read);
  holds = onto-append ls more no_lines ∙ ap (onto more) h.holds ∙ holds;
}

after-rows : (p : Table) → IsProgram p → IsAfter (name_line ∷ rows_part p) (codes "ROWS") (rows_of p) [] [] []
unfolding fault IsDistinct
after-rows p legal =
    let named = (codes "N" ∷ p.objective ∷ []) in
    let before = held (codes "ROWS") (named ∷ []) [] [] [] in
    record {
      read = (
        refl,
        refl,
        (
          refl,
          refl,
          (
            refl,
            refl,
            rows-read before p.rows refl (new-rows p before (row_names p.rows) refl
                legal.rows_differ.0) legal.rows_differ.1,
          ),
        ),
      );
      holds = holds-rows ((codes "N" ∷ p.objective ∷ []) ∷ map row_fields p.rows) [] [] [] [];
    }

-- COLUMNS without columns
after-no_columns : (p : Table) (ls : List Line) → IsAfter ls (codes "ROWS") (rows_of p) [] [] []
    → IsAfter (ls ++ Header (codes "COLUMNS") [] ∷ []) (codes "COLUMNS") (rows_of p) [] [] []
after-no_columns p ls h =
    let start = held (codes "ROWS") (rows_of p) [] [] [] in
    after-then ls (Header (codes "COLUMNS") [] ∷ []) (codes "ROWS") (codes "COLUMNS") (rows_of p) [] [] [] (rows_of p) [] [] [] h
    (columns-header start p.objective refl (objective-back start p refl), refl, tt) refl

abbrev marked : Table → List LineFields
marked p = first_marker ∷ plain_lines (all_listed p p.columns) ++ last_marker ∷ []

abbrev all_columns : Table → List LineFields
all_columns p = last_marker ∷ push (plain_lines (all_listed p p.columns)) (first_marker ∷ [])

first_marker-read : (before : Sections) → before.section ≡ codes "COLUMNS" → before.columns ≡ [] → fault before (Data first_marker) ≡ None
unfolding fault
first_marker-read before s none = rw (s, none) refl

last_marker-read : (before : Sections) → before.section ≡ codes "COLUMNS" → is_integer_open before.columns ≡ true → fault before (Data last_marker) ≡ None
unfolding fault
last_marker-read before s o = rw (s, o) refl

after-columns : (p : Table) (ls : List Line) → IsProgram p → IsWritable p → IsAfter ls (codes "ROWS") (rows_of p) [] [] []
    → IsAfter (ls ++ Header (codes "COLUMNS") [] ∷ map Data (marked p)) (codes "COLUMNS") (rows_of p) (all_columns p) [] []
after-columns p ls legal parsed h =
    after-then ls (Header (codes "COLUMNS") [] ∷ map Data (marked p)) (codes "ROWS") (codes "COLUMNS") (rows_of p) [] [] [] (rows_of p)
    (all_columns p) [] [] h (
      columns-header start p.objective refl (objective-back start p refl),
      refl,
      (
        first_marker-read (held (codes "COLUMNS") (rows_of p) [] [] []) refl refl,
        refl,
        subst (AreRead marked_start) (sym (map-append Data listed_lines (last_marker ∷ [])))
            (AreRead-append marked_start (map Data listed_lines) (Data last_marker ∷ []) lines_read
            (subst (λ s. AreRead s (Data last_marker ∷ [])) (sym (holds-columns listed_lines (rows_of p) (first_marker ∷ []) [] [])) (
              last_marker-read (held (codes "COLUMNS") (rows_of p) (push listed_lines (first_marker ∷ [])) [] []) refl (open-lines
                  (all_listed p p.columns) (first_marker ∷ []) plain_pairs),
              refl,
              tt,
            ))),
      ),
    )
    (holds-columns (marked p) (rows_of p) [] [] [] ∙ ap (λ (w : List LineFields). held (codes "COLUMNS") (rows_of p) w [] [])
    (push-append listed_lines (last_marker ∷ []) (first_marker ∷ [])))
  where
    start : Sections
    start = held (codes "ROWS") (rows_of p) [] [] []

    marked_start : Sections
    marked_start = held (codes "COLUMNS") (rows_of p) (first_marker ∷ []) [] []

    listed_lines : List LineFields
    listed_lines = plain_lines (all_listed p p.columns)

    plain_pairs : AllByRecursion (λ c. ArePlain c.1) (all_listed p p.columns)
    plain_pairs = all-plain p p.columns parsed.no_marker legal.entries

    lines_read : AreRead marked_start (map Data listed_lines)
    lines_read = subst (AreRead marked_start) (data-lines (all_listed p p.columns))
        (columns-read marked_start (all_listed p p.columns) refl (subst (IsDistinct bytes_eq) (sym (names-listed p p.columns)) legal.columns_differ)
        (new-columns p marked_start p.columns refl refl parsed.no_marker legal.rows_differ legal.entries
        (small_costs p.columns parsed.numbers) (small_entries p.columns parsed.numbers)))

after-sides : (p : Table) (ls : List Line) (cs : List LineFields) → IsProgram p → IsWritable p
    → IsAfter ls (codes "COLUMNS") (rows_of p) cs [] []
    → IsAfter (ls ++ sides_part p) (codes "RHS") (rows_of p) cs (push (map right_side_fields p.rows) []) []
unfolding IsDistinct
after-sides p ls cs legal parsed h =
    after-then ls (sides_part p) (codes "COLUMNS") (codes "RHS") (rows_of p) cs [] [] (rows_of p) cs (push (map right_side_fields p.rows) []) [] h (
      sides-header start p.objective refl (objective-back start p refl),
      refl,
      right_sides-read opened p.rows refl legal.rows_differ.1 (ready-sides p opened p.rows refl refl (all-known p) legal.rows_differ.0 parsed.right_sides),
    )
    (holds-sides (map right_side_fields p.rows) (rows_of p) cs [] [])
  where
    start : Sections
    start = held (codes "COLUMNS") (rows_of p) cs [] []

    opened : Sections
    opened = held (codes "RHS") (rows_of p) cs [] []

-- the columns of lines between markers
between-markers : (p : Table) → AllByRecursion (λ c. ArePlain c.1) (all_listed p p.columns)
    → column_lines (all_columns p) ≡ push (plain_lines (all_listed p p.columns)) []
between-markers p plain = keeps-lines (all_listed p p.columns) (first_marker ∷ []) plain

all_plain_pairs : (p : Table) → IsProgram p → IsWritable p → AllByRecursion (λ c. ArePlain c.1) (all_listed p p.columns)
all_plain_pairs p legal parsed = all-plain p p.columns parsed.no_marker legal.entries

after-bounds : (p : Table) (ls : List Line) (ss : List LineFields) → IsProgram p → IsWritable p
    → IsAfter ls (codes "RHS") (rows_of p) (all_columns p) ss []
    → IsAfter (ls ++ bounds_part p) (codes "BOUNDS") (rows_of p) (all_columns p) ss (push (map bound_fields p.columns) [])
after-bounds p ls ss legal parsed h =
    after-then ls (bounds_part p) (codes "RHS") (codes "BOUNDS") (rows_of p) (all_columns p) ss [] (rows_of p) (all_columns p) ss
    (push (map bound_fields p.columns) []) h (
      bounds-header start p.objective refl (objective-back start p refl),
      refl,
      bounds-read opened p.columns refl (known-columns p opened p.columns (push (plain_lines (all_listed p p.columns)) [])
          (between-markers p (all_plain_pairs p legal parsed)) (columns-named p p.columns [])),
    )
    (holds-bounds (map bound_fields p.columns) (rows_of p) (all_columns p) ss [])
  where
    start : Sections
    start = held (codes "RHS") (rows_of p) (all_columns p) ss []

    opened : Sections
    opened = held (codes "BOUNDS") (rows_of p) (all_columns p) ss []

skip-marker : (p : Table) (cs : List TableColumn) (w : List LineFields)
    → AllByRecursion (λ c. stands_in_integers c.0 w ≡ true) (all_listed p cs)
    → AllByRecursion (λ c. stands_in_integers c.name (last_marker ∷ w) ≡ true) cs
skip-marker p [] w h = tt
skip-marker p (c ∷ cs) w h = (h.0, skip-marker p cs w h.1)

-- what the sections hold at the end
abbrev all_lines : Table → Sections
all_lines p = held (codes "BOUNDS") (rows_of p) (all_columns p) (push (map right_side_fields p.rows) []) (push (map bound_fields p.columns) [])

lists-columns : (p : Table) → IsProgram p → IsWritable p → Lists (all_lines p) p
lists-columns p legal parsed = record {
  rows = refl;
  columns = between-markers p (all_plain_pairs p legal parsed);
  stand = skip-marker p p.columns (push (plain_lines (all_listed p p.columns)) (first_marker ∷ []))
      (all-stand (all_listed p p.columns) (first_marker ∷ []) (subst (IsDistinct bytes_eq) (sym (names-listed p p.columns))
      legal.columns_differ) (all-filled p p.columns) (all_plain_pairs p legal parsed) refl);
  sides = refl;
  bounds = refl;
}

abbrev meaning_of_lines : List Line → Result Table (ℕ × MpsFaultKind)
meaning_of_lines ls = meaning_after 0 no_lines ls

-- the meaning of lines that are read, and then the end
meaning-end : (p : Table) (ls : List Line) (word : List ℕ) (rs cs ss bs : List LineFields) → IsAfter ls word rs cs ss bs
    → fault (held word rs cs ss bs) end_line ≡ None → program (held word rs cs ss bs) ≡ p → meaning_of_lines (ls ++ end_line ∷ []) ≡ Ok p
meaning-end p ls word rs cs ss bs h f e =
    read-through 0 no_lines ls h.read (ap (λ s. fault s end_line) h.holds ∙ f) ∙ ap (λ s. Ok (program s)) h.holds ∙ ap (λ q. Ok q) e

after-columns_part : (p : Table) (c : TableColumn) (cs : List TableColumn) (ls : List Line) → IsProgram p → IsWritable p
    → p.columns ≡ c ∷ cs → IsAfter ls (codes "ROWS") (rows_of p) [] [] []
    → IsAfter (ls ++ columns_part p) (codes "COLUMNS") (rows_of p) (all_columns p) [] []
after-columns_part p c cs ls legal parsed e h =
    subst (λ (w : List LineFields). IsAfter (ls ++ Header (codes "COLUMNS") [] ∷ map Data w) (codes "COLUMNS") (rows_of p) (all_columns p)
    [] []) same (after-columns p ls legal parsed h)
  where
    same : marked p ≡ if_any p.columns (first_marker ∷ flat_map (column_fields p) p.columns ++ last_marker ∷ [])
    same = ap (λ (w : List LineFields). first_marker ∷ w ++ last_marker ∷ []) (sym (column-lines p p.columns)) ∙ if-some p.columns e
      where
        if-some : (ds : List TableColumn) → ds ≡ c ∷ cs
            → first_marker ∷ flat_map (column_fields p) p.columns ++ last_marker ∷ []
            ≡ if_any ds (first_marker ∷ flat_map (column_fields p) p.columns ++ last_marker ∷ [])
        if-some [] d = absurd cc
        if-some (x ∷ xs) d = refl

abbrev table : List ℕ → List TableRow → List TableColumn → Table
table o rs cs = record { objective = o; rows = rs; columns = cs }

meaning-lines : (o : List ℕ) (rs : List TableRow) (cs : List TableColumn) → IsProgram (table o rs cs) → IsWritable (table o rs cs)
    → meaning_of_lines (text_lines (table o rs cs)) ≡ Ok (table o rs cs)
meaning-lines o rs [] legal parsed =
    let p = table o rs [] in
    let two = after-no_columns p (name_line ∷ rows_part p) (after-rows p legal) in
    let three = after-sides p ((name_line ∷ rows_part p) ++ columns_part p) [] legal parsed two in
    let ls = (name_line ∷ rows_part p) ++ columns_part p ++ sides_part p in
    let all = held (codes "RHS") (rows_of p) [] (push (map right_side_fields rs) []) [] in
    let lists : Lists all p = record { rows = refl; columns = refl; stand = tt; sides = refl; bounds = refl } in
    ap meaning_of_lines (ap (λ (w : List Line). w ++ end_line ∷ []) (append-nil ls))
    ∙ meaning-end p ls (codes "RHS") (rows_of p) [] (push (map right_side_fields rs) []) [] three
    (end-after_sides all o refl (objective-back all p refl) (all-binary all p legal lists)) (program-back all p legal parsed lists)
meaning-lines o rs (c ∷ cs) legal parsed =
    let p = table o rs (c ∷ cs) in
    let two = after-columns_part p c cs (name_line ∷ rows_part p) legal parsed refl (after-rows p legal) in
    let three = after-sides p ((name_line ∷ rows_part p) ++ columns_part p) (all_columns p) legal parsed two in
    let four = after-bounds p ((name_line ∷ rows_part p) ++ columns_part p ++ sides_part p) (push (map right_side_fields p.rows) []) legal parsed three in
    let ls = (name_line ∷ rows_part p) ++ columns_part p ++ sides_part p ++ bounds_part p in
    let lists = lists-columns p legal parsed in
    meaning-end p ls (codes "BOUNDS") (rows_of p) (all_columns p) (push (map right_side_fields p.rows) []) (push (map bound_fields p.columns) []) four
    (end-after_bounds (all_lines p) o refl (objective-back (all_lines p) p refl) (all-binary (all_lines p) p legal lists))
    (program-back (all_lines p) p legal parsed lists)

pub text-is_read : TextIsRead
unfolding meaning text
text-is_read p legal parsed =
    ap meaning_of_lines (read_again (text_lines p) (all-written p legal parsed)) ∙ meaning-lines p.objective p.rows p.columns legal parsed
