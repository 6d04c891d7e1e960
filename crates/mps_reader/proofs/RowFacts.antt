-- Rows are those of the lines so far.
use Rattle.std.proofs.Common.{◌≡◌, ℕ, true, false, not, ◌||◌, List, [], ◌∷◌, ◌++◌, map, reverse, refl, sym, ap, ◌∙◌, Option, Some, None, pos}
use Rattle.std.specs.Prelude.{bytes_eq, filter, find, is_none, option_map, if◌then◌else◌, flat_map}
use Rattle.std.specs.List.{list_any}
use Rattle.std.specs.Option.{option_or}
use Rattle.std.proofs.lemmas.List.{reverse-append, map-append, append-nil}
use Rattle.std.proofs.lemmas.List.Elements.{filter-append}
use Rattle.std.proofs.lemmas.List.Folds.{find-append, list_any-append}
use Rattle.program_rows.specs.Program.{TableRow}
use Rattle.program_rows.specs.Parts.{shown_row}
use Rattle.auction_terms.specs.LineFields.{LineFields, field}
use Rattle.program_rows.specs.MpsProgram.{is_free, row_kind_of, first_free, table_rows, number_beside, line_right_sides}
use Rattle.mps_reader.specs.inside.Rows.{names_of, option_now, AddsFree, AddsBound, declared_names}
use Rattle.mps_reader.specs.inside.Tracking.{RowsTell}
use Rattle.mps_reader.specs.declared.tables.Rows.{Rows}
use Rattle.mps_reader.proofs.NameFacts.{or-last}

reverse-more : (f : LineFields) (rows : List LineFields) → reverse (f ∷ rows) ≡ reverse rows ++ f ∷ []
reverse-more f rows = reverse-append (f ∷ []) rows

names-more : (f : LineFields) (rows : List LineFields) → declared_names (f ∷ rows) ≡ declared_names rows ++ field 1 f ∷ []
names-more f rows = ap (map (field 1)) (reverse-more f rows) ∙ map-append (field 1) (reverse rows) (f ∷ [])

bound-more : (f : LineFields) (rows : List LineFields)
    → filter (λ r. not (is_free r)) (reverse (f ∷ rows)) ≡ filter (λ r. not (is_free r)) (reverse rows) ++ filter (λ r. not (is_free r)) (f ∷ [])
bound-more f rows = ap (filter (λ r. not (is_free r))) (reverse-more f rows) ∙ filter-append (λ r. not (is_free r)) (reverse rows) (f ∷ [])

abbrev row_of : List LineFields → LineFields → TableRow
row_of rights fields =
    record { name = field 1 fields; kind = row_kind_of (field 0 fields); right_side = number_beside (flat_map line_right_sides rights) (field 1 fields) }

rows-more : (f : LineFields) (rows : List LineFields)
    → table_rows (f ∷ rows) [] ≡ table_rows rows [] ++ map (row_of []) (filter (λ r. not (is_free r)) (f ∷ []))
rows-more f rows =
    ap (map (row_of [])) (bound-more f rows) ∙ map-append (row_of []) (filter (λ r. not (is_free r)) (reverse rows)) (filter (λ r. not (is_free r)) (f ∷ []))

objective-more : (f : LineFields) (rows : List LineFields)
    → first_free (f ∷ rows) ≡ option_map (field 1) (option_or (find is_free (reverse rows)) (find is_free (f ∷ [])))
objective-more f rows =
    ap (λ rs. option_map (field 1) (find is_free rs)) (reverse-more f rows) ∙ ap (option_map (field 1)) (find-append is_free (reverse rows) (f ∷ []))

pub tells-free : (f : LineFields) (rows : List LineFields) (old mid new : Rows) (name : List ℕ) → is_free f ≡ true → field 1 f ≡ name
    → names_of mid.names ≡ names_of old.names ++ name ∷ [] → mid.rows ≡ old.rows → mid.objective ≡ old.objective
    → AddsFree name mid new → RowsTell rows [] old → RowsTell (f ∷ rows) [] new
tells-free f rows old mid new name free same names kept objective adds h = record {
  names = ap names_of adds.names ∙ names ∙ ap (λ ns. ns ++ name ∷ []) h.names ∙ ap (λ n. declared_names rows ++ n ∷ []) (sym same) ∙ sym (names-more f rows);
  shown = ap (λ r. map shown_row r.items) (adds.rows ∙ kept) ∙ h.shown ∙ sym (rows-more f rows ∙ rw free (append-nil (table_rows rows [])));
  objective = adds.objective ∙ ap (λ o. if is_none o then Some name else option_now o) objective
      ∙ by old.objective (find is_free (reverse rows)) h.objective ∙ sym (objective-more f rows);
}
  where
    by : (o : Option _) (t : Option LineFields) → option_now o ≡ option_map (field 1) t → (if is_none o then Some name else option_now o)
        ≡ option_map (field 1) (option_or t (find is_free (f ∷ [])))
    by None None e = rw free (ap (λ n. Some n) (sym same))
    by (Some x) (Some t) e = e
    by _ _ e = absurd cc

pub tells-bound : (f : LineFields) (rows : List LineFields) (old mid new : Rows) (letter name : List ℕ) → is_free f ≡ false
    → field 0 f ≡ letter → field 1 f ≡ name → names_of mid.names ≡ names_of old.names ++ name ∷ [] → mid.rows ≡ old.rows
    → mid.objective ≡ old.objective
    → AddsBound letter name mid new → RowsTell rows [] old → RowsTell (f ∷ rows) [] new
tells-bound f rows old mid new letter name bound first same names kept objective adds h = record {
  names = ap names_of adds.names ∙ names ∙ ap (λ ns. ns ++ name ∷ []) h.names ∙ ap (λ n. declared_names rows ++ n ∷ []) (sym same) ∙ sym (names-more f rows);
  shown = adds.rows ∙ ap (λ rs. rs ++ record { name = name; kind = row_kind_of letter; right_side = pos 0 } ∷ [])
      (ap (λ r. map shown_row r.items) kept ∙ h.shown) ∙ sym (rows-more f rows ∙ rw (bound, first, same) refl);
  objective = ap option_now (adds.objective ∙ objective) ∙ h.objective ∙ sym (objective-more f rows ∙ rw bound (by (find is_free (reverse rows))));
}
  where
    by : (t : Option LineFields) → option_map (field 1) (option_or t None) ≡ option_map (field 1) t
    by None = refl
    by (Some x) = refl

-- a name among the rows is a name that a line declares
pub declared-any : (name : List ℕ) (rows : List LineFields)
    → list_any (bytes_eq name) (declared_names rows) ≡ list_any (λ row. bytes_eq name (field 1 row)) rows
declared-any name [] = refl
declared-any name (f ∷ rows) =
    ap (list_any (bytes_eq name)) (names-more f rows) ∙ list_any-append (bytes_eq name) (declared_names rows) (field 1 f ∷ [])
    ∙ ap (λ b. b || (bytes_eq name (field 1 f) || false)) (declared-any name rows)
    ∙ or-last (list_any (λ row. bytes_eq name (field 1 row)) rows) (bytes_eq name (field 1 f))
