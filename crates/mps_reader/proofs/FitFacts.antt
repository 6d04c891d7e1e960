-- What holds of a reading, kept line by line.
use Rattle.std.proofs.Common.{◌≡◌, ℕ, zero, suc, ◌<◌, ◌≤◌, false, List, [], ◌∷◌, ◌++◌, length, map, refl, sym, ap, subst}
use Rattle.std.proofs.Common.{◌∙◌, arith, Option, Some, None, ℤ, get_or}
use Rattle.std.proofs.lemmas.List.{append-nil, length-map}
use Rattle.std.specs.Prelude.{is_some, IfSome, bytes_eq}
use Rattle.std.specs.Option.{option_to_list}
use Rattle.std.specs.List.{AllByRecursion, IsDistinct, slice_set}
use Rattle.program_rows.specs.declared.row.Row.{Row}
use Rattle.program_rows.specs.declared.column.Bounds.{Bounds}
use Rattle.program_rows.specs.Program.{TableRow, TableColumn}
use Rattle.program_rows.specs.Bounded.{bounded}
use Rattle.program_rows.specs.Parts.{IsName, AreEntries, IsProgram, shown_row}
use Rattle.mps_reader.specs.inside.Rows.{names_of, option_now, declared_row_names, with_side, IsObjective, RowsFit, IsEmptyTable}
use Rattle.mps_reader.specs.inside.Columns.{ColumnsFit, BothFit, AreDistinctEntries, IsEmptyColumns}
use Rattle.mps_reader.specs.inside.Agreeing.{IsClosed, ReadingFits}
use Rattle.mps_reader.specs.declared.sections.Section.{Section}
use Rattle.mps_reader.specs.declared.sections.Section.TheVariants as sections
use Rattle.mps_reader.specs.declared.tables.Rows.{Rows}
use Rattle.mps_reader.specs.declared.tables.ColumnTable.{ColumnTable}
use Rattle.mps_reader.specs.declared.tables.Reading.{Reading}
use Rattle.mps_reader.proofs.NameFacts.{all-rows, distinct-rows, length-bytes}
use Rattle.mps_reader.proofs.RowStepFacts.{names-shown}
use Rattle.mps_reader.proofs.EntryFacts.{more-rows, more-inside}
use Rattle.mps_reader.proofs.ColumnStepFacts.{no-entries, apart-none, none-from}

pub empty-fits : (r : Rows) → IsEmptyTable r → RowsFit r
unfolding IsDistinct
empty-fits r e = record {
  distinct = subst (λ ks. IsDistinct bytes_eq (map (λ k. k.now) ks)) (sym e.names) tt;
  plain = subst (λ ks. AllByRecursion IsName (map (λ k. k.now) ks)) (sym e.names) tt;
  stamps = ap length e.stamps ∙ ap length (sym e.names);
  places = rw (e.names, e.places, e.rows) tt;
  objective = subst (λ o. IfSome o (λ x. IsObjective (names_of r.names) (declared_row_names r.rows.items) x.now)) (sym e.objective) tt;
}

pub empty-columns : (count : ℕ) (c : ColumnTable) → IsEmptyColumns c → ColumnsFit count c
unfolding IsDistinct
empty-columns count c e = record {
  distinct = subst (λ ks. IsDistinct bytes_eq (map (λ k. k.now) ks)) (sym e.names) tt;
  plain = subst (λ ks. AllByRecursion IsName (map (λ k. k.now) ks)) (sym e.names) tt;
  states = ap length e.states ∙ ap length (sym e.names);
  done = ap (map (λ k. k.now)) e.names ∙ ap (λ ks. map (λ (k : TableColumn). k.name) ks ++ option_to_list (option_now None)) (sym e.done)
      ∙ ap (λ o. map (λ (k : TableColumn). k.name) c.done ++ option_to_list (option_now o)) (sym e.current);
  entries = subst (λ ks. AllByRecursion (λ (k : TableColumn). AreEntries count k.entries) ks) (sym e.done) tt;
  opened = subst (λ es. AreDistinctEntries count es) (sym e.entries) (no-entries count);
  closed = λ _. e.entries;
}

pub closed-any : (s : Section) (c : ColumnTable) → is_some c.current ≡ false → IsClosed s c
closed-any sections.Columns c h = tt
closed-any _ c h = h

-- other rows, of which there are as many or more, while no column is open
pub both-closed : (r new : Rows) (c : ColumnTable) → length r.rows.items ≤ length new.rows.items → is_some c.current ≡ false → BothFit r c → BothFit new c
both-closed r new c le none both = record {
  columns = record {
    distinct = both.columns.distinct;
    plain = both.columns.plain;
    states = both.columns.states;
    done = both.columns.done;
    entries = all-more c.done both.columns.entries;
    opened = record {
      distinct = both.columns.opened.distinct;
      inside =
          more-inside (length r.rows.items) (length new.rows.items) c.current_column.entries.items le both.columns.opened.inside;
    };
    closed = both.columns.closed;
  };
  apart = apart-none new.stamps.items new.places.items (length (names_of c.names)) c.current_column.entries.items (both.columns.closed none);
}
  where
    all-more : (ks : List TableColumn) → AllByRecursion (λ k. AreEntries (length r.rows.items) k.entries) ks
        → AllByRecursion (λ k. AreEntries (length new.rows.items) k.entries) ks
    all-more [] h = tt
    all-more (k ∷ ks) h = (more-rows (length r.rows.items) (length new.rows.items) k.entries le h.0, all-more ks h.1)

-- ---- right sides

names-with-side : (p : ℕ) (v : ℤ) (rows : List TableRow) → map (λ (r : TableRow). r.name) (with_side p v rows) ≡ map (λ (r : TableRow). r.name) rows
names-with-side p v [] = refl
names-with-side zero v (r ∷ rows) = refl
names-with-side (suc p) v (r ∷ rows) = ap (λ ns. r.name ∷ ns) (names-with-side p v rows)

pub same-names : (p : ℕ) (v : ℤ) (new old : List Row) → map shown_row new ≡ with_side p v (map shown_row old) → declared_row_names new ≡ declared_row_names old
same-names p v new old h = names-shown new ∙ ap (map (λ (r : TableRow). r.name)) h ∙ names-with-side p v (map shown_row old) ∙ sym (names-shown old)

pub sided-fit : (r new : Rows) → RowsFit r → new.names ≡ r.names → new.places ≡ r.places → new.objective ≡ r.objective
    → length new.stamps.items ≡ length r.stamps.items → declared_row_names new.rows.items ≡ declared_row_names r.rows.items → RowsFit new
sided-fit r new fit names places objective stamps rows = record {
  distinct = subst (λ s. IsDistinct bytes_eq (names_of s)) (sym names) fit.distinct;
  plain = subst (λ s. AllByRecursion IsName (names_of s)) (sym names) fit.plain;
  stamps = stamps ∙ fit.stamps ∙ ap (λ s. length s.keys) (sym names);
  places = rw (names, places, rows) fit.places;
  objective = rw (names, rows, objective) fit.objective;
}

-- ---- the program

names-bounded : (cs : List TableColumn) (bs : List Bounds) → length bs ≡ length cs
    → map (λ (c : TableColumn). c.name) (bounded cs bs) ≡ map (λ (c : TableColumn). c.name) cs
names-bounded (c ∷ cs) [] h = absurd (omega arith)
names-bounded (c ∷ cs) (b ∷ bs) h = ap (λ ns. c.name ∷ ns) (names-bounded cs bs (omega arith))
names-bounded [] _ h = refl

entries-bounded : (count : ℕ) (cs : List TableColumn) (bs : List Bounds) → AllByRecursion (λ k. AreEntries count k.entries) cs
    → AllByRecursion (λ k. AreEntries count k.entries) (bounded cs bs)
entries-bounded count (c ∷ cs) (b ∷ bs) h = (h.0, entries-bounded count cs bs h.1)
entries-bounded count _ _ h = tt

pub done-names : (count : ℕ) (c : ColumnTable) → ColumnsFit count c → is_some c.current ≡ false → names_of c.names ≡ map (λ (k : TableColumn). k.name) c.done
done-names count c fit none =
    fit.done ∙ ap (λ o. map (λ (k : TableColumn). k.name) c.done ++ option_to_list (option_now o)) (none-from c.current none)
    ∙ append-nil (map (λ (k : TableColumn). k.name) c.done)

pub done-length : (count : ℕ) (c : ColumnTable) → ColumnsFit count c → is_some c.current ≡ false → length c.states.items ≡ length c.done
done-length count c fit none = fit.states ∙ sym (length-bytes c.names.keys) ∙ ap length (done-names count c fit none) ∙ length-map c.done (λ k. k.name)

pub program-fits : (r : Rows) (c : ColumnTable) (objective : List ℕ) (bounds : List Bounds) → RowsFit r → ColumnsFit (length r.rows.items) c
    → is_some c.current ≡ false → option_now r.objective ≡ Some objective → length bounds ≡ length c.done
    → IsProgram (record { objective = objective; rows = map shown_row r.rows.items; columns = bounded c.done bounds })
unfolding IsDistinct
program-fits r c objective bounds fit columns none is size =
    let own : IsObjective (names_of r.names) (declared_row_names r.rows.items) objective = objective-from r.objective is fit.objective in
    let names : map (λ (k : TableColumn). k.name) (bounded c.done bounds) ≡ names_of c.names =
    names-bounded c.done bounds size ∙ sym (done-names (length r.rows.items) c columns none) in
    let rows : map (λ (q : TableRow). q.name) (map shown_row r.rows.items) ≡ declared_row_names r.rows.items = sym (names-shown r.rows.items) in
    record {
      row_names = (
        own.name,
        subst (λ ns. AllByRecursion IsName ns) (sym rows) (all-rows IsName 0 (names_of r.names) r.places.items
            (declared_row_names r.rows.items) fit.places fit.plain),
      );
      rows_differ = (
        subst (λ ns. AllByRecursion (λ n. bytes_eq objective n ≡ false) ns) (sym rows) own.apart,
        subst (λ ns. IsDistinct bytes_eq ns)
            (sym rows) (distinct-rows 0 (names_of r.names) r.places.items (declared_row_names r.rows.items) fit.places fit.distinct),
      );
      column_names = subst (λ ns. AllByRecursion IsName ns) (sym names) columns.plain;
      columns_differ = subst (λ ns. IsDistinct bytes_eq ns) (sym names) columns.distinct;
      entries = entries-bounded (length (map shown_row r.rows.items)) c.done bounds
          (subst (λ n. AllByRecursion (λ k. AreEntries n k.entries) c.done) (sym (length-map r.rows.items shown_row)) columns.entries);
    }
  where
    objective-from : (o : Option _) → option_now o ≡ Some objective → IfSome o
        (λ x. IsObjective (names_of r.names) (declared_row_names r.rows.items) x.now)
        → IsObjective (names_of r.names) (declared_row_names r.rows.items) objective
    objective-from None e h = absurd cc
    objective-from (Some x) e h = let same : x.now ≡ objective = cc in subst (λ n. IsObjective (names_of r.names) (declared_row_names r.rows.items) n) same h

pub side-count : (p : ℕ) (v : ℤ) (new old : List Row) → map shown_row new ≡ with_side p v (map shown_row old) → length new ≡ length old
side-count p v new old h = sym (length-map new shown_row) ∙ ap length h ∙ length-side p v (map shown_row old) ∙ length-map old shown_row
  where
    length-side : (p : ℕ) (v : ℤ) (rows : List TableRow) → length (with_side p v rows) ≡ length rows
    length-side p v [] = refl
    length-side zero v (r ∷ rows) = refl
    length-side (suc p) v (r ∷ rows) = ap suc (length-side p v rows)

pub side-set : (rs : List Row) (p : ℕ) (v : ℤ) (x : Row) → p < length rs → x ≡ get_or rs p x
    → map shown_row (slice_set rs p (record { name = x.name; kind = x.kind; right_side = v })) ≡ with_side p v (map shown_row rs)
side-set [] p v x h e = absurd (omega arith)
side-set (r ∷ rs) zero v x h e = ap (λ (q : Row). record { name = q.name.items; kind = q.kind; right_side = v } ∷ map shown_row rs) e
side-set (r ∷ rs) (suc p) v x h e = ap (λ qs. shown_row r ∷ qs) (side-set rs p v x (omega arith) e)

-- a header closes the column
pub header-fits : (r new : Reading) → ReadingFits r → ((count : ℕ) → ColumnsFit count r.columns → ColumnsFit count new.columns)
    → is_some new.columns.current ≡ false → new.rows ≡ r.rows → ReadingFits new
header-fits r new fit f none same =
    let columns = f (length r.rows.rows.items) fit.both.columns in
    record {
      rows = subst RowsFit (sym same) fit.rows;
      both = record {
        columns = subst (λ q. ColumnsFit (length q.rows.items) new.columns) (sym same) columns;
        apart = apart-none new.rows.stamps.items new.rows.places.items (length (names_of new.columns.names)) new.columns.current_column.entries.items
            (columns.closed none);
      };
      closed = closed-any new.section new.columns none;
    }

pub row-fits : (r : Reading) (rows : Rows) → ReadingFits r → r.section ≡ sections.Rows → RowsFit rows
    → length r.rows.rows.items ≤ length rows.rows.items → ReadingFits (record r { rows = rows })
row-fits r rows fit is more grows =
    let none : is_some r.columns.current ≡ false = subst (λ s. IsClosed s r.columns) is fit.closed in
    record { rows = more; both = both-closed r.rows rows r.columns grows none fit.both; closed = fit.closed }

pub bound-fits : (r : Reading) (columns : ColumnTable) → ReadingFits r → r.section ≡ sections.Bounds → BothFit r.rows columns
    → columns.current ≡ r.columns.current → ReadingFits (record r { columns = columns })
bound-fits r columns fit is both same =
    let none : is_some r.columns.current ≡ false = subst (λ s. IsClosed s r.columns) is fit.closed in
    record { rows = fit.rows; both = both; closed = closed-any r.section columns (ap is_some same ∙ none) }
