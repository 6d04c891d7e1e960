-- A pair of row and number more.
use Rattle.std.proofs.Common.{◌≡◌, ◌≢◌, ℕ, zero, suc, ◌<◌, Bool, true, false, List, [], ◌∷◌, ◌++◌, length, refl, sym, ap}
use Rattle.std.proofs.Common.{subst, ◌∙◌, arith, Option, Some, None, ℤ, pos, get_or}
use Rattle.std.proofs.lemmas.List.{length-map}
use Rattle.std.proofs.lemmas.Option.{slice_get_within, slice_get-get_or, slice_get_read}
use Rattle.std.specs.Prelude.{◌==◌, slice_get, if◌then◌else◌}
use Rattle.std.specs.Ordering.{int_eq}
use Rattle.std.specs.List.{AllByRecursion, slice_set}
use Rattle.std.proofs.lemmas.Bool.{eqb-false, both_ways, cases_eq, cases_order}
use mathlib.Core.Logic.{◌⊎◌, inl, inr}
use Rattle.std.proofs.lemmas.Bool.Decides.{Decides-int_eq}
use Rattle.program_rows.specs.declared.row.Row.{Row}
use Rattle.mps_reader.specs.inside.Rows.{AreAt, RowsFit, names_of, declared_row_names}
use Rattle.mps_reader.specs.declared.tables.Rows.{Rows}
use Rattle.mps_reader.specs.declared.tables.OpenColumn.{OpenColumn}
use Rattle.mps_reader.specs.inside.Columns.{AreDistinctEntries, IsApart, PairsFit, put_entries}
use Rattle.mps_reader.proofs.NameFacts.{length-bytes, length-places, placed, apart}
use Rattle.mps_reader.proofs.EntryFacts.{entries-push, none-at-push}

pub get-set : (xs : List ℕ) (i j v : ℕ) → i ≢ j → slice_get (slice_set xs i v) j ≡ slice_get xs j
get-set (x ∷ xs) zero zero v h = absurd (h refl)
get-set (x ∷ xs) (suc i) (suc j) v h = get-set xs i j v (λ e. h (ap suc e))
get-set _ _ _ v h = refl

pub get-set-same : (xs : List ℕ) (i v d : ℕ) → slice_get (slice_set xs i v) i ≡ Some d → d ≡ v
get-set-same [] i v d h = absurd cc
get-set-same (x ∷ xs) zero v d h = cc
get-set-same (x ∷ xs) (suc i) v d h = get-set-same xs i v d h

differ : (ns : List (List ℕ)) (ps : List (Option ℕ)) (rows : List (List ℕ)) (i j p q : ℕ) → AreAt 0 ns ps rows
    → slice_get ps i ≡ Some (Some p) → slice_get ps j ≡ Some (Some q) → i ≢ j → p ≢ q
differ ns ps rows i j p q at h k ne e = elim (cases_order i j) as (λ _. ⊥) [
  | inl same ↦ ne same
  | inr other ↦ elim other as (λ _. ⊥) [
    | inl less ↦ let up = apart 0 ns ps rows i j p q at h k less in omega arith
    | inr more ↦ let up = apart 0 ns ps rows j i q p at k h more in omega arith
  ]
]

-- the row that has the stamp now is the only one with a new entry
pub apart-put : (ns : List (List ℕ)) (ps : List (Option ℕ)) (rows : List (List ℕ)) (stamps : List ℕ) (entries : List (ℕ × ℤ)) (i stamp : ℕ)
    (cost : Bool) (place : Option ℕ) (v : ℤ)
    → AreAt 0 ns ps rows → slice_get ps i ≡ Some place
    → IsApart stamps ps stamp entries → IsApart (slice_set stamps i stamp) ps stamp (put_entries cost place v entries)
apart-put ns ps rows stamps entries i stamp cost place v at here h = λ j q d there stamped other. by j q d there stamped other (cases_eq i j)
  where
    put-none : (cost : Bool) (place : Option ℕ) (q : ℕ) → ((p : ℕ) → place ≡ Some p → p ≢ q) → AllByRecursion (λ e. (e.0 == q) ≡ false) entries
        → AllByRecursion (λ e. (e.0 == q) ≡ false) (put_entries cost place v entries)
    put-none true place q f a = a
    put-none false None q f a = a
    put-none false (Some p) q f a = elim (int_eq v (pos 0)) as (λ b. AllByRecursion (λ e. (e.0 == q) ≡ false) (if b then entries else entries ++ (p, v) ∷ [])) [
      | true ↦ a
      | false ↦ none-at-push entries p q v (f p refl) a
    ]

    by : (j q d : ℕ) → slice_get ps j ≡ Some (Some q) → slice_get (slice_set stamps i stamp) j ≡ Some d → (d == stamp) ≡ false → (i ≡ j) ⊎ (i ≡ j → ⊥)
        → AllByRecursion (λ e. (e.0 == q) ≡ false) (put_entries cost place v entries)
    by j q d there stamped other (inl same) =
        absurd (eqb-false _ _ other (get-set-same stamps i stamp d (subst (λ k. slice_get (slice_set stamps i stamp) k ≡ Some d) (sym same) stamped)))
    by j q d there stamped other (inr apart-rows) =
        put-none cost place q (λ p e. differ ns ps rows i j p q at (here ∙ ap (λ o. Some o) e) there apart-rows)
        (h j q d there (sym (get-set stamps i j stamp apart-rows) ∙ stamped) other)

pub entries-put : (count : ℕ) (entries : List (ℕ × ℤ)) (cost : Bool) (place : Option ℕ) (v : ℤ)
    → ((p : ℕ) → place ≡ Some p → (p < count) × AllByRecursion (λ e. (e.0 == p) ≡ false) entries) → AreDistinctEntries count entries
    → AreDistinctEntries count (put_entries cost place v entries)
entries-put count entries false (Some p) v f d = by (int_eq v (pos 0)) refl
  where
    by : (b : Bool) → int_eq v (pos 0) ≡ b → AreDistinctEntries count (if b then entries else entries ++ (p, v) ∷ [])
    by true e = d
    by false e = entries-push count entries p v (f p refl).0 (λ k. both_ways _ e ((Decides-int_eq v (pos 0)).1 k)) (f p refl).1 d
entries-put count entries _ _ v f d = d

pub length-names : (rs : List Row) → length (declared_row_names rs) ≡ length rs
length-names rs = length-map rs (λ r. r.name.items)

-- the row that a name found has its place
pub place-within : (r : Rows) (i : ℕ) (row : List ℕ) → RowsFit r → slice_get (names_of r.names) i ≡ Some row → i < length r.places.items
place-within r i row fit at =
    omega (arith, slice_get_within (names_of r.names) i row at, length-places 0 (names_of r.names) r.places.items (declared_row_names r.rows.items) fit.places)

pub stamp-within : (r : Rows) (i : ℕ) (row : List ℕ) → RowsFit r → slice_get (names_of r.names) i ≡ Some row → i < length r.stamps.items
stamp-within r i row fit at = omega (arith, slice_get_within (names_of r.names) i row at, fit.stamps, length-bytes r.names.keys)

pub place-here : (r : Rows) (i : ℕ) (row : List ℕ) (place : Option ℕ) → RowsFit r → slice_get (names_of r.names) i ≡ Some row
    → place ≡ get_or r.places.items i place → slice_get r.places.items i ≡ Some place
place-here r i row place fit at e = slice_get_read r.places.items _ i place refl (place-within r i row fit at) e

pub pair-fits : (r new : Rows) (column after : OpenColumn) (stamp i : ℕ) (row : List ℕ) (cost : Bool) (place : Option ℕ) (v : ℤ) → RowsFit r
    → slice_get (names_of r.names) i ≡ Some row → slice_get r.places.items i ≡ Some place
    → ((d : ℕ) → slice_get r.stamps.items i ≡ Some d → (d == stamp) ≡ false) → new.places ≡ r.places → new.rows ≡ r.rows
    → new.stamps.items ≡ slice_set r.stamps.items i stamp → after.entries.items ≡ put_entries cost place v column.entries.items
    → PairsFit stamp r column → PairsFit stamp new after
pair-fits r new column after stamp i row cost place v fit at here fresh places rows stamps entries h =
    let stamped = slice_get-get_or r.stamps.items i 0 (stamp-within r i row fit at) in
    record {
      entries = subst (λ q. AreDistinctEntries (length q.items) after.entries.items) (sym rows)
          (subst (λ es. AreDistinctEntries (length r.rows.items) es) (sym entries) (entries-put (length r.rows.items) column.entries.items cost place v
          (λ p e. let there = placed 0 (names_of r.names) r.places.items (declared_row_names r.rows.items) i p fit.places (here ∙ ap (λ o. Some o) e) in (
            omega (arith, there.1, length-names r.rows.items),
            h.apart i p (get_or r.stamps.items i 0) (here ∙ ap (λ o. Some o) e) stamped
                (fresh (get_or r.stamps.items i 0) stamped),
          )) h.entries));
      apart = subst (λ q. IsApart new.stamps.items q.items stamp after.entries.items) (sym places)
          (subst (λ s. IsApart s r.places.items stamp after.entries.items) (sym stamps)
          (subst (λ es. IsApart (slice_set r.stamps.items i stamp) r.places.items stamp es) (sym entries)
          (apart-put (names_of r.names) r.places.items (declared_row_names r.rows.items) r.stamps.items column.entries.items i stamp cost place v
          fit.places here h.apart)));
    }
