-- The entries of a column come back in row order.
use Rattle.std.proofs.Common.{◌≡◌, ℕ, ◌+◌, ◌<◌, ◌≤◌, false, List, [], ◌∷◌, length, map, refl, ◌∙◌, arith, Option, None, inl, inr}
use Rattle.std.specs.Prelude.{◌⊎◌, ◌≢◌, bytes_eq, filter, not, ℤ, pos}
use Rattle.std.proofs.Math.Nat.{eq-or-lt_of_le}
use Rattle.std.specs.Option.{option_map_or}
use Rattle.std.specs.Ordering.{int_eq}
use Rattle.std.specs.List.{AllByRecursion, enumerate_from}
use Rattle.std.specs.Fmt.{signed_decimal}
use Rattle.std.proofs.lemmas.Bool.{false_from_ne_true}
use Rattle.std.proofs.lemmas.Bool.Decides.{Decides-int_eq}
use Rattle.auction_terms.proofs.OfferFacts.{all_agree}
use Rattle.program_rows.specs.Program.{TableRow}
use Rattle.program_rows.specs.Parts.{AreEntries}
use Rattle.program_rows.specs.MpsProgram.{value}
use Rattle.mps_text.proofs.NumberFacts.{IsSmall, number-signed_decimal}
use Rattle.program_rows.proofs.NamedItemFacts.{bytes_flip}
use Rattle.mps_text.proofs.ColumnPhaseFacts.{Pair, same-name}
use Rattle.mps_text.proofs.ColumnsBackFacts.{look}

-- the name of a row and the number of an entry
abbrev pub pair_of : (ℕ → List ℕ) → ℕ × ℤ → Pair
pair_of name e = (name e.0, signed_decimal e.1)

abbrev pub worth : Option Pair → ℤ
worth found = option_map_or (λ pair. value pair.1) found (pos 0)

-- names of different places differ
abbrev pub PlacesDiffer : (ℕ → List ℕ) → ℕ → Type 0
PlacesDiffer name n = (i j : ℕ) → i < j → j < n → bytes_eq (name i) (name j) ≡ false

none-looked : (name : ℕ → List ℕ) (n i : ℕ) (es : List (ℕ × ℤ)) → PlacesDiffer name n → AreEntries n es → AllByRecursion (λ e. i < e.0) es
    → look (name i) (map (pair_of name) es) ≡ None
none-looked name n i [] differ legal h = refl
none-looked name n i (e ∷ es) differ legal h = rw (differ i e.0 h.0 legal.0) (none-looked name n i es differ legal.3 h.1)

-- after the place of the first entry, only the others count
later : (name : ℕ → List ℕ) (n : ℕ) (f : ℕ × TableRow → ℤ) (i : ℕ) (number : List ℕ) (pairs : List Pair) (k : ℕ) (rows : List TableRow)
    → PlacesDiffer name n → k + length rows ≤ n → i < k
    → AllByRecursion (λ r. f r ≡ worth (look (name r.0) ((name i, number) ∷ pairs))) (enumerate_from k rows)
    → AllByRecursion (λ r. f r ≡ worth (look (name r.0) pairs)) (enumerate_from k rows)
later name n f i number pairs k [] differ len lt h = tt
later name n f i number pairs k (r ∷ rows) differ len lt h = (
  h.0 ∙ rw (bytes_flip (name i) (name k) (differ i k lt (omega arith))) refl,
  later name n f i number pairs (k + 1) rows differ (omega arith) (omega arith) h.1,
)

not-nought : (z : ℤ) → z ≢ pos 0 → int_eq z (pos 0) ≡ false
not-nought z h = false_from_ne_true _ (λ e. h ((Decides-int_eq z (pos 0)).0 e))

pub entries-back : (name : ℕ → List ℕ) (n : ℕ) (f : ℕ × TableRow → ℤ) (k : ℕ) (rows : List TableRow) (es : List (ℕ × ℤ))
    → PlacesDiffer name n → k + length rows ≡ n → AreEntries n es → AllByRecursion (λ e. k ≤ e.0) es
    → AllByRecursion (λ e. IsSmall e.1) es → AllByRecursion (λ r. f r ≡ worth (look (name r.0) (map (pair_of name) es))) (enumerate_from k rows)
    → filter (λ e. not (int_eq e.1 (pos 0))) (map (λ r. (r.0, f r)) (enumerate_from k rows)) ≡ es
entries-back name n f k [] [] differ len legal from small h = refl
entries-back name n f k [] (e ∷ es) differ len legal from small h = let a = legal.0 in let b = from.0 in absurd (omega arith)
entries-back name n f k (r ∷ rows) [] differ len legal from small h = rw (h.0) (entries-back name n f (k + 1) rows [] differ (omega arith) tt tt tt h.1)
entries-back name n f k (r ∷ rows) ((i, z) ∷ es) differ len legal from small h =
    by (eq-or-lt_of_le from.0) (λ at. entries-back name n f (k + 1) rows es differ (omega arith) legal.3 (next at) small.1)
    (λ at. entries-back name n f (k + 1) rows ((i, z) ∷ es) differ (omega arith) legal
    (omega arith, all_agree (λ e. i < e.0) (λ e. k + 1 ≤ e.0) es (λ e l. omega arith) legal.2) small h.1)
  where
    next : k ≡ i → AllByRecursion (λ e. k + 1 ≤ e.0) es
    next at = all_agree (λ e. i < e.0) (λ e. k + 1 ≤ e.0) es (λ e l. omega arith) legal.2

    by : (k ≡ i) ⊎ (k < i)
        → (k ≡ i → AllByRecursion (λ q. f q ≡ worth (look (name q.0) (map (pair_of name) es))) (enumerate_from (k + 1) rows) → filter
        (λ e. not (int_eq e.1 (pos 0))) (map (λ q. (q.0, f q)) (enumerate_from (k + 1) rows)) ≡ es)
        → (k < i → filter (λ e. not (int_eq e.1 (pos 0))) (map (λ q. (q.0, f q)) (enumerate_from (k + 1) rows)) ≡ (i, z) ∷ es)
        → filter (λ e. not (int_eq e.1 (pos 0))) (map (λ q. (q.0, f q)) (enumerate_from k (r ∷ rows))) ≡ (i, z) ∷ es
    by (inl at) here after =
        let rest = here at (later name n f i (signed_decimal z) (map (pair_of name) es) (k + 1) rows differ (omega arith) (omega arith) h.1) in
        let value_at : f (k, r) ≡ z = h.0 ∙ rw (at, same-name (name i), number-signed_decimal z small.0) refl in
        rw (value_at, not-nought z legal.1, rest, at) refl
    by (inr lt) here after =
        let none : f (k, r) ≡ pos 0 = h.0 ∙ rw (
          differ k i lt legal.0,
          none-looked name n k es differ legal.3 (all_agree (λ e. i < e.0)
              (λ e. k < e.0) es (λ e l. omega arith) legal.2),
        ) refl in
        rw none (after lt)
