-- The pairs of a line of RHS, and of one of COLUMNS after the column.
use Rattle.std.proofs.Common.{◌≡◌, ◌≢◌, ℕ, Bool, true, false, ◌||◌, List, [], ◌∷◌, ◌++◌, length, map, drop, refl, sym, ap}
use Rattle.std.proofs.Common.{subst, ◌∙◌, arith, Option, Some, ℤ, pos, get_or}
use Rattle.std.specs.Prelude.{◌==◌, bytes_eq, find, if◌then◌else◌}
use Rattle.std.specs.Option.{option_map_or}
use Rattle.std.proofs.lemmas.Bool.{both_ways, eqb-true}
use denote.Ref.{Bor}
use Rattle.auction_terms.specs.Lines.{bytes_of}
use Rattle.program_rows.specs.MpsProgram.{pairs, value, number_beside}
use Rattle.mps_reader.specs.inside.Rows.{StampsAre}
use Rattle.mps_reader.specs.inside.Tracking.{HoldsNumbers}
use Rattle.mps_reader.specs.declared.tables.OpenColumn.{OpenColumn}
use Rattle.mps_reader.proofs.NameFacts.{same_name}
use Rattle.mps_reader.proofs.RowStepFacts.{no_name}
use Rattle.mps_reader.proofs.PairFaultFacts.{has_row}

-- the row or the number at a place
abbrev pub at : List (Bor (List ℕ)) → ℕ → List ℕ
at fs n = (get_or fs n no_name).now

pub one-pair : (fs : List (Bor (List ℕ))) → length fs ≡ 2 → pairs (bytes_of fs) ≡ (at fs 0, at fs 1) ∷ []
one-pair (a ∷ b ∷ []) h = refl
one-pair _ h = absurd (omega arith)

pub two-pairs : (fs : List (Bor (List ℕ))) → length fs ≡ 4 → pairs (bytes_of fs) ≡ (at fs 0, at fs 1) ∷ (at fs 2, at fs 3) ∷ []
two-pairs (a ∷ b ∷ c ∷ d ∷ []) h = refl
two-pairs _ h = absurd (omega arith)

pub one-after : (fs : List (Bor (List ℕ))) → length fs ≡ 3 → pairs (drop 1 (bytes_of fs)) ≡ (at fs 1, at fs 2) ∷ []
one-after [] h = absurd (omega arith)
one-after (f ∷ fs) h = one-pair fs (omega arith)

pub two-after : (fs : List (Bor (List ℕ))) → length fs ≡ 5 → pairs (drop 1 (bytes_of fs)) ≡ (at fs 1, at fs 2) ∷ (at fs 3, at fs 4) ∷ []
two-after [] h = absurd (omega arith)
two-after (f ∷ fs) h = two-pairs fs (omega arith)

-- of one pair or two, the first
first-of : (ps : List (List ℕ × List ℕ)) (p q : List ℕ × List ℕ) (a b n : ℕ) → (n ≡ a → ps ≡ p ∷ []) → (n ≡ b → ps ≡ p ∷ q ∷ [])
    → ((n == a) || (n == b)) ≡ true → (more : List (List ℕ × List ℕ)) × (ps ≡ p ∷ more)
first-of ps p q a b n one two h = by (n == a) refl
  where
    by : (t : Bool) → (n == a) ≡ t → (more : List (List ℕ × List ℕ)) × (ps ≡ p ∷ more)
    by true e = ([], one (eqb-true _ _ e))
    by false e = (q ∷ [], two (eqb-true _ _ (ap (λ t. t || (n == b)) (sym e) ∙ h)))

pub first-pair : (fs : List (Bor (List ℕ))) → ((length fs == 2) || (length fs == 4)) ≡ true
    → (more : List (List ℕ × List ℕ)) × (pairs (bytes_of fs) ≡ (at fs 0, at fs 1) ∷ more)
first-pair fs = first-of _ _ _ 2 4 (length fs) (one-pair fs) (two-pairs fs)

pub first-after : (fs : List (Bor (List ℕ))) → ((length fs == 3) || (length fs == 5)) ≡ true
    → (more : List (List ℕ × List ℕ)) × (pairs (drop 1 (bytes_of fs)) ≡ (at fs 1, at fs 2) ∷ more)
first-after fs = first-of _ _ _ 3 5 (length fs) (one-after fs) (two-after fs)

pub the-other : (a b n : ℕ) → ((n == a) || (n == b)) ≡ true → n ≢ b → n ≡ a
the-other a b n h ne = by (n == a) refl
  where
    by : (t : Bool) → (n == a) ≡ t → n ≡ a
    by true e = eqb-true _ _ e
    by false e = absurd (ne (eqb-true _ _ (ap (λ t. t || (n == b)) (sym e) ∙ h)))

-- ---- other tests of rows, and other numbers, with equal values

stamps-same : (stamps : List ℕ) (stamp : ℕ) (ns : List (List ℕ)) (has other : List ℕ → Bool) → ((n : List ℕ) → has n ≡ other n)
    → StampsAre stamps stamp ns has → StampsAre stamps stamp ns other
stamps-same stamps stamp ns has other e h = h ∙ go ns
  where
    go : (ns : List (List ℕ)) → map has ns ≡ map other ns
    go [] = refl
    go (n ∷ ns) = rw (e n) (ap (λ bs. other n ∷ bs) (go ns))

pub open-same : (o : Option (List ℕ)) (rows : List (List ℕ)) (number other : List ℕ → ℤ) (column : OpenColumn)
    → ((n : List ℕ) → number n ≡ other n) → HoldsNumbers o rows number column → HoldsNumbers o rows other column
open-same o rows number other column e h = record { cost = h.cost ∙ e _; entries = λ p n at. h.entries p n at ∙ e n }

number-one : (row number : List ℕ) (earlier : List (List ℕ × List ℕ)) (n : List ℕ)
    → (if bytes_eq n row then value number else number_beside earlier n) ≡ number_beside ((row, number) ∷ earlier) n
number-one row number earlier n = by (bytes_eq n row)
  where
    by : (b : Bool) → (if b then value number else number_beside earlier n) ≡ option_map_or (λ (p : List ℕ × List ℕ). value p.1)
        (if b then Some (row, number) else find (λ (p : List ℕ × List ℕ). bytes_eq n p.0) earlier) (pos 0)
    by true = refl
    by false = refl

swap-or : (a b c : Bool) → (a || (b || c)) ≡ (b || (a || c))
swap-or true true c = refl
swap-or _ _ c = refl

-- if the rows differ, the order doesn't matter
number-two : (row number row2 number2 : List ℕ) (earlier : List (List ℕ × List ℕ)) → bytes_eq row2 row ≡ false → (n : List ℕ)
    → (if bytes_eq n row2 then value number2 else number_beside ((row, number) ∷ earlier) n) ≡ number_beside ((row, number) ∷ (row2, number2) ∷ earlier) n
number-two row number row2 number2 earlier differ n = by (bytes_eq n row2) (bytes_eq n row) refl refl
  where
    by : (a b : Bool) → bytes_eq n row2 ≡ a → bytes_eq n row ≡ b
        → (if a then value number2 else option_map_or (λ (p : List ℕ × List ℕ). value p.1)
        (if b then Some (row, number) else find (λ (p : List ℕ × List ℕ). bytes_eq n p.0) earlier) (pos 0))
        ≡ option_map_or (λ (p : List ℕ × List ℕ). value p.1) (if b then Some (row, number) else
        (if a then Some (row2, number2) else find (λ (p : List ℕ × List ℕ). bytes_eq n p.0) earlier)) (pos 0)
    by true true h k = absurd (both_ways _ differ (subst (λ x. bytes_eq x row ≡ true) (same_name n row2 h) k))
    by _ _ h k = refl

-- ---- the pairs of a line in front of earlier ones

pub two-stamps : (ps : List (List ℕ × List ℕ)) (row number row2 number2 : List ℕ) (stamps : List ℕ) (stamp : ℕ) (ns : List (List ℕ))
    (earlier : List (List ℕ × List ℕ))
    → ps ≡ (row, number) ∷ (row2, number2) ∷ []
    → StampsAre stamps stamp ns (has_row ((row2, number2) ∷ (row, number) ∷ earlier)) → StampsAre stamps stamp ns (has_row (ps ++ earlier))
two-stamps ps row number row2 number2 stamps stamp ns earlier e h =
    stamps-same stamps stamp ns (has_row ((row2, number2) ∷ (row, number) ∷ earlier)) (has_row (ps ++ earlier))
    (λ n. swap-or (bytes_eq n row2) (bytes_eq n row) (has_row earlier n) ∙ ap (λ qs. has_row (qs ++ earlier) n) (sym e)) h

pub one-number : (ps : List (List ℕ × List ℕ)) (row number : List ℕ) (earlier : List (List ℕ × List ℕ)) → ps ≡ (row, number) ∷ []
    → (n : List ℕ) → (if bytes_eq n row then value number else number_beside earlier n) ≡ number_beside (ps ++ earlier) n
one-number ps row number earlier e n = number-one row number earlier n ∙ ap (λ qs. number_beside (qs ++ earlier) n) (sym e)

pub two-numbers : (ps : List (List ℕ × List ℕ)) (row number row2 number2 : List ℕ) (earlier : List (List ℕ × List ℕ))
    → ps ≡ (row, number) ∷ (row2, number2) ∷ [] → bytes_eq row2 row ≡ false
    → (n : List ℕ)
    → (if bytes_eq n row2 then value number2 else (if bytes_eq n row then value number else number_beside earlier n)) ≡ number_beside (ps ++ earlier) n
two-numbers ps row number row2 number2 earlier e differ n =
    ap (λ z. if bytes_eq n row2 then value number2 else z) (number-one row number earlier n) ∙ number-two row number row2 number2 earlier differ n
    ∙ ap (λ qs. number_beside (qs ++ earlier) n) (sym e)
