-- Rows by name, and their stamps.
use Rattle.std.proofs.Common.{◌≡◌, ℕ, zero, suc, ◌+◌, ◌<◌, Bool, true, false, not, List, [], ◌∷◌, length, refl, sym, ap, subst, ◌∙◌, arith, Some, None, get_or}
use Rattle.mps_reader.proofs.FieldFacts.{some-is}
use Rattle.std.specs.Prelude.{◌==◌, slice_get, position, nat_lt, bytes_eq}
use Rattle.std.specs.List.{list_any, position_or_len}
use Rattle.std.proofs.lemmas.Bool.{ltb-true}
use denote.Ref.{Bor}
use Rattle.program_rows.specs.declared.mps_fault_kind.MpsFaultKind.TheVariants.{UnknownRow, EntryRepeated}
use Rattle.program_rows.specs.MpsFaults.{earliest_fault}
use Rattle.auction_terms.specs.Lines.{bytes_of}
use Rattle.mps_reader.specs.inside.Rows.{StampsAre}
use Rattle.mps_reader.proofs.NameFacts.{same_name}
use Rattle.std.specs.Bool.{then_some as when}

at-position : (row : List ℕ) (ks : List (Bor (List ℕ))) → position_or_len (λ k. bytes_eq row k.now) ks < length ks
    → slice_get (bytes_of ks) (position_or_len (λ k. bytes_eq row k.now) ks) ≡ Some row
at-position row [] h = absurd (omega arith)
at-position row (k ∷ ks) h = by (bytes_eq row k.now) refl (at-position row ks)
  where
    by : (b : Bool) → bytes_eq row k.now ≡ b → (position_or_len (λ k. bytes_eq row k.now) ks < length ks
        → slice_get (bytes_of ks) (position_or_len (λ k. bytes_eq row k.now) ks) ≡ Some row)
        → slice_get (bytes_of (k ∷ ks)) (position_or_len (λ k. bytes_eq row k.now) (k ∷ ks)) ≡ Some row
    by true e more = rw e (ap (λ n. Some n) (sym (same_name row k.now e)))
    by false e more =
        let next : 1 + position_or_len (λ k. bytes_eq row k.now) ks ≡ suc (position_or_len (λ k. bytes_eq row k.now) ks) = omega arith in
        let here : 1 + position_or_len (λ k. bytes_eq row k.now) ks < suc (length ks) = rw e at h in
        rw (e, next) (more (omega arith))

-- the row at the place that is found
pub found-row : (row : List ℕ) (ks : List (Bor (List ℕ))) (i : ℕ) → Some i ≡ position (λ k. bytes_eq row k.now) ks → slice_get (bytes_of ks) i ≡ Some row
found-row row ks i h =
    let found = some-is (nat_lt (position_or_len (λ k. bytes_eq row k.now) ks) (length ks)) (position_or_len (λ k. bytes_eq row k.now) ks) i h in
    subst (λ n. slice_get (bytes_of ks) n ≡ Some row) found.1 (at-position row ks (ltb-true _ _ found.0))

stamp-at : (stamp : ℕ) (has : List ℕ → Bool) (stamps : List ℕ) (names : List (List ℕ)) (i d : ℕ) (n : List ℕ)
    → StampsAre stamps stamp names has → slice_get names i ≡ Some n → (get_or stamps i d == stamp) ≡ has n
stamp-at stamp has stamps [] i d n h e = absurd cc
stamp-at stamp has [] (m ∷ names) i d n h e = absurd cc
stamp-at stamp has (s ∷ stamps) (m ∷ names) zero d n h e = let same : m ≡ n = cc in let head : (s == stamp) ≡ has m = cc in head ∙ ap has same
stamp-at stamp has (s ∷ stamps) (m ∷ names) (suc i) d n h e = let rest : StampsAre stamps stamp names has = cc in stamp-at stamp has stamps names i d n rest e

pub unknown-fault : (t h : Bool) → t ≡ false → earliest_fault (when (not t) UnknownRow ∷ when h EntryRepeated ∷ []) ≡ Some UnknownRow
unknown-fault t h e = rw e refl

pub repeated-fault : (stamp : ℕ) (has : List ℕ → Bool) (stamps : List ℕ) (names : List (List ℕ)) (i d : ℕ) (row : List ℕ)
    → list_any (bytes_eq row) names ≡ true → StampsAre stamps stamp names has → slice_get names i ≡ Some row
    → (get_or stamps i d == stamp) ≡ true
    → earliest_fault (when (not (list_any (bytes_eq row) names)) UnknownRow ∷ when (has row) EntryRepeated ∷ []) ≡ Some EntryRepeated
repeated-fault stamp has stamps names i d row known h e t = rw (known, sym (stamp-at stamp has stamps names i d row h e) ∙ t) refl

pub no-fault : (stamp : ℕ) (has : List ℕ → Bool) (stamps : List ℕ) (names : List (List ℕ)) (i d : ℕ) (row : List ℕ)
    → list_any (bytes_eq row) names ≡ true → StampsAre stamps stamp names has → slice_get names i ≡ Some row
    → (get_or stamps i d == stamp) ≡ false
    → earliest_fault (when (not (list_any (bytes_eq row) names)) UnknownRow ∷ when (has row) EntryRepeated ∷ []) ≡ None
no-fault stamp has stamps names i d row known h e t = rw (known, sym (stamp-at stamp has stamps names i d row h e) ∙ t) refl
