-- Counting entries, column by column.
use Rattle.std.proofs.Common.{◌≡◌, ◌+◌, ◌-◌, ◌^◌, ℕ, zero, suc, List, [], ◌∷◌, ◌++◌, Option, None, Some, length, take, refl}
use Rattle.std.proofs.Common.{ap, sym, ◌∙◌, arith, min, slice_get, sum_by, ℤ, option_map}
use Rattle.std.proofs.lemmas.List.Sums.{sum_by-append}
use Rattle.program_rows.specs.Program.{TableColumn}

-- how many entries these columns have, up to the greatest number of 64 bits
abbrev pub entry_count : List TableColumn → ℕ
entry_count columns = min (sum_by (λ (c : TableColumn). length c.entries) columns) (2 ^ 64 - 1)

found : (o : Option TableColumn) (entries : List (ℕ × ℤ)) → option_map (λ (c : TableColumn). c.entries) o ≡ Some entries
    → (c : TableColumn) × (o ≡ Some c) × (c.entries ≡ entries)
found None entries is = cc
found (Some c) entries is = (c, refl, cc)

one_more : (columns : List TableColumn) (i : ℕ) (c : TableColumn) → slice_get columns i ≡ Some c → take (suc i) columns ≡ take i columns ++ c ∷ []
one_more [] i c is = cc
one_more (d ∷ columns) zero c is = let same : d ≡ c = cc in ap (λ (x : TableColumn). x ∷ []) same
one_more (d ∷ columns) (suc i) c is = ap (λ (rest : List TableColumn). d ∷ rest) (one_more columns i c is)

with_next : (columns : List TableColumn) (i : ℕ) (entries : List (ℕ × ℤ)) → option_map (λ (c : TableColumn). c.entries) (slice_get columns i) ≡ Some entries
    → sum_by (λ (c : TableColumn). length c.entries) (take (suc i) columns) ≡ sum_by (λ (c : TableColumn). length c.entries) (take i columns) + length entries
with_next columns i entries is =
    let (c, stands, own) = found (slice_get columns i) entries is in
    ap (sum_by (λ (c : TableColumn). length c.entries)) (one_more columns i c stands)
    ∙ sum_by-append (λ (c : TableColumn). length c.entries) (take i columns) (c ∷ [])
    ∙ ap (λ n. sum_by (λ (c : TableColumn). length c.entries) (take i columns) + n)
    (let long : 0 + length c.entries ≡ length c.entries = omega arith in long ∙ ap (λ (es : List (ℕ × ℤ)). length es) own)

stops : (s n count count' : ℕ) → count ≡ min s (2 ^ 64 - 1) → count' ≡ min (count + n) (2 ^ 64 - 1) → count' ≡ min (s + n) (2 ^ 64 - 1)
stops s n count count' is is' = omega arith

pub entries-more : (columns : List TableColumn) (i : ℕ) (entries : List (ℕ × ℤ)) (count count' : ℕ)
    → option_map (λ (c : TableColumn). c.entries) (slice_get columns i) ≡ Some entries
    → count ≡ entry_count (take i columns) → count' ≡ min (count + length entries) (2 ^ 64 - 1) → count' ≡ entry_count (take (i + 1) columns)
entries-more columns i entries count count' next is is' =
    let one : suc i ≡ i + 1 = omega arith in
    stops (sum_by (λ (c : TableColumn). length c.entries) (take i columns)) (length entries) count count' is is'
    ∙ ap (λ n. min n (2 ^ 64 - 1)) (sym (with_next columns i entries next))
    ∙ ap (λ k. entry_count (take k columns)) one
