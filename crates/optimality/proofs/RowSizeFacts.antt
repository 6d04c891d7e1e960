-- The rows of a program as forms: the numbers of each are no larger than its coefficients.
use Rattle.std.proofs.Common.{◌≡◌, ℕ, suc, ◌+◌, ◌<◌, ◌≤◌, Bool, true, false, cond, List, [], ◌∷◌, ◌++◌, Some, length, refl}
use Rattle.std.proofs.Common.{sym, ap, ◌∙◌, arith, get_or-set_other, ℤ, pos, ◌≢◌}
use Rattle.std.specs.Prelude.{◌==◌, find, replicate, unsigned_abs}
use Rattle.std.specs.Option.{option_map_or}
use Rattle.std.specs.List.{AllByRecursion}
use Rattle.std.proofs.lemmas.List.{length-replicate, get_or-replicate, get_or_past}
use Rattle.std.proofs.lemmas.Grind.{get_or-set_at}
use Rattle.std.proofs.lemmas.Int.{ints, by_lt_z}
use Rattle.std.proofs.lemmas.Bool.Decides.{nat_tests}
use Rattle.program_rows.specs.Program.{Table, TableColumn}
use Rattle.program_rows.specs.Parts.{AreEntries, IsProgram}
use Rattle.optimality.specs.Certificates.{Form}
use Rattle.optimality.specs.Sizes.{coefficients_size, size_of}
use Rattle.optimality.specs.inside.Sizes.{form_size}
use Rattle.optimality.specs.Adding.{form_at}
use Rattle.optimality.specs.inside.Adding.{size_in}
use Rattle.optimality.specs.RowForms.{with_term, with_entries, with_columns, row_forms}
use Rattle.optimality.proofs.RowFacts.{length-term, length-entries, length-columns}

-- ---------- what the forms hold ----------

abbrev held : List Form → ℕ → ℕ
held forms row = form_size (form_at forms row)

size-more : (form : Form) (t : ℕ × ℤ) → form_size (form ++ t ∷ []) ≡ form_size form + unsigned_abs t.1
size-more [] t = omega arith
size-more (s ∷ form) t = let later = size-more form t in omega arith

term-at : (place : ℕ) (t : ℕ × ℤ) (forms : List Form) (row : ℕ) → row < length forms
    → held (with_term place t forms) row ≡ held forms row + cond (place == row) (unsigned_abs t.1) 0
term-at place t forms row h = by (place == row) refl
  where
    by : (b : Bool) → (place == row) ≡ b → held (with_term place t forms) row ≡ held forms row + cond b (unsigned_abs t.1) 0
    by true e =
        let same : row ≡ place = grind (arith, nat_tests) in
        let within : place < length forms = omega arith in
        ap form_size (get_or-set_at forms place row (form_at forms place ++ t ∷ []) [] same within)
        ∙ size-more (form_at forms place) t ∙ ap (λ (k : ℕ). held forms k + unsigned_abs t.1) (sym same)
    by false e =
        let other : row ≢ place = grind (arith, nat_tests) in
        ap form_size (get_or-set_other forms place row (form_at forms place ++ t ∷ []) [] other) ∙ omega arith

entries-at : (place : ℕ) (es : List (ℕ × ℤ)) (forms : List Form) (row : ℕ) → row < length forms
    → held (with_entries place es forms) row ≡ held forms row + size_in es row
entries-at place [] forms row h = omega arith
entries-at place (e ∷ es) forms row h =
    let longer : row < length (with_term e.0 (place, e.1) forms) = omega (arith, length-term e.0 (place, e.1) forms) in
    omega (arith, entries-at place es (with_term e.0 (place, e.1) forms) row longer, term-at e.0 (place, e.1) forms row h)

columns-at : (place : ℕ) (cs : List TableColumn) (forms : List Form) (row : ℕ) → row < length forms
    → held (with_columns place cs forms) row ≡ held forms row + size_of (λ c. size_in c.entries row) cs
columns-at place [] forms row h = omega arith
columns-at place (c ∷ cs) forms row h =
    let longer : row < length (with_entries place c.entries forms) = omega (arith, length-entries place c.entries forms) in
    omega (arith, columns-at (suc place) cs (with_entries place c.entries forms) row longer, entries-at place c.entries forms row h)

-- ---------- entries ----------

none-later : (row i : ℕ) (es : List (ℕ × ℤ)) → row ≡ i → AllByRecursion (λ later. i < later.0) es → size_in es row ≡ 0
none-later row i [] p h = refl
none-later row i (e ∷ es) p h =
    let other : (e.0 == row) ≡ false = grind (arith, nat_tests, h.0) in
    rw (other, none-later row i es p h.1) refl

entry-is : (m row : ℕ) (es : List (ℕ × ℤ)) → AreEntries m es → size_in es row ≡ unsigned_abs (option_map_or (λ e. e.1) (find (λ e. e.0 == row) es) (pos 0))
entry-is m row [] h = refl
entry-is m row (e ∷ es) h = by (entry-is m row es h.3) (e.0 == row) refl
  where
    by : size_in es row ≡ unsigned_abs (option_map_or (λ x. x.1) (find (λ x. x.0 == row) es) (pos 0)) → (b : Bool) → (e.0 == row) ≡ b
        → cond b (unsigned_abs e.1) 0 + size_in es row ≡ unsigned_abs (option_map_or (λ x. x.1) (cond b (Some e) (find (λ x. x.0 == row) es)) (pos 0))
    by rest true q =
        let same : row ≡ e.0 = grind (arith, nat_tests) in
        omega (arith, none-later row e.0 es same h.2)
    by rest false q = omega arith

columns-are : (m row : ℕ) (cs : List TableColumn) → AllByRecursion (λ d. AreEntries m d.entries) cs
    → size_of (λ c. size_in c.entries row) cs ≡ coefficients_size cs row
columns-are m row [] h = refl
columns-are m row (c ∷ cs) h = omega (arith, entry-is m row c.entries h.0, columns-are m row cs h.1)

pub row-form-within : (p : Table) → IsProgram p → (row : ℕ) → form_size (form_at (row_forms p) row) ≤ coefficients_size p.columns row
row-form-within p h row =
    let m = length p.rows in
    let none : List Form = replicate m [] in
    by_lt_z (pos row) (pos m)
    (λ less.
    let l : row < m = omega (arith, ints) in
    let short : row < length none = omega (arith, length-replicate {A = Form} m []) in
    let empty : held none row ≡ 0 = ap form_size (get_or-replicate {A = Form} m row [] [] l) in
    let all = columns-at 0 p.columns none row short in
    let are = columns-are m row p.columns h.entries in
    omega arith)
    (λ more.
    let l : m ≤ row = omega (arith, ints) in
    let after : length (row_forms p) ≤ row = omega (arith, length-columns 0 p.columns none, length-replicate {A = Form} m []) in
    let empty : held (row_forms p) row ≡ 0 = ap form_size (get_or_past (row_forms p) row [] after) in
    omega arith)
