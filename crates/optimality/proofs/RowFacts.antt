-- The rows of a program as forms: what each gives a column is its coefficient there.
use Rattle.std.proofs.Common.{◌≡◌, ℕ, zero, suc, ◌+◌, ◌<◌, ◌≤◌, Bool, true, false, cond, drop, List, [], ◌∷◌, ◌++◌, Some}
use Rattle.std.proofs.Common.{length, slice_get, refl, subst, sym, ap, ◌∙◌, arith, get_or, get_or-set_other, length-set, ℤ}
use Rattle.std.proofs.Common.{pos, ◌+ℤ◌, ◌≢◌}
use Rattle.optimality.proofs.PlaceFacts.{number-last, rest}
use Rattle.std.specs.Prelude.{◌==◌, find, replicate, slice_set}
use Rattle.std.specs.Option.{option_map, option_map_or}
use Rattle.std.specs.List.{AllByRecursion}
use Rattle.std.proofs.lemmas.List.{length-replicate, get_or-replicate, get_or_past, get_or-map, length-map, map-set}
use Rattle.std.proofs.lemmas.Grind.{get_or-set_at}
use Rattle.std.proofs.lemmas.Option.{get_or_from_slice_get, slice_get_within}
use Rattle.std.proofs.lemmas.Int.{ints, by_lt_z}
use Rattle.std.proofs.lemmas.Bool.Decides.{nat_tests}
use Rattle.program_rows.specs.Program.{Table, TableColumn}
use Rattle.program_rows.specs.Points.{coefficient_at}
use Rattle.program_rows.specs.Parts.{AreEntries, IsProgram}
use Rattle.optimality.specs.declared.row_forms.RowForm.{RowForm}
use Rattle.optimality.specs.Certificates.{Form, number_in}
use Rattle.optimality.specs.Adding.{form_at}
use Rattle.optimality.specs.RowForms.{form_held, with_term, with_entries, with_columns, row_forms, forms_held}

-- ---------- what the code does ----------

-- a term pushed onto the form of a row
pub term-pushed : (forms : List RowForm) (row : ℕ) (t : ℕ × ℤ) (d next : RowForm) → row < length forms
    → form_held next ≡ form_held (get_or forms row d) ++ t ∷ [] → forms_held (slice_set forms row next) ≡ with_term row t (forms_held forms)
term-pushed forms row t d next h e =
    map-set form_held forms row next
    ∙ ap (λ (form : Form). slice_set (forms_held forms) row form) (e ∙ ap (λ (form : Form). form ++ t ∷ []) (sym (get_or-map form_held forms row d [] h)))

unset : (forms : List Form) (row : ℕ) (form : Form) → length forms ≤ row → slice_set forms row form ≡ forms
unset [] row form past = refl
unset (f ∷ forms) zero form past = absurd (omega arith)
unset (f ∷ forms) (suc row) form past = ap (λ (fs : List Form). f ∷ fs) (unset forms row form (omega arith))

-- a term of a row that isn't there
pub term-nowhere : (forms : List RowForm) (row : ℕ) (t : ℕ × ℤ) → length forms ≤ row → forms_held forms ≡ with_term row t (forms_held forms)
term-nowhere forms row t past = sym (unset (forms_held forms) row _ (let count = length-map forms form_held in omega arith))

columns_there : (place i : ℕ) (cs : List TableColumn) (es : List (ℕ × ℤ)) (forms : List Form)
    → option_map (λ c. c.entries) (slice_get cs i) ≡ Some es
    → with_columns place (drop i cs) forms ≡ with_columns (suc place) (drop (suc i) cs) (with_entries place es forms)
columns_there place i [] es forms h = absurd cc
columns_there place zero (c ∷ cs) es forms h =
    let here : c.entries ≡ es = cc in ap (λ (x : List (ℕ × ℤ)). with_columns (suc place) cs (with_entries place x forms)) here
columns_there place (suc i) (c ∷ cs) es forms h = columns_there place i cs es forms h

-- one column more
pub columns-step : (i : ℕ) (cs : List TableColumn) (es : List (ℕ × ℤ)) (forms next all : List Form)
    → option_map (λ c. c.entries) (slice_get cs i) ≡ Some es → next ≡ with_entries i es forms
    → with_columns i (drop i cs) forms ≡ all → with_columns (i + 1) (drop (i + 1) cs) next ≡ all
columns-step i cs es forms next all e s h =
    let after : i + 1 ≡ suc i = omega arith in
    rw (after, s) (sym (columns_there i i cs es forms e) ∙ h)

-- ---------- what the forms are ----------

-- what the form of a row gives a place
abbrev given : List Form → ℕ → ℕ → ℤ
given forms row i = number_in (form_at forms row) i

pub length-term : (row : ℕ) (t : ℕ × ℤ) (forms : List Form) → length (with_term row t forms) ≡ length forms
length-term row t forms = length-set forms row (form_at forms row ++ t ∷ [])

pub length-entries : (place : ℕ) (es : List (ℕ × ℤ)) (forms : List Form) → length (with_entries place es forms) ≡ length forms
length-entries place [] forms = refl
length-entries place (e ∷ es) forms = length-entries place es (with_term e.0 (place, e.1) forms) ∙ length-term e.0 (place, e.1) forms

pub length-columns : (place : ℕ) (cs : List TableColumn) (forms : List Form) → length (with_columns place cs forms) ≡ length forms
length-columns place [] forms = refl
length-columns place (c ∷ cs) forms = length-columns (suc place) cs (with_entries place c.entries forms) ∙ length-entries place c.entries forms

term-at : (place : ℕ) (t : ℕ × ℤ) (forms : List Form) (row i : ℕ) → row < length forms
    → given (with_term place t forms) row i ≡ given forms row i +ℤ cond (place == row) (cond (t.0 == i) t.1 (pos 0)) (pos 0)
term-at place t forms row i h = by (place == row) refl
  where
    by : (b : Bool) → (place == row) ≡ b → given (with_term place t forms) row i ≡ given forms row i +ℤ cond b (cond (t.0 == i) t.1 (pos 0)) (pos 0)
    by true e =
        let same : row ≡ place = grind (arith, nat_tests) in
        let within : place < length forms = omega arith in
        ap (λ (form : Form). number_in form i) (get_or-set_at forms place row (form_at forms place ++ t ∷ []) [] same within)
        ∙ number-last (form_at forms place) t i ∙ ap (λ (k : ℕ). given forms k i +ℤ cond (t.0 == i) t.1 (pos 0)) (sym same)
    by false e =
        let other : row ≢ place = grind (arith, nat_tests) in
        ap (λ (form : Form). number_in form i) (get_or-set_other forms place row (form_at forms place ++ t ∷ []) [] other) ∙ omega (arith, ints)

exchanged : (a b : Bool) (n m : ℤ) → cond a (cond b n (pos 0)) (pos 0) +ℤ cond b m (pos 0) ≡ cond b (cond a n (pos 0) +ℤ m) (pos 0)
exchanged true true n m = refl
exchanged true false n m = refl
exchanged false true n m = refl
exchanged false false n m = refl

entries-at : (place : ℕ) (es : List (ℕ × ℤ)) (forms : List Form) (row i : ℕ) → row < length forms
    → given (with_entries place es forms) row i ≡ given forms row i +ℤ cond (place == i) (number_in es row) (pos 0)
entries-at place [] forms row i h = by (place == i)
  where
    by : (b : Bool) → given forms row i ≡ given forms row i +ℤ cond b (pos 0) (pos 0)
    by true = omega (arith, ints)
    by false = omega (arith, ints)
entries-at place (e ∷ es) forms row i h =
    let longer : row < length (with_term e.0 (place, e.1) forms) = omega (arith, length-term e.0 (place, e.1) forms) in
    let both = exchanged (e.0 == row) (place == i) e.1 (number_in es row) in
    omega (arith, ints, entries-at place es (with_term e.0 (place, e.1) forms) row i longer, term-at e.0 (place, e.1) forms row i h)

-- columns after a place give it nothing
passed : (place : ℕ) (cs : List TableColumn) (forms : List Form) (row i : ℕ) → row < length forms → i < place
    → given (with_columns place cs forms) row i ≡ given forms row i
passed place [] forms row i h l = refl
passed place (c ∷ cs) forms row i h l =
    let longer : row < length (with_entries place c.entries forms) = omega (arith, length-entries place c.entries forms) in
    let later = passed (suc place) cs (with_entries place c.entries forms) row i longer (omega arith) in
    let other : (place == i) ≡ false = grind (arith, nat_tests) in
    let none = ap (λ (b : Bool). cond b (number_in c.entries row) (pos 0)) other in
    omega (arith, ints, entries-at place c.entries forms row i h)

columns-at : (place j : ℕ) (cs : List TableColumn) (forms : List Form) (row i : ℕ) (c : TableColumn) → row < length forms → i ≡ place + j
    → slice_get cs j ≡ Some c → given (with_columns place cs forms) row i ≡ given forms row i +ℤ number_in c.entries row
columns-at place j [] forms row i c h e at = absurd cc
columns-at place zero (d ∷ cs) forms row i c h e at =
    let same : d ≡ c = cc in
    let longer : row < length (with_entries place d.entries forms) = omega (arith, length-entries place d.entries forms) in
    let later = passed (suc place) cs (with_entries place d.entries forms) row i longer (omega arith) in
    let first = entries-at place d.entries forms row i h in
    let here : (place == i) ≡ true = grind (arith, nat_tests) in
    let all = ap (λ (b : Bool). cond b (number_in d.entries row) (pos 0)) here in
    let given_here : given (with_columns place (d ∷ cs) forms) row i ≡ given forms row i +ℤ number_in d.entries row = omega (arith, ints) in
    given_here ∙ ap (λ (x : TableColumn). given forms row i +ℤ number_in x.entries row) same
columns-at place (suc j) (d ∷ cs) forms row i c h e at =
    let longer : row < length (with_entries place d.entries forms) = omega (arith, length-entries place d.entries forms) in
    let later = columns-at (suc place) j cs (with_entries place d.entries forms) row i c longer (omega arith) at in
    let other : (place == i) ≡ false = grind (arith, nat_tests) in
    let none = ap (λ (b : Bool). cond b (number_in d.entries row) (pos 0)) other in
    omega (arith, ints, entries-at place d.entries forms row i h)

-- ---------- entries ----------

-- no later entry has the place
none-later : (row i : ℕ) (es : List (ℕ × ℤ)) → row ≡ i → AllByRecursion (λ later. i < later.0) es → number_in es row ≡ pos 0
none-later row i [] p h = refl
none-later row i (e ∷ es) p h =
    let other : (e.0 == row) ≡ false = grind (arith, nat_tests, h.0) in
    rw (other, none-later row i es p h.1) refl

pub entry-is : (m row : ℕ) (es : List (ℕ × ℤ)) → AreEntries m es → number_in es row ≡ option_map_or (λ e. e.1) (find (λ e. e.0 == row) es) (pos 0)
entry-is m row [] h = refl
entry-is m row (e ∷ es) h = by (entry-is m row es h.3) (e.0 == row) refl
  where
    by : number_in es row ≡ option_map_or (λ x. x.1) (find (λ x. x.0 == row) es) (pos 0) → (b : Bool) → (e.0 == row) ≡ b
        → cond b e.1 (pos 0) +ℤ number_in es row ≡ option_map_or (λ x. x.1) (cond b (Some e) (find (λ x. x.0 == row) es)) (pos 0)
    by rest true q =
        let same : row ≡ e.0 = grind (arith, nat_tests) in
        omega (arith, ints, none-later row e.0 es same h.2)
    by rest false q = omega (arith, ints)

-- no entry comes after the last row
none-after : (m row : ℕ) (es : List (ℕ × ℤ)) → AreEntries m es → m ≤ row → number_in es row ≡ pos 0
none-after m row [] h l = refl
none-after m row (e ∷ es) h l =
    let other : (e.0 == row) ≡ false = grind (arith, nat_tests, h.0) in
    rw (other, none-after m row es h.3 l) refl

pub entries-of : (m : ℕ) (cs : List TableColumn) (i : ℕ) (c : TableColumn) → AllByRecursion (λ d. AreEntries m d.entries) cs
    → slice_get cs i ≡ Some c → AreEntries m c.entries
entries-of m [] i c h at = absurd cc
entries-of m (d ∷ cs) zero c h at = let same : d ≡ c = cc in subst (λ (x : TableColumn). AreEntries m x.entries) same h.0
entries-of m (d ∷ cs) (suc i) c h at = entries-of m cs i c h.1 at

-- the form of a row gives a column its coefficient
pub row-form-at : (p : Table) → IsProgram p → (row i : ℕ) (c : TableColumn) → slice_get p.columns i ≡ Some c
    → number_in (form_at (row_forms p) row) i ≡ coefficient_at row c
row-form-at p h row i c at =
    let m = length p.rows in
    let none = replicate m [] in
    let entries = entries-of m p.columns i c h.entries at in
    by_lt_z (pos row) (pos m)
    (λ less.
    let l : row < m = omega (arith, ints) in
    let short : row < length none = omega (arith, length-replicate {A = Form} m []) in
    let empty : given none row i ≡ pos 0 = ap (λ (form : Form). number_in form i) (get_or-replicate {A = Form} m row [] [] l) in
    let all = columns-at 0 i p.columns none row i c short (omega arith) at in
    let one = entry-is m row c.entries entries in
    omega (arith, ints))
    (λ more.
    let l : m ≤ row = omega (arith, ints) in
    let after : length (row_forms p) ≤ row = omega (arith, length-columns 0 p.columns none, length-replicate {A = Form} m []) in
    ap (λ (form : Form). number_in form i) (get_or_past (row_forms p) row [] after) ∙ sym (none-after m row c.entries entries l)
    ∙ entry-is m row c.entries entries)

-- the entry at a place, added before those after it
pub entry-taken : (place : ℕ) (entries : Form) (i : ℕ) (e : ℕ × ℤ) (forms new whole : List Form) → slice_get entries i ≡ Some e
    → new ≡ with_term e.0 (place, e.1) forms
    → with_entries place (drop i entries) forms ≡ whole → with_entries place (drop (i + 1) entries) new ≡ whole
entry-taken place entries i e forms new whole there added so =
    let front : drop i entries ≡ e ∷ drop (i + 1) entries = rest entries i e (slice_get_within entries i e there)
    ∙ ap (λ (x : ℕ × ℤ). x ∷ drop (i + 1) entries) (get_or_from_slice_get entries i e e there) in
    ap (λ (fs : List Form). with_entries place (drop (i + 1) entries) fs) added ∙ sym (ap (λ (es : Form). with_entries place es forms) front) ∙ so
