-- The numbers of a leaf by place: which places have one, and what cuts and rows give them.
use Rattle.std.specs.Prelude.{◌≡◌, ℕ, zero, suc, ◌+◌, ◌≤◌, ◌==◌, ◌||◌, Bool, false, cond, List, [], ◌∷◌, Some}
use Rattle.std.specs.Prelude.{slice_get, unsigned_abs, ℤ, pos, ◌+ℤ◌, ◌-ℤ◌, ◌*ℤ◌}
use Rattle.std.specs.List.{enumerate_from, zip}
use Rattle.std.specs.Option.{option_map_or}
use Rattle.program_rows.specs.Points.{coefficient_at}
use Rattle.program_rows.specs.Program.{Table, TableColumn}
use Rattle.optimality.specs.Certificates.{Form, Cut, number_in, sum_of}
use Rattle.optimality.specs.Reduced.{least_part}
use Rattle.optimality.specs.Sizes.{size_of}
use Rattle.optimality.specs.Adding.{number_at, form_at}

-- a place is listed
abbrev pub has_place : List ℕ → ℕ → Bool
has_place [] q = false
has_place (place ∷ places) q = (place == q) || has_place places q

-- a place that isn't listed has 0
abbrev pub AreListed : List ℕ → List ℤ → Type 0
AreListed places numbers = (q : ℕ) → has_place places q ≡ false → number_at numbers q ≡ pos 0

-- every place has the same number as before
abbrev pub AreAsBefore : List ℤ → List ℤ → Type 0
AreAsBefore before after = (q : ℕ) → number_at after q ≡ number_at before q

-- a multiple of a form
abbrev pub form_given : ℤ → Form → ℕ → ℤ
form_given factor form q = factor *ℤ number_in form q

-- a multiple of each cut
abbrev pub cuts_given : List ℕ → List Cut → ℕ → ℤ
cuts_given ys cuts q = sum_of (λ e. pos e.0 *ℤ number_in e.1.form q) (zip ys cuts)

-- a multiple of each row, where each row stands as a form
abbrev pub rows_given : Form → List Form → ℕ → ℤ
rows_given rows forms q = sum_of (λ t. t.1 *ℤ number_in (form_at forms t.0) q) rows

-- what a form gives
abbrev pub AreOf : Form → List ℤ → Type 0
AreOf form numbers = (q : ℕ) → number_at numbers q ≡ number_in form q

-- the numbers that a form gives a place, each without its sign
abbrev pub size_in : Form → ℕ → ℕ
size_in form place = size_of (λ t. cond (t.0 == place) (unsigned_abs t.1) 0) form

-- it gives no place larger numbers than another
abbrev pub AreNoLarger : Form → Form → Type 0
AreNoLarger form other = (place : ℕ) → size_in form place ≤ size_in other place

-- the numbers of the first places, each without its sign
abbrev pub sizes_below : ℕ → List ℤ → ℕ
sizes_below zero numbers = 0
sizes_below (suc place) numbers = sizes_below place numbers + unsigned_abs (number_at numbers place)

-- two forms that give each place the same
abbrev pub AreAlike : Form → Form → Type 0
AreAlike form other = (place : ℕ) → number_in form place ≡ number_in other place

-- the least that scaled costs come to, with a number more for each column
abbrev pub least_with : ℤ → (ℕ → ℤ) → List TableColumn → ℤ
least_with factor given columns = sum_of (λ e. least_part e.1.bounds (factor *ℤ e.1.cost +ℤ given e.0)) (enumerate_from 0 columns)

-- by how much a number changes what the column at a place contributes at least
abbrev pub change_at : List TableColumn → ℤ → ℕ → ℤ → ℤ
change_at columns factor place number =
    option_map_or (λ c. least_part c.bounds (factor *ℤ c.cost +ℤ number) -ℤ least_part c.bounds (factor *ℤ c.cost)) (slice_get columns place) (pos 0)

-- each column is given a multiple of its coefficient in each row
abbrev pub HaveRows : Table → Form → List ℤ → List ℤ → Type 0
HaveRows p rows before after = (place : ℕ) (c : TableColumn) → slice_get p.columns place ≡ Some c
    → number_at after place ≡ number_at before place +ℤ sum_of (λ t. t.1 *ℤ coefficient_at t.0 c) rows

-- each column is given a multiple of its number in each cut and of its coefficient in each row, and nothing else
abbrev pub HaveAll : Table → List ℕ → List Cut → Form → List ℤ → Type 0
HaveAll p ys cuts rows numbers = (place : ℕ) (c : TableColumn) → slice_get p.columns place ≡ Some c
    → number_at numbers place ≡ cuts_given ys cuts place +ℤ sum_of (λ t. t.1 *ℤ coefficient_at t.0 c) rows
