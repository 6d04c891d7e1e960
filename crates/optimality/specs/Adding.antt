-- The numbers of a leaf by place: forms are added to them, and taken from them place by place.
use Rattle.std.specs.Prelude.{◌≡◌, ℕ, ◌+◌, ◌==◌, cond, List, [], Option, Some, None}
use Rattle.std.specs.Prelude.{slice_index_or, ℤ, pos, ◌+ℤ◌}
use Rattle.program_rows.specs.Program.{TableColumn}
use Rattle.optimality.specs.Certificates.{Form, sum_of}
use Rattle.optimality.specs.Reduced.{least_part}

-- the number of a place, 0 after the last one
abbrev pub number_at : List ℤ → ℕ → ℤ
number_at numbers place = slice_index_or numbers place (pos 0)

-- every place has 0
abbrev pub AreNone : List ℤ → Type 0
AreNone numbers = (q : ℕ) → number_at numbers q ≡ pos 0

-- what is given each place
abbrev pub AreGivenMore : (ℕ → ℤ) → List ℤ → List ℤ → Type 0
AreGivenMore given before after = (q : ℕ) → number_at after q ≡ number_at before q +ℤ given q

-- a number at a place
abbrev pub at_place : ℕ → ℤ → ℕ → ℤ
at_place place number q = cond (place == q) number (pos 0)

-- the form of the row at a place; an empty one if there is no row
abbrev pub form_at : List Form → ℕ → Form
form_at forms row = slice_index_or forms row []

-- a place with its number, which is 0 from then on; nothing where there is none left
abbrev pub IsTaken : Option (ℕ × ℤ) → List ℤ → List ℤ → Type 0
IsTaken None before after = AreNone before × AreNone after
IsTaken (Some t) before after = (number_at after t.0 ≡ pos 0) × ((q : ℕ) → number_at before q ≡ number_at after q +ℤ at_place t.0 t.1 q)

-- the least that the costs alone come to
abbrev pub least_alone : List TableColumn → ℤ
least_alone columns = sum_of (λ c. least_part c.bounds c.cost) columns
