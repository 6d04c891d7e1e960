-- When a text says of a book, and of a group of bidders left out, what the allocations say.
use Rattle.std.specs.Prelude.{◌≡◌, ℕ, Bool, List, Ok}
use Rattle.auction_terms.specs.Packages.{Lots}
use Rattle.auction_terms.specs.Allocations.{Book}
use Rattle.auction_terms.specs.Keeping.{kept_of}
use Rattle.auction_terms.specs.Limits.{IsLots, IsBook}
use Rattle.program_rows.specs.Program.{Table}
use Rattle.program_rows.specs.Points.{IsPoint}
use Rattle.program_rows.specs.Rows.{program_of}
use Rattle.program_rows.specs.Faithful.{back, IsFaithful, IsLeast, IsGreatest}
use Rattle.program_rows.specs.MpsMeaning.{meaning}
use Rattle.mps_text.specs.Text.{text}

-- the text has a meaning, and that program is faithful
pub record IsFaithfulText (lots : Lots) (book : Book) (group : ℕ → Bool) (bytes : List ℕ) : Type 0 where
  pub program : Table
  pub meant : meaning bytes ≡ Ok program
  pub faithful : IsFaithful lots book group program

-- the text of the program of the kept bids
abbrev pub presolved_text : Lots → Book → (ℕ → Bool) → List ℕ
presolved_text lots book group = text (program_of lots (kept_of lots book group))

-- the text of the program of the kept bids is faithful
abbrev pub PresolvedTextIsFaithful : Type 0
PresolvedTextIsFaithful = (lots : Lots) (book : Book) (group : ℕ → Bool) → IsLots lots → IsBook lots book
    → IsFaithfulText lots book group (presolved_text lots book group)

-- a point of least objective of a faithful text maps back to a feasible allocation of greatest total
abbrev pub LeastOfTextIsGreatest : Type 0
LeastOfTextIsGreatest = (lots : Lots) (book : Book) (group : ℕ → Bool) (bytes : List ℕ) → IsFaithfulText lots book group bytes
    → (program : Table) → meaning bytes ≡ Ok program → (values : List Bool) → IsPoint program values → IsLeast program values
    → IsGreatest lots book group (back program.columns values)
