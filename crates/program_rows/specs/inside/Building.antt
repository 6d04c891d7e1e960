-- What the parts of building a program make.
use Rattle.std.specs.Prelude.{ℕ, ◌<◌, ⊤, [], ◌∷◌, length, pos}
use Rattle.auction_terms.specs.Packages.{Lots}
use Rattle.auction_terms.specs.Keeping.{Offer}
use Rattle.program_rows.specs.declared.subject.Subject.{Subject}
use Rattle.program_rows.specs.declared.subject.Subject.TheVariants.{Bidder, Category, Pool}
use Rattle.program_rows.specs.Program.{TableColumn}
use Rattle.program_rows.specs.Rows.{column_of, entries_from, subjects}

-- the lots have the category or the pool that a row is of
abbrev pub IsThere : Lots → Subject → Type 0
IsThere lots (Bidder b) = ⊤
IsThere lots (Category c) = c < length lots.supply
IsThere lots (Pool p) = p < length lots.pools

-- the column of an offer; its bidder's row has this place, and the rows of categories and pools begin at `first`
abbrev pub built_column : Lots → ℕ → ℕ → Offer → TableColumn
built_column lots first place o = record (column_of lots [] o) { entries = (place, pos 1) ∷ entries_from lots first (subjects lots []) o }
