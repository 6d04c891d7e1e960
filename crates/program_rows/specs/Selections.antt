-- A selection of a program's rows and columns, and a program of which each group's program is a selection.
use Rattle.std.specs.Prelude.{◌≡◌, ℕ, ◌+◌, Bool, false, not, cond, List, [], ◌∷◌, ◌++◌, Option, Some, None, filter, map, pos, slice_index, slice_index_or}
use Rattle.std.specs.Option.{option_map_or}
use Rattle.auction_terms.specs.Keeping.{Offer}
use Rattle.auction_terms.specs.Limits.{AreOffers}
use Rattle.auction_terms.specs.Packages.{Lots}
use Rattle.program_rows.specs.Program.{Table, TableColumn, TableRow}
use Rattle.program_rows.specs.Rows.{program_of, subjects, worth_column}
use Rattle.program_rows.specs.declared.column.Bounds.TheVariants.{ZeroOrOne}
use Rattle.program_rows.specs.declared.row.RowKind.TheVariants.{AtMost}
use Rattle.program_rows.specs.declared.subject.Subject.{Subject}
use Rattle.program_rows.specs.declared.subject.Subject.TheVariants.{Bidder, Category, Pool}

-- ---- a selection

-- the row at a place, counted from 0; one without a name if there is none
abbrev pub row_at : List TableRow → ℕ → TableRow
row_at rows place = slice_index_or rows place (record { name = []; kind = AtMost; right_side = pos 0 })

-- the column at a place, counted from 0; one without a name if there is none
abbrev pub column_at : List TableColumn → ℕ → TableColumn
column_at columns place = slice_index_or columns place (record { name = []; bounds = ZeroOrOne; cost = pos 0; entries = [] })

-- a column whose rows have these numbers now
abbrev pub renumbered : List ℕ → TableColumn → TableColumn
renumbered numbers c = record c { entries = map (λ e. (slice_index numbers e.0, e.1)) c.entries }

-- the rows and the columns at these places, where each row of the program has one of these numbers
abbrev pub selection_of : Table → List ℕ → List ℕ → List ℕ → Table
selection_of p rows columns numbers = record {
  objective = p.objective;
  rows = map (row_at p.rows) rows;
  columns = map (λ place. renumbered numbers (column_at p.columns place)) columns;
}

-- ---- what stays without a group

-- a row or a column of a bidder of the group
abbrev pub is_out : (ℕ → Bool) → Option ℕ → Bool
is_out group owner = option_map_or group owner false

-- the places, from this one on, of those that stay
abbrev pub places_left : (ℕ → Bool) → ℕ → List (Option ℕ) → List ℕ
places_left group place [] = []
places_left group place (o ∷ owners) = cond (is_out group o) (places_left group (place + 1) owners) (place ∷ places_left group (place + 1) owners)

-- how many of them come before each one, counted from this number on
abbrev pub numbers_left : (ℕ → Bool) → ℕ → List (Option ℕ) → List ℕ
numbers_left group number [] = []
numbers_left group number (o ∷ owners) = number ∷ numbers_left group (cond (is_out group o) number (number + 1)) owners

-- a program, and the bidder of each row and each column that has one
pub record Shared : Type 0 where
  pub program : Table
  pub rows : List (Option ℕ)
  pub columns : List (Option ℕ)

-- a shared program with these bidders of its rows and its columns
abbrev pub shared : Table → List (Option ℕ) → List (Option ℕ) → Shared
shared program rows columns = record { program = program; rows = rows; columns = columns }

-- what is left of it without a group
abbrev pub selection_without : Shared → (ℕ → Bool) → Table
selection_without s group = selection_of s.program (places_left group 0 s.rows) (places_left group 0 s.columns) (numbers_left group 0 s.rows)

-- ---- the program of offers

-- the bidder that a row is of; a row of a category or of a pool is of no bidder
abbrev pub owner_of : Subject → Option ℕ
owner_of (Bidder b) = Some b
owner_of (Category c) = None
owner_of (Pool p) = None

-- the program of all offers, with the bidder of each row and each column that has one
abbrev pub shared_of : Lots → List Offer → Shared
shared_of lots offers = record {
  program = program_of lots offers;
  rows = map owner_of (subjects lots offers);
  columns = map (λ o. Some o.bidder) offers ++ map (λ c. None) (worth_column lots);
}

-- without a group it is the program of the other bidders' offers
abbrev pub SelectionIsProgram : Type 0
SelectionIsProgram = (lots : Lots) (offers : List Offer) (group : ℕ → Bool) → AreOffers lots offers
    → selection_without (shared_of lots offers) group ≡ program_of lots (filter (λ o. not (group o.bidder)) offers)
