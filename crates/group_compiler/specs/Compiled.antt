-- What is compiled for a group.
use Rattle.std.specs.Prelude.{ℕ, List}
use Rattle.auction_terms.specs.Groups.{has}
use Rattle.auction_terms.specs.Keeping.{kept_of}
use Rattle.auction_terms.specs.Terms.{lots_in}
use Rattle.auction_terms.specs.declared.bids.Choice.{Choice}
use Rattle.bid_desk.specs.Closing.{Closing, book_of}
use Rattle.presolve.specs.Flags.{kept_among}
use Rattle.program_rows.specs.Program.{Table}
use Rattle.program_rows.specs.Rows.{program_of}

-- the numbers of the bidders that are left out, and a program
pub record GroupProgram : Type 0 where
  pub group : List ℕ
  pub program : Table

-- a group with this program
abbrev pub group_program : List ℕ → Table → GroupProgram
group_program group program = record { group = group; program = program }

-- the program of what is kept of a closed book without a group
abbrev pub program_without : Closing → List ℕ → Table
program_without book group = program_of (lots_in book.rules) (kept_of (lots_in book.rules) (book_of book) (has group))

-- the program of those of them that are among these choices
abbrev pub program_among : Closing → List ℕ → List Choice → Table
program_among book group choices = program_of (lots_in book.rules) (kept_among (lots_in book.rules) (book_of book) (has group) choices)

-- a group with its program
abbrev pub compiled : Closing → List ℕ → GroupProgram
compiled book group = group_program group (program_without book group)

-- a book and the groups that are left out of its programs
pub record Compiling : Type 0 where
  pub book : Closing
  pub groups : List (List ℕ)

-- a book with the groups that are to be left out of its programs
abbrev pub compiling : Closing → List (List ℕ) → Compiling
compiling book groups = record { book = book; groups = groups }
