-- The program of what is kept of a sale.
use Rattle.std.specs.Prelude.{ℕ, List}
use Rattle.auction_terms.specs.Groups.{has}
use Rattle.auction_terms.specs.Keeping.{kept_of}
use Rattle.bid_desk.specs.Sale.{Sale}
use Rattle.program_rows.specs.Program.{Table}
use Rattle.program_rows.specs.Rows.{program_of}

-- the program of what is kept without a group
abbrev pub program_for : Sale → List ℕ → Table
program_for sale group = program_of sale.lots (kept_of sale.lots sale.book (has group))
