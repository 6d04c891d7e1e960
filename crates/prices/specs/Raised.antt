-- The program of the kept bids with costs in parts of a pound, each raised by the surplus of its bidder; and what a certificate shows of it.
use Rattle.std.specs.Prelude.{◌↔◌, ◌≤◌, ◌*◌, ℕ, false, List, Option, map, ℤ, pos, ◌+ℤ◌, ◌-ℤ◌, ◌*ℤ◌}
use Rattle.std.specs.Option.{option_map_or}
use Rattle.auction_terms.specs.declared.bids.Choice.{Choice}
use Rattle.auction_terms.specs.Packages.{Lots, worth_of_all}
use Rattle.auction_terms.specs.Allocations.{Book, IsFeasible}
use Rattle.auction_terms.specs.Keeping.{kept_of}
use Rattle.auction_terms.specs.Limits.{IsBook}
use Rattle.program_rows.specs.declared.certificate_fault.CertificateFaultKind.{CertificateFaultKind}
use Rattle.program_rows.specs.Program.{Table, TableColumn}
use Rattle.program_rows.specs.Rows.{program_of}
use Rattle.program_rows.specs.Spelling.{column_bid}
use Rattle.optimality.specs.Certificates.{Certificate}
use Rattle.optimality.specs.Laws.{IsBound}
use Rattle.optimality.specs.Shows.{Shows}
use Rattle.optimality.specs.Sizes.{IsLargeAt}
use Rattle.optimality.specs.Verdict.{certificate_fault}
use Rattle.prices.specs.Blocking.{ArePrices, NoneBlocks, revenue, surplus}
use Rattle.prices.specs.Parts.{AreAtLeastReserves, Suffice}

-- the cost of a bid's column in parts of a pound, raised by what is given for the bid's bidder; 0 if the column is of no bid
abbrev pub raised_cost : ℕ → (ℕ → ℕ) → TableColumn → ℤ
raised_cost parts raise c = option_map_or (λ bid. (pos parts *ℤ c.cost) +ℤ pos (raise bid.bidder)) (column_bid c.name) (pos 0)

-- a column with its cost in parts of a pound, raised
abbrev pub raised_column : ℕ → (ℕ → ℕ) → TableColumn → TableColumn
raised_column parts raise c = record c { cost = raised_cost parts raise c }

-- a program with its costs in parts of a pound, raised by what is given for the bidders
abbrev pub raised : ℕ → (ℕ → ℕ) → Table → Table
raised parts raise p = record p { columns = map (raised_column parts raise) p.columns }

-- the program of the kept bids with nobody left out, with the costs of a winner's bids raised by its surplus. What all lots are worth
-- isn't in it: that is the same at every point
abbrev pub raised_program : Lots → Book → List Choice → ℕ → (ℕ → ℕ) → Table
raised_program lots book first parts price = raised parts (surplus book first parts price) (program_of lots (kept_of lots book (λ b. false)))

-- what all lots are worth, less the revenue: below that no point of it is to have an objective
abbrev pub raised_bound : Lots → Book → List Choice → ℕ → (ℕ → ℕ) → ℤ
raised_bound lots book first parts price = pos (parts * worth_of_all lots) -ℤ pos (revenue lots book first parts price)

-- ---------- laws ----------

-- no feasible allocation blocks if and only if no point of it has an objective below that bound
abbrev pub RaisedBoundExcludesBlocking : Type 0
RaisedBoundExcludesBlocking = (lots : Lots) (book : Book) (first : List Choice) (parts : ℕ) (price : ℕ → ℕ) → IsBook lots book
    → IsBound (raised_program lots book first parts price) (raised_bound lots book first parts price) ↔ NoneBlocks lots book first parts price

-- prices that are at least the reserves suffice if a certificate shows that bound for the raised program
abbrev pub ShownSuffice : Type 0
ShownSuffice = (reserves : List ℕ) (lots : Lots) (book : Book) (first : List Choice) (parts : ℕ) (price : ℕ → ℕ) (certificate : Certificate) → IsBook lots book
    → IsFeasible lots book (λ b. false) first → 1 ≤ parts → ArePrices book first parts price
    → AreAtLeastReserves reserves book first parts price
    → Shows (raised_program lots book first parts price) (raised_bound lots book first parts price) certificate
    → Suffice reserves lots book first parts price

-- ---------- the text of a certificate ----------

-- the first fault of a text that is to show it
abbrev pub cover_fault : Lots → Book → List Choice → ℕ → (ℕ → ℕ) → List ℕ → Option (ℕ × CertificateFaultKind)
cover_fault lots book first parts price text =
    certificate_fault (raised_program lots book first parts price) (raised_bound lots book first parts price) text

-- the line of this number tells a leaf of size 2^126 or more, and no line before it has a fault
abbrev pub IsLargeCoverAt : Lots → Book → List Choice → ℕ → (ℕ → ℕ) → List ℕ → ℕ → Type 0
IsLargeCoverAt lots book first parts price text line = IsLargeAt (raised_program lots book first parts price) (raised_bound lots book first parts price) text line
