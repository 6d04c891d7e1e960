-- The allocation that a point wins, as a list of rising bidders.
use Rattle.std.specs.Prelude.{◌≡◌, ℕ, ◌+◌, ◌<◌, ◌≤◌, Bool, ◌&&◌, ◌==◌, List, [], ◌∷◌, filter, flat_map, count_by, if◌then◌else◌, bytes_eq}
use Rattle.std.specs.List.{AllByRecursion, range_with_len}
use Rattle.auction_terms.specs.declared.bids.Choice.{Choice}
use Rattle.auction_terms.specs.declared.limits.TheConstants.{MOST_BIDDERS}
use Rattle.program_rows.specs.Program.{Table, TableColumn}
use Rattle.program_rows.specs.Spelling.{bid_name, is_bid}
use Rattle.program_rows.specs.Faithful.{back}

-- the bids whose columns are 1, one bidder after the other
abbrev pub allocation_of : Table → List Bool → List Choice
allocation_of p values = flat_map (λ b. filter (λ c. c.bidder == b) (back p.columns values)) (range_with_len 1 MOST_BIDDERS)

-- no bidder has two bids
abbrev pub IsMap : List Choice → Type 0
IsMap choices = (b : ℕ) → count_by (λ c. c.bidder == b) choices ≤ 1

-- the bidders rise
abbrev pub HasRisingBidders : List Choice → Type 0
HasRisingBidders [] = Unit {0}
HasRisingBidders (c ∷ more) = AllByRecursion (λ later. c.bidder < later.bidder) more × HasRisingBidders more

-- how many columns of this name are 1
abbrev pub ones_named : List TableColumn → List Bool → List ℕ → ℕ
ones_named [] values name = 0
ones_named (c ∷ columns) [] name = 0
ones_named (c ∷ columns) (value ∷ values) name = (if value && bytes_eq c.name name then 1 else 0) + ones_named columns values name

-- a choice is the bid of this number of this bidder
abbrev pub is_choice : ℕ → ℕ → Choice → Bool
is_choice bidder bid c = (c.bidder == bidder) && (c.bid == bid)

-- a bid is taken as often as columns with its name are 1, and nothing else is taken
abbrev pub TakesWhatIsNamed : Type 0
TakesWhatIsNamed = (p : Table) (values : List Bool) (bidder bid : ℕ)
    → count_by (is_choice bidder bid) (allocation_of p values) ≡ (if is_bid bidder bid then ones_named p.columns values (bid_name bidder bid) else 0)
