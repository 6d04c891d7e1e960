-- What `column_bid` reads: laws.
use Rattle.std.specs.Prelude.{◌≡◌, ℕ, true, List, Some}
use Rattle.auction_terms.specs.declared.bids.Choice.{Choice}
use Rattle.program_rows.specs.Spelling.{bid_name, is_bid, column_bid}

-- the name of a bid is read back
abbrev pub ReadsBack : Type 0
ReadsBack = (b j : ℕ) → is_bid b j ≡ true → column_bid (bid_name b j) ≡ Some record { bidder = b; bid = j }

-- what is read is spelled so, and within the numbers
abbrev pub ReadsNamesAlone : Type 0
ReadsNamesAlone = (name : List ℕ) (c : Choice) → column_bid name ≡ Some c → (is_bid c.bidder c.bid ≡ true) × (name ≡ bid_name c.bidder c.bid)

-- different bids have different names
abbrev pub NamesDiffer : Type 0
NamesDiffer = (b j c k : ℕ) → is_bid b j ≡ true → is_bid c k ≡ true → bid_name b j ≡ bid_name c k → (b ≡ c) × (j ≡ k)
