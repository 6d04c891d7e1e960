-- The names of the columns of bids, and the bid that a name spells.
use Rattle.std.specs.Prelude.{ℕ, Bool, ◌&&◌, ◌==◌, nat_le, List, ◌∷◌, ◌++◌, drop, Option, Some, None, decimal, bytes_eq, if◌then◌else◌}
use Rattle.std.specs.List.{before_first, after_first}
use Rattle.std.specs.Str.Parse.{digits_value}
use Rattle.auction_terms.specs.declared.limits.TheConstants.{MOST_BIDDERS, MOST_BIDS}
use Rattle.auction_terms.specs.declared.bids.Choice.{Choice}

-- Xb_j
abbrev pub bid_name : ℕ → ℕ → List ℕ
bid_name bidder bid = 88 ∷ (decimal bidder ++ 95 ∷ decimal bid)

-- numbers of a bidder and of a bid, from 1 on, within the limits
abbrev pub is_bid : ℕ → ℕ → Bool
is_bid bidder bid = (nat_le 1 bidder && nat_le bidder MOST_BIDDERS) && (nat_le 1 bid && nat_le bid MOST_BIDS)

-- the bid whose column has this name, if there is one: its bidder's number comes between the first letter and the bar, 95, and its own after it
unfoldable pub column_bid : List ℕ → Option Choice
column_bid name =
    let bidder = digits_value 10 (before_first (λ b. b == 95) (drop 1 name)) in
    let bid = digits_value 10 (after_first (λ b. b == 95) (drop 1 name)) in
    if is_bid bidder bid && bytes_eq name (bid_name bidder bid) then Some record { bidder = bidder; bid = bid } else None
