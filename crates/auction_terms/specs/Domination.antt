-- Which bids of a form another bid makes needless.
use Rattle.std.specs.Prelude.{◌≡◌, Bool, not, ◌&&◌, nat_lt, List, ℤ, pos, ◌-ℤ◌, int_le}
use Rattle.std.specs.List.{list_any}
use Rattle.auction_terms.specs.declared.bids.Bid.{Bid}
use Rattle.auction_terms.specs.Packages.{Lots, is_within, fits, size, worth}

-- the amount, less what the package is worth where it is left
abbrev pub net : Lots → Bid → ℤ
net lots x = pos x.amount -ℤ pos (worth lots x.package)

-- the first bid dominates the second: its package is at most the other's in every category, and different, and its net isn't lower
abbrev pub dominates : Lots → Bid → Bid → Bool
dominates lots x y = (is_within x.package y.package && not (is_within y.package x.package)) && int_le (net lots y) (net lots x)

-- the bid fits, its net isn't below 0, so that it brings at least what its package is worth where it is left, and no bid of its form dominates it
abbrev pub is_kept : Lots → List Bid → Bid → Bool
is_kept lots form x = (fits lots x.package && int_le (pos 0) (net lots x)) && not (list_any (λ y. dominates lots y x) form)

-- a bid is kept by comparing it with the bids of smaller size alone
abbrev pub SmallerSizesSuffice : Type 0
SmallerSizesSuffice = (lots : Lots) (form : List Bid) (x : Bid)
    → list_any (λ y. nat_lt (size y.package) (size x.package) && dominates lots y x) form ≡ list_any (λ y. dominates lots y x) form
