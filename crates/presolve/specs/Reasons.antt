-- Why no program has a bid: the first of the reasons for which presolve drops it.
use Rattle.std.specs.Prelude.{◌≡◌, ℕ, List, Option, None, Some, if◌then◌else◌, int_le, length, map, nat_lt, option_map, pos, slice_index, unsigned_abs}
use Rattle.std.specs.List.{find, position_from, range_with_len}
use Rattle.std.specs.Option.{is_none, option_or}
use Rattle.auction_terms.specs.declared.bids.Bid.{Bid}
use Rattle.auction_terms.specs.Packages.{Lots, pool_at, weighed}
use Rattle.auction_terms.specs.Allocations.{Book}
use Rattle.auction_terms.specs.Domination.{dominates, is_kept, net}
use Rattle.presolve.specs.declared.reason.Reason.{Reason}
use Rattle.presolve.specs.declared.reason.Reason.TheVariants as reason

-- the first category, by its place, of which a package asks for more than there is
abbrev pub over_supply : Lots → List ℕ → Option Reason
over_supply lots quantities =
    option_map (λ place. reason.OverSupply place (slice_index quantities place) (slice_index lots.supply place))
    (find (λ place. nat_lt (slice_index lots.supply place) (slice_index quantities place)) (range_with_len 0 (length quantities)))

-- the first pool, by its place, that a package loads above its cap
abbrev pub over_cap : Lots → List ℕ → Option Reason
over_cap lots quantities =
    option_map (λ place. reason.OverCap place (weighed (pool_at lots place).weights quantities) (pool_at lots place).cap)
    (position_from (λ pool. nat_lt pool.cap (weighed pool.weights quantities)) 0 lots.pools)

-- how far a bid's net is below 0
abbrev pub below_worth : Lots → Bid → Option Reason
below_worth lots x = if int_le (pos 0) (net lots x) then None else Some (reason.BelowWorth (unsigned_abs (net lots x)))

-- the first bid of its form, by its number, that dominates a bid
abbrev pub dominated : Lots → List Bid → Bid → Option Reason
dominated lots form x = option_map (λ number. reason.Dominated number) (position_from (λ y. dominates lots y x) 1 form)

-- the first reason for which a bid of a form is in no program, if there is one
abbrev pub why_left_out : Lots → List Bid → Bid → Option Reason
why_left_out lots form x = option_or (over_supply lots x.package) (option_or (over_cap lots x.package) (option_or (below_worth lots x) (dominated lots form x)))

-- why each bid of a form is in no program; no reason if the bid is kept
abbrev pub reasons_of_form : Lots → List Bid → List (Option Reason)
reasons_of_form lots form = map (why_left_out lots form) form

-- why each bid of a book, form by form, is in no program; no reason if the bid is kept
abbrev pub reasons_of : Lots → Book → List (List (Option Reason))
reasons_of lots book = map (reasons_of_form lots) book

-- there is no reason to leave out a bid if and only if it is kept
abbrev pub KeptWithoutReason : Type 0
KeptWithoutReason = (lots : Lots) (form : List Bid) (x : Bid) → is_none (why_left_out lots form x) ≡ is_kept lots form x
