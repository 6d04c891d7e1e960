-- What the winners of a group of bidders pay together, and the reserves. A bidder that wins nothing pays nothing.
use Rattle.std.specs.Prelude.{ℕ, List, filter, map}
use Rattle.auction_terms.specs.declared.bids.Choice.{Choice}
use Rattle.auction_terms.specs.Groups.{has}
use Rattle.auction_terms.specs.Packages.{Lots}
use Rattle.auction_terms.specs.Allocations.{Book}
use Rattle.auction_terms.specs.Limits.{IsBook}
use Rattle.auction_terms.specs.Terms.{Terms}
use Rattle.outcome.specs.Pricing.{paid}
use Rattle.program_rows.specs.Faithful.{IsGreatest}

-- what those of them pay that are of the group
abbrev pub paid_by_group : (ℕ → ℕ) → List ℕ → List Choice → ℕ
paid_by_group price group a = paid price (filter (λ c. has group c.bidder) a)

-- the reserve of a lot of each category
abbrev pub reserves_in : Terms → List ℕ
reserves_in t = map (λ category. category.reserve) t.categories

-- without any group there is an allocation of greatest total, so that the group has a cost
abbrev pub EveryGroupHasACost : Type 0
EveryGroupHasACost = (lots : Lots) (book : Book) (group : List ℕ) → IsBook lots book → (without : List Choice) × IsGreatest lots book (has group) without
