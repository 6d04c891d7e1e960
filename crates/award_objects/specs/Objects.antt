-- The objects that say an award: categories, pools, groups with their winners, prices, other awards, sums, and last what is proved.
use Rattle.std.specs.Prelude.{◌++◌, ◌∷◌, ◌+◌, ◌-◌, ◌*◌, ◌/◌, ◌==◌, ◌&&◌, ℕ, Bool, List, [], Option, None, Some, codes}
use Rattle.std.specs.Prelude.{filter, flat_map, if◌then◌else◌, map, nat_lt, option_map, pos, slice_index_or, sum, sum_by, ◌*ℤ◌, ℤ}
use Rattle.std.specs.List.{enumerate_from, zip}
use Rattle.std.specs.Option.{option_map_or}
use Rattle.std.specs.Ordering.{int_eq}
use Rattle.auction_terms.specs.Allocations.{Book, amount_of, bid_of, loads, total, weighed_choice}
use Rattle.auction_terms.specs.Fractions.{gcd}
use Rattle.auction_terms.specs.Groups.{has}
use Rattle.auction_terms.specs.Packages.{weighed}
use Rattle.auction_terms.specs.Terms.{Terms}
use Rattle.auction_terms.specs.declared.bids.Choice.{Choice}
use Rattle.auction_terms.specs.declared.rules.Category.{Category}
use Rattle.auction_terms.specs.declared.rules.Pool.{Pool}
use Rattle.bid_desk.specs.Sale.{Sale, bidder_name}
use Rattle.byte_sinks.specs.Objects.{Member, named_counts, named_flag, named_number, named_number_if, named_number_list, named_signed, named_signed_numbers, named_text, named_texts, object_text}
use Rattle.outcome.specs.Outcome.{Outcome}
use Rattle.outcome.specs.Pricing.{Priced, in_pounds, paid, price_in}
use Rattle.outcome.specs.Report.{cost, in_turn}
use Rattle.award_objects.specs.declared.objects.Outcome.{Outcome as GivenOutcome}
use Rattle.outcome.specs.declared.others.Further.{Further}
use Rattle.outcome.specs.declared.others.Further.TheVariants.{More, NoOther, Unknown}
use Rattle.prices.specs.Alone.{cost_alone, without_alone}
use Rattle.prices.specs.Prices.{paid_by_group, reserves_in}

-- the outcome that is given in the program
abbrev pub outcome_seen : GivenOutcome → Outcome
outcome_seen o = record { won = o.won.now; pricing = o.pricing.now; others = o.others.now }

-- ---- categories and pools

-- how many lots of a category stay unsold, if that many are sold
abbrev pub unsold : Category × ℕ → ℕ
unsold item = item.0.supply - item.1

-- what these are worth
abbrev pub value_left : Category × ℕ → ℕ
value_left item = item.0.value * unsold item

-- a category, and how many of its lots are sold
abbrev pub category_members : Category × ℕ → List Member
category_members item =
    named_text (codes "category") item.0.name ∷ named_number (codes "supply") item.0.supply ∷ named_number (codes "reserve") item.0.reserve ∷
    named_number (codes "value") item.0.value ∷ named_number (codes "sold") item.1 ∷ named_number (codes "unsold") (unsold item) ∷
    named_number (codes "value_left") (value_left item) ∷ []

-- a pool, where so many lots of each category are sold
abbrev pub pool_members : List ℕ → Pool → List Member
pool_members sold pool =
    named_text (codes "pool") pool.name ∷ named_number (codes "cap") pool.cap ∷ named_number (codes "load") (weighed pool.weights sold) ∷
    named_number (codes "left") (pool.cap - weighed pool.weights sold) ∷ []

-- the categories, then the pools
abbrev pub lots_text : Terms → List ℕ → List ℕ
lots_text t sold = flat_map (λ item. object_text (category_members item)) (zip t.categories sold) ++
    flat_map (λ pool. object_text (pool_members sold pool)) t.pools

-- ---- winners

-- the categories by name of which a package has lots, with how many
abbrev pub lots_by_name : List Category → List ℕ → List (List ℕ × ℕ)
lots_by_name categories quantities = filter (λ lots. nat_lt 0 lots.1) (zip (map (λ category. category.name) categories) quantities)

-- the package of the bid that a choice names; nothing if there is no such bid
abbrev pub package_of : Book → Choice → List ℕ
package_of book c = option_map_or (λ x. x.package) (bid_of book c) []

-- a winner, after the member that says of which group or award
abbrev pub winner_members : Terms → Sale → Member → Choice → List Member
winner_members t sale of c =
    of ∷ named_text (codes "winner") (bidder_name sale.names c.bidder) ∷ named_number (codes "bid") c.bid ∷ named_number (codes "amount") (amount_of sale.book c) ∷
    named_counts (codes "lots") (lots_by_name t.categories (package_of sale.book c)) ∷ named_number (codes "reserve") (weighed_choice (reserves_in t) sale.book c) ∷ []

-- the winners of an allocation
abbrev pub winners_text : Terms → Sale → Member → List Choice → List ℕ
winners_text t sale of a = flat_map (λ c. object_text (winner_members t sale of c)) a

-- ---- groups

-- what the winners of a group pay together in whole pounds, if there are prices
abbrev pub paid_by : Option Priced → List Choice → List ℕ → Option ℕ
paid_by pricing first group = option_map (λ p. paid_by_group (in_pounds p.parts (price_in p.prices)) group first) pricing

-- group k: whom it leaves out, the total and the cost by its allocation, and what its winners pay
abbrev pub group_members : Sale → Option Priced → List Choice → ℕ → List ℕ × List Choice → List Member
group_members sale pricing first k item =
    named_number (codes "group") k ∷ named_texts (codes "left_out") (map (bidder_name sale.names) item.0) ∷
    named_number (codes "total") (total sale.lots sale.book item.1) ∷ named_signed (codes "cost") (cost sale.lots sale.book first item.0 item.1) ∷
    named_number_if (codes "pays") (paid_by pricing first item.0) ∷ []

-- group k, and its winners
abbrev pub group_objects : Terms → Sale → Option Priced → List Choice → ℕ → List ℕ × List Choice → List ℕ
group_objects t sale pricing first k item =
    object_text (group_members sale pricing first k item) ++ winners_text t sale (named_number (codes "group") k) item.1

-- ---- prices

-- by exact prices the group pays just its cost
abbrev pub is_bound : Sale → Priced → List Choice → List ℕ × List Choice → Bool
is_bound sale p first item =
    int_eq (pos p.parts *ℤ cost sale.lots sale.book first item.0 item.1) (pos (paid_by_group (price_in p.prices) item.0 first))

-- which groups do
abbrev pub are_bound : Sale → Priced → List Choice → List (List ℕ) → List (List Choice) → List Bool
are_bound sale p first groups won = map (is_bound sale p first) (zip groups won)

-- the numbers of the groups with this bidder that pay just their cost
abbrev pub bound_by : List (List ℕ) → List Bool → ℕ → List ℕ
bound_by groups bound bidder =
    map (λ (e : ℕ × (List ℕ × Bool)). e.0) (filter (λ (e : ℕ × (List ℕ × Bool)). has e.1.0 bidder && e.1.1) (enumerate_from 1 (zip groups bound)))

-- what a winner costs alone, if a group is listed that is this winner alone
abbrev pub alone_of : Terms → Sale → List Choice → List (List ℕ) → List (List Choice) → Choice → Option ℕ
alone_of t sale first groups won c =
    option_map (λ without. cost_alone (reserves_in t) sale.lots sale.book first without c) (without_alone groups won c.bidder)

-- an exact amount in pounds, from parts of a pound: numerator and denominator, in lowest terms
abbrev pub in_lowest_terms : ℕ → ℕ → List ℕ
in_lowest_terms parts n = (n / gcd n parts) ∷ (parts / gcd n parts) ∷ []

-- a winner pays just the reserve of its lots
abbrev pub is_by_reserve : Terms → Sale → Priced → Choice → Bool
is_by_reserve t sale p c = p.parts * weighed_choice (reserves_in t) sale.book c == price_in p.prices c.bidder

-- what a winner pays, exactly too, what it costs alone, the groups that bind its price, and whether the reserve of its lots does
abbrev pub price_members : Terms → Sale → List (List ℕ) → List (List Choice) → List Choice → Priced → Choice → List Member
price_members t sale groups won first p c =
    named_text (codes "price") (bidder_name sale.names c.bidder) ∷ named_number (codes "pays") (in_pounds p.parts (price_in p.prices) c.bidder) ∷
    named_number_list (codes "exact") (in_lowest_terms p.parts (price_in p.prices c.bidder)) ∷ named_number_if (codes "alone") (alone_of t sale first groups won c) ∷
    named_number_list (codes "bound_by") (bound_by groups (are_bound sale p first groups won) c.bidder) ∷
    named_flag (codes "by_reserve") (is_by_reserve t sale p c) ∷ []

-- ---- other awards

-- what each group costs by an award
abbrev pub costs_by : Sale → List (List ℕ × List Choice) → List Choice → List ℤ
costs_by sale listed award = map (λ (item : List ℕ × List Choice). cost sale.lots sale.book award item.0 item.1) listed

-- award k, and what each group costs by it
abbrev pub award_members : Sale → List (List ℕ × List Choice) → ℕ → List Choice → List Member
award_members sale listed k award =
    named_number (codes "award") k ∷ named_number (codes "total") (total sale.lots sale.book award) ∷
    named_signed_numbers (codes "costs") (costs_by sale listed award) ∷ []

-- award k, and its winners
abbrev pub award_text : Terms → Sale → List (List ℕ × List Choice) → ℕ → List Choice → List ℕ
award_text t sale listed k award = object_text (award_members sale listed k award) ++ winners_text t sale (named_number (codes "award") k) award

-- ---- sums

-- the sum, if all are known
abbrev pub sum_known : List (Option ℕ) → Option ℕ
sum_known [] = Some 0
sum_known (None ∷ more) = None
sum_known (Some n ∷ more) = option_map (λ sum. n + sum) (sum_known more)

-- what the winners bid, and the reserves of their lots
abbrev pub winners_sum : Terms → Sale → List Choice → List Member
winners_sum t sale first =
    named_text (codes "sum") (codes "winners") ∷ named_number (codes "amount") (sum_by (amount_of sale.book) first) ∷
    named_number (codes "reserve") (sum_by (weighed_choice (reserves_in t) sale.book) first) ∷ []

-- how many lots there are, are sold and stay unsold, and what these are worth
abbrev pub lots_sum : Terms → List ℕ → List Member
lots_sum t sold =
    named_text (codes "sum") (codes "lots") ∷ named_number (codes "supply") (sum_by (λ category. category.supply) t.categories) ∷ named_number (codes "sold") (sum sold) ∷
    named_number (codes "unsold") (sum_by unsold (zip t.categories sold)) ∷ named_number (codes "value_left") (sum_by value_left (zip t.categories sold)) ∷ []

-- what the winners pay, exactly too, and what they cost alone
abbrev pub prices_sum : Terms → Sale → List (List ℕ) → List (List Choice) → List Choice → Priced → List Member
prices_sum t sale groups won first p =
    named_text (codes "sum") (codes "prices") ∷ named_number (codes "pays") (paid (in_pounds p.parts (price_in p.prices)) first) ∷
    named_number_list (codes "exact") (in_lowest_terms p.parts (paid (price_in p.prices) first)) ∷
    named_number_if (codes "alone") (sum_known (map (alone_of t sale first groups won) first)) ∷ []

-- ---- all of it

-- the price of each winner
abbrev pub prices_text : Terms → Sale → List (List ℕ) → List (List Choice) → List Choice → Option Priced → List ℕ
prices_text t sale groups won first None = []
prices_text t sale groups won first (Some p) = flat_map (λ c. object_text (price_members t sale groups won first p c)) first

-- the sum of the prices
abbrev pub prices_sum_text : Terms → Sale → List (List ℕ) → List (List Choice) → List Choice → Option Priced → List ℕ
prices_sum_text t sale groups won first None = []
prices_sum_text t sale groups won first (Some p) = object_text (prices_sum t sale groups won first p)

-- the sums: of winners, of lots, and of prices
abbrev pub sums_text : Terms → Sale → List (List ℕ) → Outcome → List Choice → List ℕ
sums_text t sale groups o first = object_text (winners_sum t sale first) ++
    (object_text (lots_sum t (loads sale.lots sale.book first)) ++ prices_sum_text t sale groups o.won first o.pricing)

-- the award of the first group, and all that is said beside it
abbrev pub award_of : Terms → Sale → List (List ℕ) → Outcome → List Choice → List ℕ
award_of t sale groups o first = lots_text t (loads sale.lots sale.book first) ++
    (in_turn (group_objects t sale o.pricing first) 1 (zip groups o.won) ++
    (prices_text t sale groups o.won first o.pricing ++
    (in_turn (award_text t sale (zip groups o.won)) 2 o.others.awards ++ sums_text t sale groups o first)))

-- what is proved of prices
abbrev pub of_prices : Option Priced → List (List ℕ)
of_prices None = []
of_prices (Some p) = codes "prices" ∷ (if p.by_rule then codes "by the rule" ∷ [] else [])

-- what is proved of further awards, where these are known
abbrev pub of_further : List (List Choice) → Further → List (List ℕ)
of_further awards Unknown = []
of_further [] NoOther = codes "unique" ∷ []
of_further (award ∷ awards) NoOther = codes "no other" ∷ []
of_further awards More = codes "and more" ∷ []

-- what is proved of an outcome that is shown
abbrev pub proved_of : Outcome → List (List ℕ)
proved_of o = codes "totals" ∷ codes "costs" ∷ (of_prices o.pricing ++ of_further o.others.awards o.others.further)

-- the last object
abbrev pub proved_object : List (List ℕ) → List ℕ
proved_object proved = object_text (named_texts (codes "proved") proved ∷ [])

-- what is printed of an outcome that is shown; the first allocation is for the empty group
abbrev pub objects_shown : Terms → Sale → List (List ℕ) → Outcome → List ℕ
objects_shown t sale groups o = award_of t sale groups o (slice_index_or o.won 0 []) ++ proved_object (proved_of o)

-- what is printed of allocations of which nothing is shown
abbrev pub objects_unshown : Terms → Sale → List (List ℕ) → List (List Choice) → List ℕ
objects_unshown t sale groups won =
    award_of t sale groups (record { won = won; pricing = None; others = record { awards = []; further = Unknown } }) (slice_index_or won 0 []) ++
    proved_object []
