-- The texts of an allocation and of a report.
use Rattle.std.specs.Prelude.{ℕ, List, [], ◌∷◌, ◌++◌, flat_map, filter, sum_by, slice_index_or, ℤ, pos, ◌-ℤ◌, decimal, codes}
use Rattle.std.specs.Fmt.{signed_decimal}
use Rattle.std.specs.List.{enumerate_from, zip}
use Rattle.auction_terms.specs.Groups.{has}
use Rattle.auction_terms.specs.declared.bids.Choice.{Choice}
use Rattle.auction_terms.specs.Packages.{Lots}
use Rattle.auction_terms.specs.Allocations.{Book, amount_of, total}
use Rattle.bid_desk.specs.Sale.{Sale, bidder_name}

-- name, bid and amount of a winner
abbrev pub winner_line : Sale → Choice → List ℕ
winner_line sale c = bidder_name sale.names c.bidder ++ (32 ∷ (decimal c.bid ++ (32 ∷ (decimal (amount_of sale.book c) ++ 10 ∷ []))))

-- the winners, then the total
abbrev pub allocation_text : Sale → List Choice → List ℕ
allocation_text sale a = flat_map (winner_line sale) a ++ (codes "total " ++ (decimal (total sale.lots sale.book a) ++ 10 ∷ []))

-- the first of the group's bidders by name, and each further one after a plus sign; a dash if there is none
abbrev pub group_names : List (List ℕ) → List ℕ → List ℕ
group_names names [] = codes "-"
group_names names (b ∷ more) = bidder_name names b ++ flat_map (λ further. 43 ∷ bidder_name names further) more

-- the line of group k: what it is called, its number and its names
abbrev pub heading : List ℕ → List (List ℕ) → ℕ → List ℕ → List ℕ
heading called names k group = (called ++ (decimal k ++ 32 ∷ [])) ++ (group_names names group ++ 10 ∷ [])

-- the amounts that an allocation gives to bidders of the group
abbrev pub amounts_of_group : Book → List ℕ → List Choice → ℕ
amounts_of_group book group a = sum_by (amount_of book) (filter (λ c. has group c.bidder) a)

-- the total without the group, less what is left of the first total without the group's amounts
abbrev pub cost : Lots → Book → List Choice → List ℕ → List Choice → ℤ
cost lots book first group a = pos (total lots book a) -ℤ (pos (total lots book first) -ℤ pos (amounts_of_group book group first))

-- what the report says of group k and its allocation: who wins, and what the group costs the others
abbrev pub group_report : Sale → List Choice → ℕ → List ℕ × List Choice → List ℕ
group_report sale first k item =
    heading (codes "group ") sale.names k item.0
    ++ (allocation_text sale item.1 ++ (codes "cost " ++ (signed_decimal (cost sale.lots sale.book first item.0 item.1) ++ 10 ∷ [])))

-- the bytes of each item, numbered from k on, one after the other
abbrev pub in_turn : {X : Type 0} → (ℕ → X → List ℕ) → ℕ → List X → List ℕ
in_turn bytes k xs = flat_map (λ e. bytes e.0 e.1) (enumerate_from k xs)

-- the report on an allocation for each group, the first of them for the empty group
abbrev pub report_text : Sale → List (List ℕ) → List (List Choice) → List ℕ
report_text sale groups allocations = in_turn (group_report sale (slice_index_or allocations 0 [])) 1 (zip groups allocations)
