-- A worked award, which the definitions compute: two bidders share lots of two categories.
use Rattle.std.proofs.Common.{◌≡◌, ◌++◌, ◌∷◌, [], ℕ, List, None, Option, Some, codes, false, true, refl}
use Rattle.std.specs.Fmt.{digits}
use Rattle.auction_terms.specs.Allocations.{Book, loads}
use Rattle.auction_terms.specs.Terms.{Terms, lots_in}
use Rattle.auction_terms.specs.declared.bids.Bid.{Bid}
use Rattle.auction_terms.specs.declared.bids.Choice.{Choice}
use Rattle.std.specs.List.{zip}
use Rattle.bid_desk.specs.Sale.{Sale}
use Rattle.byte_sinks.specs.Objects.{object_text}
use Rattle.outcome.specs.Pricing.{Priced}
use Rattle.outcome.specs.declared.others.Further.{Further}
use Rattle.outcome.specs.declared.others.Further.TheVariants.{More, NoOther, Unknown}
use Rattle.outcome.specs.Outcome.{Outcome}
use Rattle.award_objects.specs.Objects.{award_text, group_members, group_objects, lots_text, price_members, prices_sum, prices_text, proved_of, proved_object, objects_shown, sums_text, objects_unshown}

-- a pool takes two for a lot of A, and one for a lot of B
abbrev rules : Terms
rules = record {
  step = 1;
  categories = record { name = codes "A"; supply = 4; reserve = 2; points = 1; value = 4 }
      ∷ record { name = codes "B"; supply = 1; reserve = 5; points = 1; value = 0 } ∷ [];
  bidders = record { name = codes "Alpha"; eligibility = 9; sessions = 1 } ∷ record { name = codes "Beta"; eligibility = 9; sessions = 1 } ∷ [];
  pools = record { name = codes "P"; cap = 8; weights = 2 ∷ 1 ∷ [] } ∷ [];
}

abbrev bid : ℕ → ℕ → ℕ → Bid
bid a b amount = record { «package» = a ∷ b ∷ []; amount = amount }

abbrev book : Book
book = (bid 2 0 30 ∷ []) ∷ (bid 1 1 25 ∷ []) ∷ []

abbrev sale : Sale
sale = record { names = codes "Alpha" ∷ codes "Beta" ∷ []; lots = lots_in rules; book = book }

abbrev alpha : Choice
alpha = record { bidder = 1; bid = 1 }

abbrev beta : Choice
beta = record { bidder = 2; bid = 1 }

-- both win; a lot of A is left
abbrev first : List Choice
first = alpha ∷ beta ∷ []

abbrev groups : List (List ℕ)
groups = [] ∷ (1 ∷ []) ∷ (2 ∷ []) ∷ []

abbrev won : List (List Choice)
won = first ∷ (beta ∷ []) ∷ (alpha ∷ []) ∷ []

-- Alpha pays 8, which is its cost; Beta pays 7 1/2, and its cost is 4
abbrev halves : Priced
halves = record { parts = 2; prices = 16 ∷ 15 ∷ []; by_rule = true }

-- Beta pays the reserve of its lots
abbrev whole : Priced
whole = record { parts = 1; prices = 8 ∷ 7 ∷ []; by_rule = false }

abbrev shown : Option Priced → List (List Choice) → Further → Outcome
shown pricing awards further = record { won = won; pricing = pricing; others = record { awards = awards; further = further } }

abbrev of_lots : List ℕ
of_lots = codes "{\"category\": \"A\", \"supply\": 4, \"reserve\": 2, \"value\": 4, \"sold\": 3, \"unsold\": 1, \"value_left\": 4}\n"
    ++ codes "{\"category\": \"B\", \"supply\": 1, \"reserve\": 5, \"value\": 0, \"sold\": 1, \"unsold\": 0, \"value_left\": 0}\n"
    ++ codes "{\"pool\": \"P\", \"cap\": 8, \"load\": 7, \"left\": 1}\n"

record Lots : Type 0 where
  lots : lots_text rules (loads sale.lots book first) ≡ of_lots
  -- more than there are
  more : lots_text rules (5 ∷ 0 ∷ []) ≡ codes "{\"category\": \"A\", \"supply\": 4, \"reserve\": 2, \"value\": 4, \"sold\": 5, \"unsold\": 0, \"value_left\": 0}\n"
      ++ codes "{\"category\": \"B\", \"supply\": 1, \"reserve\": 5, \"value\": 0, \"sold\": 0, \"unsold\": 1, \"value_left\": 0}\n"
      ++ codes "{\"pool\": \"P\", \"cap\": 8, \"load\": 10, \"left\": 0}\n"

lots_are : Lots
unfolding digits
lots_are = record { lots = refl; more = refl }

record Groups : Type 0 where
  nobody : group_objects rules sale (Some halves) first 1 ([], first)
      ≡ codes "{\"group\": 1, \"left_out\": [], \"total\": 59, \"cost\": 0, \"pays\": 0}\n"
      ++ codes "{\"group\": 1, \"winner\": \"Alpha\", \"bid\": 1, \"amount\": 30, \"lots\": {\"A\": 2}, \"reserve\": 4}\n"
      ++ codes "{\"group\": 1, \"winner\": \"Beta\", \"bid\": 1, \"amount\": 25, \"lots\": {\"A\": 1, \"B\": 1}, \"reserve\": 7}\n"
  alpha_left_out : group_objects rules sale (Some halves) first 2 (1 ∷ [], beta ∷ [])
      ≡ codes "{\"group\": 2, \"left_out\": [\"Alpha\"], \"total\": 37, \"cost\": 8, \"pays\": 8}\n"
      ++ codes "{\"group\": 2, \"winner\": \"Beta\", \"bid\": 1, \"amount\": 25, \"lots\": {\"A\": 1, \"B\": 1}, \"reserve\": 7}\n"
  -- both pay 16, which is 8 and 7 1/2 rounded up
  both_left_out : object_text (group_members sale (Some halves) first 4 (1 ∷ 2 ∷ [], []))
      ≡ codes "{\"group\": 4, \"left_out\": [\"Alpha\", \"Beta\"], \"total\": 16, \"cost\": 12, \"pays\": 16}\n"
  no_prices : object_text (group_members sale None first 2 (1 ∷ [], beta ∷ []))
      ≡ codes "{\"group\": 2, \"left_out\": [\"Alpha\"], \"total\": 37, \"cost\": 8, \"pays\": null}\n"
  -- by an allocation that isn't of greatest total
  negative : object_text (group_members sale None first 1 ([], beta ∷ []))
      ≡ codes "{\"group\": 1, \"left_out\": [], \"total\": 37, \"cost\": -22, \"pays\": null}\n"

groups_are : Groups
unfolding digits
groups_are = record { nobody = refl; alpha_left_out = refl; both_left_out = refl; no_prices = refl; negative = refl }

record Prices : Type 0 where
  in_halves : prices_text rules sale groups won first (Some halves)
      ≡ codes "{\"price\": \"Alpha\", \"pays\": 8, \"exact\": [8, 1], \"alone\": 8, \"bound_by\": [2], \"by_reserve\": false}\n"
      ++ codes "{\"price\": \"Beta\", \"pays\": 8, \"exact\": [15, 2], \"alone\": 7, \"bound_by\": [], \"by_reserve\": false}\n"
  by_reserve : object_text (price_members rules sale groups won first whole beta)
      ≡ codes "{\"price\": \"Beta\", \"pays\": 7, \"exact\": [7, 1], \"alone\": 7, \"bound_by\": [], \"by_reserve\": true}\n"
  -- Beta isn't listed alone; the group of both costs 12, and pays 12
  together : object_text (price_members rules sale ([] ∷ (1 ∷ 2 ∷ []) ∷ []) (first ∷ [] ∷ []) first (record { parts = 1; prices = 8 ∷ 4 ∷ []; by_rule = false }) beta)
      ≡ codes "{\"price\": \"Beta\", \"pays\": 4, \"exact\": [4, 1], \"alone\": null, \"bound_by\": [2], \"by_reserve\": false}\n"

prices_are : Prices
unfolding digits
prices_are = record { in_halves = refl; by_reserve = refl; together = refl }

record Awards : Type 0 where
  other : award_text rules sale (zip groups won) 2 (beta ∷ [])
      ≡ codes "{\"award\": 2, \"total\": 37, \"costs\": [22, 0, 26]}\n"
      ++ codes "{\"award\": 2, \"winner\": \"Beta\", \"bid\": 1, \"amount\": 25, \"lots\": {\"A\": 1, \"B\": 1}, \"reserve\": 7}\n"
  negative : award_text rules sale (([], beta ∷ []) ∷ []) 3 [] ≡ codes "{\"award\": 3, \"total\": 16, \"costs\": [21]}\n"

awards_are : Awards
unfolding digits
awards_are = record { other = refl; negative = refl }

record Sums : Type 0 where
  with_prices : sums_text rules sale groups (shown (Some halves) [] Unknown) first
      ≡ codes "{\"sum\": \"winners\", \"amount\": 55, \"reserve\": 11}\n"
      ++ codes "{\"sum\": \"lots\", \"supply\": 5, \"sold\": 4, \"unsold\": 1, \"value_left\": 4}\n"
      ++ codes "{\"sum\": \"prices\", \"pays\": 16, \"exact\": [31, 2], \"alone\": 15}\n"
  without : sums_text rules sale groups (shown None [] Unknown) first
      ≡ codes "{\"sum\": \"winners\", \"amount\": 55, \"reserve\": 11}\n"
      ++ codes "{\"sum\": \"lots\", \"supply\": 5, \"sold\": 4, \"unsold\": 1, \"value_left\": 4}\n"
  -- Beta isn't listed alone
  unknown : object_text (prices_sum rules sale ([] ∷ (1 ∷ []) ∷ []) won first whole)
      ≡ codes "{\"sum\": \"prices\", \"pays\": 15, \"exact\": [15, 1], \"alone\": null}\n"

sums_are : Sums
unfolding digits
sums_are = record { with_prices = refl; without = refl; unknown = refl }

record Proved : Type 0 where
  unique : proved_object (proved_of (shown (Some halves) [] NoOther)) ≡ codes "{\"proved\": [\"totals\", \"costs\", \"prices\", \"by the rule\", \"unique\"]}\n"
  no_other : proved_object (proved_of (shown (Some whole) (first ∷ []) NoOther)) ≡ codes "{\"proved\": [\"totals\", \"costs\", \"prices\", \"no other\"]}\n"
  more : proved_object (proved_of (shown None (first ∷ []) More)) ≡ codes "{\"proved\": [\"totals\", \"costs\", \"and more\"]}\n"
  unknown : proved_object (proved_of (shown None (first ∷ []) Unknown)) ≡ codes "{\"proved\": [\"totals\", \"costs\"]}\n"

proved_are : Proved
proved_are = record { unique = refl; no_other = refl; more = refl; unknown = refl }

record Unshown : Type 0 where
  whole : objects_unshown rules sale ([] ∷ []) ((beta ∷ []) ∷ [])
      ≡ codes "{\"category\": \"A\", \"supply\": 4, \"reserve\": 2, \"value\": 4, \"sold\": 1, \"unsold\": 3, \"value_left\": 12}\n"
      ++ codes "{\"category\": \"B\", \"supply\": 1, \"reserve\": 5, \"value\": 0, \"sold\": 1, \"unsold\": 0, \"value_left\": 0}\n"
      ++ codes "{\"pool\": \"P\", \"cap\": 8, \"load\": 3, \"left\": 5}\n"
      ++ codes "{\"group\": 1, \"left_out\": [], \"total\": 37, \"cost\": 0, \"pays\": null}\n"
      ++ codes "{\"group\": 1, \"winner\": \"Beta\", \"bid\": 1, \"amount\": 25, \"lots\": {\"A\": 1, \"B\": 1}, \"reserve\": 7}\n"
      ++ codes "{\"sum\": \"winners\", \"amount\": 25, \"reserve\": 7}\n"
      ++ codes "{\"sum\": \"lots\", \"supply\": 5, \"sold\": 2, \"unsold\": 3, \"value_left\": 12}\n"
      ++ codes "{\"proved\": []}\n"

unshown_is : Unshown
unfolding digits
unshown_is = record { whole = refl }

-- one group, a price, and another award
record Shown : Type 0 where
  whole : objects_shown rules sale ([] ∷ []) (record {
    won = (alpha ∷ []) ∷ [];
    pricing = Some whole;
    others = record { awards = [] ∷ []; further = NoOther };
  })
      ≡ codes "{\"category\": \"A\", \"supply\": 4, \"reserve\": 2, \"value\": 4, \"sold\": 2, \"unsold\": 2, \"value_left\": 8}\n"
      ++ codes "{\"category\": \"B\", \"supply\": 1, \"reserve\": 5, \"value\": 0, \"sold\": 0, \"unsold\": 1, \"value_left\": 0}\n"
      ++ codes "{\"pool\": \"P\", \"cap\": 8, \"load\": 4, \"left\": 4}\n"
      ++ codes "{\"group\": 1, \"left_out\": [], \"total\": 38, \"cost\": 0, \"pays\": 0}\n"
      ++ codes "{\"group\": 1, \"winner\": \"Alpha\", \"bid\": 1, \"amount\": 30, \"lots\": {\"A\": 2}, \"reserve\": 4}\n"
      ++ codes "{\"price\": \"Alpha\", \"pays\": 8, \"exact\": [8, 1], \"alone\": null, \"bound_by\": [], \"by_reserve\": false}\n"
      ++ codes "{\"award\": 2, \"total\": 16, \"costs\": [22]}\n"
      ++ codes "{\"sum\": \"winners\", \"amount\": 30, \"reserve\": 4}\n"
      ++ codes "{\"sum\": \"lots\", \"supply\": 5, \"sold\": 2, \"unsold\": 3, \"value_left\": 8}\n"
      ++ codes "{\"sum\": \"prices\", \"pays\": 8, \"exact\": [8, 1], \"alone\": null}\n"
      ++ codes "{\"proved\": [\"totals\", \"costs\", \"prices\", \"no other\"]}\n"

shown_is : Shown
unfolding digits
shown_is = record { whole = refl }
