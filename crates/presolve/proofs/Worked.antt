-- Worked reasons and lines, which the definitions compute.
use Rattle.std.specs.Prelude.{◌≡◌, ℕ, List, [], ◌∷◌, None, Some, codes, refl}
use Rattle.std.specs.Fmt.{digits}
use Rattle.auction_terms.specs.declared.bids.Bid.{Bid}
use Rattle.auction_terms.specs.Packages.{Lots}
use Rattle.auction_terms.specs.Terms.{Terms}
use Rattle.byte_sinks.specs.declared.json.Format.TheVariants as format
use Rattle.presolve.specs.Lines.{left_out, left_out_lines}
use Rattle.presolve.specs.Reasons.{why_left_out}
use Rattle.presolve.specs.declared.reason.Reason.TheVariants as reason

bid : ℕ → List ℕ → Bid
bid pounds quantities = record { «package» = quantities; amount = pounds }

-- two lots of the first category, worth 10 pounds each, and one of the second; together at most 30 by the weights 10 and 20
lots : Lots
lots = record { supply = 2 ∷ 1 ∷ []; values = 10 ∷ 0 ∷ []; pools = record { cap = 30; weights = 10 ∷ 20 ∷ [] } ∷ [] }

form : List Bid
form = bid 30 (1 ∷ 0 ∷ []) ∷ bid 90 (3 ∷ 2 ∷ []) ∷ bid 35 (2 ∷ 0 ∷ []) ∷ bid 50 (2 ∷ 1 ∷ []) ∷ bid 9 (1 ∷ 0 ∷ []) ∷ bid 40 (2 ∷ 0 ∷ []) ∷ []

worked_reasons :
    (why_left_out lots form (bid 30 (1 ∷ 0 ∷ [])) ≡ None)
    -- three lots of two: the first category is reported, though there aren't two of the second either, and the pool's load is 70
    × (why_left_out lots form (bid 90 (3 ∷ 2 ∷ [])) ≡ Some (reason.OverSupply 0 3 2))
    × (why_left_out lots form (bid 90 (2 ∷ 2 ∷ [])) ≡ Some (reason.OverSupply 1 2 1))
    -- 2 * 10 + 1 * 20
    × (why_left_out lots form (bid 50 (2 ∷ 1 ∷ [])) ≡ Some (reason.OverCap 0 40 30))
    -- 9 pounds for a lot worth 10
    × (why_left_out lots form (bid 9 (1 ∷ 0 ∷ [])) ≡ Some (reason.BelowWorth 1))
    -- a net of 15, where the first bid has one of 20 with one lot of these
    × (why_left_out lots form (bid 35 (2 ∷ 0 ∷ [])) ≡ Some (reason.Dominated 1))
    -- a net of 20, as much
    × (why_left_out lots form (bid 40 (2 ∷ 0 ∷ [])) ≡ Some (reason.Dominated 1))
unfolding bid lots form
worked_reasons = (refl, refl, refl, refl, refl, refl, refl)

-- one category, one bidder and one pool, whose name has a quotation mark
abbrev rules : Terms
rules = record {
  step = 1;
  categories = record { name = codes "A"; supply = 4; reserve = 10; points = 1; value = 20 } ∷ [];
  bidders = record { name = codes "Alpha"; eligibility = 9; sessions = 1 } ∷ [];
  pools = record { name = codes "Low \"1\""; cap = 50; weights = 20 ∷ [] } ∷ [];
}

worked_objects :
    (left_out format.Json rules 1 2 (reason.OverSupply 0 5 4) ≡ codes
    "{\"bidder\": \"Alpha\", \"bid\": 2, \"reason\": \"OverSupply\", \"category\": \"A\", \"asked\": 5, \"supply\": 4}\n")
    × (left_out format.Json rules 1 3 (reason.OverCap 0 60 50) ≡ codes
    "{\"bidder\": \"Alpha\", \"bid\": 3, \"reason\": \"OverCap\", \"pool\": \"Low \\\"1\\\"\", \"load\": 60, \"cap\": 50}\n")
    × (left_out format.Json rules 1 4 (reason.BelowWorth 5) ≡ codes
    "{\"bidder\": \"Alpha\", \"bid\": 4, \"reason\": \"BelowWorth\", \"less\": 5}\n")
    × (left_out format.Json rules 1 5 (reason.Dominated 1) ≡ codes
    "{\"bidder\": \"Alpha\", \"bid\": 5, \"reason\": \"Dominated\", \"by\": 1}\n")
    -- the second of two forms; the first is replaced
    × (left_out_lines format.Json rules (1 ∷ 1 ∷ []) ((None ∷ Some (reason.Dominated 1) ∷ []) ∷ []) ≡ codes
    "{\"bidder\": \"Alpha\", \"form\": 1, \"reason\": \"Replaced\", \"by\": 2}\n{\"bidder\": \"Alpha\", \"bid\": 2, \"reason\": \"Dominated\", \"by\": 1}\n")
    × (left_out_lines format.Words rules (1 ∷ 1 ∷ []) ((None ∷ Some (reason.Dominated 1) ∷ []) ∷ []) ≡ codes
    "Alpha: form 1 is replaced by form 2\nAlpha: bid 2 is dominated by bid 1\n")
unfolding digits
worked_objects = (refl, refl, refl, refl, refl, refl)
