-- The numbers of the bidders that are named in a line of groups.
use Rattle.std.specs.Prelude.{ℕ, List, filter, map}
use Rattle.std.specs.List.{enumerate_from, list_any}
use Rattle.std.specs.Str.{bytes_eq}
use Rattle.auction_terms.specs.declared.rules.Bidder.{Bidder}

-- the numbers, from n on, of the bidders that the names name
abbrev pub numbers_from : ℕ → List Bidder → List (List ℕ) → List ℕ
numbers_from n bidders names =
    map (λ (b : ℕ × Bidder). b.0) (filter (λ (b : ℕ × Bidder). list_any (λ name. bytes_eq name b.1.name) names) (enumerate_from n bidders))
