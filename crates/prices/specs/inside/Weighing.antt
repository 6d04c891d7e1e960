-- The weights on a bidder, and what the code compares with them.
use Rattle.std.specs.Prelude.{◌+◌, ◌*◌, ◌==◌, ℕ, Bool, cond, List, sum_by}
use Rattle.std.specs.List.{zip}
use Rattle.auction_terms.specs.declared.bids.Choice.{Choice}
use Rattle.auction_terms.specs.Groups.{has}

-- the weights of the groups that a bidder is in
abbrev pub weight_by : List (List ℕ) → List ℕ → ℕ → ℕ
weight_by groups weights bidder = sum_by (λ e. cond (has e.0 bidder) e.1 0) (zip groups weights)

-- the weights on a bidder are the scale
abbrev pub even_by : List (List ℕ) → List ℕ → (ℕ → ℕ) → ℕ → ℕ → Bool
even_by groups weights own scale bidder = weight_by groups weights bidder + own bidder == scale

-- a bidder's price is what it costs alone, moved
abbrev pub moved_by : List (List ℕ) → List ℕ → (ℕ → ℕ) → ℕ → (ℕ → ℕ) → ℕ → (ℕ → ℕ) → ℕ → ℕ → Bool
moved_by groups weights own scale alone parts price push bidder =
    scale * price bidder + push == scale * (parts * alone bidder) + (weight_by groups weights bidder + own bidder)

-- what the winners of a group pay
abbrev pub paid_in : List ℕ → (ℕ → ℕ) → List Choice → ℕ
paid_in group price a = sum_by (λ c. cond (has group c.bidder) (price c.bidder) 0) a
