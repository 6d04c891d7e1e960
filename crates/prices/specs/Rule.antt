-- Weights that show that prices in parts of a pound are the prices of the rule.
use Rattle.std.specs.Prelude.{◌≡◌, ◌+◌, ◌*◌, ◌&&◌, ◌||◌, ◌==◌, ℕ, Bool, All, List, [], ◌∷◌, Option, None, int_le, nat_le, pos, ◌*ℤ◌}
use Rattle.std.specs.List.{list_all}
use Rattle.auction_terms.specs.declared.bids.Choice.{Choice}
use Rattle.auction_terms.specs.FirstFault.{first_failed}
use Rattle.auction_terms.specs.Groups.{has}
use Rattle.auction_terms.specs.Packages.{Lots}
use Rattle.auction_terms.specs.Allocations.{Book, weighed_choice}
use Rattle.outcome.specs.Report.{cost}
use Rattle.program_rows.specs.Faithful.{IsGreatest}
use Rattle.prices.specs.declared.rule.RuleFault.{RuleFault}
use Rattle.prices.specs.declared.rule.RuleFault.TheVariants.{NotLeast, NotNearest}
use Rattle.prices.specs.Parts.{AreThePrices, Suffice}
use Rattle.prices.specs.Prices.{paid_by_group}
use Rattle.prices.specs.Weights.{Weighted, Weights, weights_on}

-- a group that has a weight pays no more than its opportunity cost
abbrev pub is_tight : Lots → Book → List Choice → ℕ → (ℕ → ℕ) → Weighted → Bool
is_tight lots book first parts price w =
    w.weight == 0 || int_le (pos (paid_by_group price w.group first)) (pos parts *ℤ cost lots book first w.group w.without)

-- a winner that has a weight of its own pays no more than its reserve
abbrev pub is_tight_alone : List ℕ → Book → ℕ → (ℕ → ℕ) → (ℕ → ℕ) → Choice → Bool
is_tight_alone reserves book parts price own c = own c.bidder == 0 || nat_le (price c.bidder) (parts * weighed_choice reserves book c)

-- there are weights only where nothing more is paid than has to be
abbrev pub are_tight : List ℕ → Lots → Book → List Choice → ℕ → (ℕ → ℕ) → Weights → Bool
are_tight reserves lots book first parts price w =
    list_all (is_tight lots book first parts price) w.groups && list_all (is_tight_alone reserves book parts price w.own) first

-- the weights on each winner are the scale, and there are weights only where nothing more is paid than has to be
abbrev pub shows_least : List ℕ → Lots → Book → List Choice → ℕ → (ℕ → ℕ) → Weights → Bool
shows_least reserves lots book first parts price w =
    nat_le 1 w.scale && list_all (λ c. weights_on w c == w.scale) first && are_tight reserves lots book first parts price w

-- each winner's price is what it costs alone, moved up by the weights on it and down by one push for all, in parts of the scale
abbrev pub is_moved : (ℕ → ℕ) → ℕ → (ℕ → ℕ) → ℕ → Weights → Choice → Bool
is_moved alone parts price push w c = w.scale * price c.bidder + push == w.scale * (parts * alone c.bidder) + weights_on w c

-- that, and there are weights only where nothing more is paid than has to be
abbrev pub shows_nearest : List ℕ → Lots → Book → List Choice → (ℕ → ℕ) → ℕ → (ℕ → ℕ) → ℕ → Weights → Bool
shows_nearest reserves lots book first alone parts price push w =
    nat_le 1 w.scale && list_all (is_moved alone parts price push w) first && are_tight reserves lots book first parts price w

-- weights that are to show that the sum is the least, and with a push that no others of that sum are as near
pub record Rule : Type 0 where
  pub least : Weights
  pub nearest : Weights
  pub push : ℕ

-- which of the two isn't shown first
abbrev pub rule_fault : List ℕ → Lots → Book → List Choice → (ℕ → ℕ) → ℕ → (ℕ → ℕ) → Rule → Option RuleFault
rule_fault reserves lots book first alone parts price rule = first_failed (
    (shows_least reserves lots book first parts price rule.least, NotLeast) ∷
    (shows_nearest reserves lots book first alone parts price rule.push rule.nearest, NotNearest) ∷ [])

-- prices that suffice, with both shown by groups with an allocation of greatest total without each, are the prices of the rule
abbrev pub ShownAreThePrices : Type 0
ShownAreThePrices = (reserves : List ℕ) (lots : Lots) (book : Book) (first : List Choice) (alone : ℕ → ℕ) (parts : ℕ) (price : ℕ → ℕ) (rule : Rule)
    → Suffice reserves lots book first parts price
    → All (λ w. IsGreatest lots book (has w.group) w.without) rule.least.groups
    → All (λ w. IsGreatest lots book (has w.group) w.without) rule.nearest.groups
    → rule_fault reserves lots book first alone parts price rule ≡ None
    → AreThePrices reserves lots book first alone parts price
