-- What each winner costs alone, in pounds: the opportunity cost of that winner alone, or the reserve of its lots if that is more.
use Rattle.std.specs.Prelude.{◌≡◌, ◌==◌, ◌&&◌, ℕ, Bool, false, All, List, [], ◌∷◌, Option, Some, None, Result, Ok, pos, unsigned_abs, length, slice_index, if◌then◌else◌}
use Rattle.std.specs.Int.{int_max}
use Rattle.std.specs.List.{AllZip}
use Rattle.std.specs.Option.{ok_or, option_map, option_map_or}
use Rattle.auction_terms.specs.declared.bids.Choice.{Choice}
use Rattle.auction_terms.specs.Groups.{has}
use Rattle.auction_terms.specs.Packages.{Lots}
use Rattle.auction_terms.specs.Allocations.{Book, weighed_choice, IsFeasible}
use Rattle.auction_terms.specs.Stages.{each_in_turn}
use Rattle.outcome.specs.Pricing.{price_in}
use Rattle.outcome.specs.Report.{cost}
use Rattle.program_rows.specs.Faithful.{IsGreatest}
use Rattle.prices.specs.declared.alone.AloneFault.{AloneFault}
use Rattle.prices.specs.declared.alone.AloneFault.TheVariants.{NotListed}

-- what a winner costs alone, by an allocation without it
abbrev pub cost_alone : List ℕ → Lots → Book → List Choice → List Choice → Choice → ℕ
cost_alone reserves lots book first without c =
    unsigned_abs (int_max (cost lots book first (c.bidder ∷ []) without) (pos (weighed_choice reserves book c)))

-- the amount for each winner is what that winner costs alone, whichever allocation of greatest total without it is taken
abbrev pub AreCostsAlone : List ℕ → Lots → Book → List Choice → (ℕ → ℕ) → Type 0
AreCostsAlone reserves lots book first alone = All (λ c. (without : List Choice) → IsGreatest lots book (has (c.bidder ∷ [])) without
    → alone c.bidder ≡ cost_alone reserves lots book first without c) first

-- ---------- from listed groups ----------

-- the group is this bidder alone
abbrev pub is_alone : ℕ → List ℕ → Bool
is_alone bidder group = length group == 1 && slice_index group 0 == bidder

-- the allocation beside the first group that is this bidder alone
abbrev pub without_alone : List (List ℕ) → List (List Choice) → ℕ → Option (List Choice)
without_alone (group ∷ groups) (without ∷ won) bidder = if is_alone bidder group then Some without else without_alone groups won bidder
without_alone _ _ bidder = None

-- what a winner costs alone, by the first group that is that winner alone
abbrev pub winner_alone : List ℕ → Lots → Book → List Choice → List (List ℕ) → List (List Choice) → Choice → Result ℕ AloneFault
winner_alone reserves lots book first groups won c =
    ok_or (option_map (λ without. cost_alone reserves lots book first without c) (without_alone groups won c.bidder)) (NotListed c.bidder)

-- what a bidder wins
abbrev pub choice_won : List Choice → ℕ → Option Choice
choice_won [] bidder = None
choice_won (c ∷ first) bidder = if c.bidder == bidder then Some c else choice_won first bidder

-- what a bidder costs alone: 0 if it wins nothing
abbrev pub bidder_alone : List ℕ → Lots → Book → List Choice → List (List ℕ) → List (List Choice) → ℕ → Result ℕ AloneFault
bidder_alone reserves lots book first groups won bidder =
    option_map_or (winner_alone reserves lots book first groups won) (choice_won first bidder) (Ok 0)

-- what each bidder of the book costs alone, bidder 1's cost first; or the first bidder that wins something and isn't listed alone
abbrev pub costs_alone : List ℕ → Lots → Book → List Choice → List (List ℕ) → List (List Choice) → Result (List ℕ) AloneFault
costs_alone reserves lots book first groups won = each_in_turn (λ bidder form. bidder_alone reserves lots book first groups won bidder) 1 book

-- by groups that are listed with allocations of greatest total without each, they are what the winners cost alone
abbrev pub ListedAreCostsAlone : Type 0
ListedAreCostsAlone = (reserves : List ℕ) (lots : Lots) (book : Book) (first : List Choice) (groups : List (List ℕ)) (won : List (List Choice)) (costs : List ℕ)
    → IsFeasible lots book (λ b. false) first → AllZip (λ group a. IsGreatest lots book (has group) a) groups won
    → costs_alone reserves lots book first groups won ≡ Ok costs → AreCostsAlone reserves lots book first (price_in costs)
