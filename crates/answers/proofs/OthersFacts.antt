-- What is said of other awards is true.
use Rattle.std.proofs.Common.{◌≡◌, ◌<◌, ◌≤◌, ◌+◌, ◌∷◌, ◌++◌, [], ℕ, zero, suc, Bool, true, false, cond, List, Option, None, Some, Ok, refl, subst, sym, ap, arith, leb-true}
use Rattle.std.proofs.Common.{IsPermutation, nat_le, slice_index_or, map, length}
use Rattle.std.specs.Prelude.{All, Any, if◌then◌else◌}
use Rattle.std.specs.List.{AllByRecursion, AllZip}
use Rattle.std.specs.Option.{option_map}
use Rattle.std.proofs.lemmas.List.Elements.{All-from_recursion, recursion_from_All}
use Rattle.std.proofs.lemmas.List.Sorted.{All-permutation, IsPermutation-sym, IsPermutation-trans}
use Rattle.rayon.proofs.ListFacts.{AllZip-weaken}
use Rattle.auction_terms.specs.Allocations.{IsFeasible, total}
use Rattle.auction_terms.specs.FirstFault.{first_failed}
use Rattle.auction_terms.specs.Groups.{has}
use Rattle.auction_terms.specs.Keeping.{is_kept_choice}
use Rattle.auction_terms.specs.Limits.{IsBook}
use Rattle.auction_terms.specs.Only.{IsOnly}
use Rattle.auction_terms.specs.Stages.{refused_as}
use Rattle.auction_terms.specs.declared.bids.Choice.{Choice}
use Rattle.auction_terms.proofs.LimitFacts.{sized}
use Rattle.auction_terms.proofs.PermutedFacts.{total_permuted}
use Rattle.auction_input.specs.Auction.{Auction}
use Rattle.auction_input.specs.declared.refusal.Refusal.TheVariants as refusal
use Rattle.auction_input.specs.declared.tie_fault.TieFault.TheVariants as tie
use Rattle.auction_input.specs.declared.tie_fault.TieFault.{TieFault}
use Rattle.auction_input.proofs.AnswerFacts.{ok-after, ok-is, ok-refused_as, unless-ok, unless-parsed}
use Rattle.optimality.proofs.OnlyFacts.{shown-is-only}
use Rattle.optimality.proofs.VerdictFacts.{only-verdict}
use Rattle.optimality.specs.OnlyPoints.{only_fault}
use Rattle.outcome.proofs.BackFacts.{back_bidders, points_come_back, same_sum, solutions_come_back}
use Rattle.outcome.proofs.OtherFacts.{others_are_true}
use Rattle.outcome.proofs.PointFacts.{solutions_are_points}
use Rattle.outcome.proofs.TieFacts.{only_first_settles_costs, others_differ}
use Rattle.outcome.specs.Following.{AreAllGreatest, AreAllKept, EachPair}
use Rattle.outcome.specs.Others.{AreTrueOthers, Others, others_of}
use Rattle.outcome.specs.PointAllocation.{HasRisingBidders, allocation_of}
use Rattle.outcome.specs.Solution.{solution}
use Rattle.outcome.specs.Ties.{same_choices}
use Rattle.outcome.specs.declared.others.Further.TheVariants.{NoOther}
use Rattle.bid_desk.specs.Sale.{Sale}
use Rattle.program_rows.proofs.FaithfulFacts.{presolved_is_faithful, same_choice}
use Rattle.program_rows.proofs.OnlyPointFacts.{as-often, only_least_are_all_kept, points_win_kept_bids}
use Rattle.program_rows.specs.Faithful.{IsGreatest, back}
use Rattle.program_rows.specs.Only.{AreOnlyLeast}
use Rattle.program_rows.specs.Points.{IsPoint}
use Rattle.program_rows.specs.Program.{Table}
use Rattle.answers.specs.Claimed.{award_fault, claim_counts, first_program, known_others, parsed_claims, parsed_tie, parsed_ties}
use Rattle.answers.specs.Claimed.{same_tie, same_winners, tie_fault, tie_number, unique_refused}
use Rattle.answers.specs.Programs.{program_for}
use Rattle.answers.specs.SolutionWinners.{solution_refused, winners_by}
use Rattle.answers.specs.Verified.{IsGreatestWithout, IsSettledCost}
use Rattle.answers.proofs.WinningFacts.{won-by}

-- ---- lists

-- what one of some things has, one of those that they become has
any-map : {X Y : Type 0} (P : X → Type 0) (Q : Y → Type 0) (f : X → Y) → ((x : X) → P x → Q (f x)) → (xs : List X) → Any P xs → Any Q (map f xs)
any-map P Q f becomes [] (k, x, l, e, p) = absurd (omega arith)
any-map P Q f becomes (y ∷ xs) (zero, x, l, e, p) = (0, f x, omega arith, ap f e, becomes x p)
any-map P Q f becomes (y ∷ xs) (suc k, x, l, e, p) =
    let (k', x', l', e', q) = any-map P Q f becomes xs (k, x, omega arith, e, p) in
    (suc k', x', omega arith, e', q)

each-map : {X Y : Type 0} (P : X → Type 0) (Q : Y → Type 0) (f : X → Y) → ((x : X) → P x → Q (f x)) → (xs : List X) → AllByRecursion P xs
    → AllByRecursion Q (map f xs)
each-map P Q f becomes [] each = tt
each-map P Q f becomes (x ∷ xs) each = (becomes x each.0, each-map P Q f becomes xs each.1)

-- one bidder after the other, the bids whose columns are 1 are the same bids
same-bids : (p : Table) (point : List Bool) → IsPermutation (back p.columns point) (allocation_of p point)
same-bids p point = as-often (back p.columns point) (allocation_of p point)
    (λ c. sym (same_sum (λ d. cond (same_choice c d) 1 0) (back p.columns point) (back_bidders p.columns point)))

-- the award of a point has kept bids, and is feasible
pub kept-award : (sale : Sale) → IsBook sale.lots sale.book → (point : List Bool)
    → All (λ c. is_kept_choice sale.lots sale.book (λ b. false) c ≡ true) (allocation_of (program_for sale []) point)
kept-award sale within point =
    let p : Table = program_for sale [] in
    All-permutation (λ c. is_kept_choice sale.lots sale.book (λ b. false) c ≡ true) (back p.columns point) (allocation_of p point)
    (same-bids p point) (points_win_kept_bids sale.lots sale.book (λ b. false) point within)

feasible-award : (sale : Sale) → IsBook sale.lots sale.book → (point : List Bool) → IsPoint (program_for sale []) point
    → IsFeasible sale.lots sale.book (λ b. false) (allocation_of (program_for sale []) point)
feasible-award sale within point is_point = (points_come_back sale.lots sale.book (has []) (program_for sale []) point
    (presolved_is_faithful sale.lots sale.book (has []) within) is_point).feasible

-- so have all awards of points, and a first one
pub each-kept : (sale : Sale) → IsBook sale.lots sale.book → (first : List Choice) (points : List (List Bool))
    → All (λ c. is_kept_choice sale.lots sale.book (λ b. false) c ≡ true) first
    → All (All (λ c. is_kept_choice sale.lots sale.book (λ b. false) c ≡ true)) (first ∷ map (allocation_of (program_for sale [])) points)
each-kept sale within first points kept = All-from_recursion (All (λ c. is_kept_choice sale.lots sale.book (λ b. false) c ≡ true))
    (first ∷ map (allocation_of (program_for sale [])) points) (kept, each points)
  where
    each : (points : List (List Bool))
        → AllByRecursion (All (λ c. is_kept_choice sale.lots sale.book (λ b. false) c ≡ true)) (map (allocation_of (program_for sale [])) points)
    each [] = tt
    each (v ∷ points) = (kept-award sale within v, each points)

pub each-feasible : (sale : Sale) → IsBook sale.lots sale.book → (first : List Choice) (points : List (List Bool))
    → IsFeasible sale.lots sale.book (λ b. false) first → All (IsPoint (program_for sale [])) points
    → All (IsFeasible sale.lots sale.book (λ b. false)) (first ∷ map (allocation_of (program_for sale [])) points)
each-feasible sale within first points feasible are = All-from_recursion (IsFeasible sale.lots sale.book (λ b. false))
    (first ∷ map (allocation_of (program_for sale [])) points) (feasible, each points (recursion_from_All (IsPoint (program_for sale [])) points are))
  where
    each : (points : List (List Bool)) → AllByRecursion (IsPoint (program_for sale [])) points
        → AllByRecursion (IsFeasible sale.lots sale.book (λ b. false)) (map (allocation_of (program_for sale [])) points)
    each [] are = tt
    each (v ∷ points) are = (feasible-award sale within v are.0, each points are.1)

-- what the first solution wins has kept bids
pub first-kept : (sale : Sale) (text : List ℕ) (first : List Choice) → IsBook sale.lots sale.book → winners_by (program_for sale []) 1 text ≡ Ok first
    → All (λ c. is_kept_choice sale.lots sale.book (λ b. false) c ≡ true) first
first-kept sale text first within won =
    let p : Table = program_for sale [] in
    let (point, point_is, is) = ok-after (refused_as (solution_refused p 1) (solution p text)) _ first won in
    let same : allocation_of p point ≡ first = ok-is _ (allocation_of p point) first refl is in
    subst (All (λ c. is_kept_choice sale.lots sale.book (λ b. false) c ≡ true)) same (kept-award sale within point)

-- where the first allocation is the only one, each cost is settled
pub settled-costs : (sale : Sale) (first : List Choice) → IsOnly sale.lots sale.book (λ b. false) first
    → (groups : List (List ℕ)) (won : List (List Choice)) → AllZip (IsGreatestWithout sale) groups won
    → AllZip (IsSettledCost sale first) groups won
settled-costs sale first only = AllZip-weaken (IsGreatestWithout sale) (IsSettledCost sale first)
    (λ group a greatest first' a' best best'. sym (only_first_settles_costs sale.lots sale.book group first first' a a' only best greatest best').1)

-- if nothing else is printed, and there is no other, it is the only one
pub only-of : (sale : Sale) (first : List Choice) (others : Others) → AreTrueOthers sale.lots sale.book (λ b. false) first others
    → others.further ≡ NoOther → others.awards ≡ [] → IsOnly sale.lots sale.book (λ b. false) first
only-of sale first others holds none alone = record {
  feasible = holds.greatest.0.feasible;
  only = λ other feasible no_less.
      let best : IsGreatest sale.lots sale.book (λ b. false) other = record { feasible = feasible; greatest = λ third f. let h = holds.greatest.0.greatest third f in omega arith } in
      let (k, a, l, e, moved) = subst (λ (xs : List (List Choice)). Any (λ a. IsPermutation a other) (first ∷ xs)) alone (holds.all none other best) in
      alone-at k a other l e moved;
}
  where
    alone-at : (k : ℕ) (a other : List Choice) → k < length (first ∷ []) → slice_index_or (first ∷ []) k a ≡ a → IsPermutation a other → IsPermutation first other
    alone-at zero a other l e moved = subst (λ (x : List Choice). IsPermutation x other) (sym e) moved
    alone-at (suc k) a other l e moved = absurd (omega arith)

-- all that there are
pub all-of : (sale : Sale) (first : List Choice) (others : Others) → AreTrueOthers sale.lots sale.book (λ b. false) first others
    → others.further ≡ NoOther → AreAllGreatest sale.lots sale.book (λ b. false) (first ∷ others.awards)
all-of sale first others holds none = record { greatest = holds.greatest; all = holds.all none; apart = holds.apart }

-- ---- ties

pub no-fault : {F R : Type 0} (refuse : F → R) (o : Option F) → option_map refuse o ≡ None → o ≡ None
no-fault refuse None e = refl
no-fault refuse (Some f) e = cc

module _ (auction : Auction) (within : IsBook auction.sale.lots auction.sale.book) (first : List Choice)
    (best : IsGreatest auction.sale.lots auction.sale.book (λ b. false) first) (first_rises : HasRisingBidders first) where
  abbrev sale : Sale
  sale = auction.sale

  abbrev p : Table
  p = first_program auction

  abbrev award : List Bool → List Choice
  award = allocation_of p

  abbrev Differ : List Choice → List Choice → Type 0
  Differ a b = ¬ IsPermutation a b

  -- a point that wins an award as good as the first
  record Ties (point : List Bool) : Type 0 where
    is_point : IsPoint p point
    greatest : IsGreatest sale.lots sale.book (λ b. false) (award point)
    rising : HasRisingBidders (award point)

  -- points that tie, and whose awards differ from those before and from one another
  record AllTie (before : List (List Choice)) (points : List (List Bool)) : Type 0 where
    each : AllByRecursion Ties points
    new : AllByRecursion (λ point. AllByRecursion (λ a. Differ a (award point)) before) points
    apart : EachPair Differ (map award points)

  other-than : (number : ℕ) (before : List (List Choice)) (a : List Choice) → AllByRecursion HasRisingBidders before → HasRisingBidders a
      → same_tie number before a ≡ None → AllByRecursion (λ b. Differ b a) before
  other-than number [] a rising rises none = tt
  other-than number (b ∷ before) a rising rises none = by (same_choices b a) refl none (other-than (number + 1) before a rising.1 rises)
    where
      by : (same : Bool) → same_choices b a ≡ same → (if same then Some number else same_tie (number + 1) before a) ≡ None
          → (same_tie (number + 1) before a ≡ None → AllByRecursion (λ c. Differ c a) before)
          → AllByRecursion (λ c. Differ c a) (b ∷ before)
      by true e none later = cc
      by false e none later = (others_differ b a rising.0 rises e, later none)

  -- an award without a fault ties, and is another one
  record Good (before : List (List Choice)) (a : List Choice) : Type 0 where
    no_less : total sale.lots sale.book first ≤ total sale.lots sale.book a
    differs : AllByRecursion (λ b. Differ b a) (first ∷ before)

  good-award : (before : List (List Choice)) (a : List Choice) → AllByRecursion HasRisingBidders before → HasRisingBidders a
      → award_fault sale first before a ≡ None → Good before a
  good-award before a rising rises none = by (nat_le (total sale.lots sale.book first) (total sale.lots sale.book a)) refl none
    where
      others : (same : Bool) → same_choices first a ≡ same
          → (if same then Some tie.SameAsFirst else option_map tie.SameAsTie (same_tie 1 before a)) ≡ None
          → AllByRecursion (λ b. Differ b a) (first ∷ before)
      others true e none = cc
      others false e none = (
        others_differ first a first_rises rises e,
        other-than 1 before a rising rises (no-fault tie.SameAsTie (same_tie 1 before a) none),
      )

      by : (fine : Bool) → nat_le (total sale.lots sale.book first) (total sale.lots sale.book a) ≡ fine
          → (if fine then same_winners first before a else Some tie.LowerTotal) ≡ None → Good before a
      by false e none = cc
      by true e none = record { no_less = leb-true _ _ e; differs = others (same_choices first a) refl none }

  -- as good as the first
  as-good : (a : List Choice) → IsFeasible sale.lots sale.book (λ b. false) a → total sale.lots sale.book first ≤ total sale.lots sale.book a
      → IsGreatest sale.lots sale.book (λ b. false) a
  as-good a feasible no_less = record { feasible = feasible; greatest = λ third f. let h = best.greatest third f in omega arith }

  tie-holds : (before : List (List Choice)) (text : List ℕ) (point : List Bool) → AllByRecursion HasRisingBidders before
      → parsed_tie auction first before text ≡ Ok point → Ties point × AllByRecursion (λ a. Differ a (award point)) (first ∷ before)
  tie-holds before text point rising parsed =
      let refuse = λ (f : TieFault). refusal.Tie (tie_number auction (length before + 1)) f in
      let (found, found_is, judged) = ok-after (refused_as (λ f. refuse (tie_fault p f)) (solution p text)) _ point parsed in
      let solved = ok-refused_as (λ f. refuse (tie_fault p f)) (solution p text) found found_is in
      let (none, same) = unless-ok (option_map refuse (award_fault sale first before (award found))) found point judged in
      let is : found ≡ point = same in
      let comes = solutions_come_back sale.lots sale.book (has []) text found within solved in
      let good = good-award before (award found) rising comes.rising (no-fault refuse (award_fault sale first before (award found)) none) in
      subst (λ (v : List Bool). Ties v × AllByRecursion (λ a. Differ a (award v)) (first ∷ before)) is (
        record {
          is_point = solutions_are_points p text found solved;
          greatest = as-good (award found) comes.feasible good.no_less;
          rising = comes.rising;
        },
        good.differs,
      )

  -- what holds of each, holds of each before one more, and of that
  one-more : {X : Type 0} (P : X → Type 0) (xs : List X) (x : X) → AllByRecursion P xs → P x → AllByRecursion P (xs ++ x ∷ [])
  one-more P [] x each here = (here, tt)
  one-more P (y ∷ xs) x each here = (each.0, one-more P xs x each.1 here)

  but-last : {X : Type 0} (P : X → Type 0) (xs : List X) (x : X) → AllByRecursion P (xs ++ x ∷ []) → AllByRecursion P xs × P x
  but-last P [] x each = (tt, each.0)
  but-last P (y ∷ xs) x each = (let (front, last) = but-last P xs x each.1 in ((each.0, front), last))

  split-new : (before : List (List Choice)) (a : List Choice) (points : List (List Bool))
      → AllByRecursion (λ v. AllByRecursion (λ b. Differ b (award v)) (first ∷ (before ++ a ∷ []))) points
      → AllByRecursion (λ v. AllByRecursion (λ b. Differ b (award v)) (first ∷ before)) points
      × AllByRecursion (λ b. Differ a b) (map award points)
  split-new before a [] new = (tt, tt)
  split-new before a (v ∷ points) new =
      let (front, last) = but-last (λ b. Differ b (award v)) before a new.0.1 in
      let (more, later) = split-new before a points new.1 in
      (((new.0.0, front), more), (last, later))

  ties-hold : (texts : List (List ℕ)) (before : List (List Choice)) (points : List (List Bool)) → AllByRecursion HasRisingBidders before
      → parsed_ties auction first before texts ≡ Ok points → AllTie (first ∷ before) points
  ties-hold [] before points rising parsed =
      subst (AllTie (first ∷ before)) (ok-is _ [] points refl parsed) (record { each = tt; new = tt; apart = tt })
  ties-hold (text ∷ texts) before points rising parsed =
      let (point, point_is, more_parsed) = ok-after (parsed_tie auction first before text) _ points parsed in
      let (more, more_are, are) = ok-after (parsed_ties auction first (before ++ award point ∷ []) texts) _ points more_parsed in
      let is : point ∷ more ≡ points = ok-is _ (point ∷ more) points refl are in
      let (ties, differs) = tie-holds before text point rising point_is in
      let rest = ties-hold texts (before ++ award point ∷ []) more (one-more HasRisingBidders before (award point) rising ties.rising) more_are in
      let (new, later) = split-new before (award point) more rest.new in
      subst (AllTie (first ∷ before)) is (record { each = (ties, rest.each); new = (differs, new); apart = (later, rest.apart) })

  -- ---- that there is no other

  apart-from-first : (points : List (List Bool)) → AllByRecursion (λ v. AllByRecursion (λ b. Differ b (award v)) (first ∷ [])) points
      → AllByRecursion (λ b. Differ first b) (map award points)
  apart-from-first [] new = tt
  apart-from-first (v ∷ points) new = (new.0.0, apart-from-first points new.1)

  all-kept : (point : List Bool) (points : List (List Bool)) → IsPoint p point → award point ≡ first → AllTie (first ∷ []) points
      → AreOnlyLeast p point points → AreAllKept sale.lots sale.book (λ b. false) (first ∷ map award points)
  all-kept point points is_point wins ties only = record {
    greatest = (best, each-map Ties (IsGreatest sale.lots sale.book (λ b. false)) award (λ v t. t.greatest) points ties.each);
    kept = (
      subst (λ (a : List Choice). All (λ c. is_kept_choice sale.lots sale.book (λ b. false) c ≡ true) a) wins (kept-award sale within point),
      each-map Ties (All (λ c. is_kept_choice sale.lots sale.book (λ b. false) c ≡ true)) award (λ v t. kept-award sale within v) points ties.each,
    );
    rising = (first_rises, each-map Ties HasRisingBidders award (λ v t. t.rising) points ties.each);
    all = λ other greatest kept.
        let same : total sale.lots sale.book (award point) ≡ total sale.lots sale.book (back p.columns point) =
        total_permuted sale.lots sale.book (back p.columns point) (award point) (same-bids p point) in
        let as_first : total sale.lots sale.book (award point) ≡ total sale.lots sale.book first = ap (total sale.lots sale.book) wins in
        let no_less = greatest.greatest first best.feasible in
        let found = only_least_are_all_kept sale.lots sale.book (λ b. false) point points within is_point only other greatest.feasible kept (omega arith) in
        subst (λ (a : List Choice). Any (λ b. IsPermutation b other) (a ∷ map award points)) wins
        (any-map (λ v. IsPermutation (back p.columns v) other) (λ a. IsPermutation a other) award
        (λ v moved. IsPermutation-trans (award v) (back p.columns v) other (IsPermutation-sym (back p.columns v) (award v) (same-bids p v)) moved)
        (point ∷ points) found);
    apart = (apart-from-first points ties.new, ties.apart);
  }

  points-of : (points : List (List Bool)) → AllByRecursion Ties points → All (IsPoint p) points
  points-of points each = All-from_recursion (IsPoint p) points (points-each points each)
    where
      points-each : (points : List (List Bool)) → AllByRecursion Ties points → AllByRecursion (IsPoint p) points
      points-each [] each = tt
      points-each (v ∷ points) each = (each.0.is_point, points-each points each.1)

  module _ (won : winners_by p 1 (slice_index_or auction.solutions 0 []) ≡ Ok first) where
    abbrev solved : List ℕ
    solved = slice_index_or auction.solutions 0 []

    -- the point that the first solution describes wins this
    wins-first-award : (point : List Bool) → solution p solved ≡ Ok point → award point ≡ first
    wins-first-award point parsed = ok-is (winners_by p 1 solved) (award point) first (won-by p 1 solved point _ (sym parsed) refl) won

    known-hold : (points : List (List Bool)) (uniques : List (List ℕ)) (others : Others) → AllTie (first ∷ []) points
        → known_others auction first points uniques ≡ Ok others → AreTrueOthers sale.lots sale.book (λ b. false) first others
    known-hold points [] others ties parsed =
        subst (AreTrueOthers sale.lots sale.book (λ b. false) first) (ok-is _ _ others refl parsed) (record {
          greatest = (best, each-map Ties (IsGreatest sale.lots sale.book (λ b. false)) award (λ v t. t.greatest) points ties.each);
          apart = (apart-from-first points ties.new, ties.apart);
          all = λ said. cc;
          more = λ said. cc;
        })
    known-hold points (text ∷ uniques) others ties parsed =
        let (point, point_is, judged) = ok-after (refused_as (solution_refused p 1) (solution p solved)) _ others parsed in
        let parsed_point = ok-refused_as (solution_refused p 1) (solution p solved) point point_is in
        let all = first ∷ map award points in
        let (none, is) = unless-ok (option_map unique_refused (only_fault p point points text)) (others_of sale.lots sale.book all) others judged in
        let (certificate, tells, shows) = (only-verdict p point points text).0 (no-fault unique_refused (only_fault p point points text) none) in
        let is_point = solutions_are_points p solved point parsed_point in
        let only = shown-is-only p point points certificate is_point (points-of points ties.each) shows in
        let kept = all-kept point points is_point (wins-first-award point parsed_point) ties only in
        subst (AreTrueOthers sale.lots sale.book (λ b. false) first) is
        (others_are_true sale.lots sale.book (λ b. false) first (map award points) (sized sale.lots sale.book within) kept)

    -- whatever is claimed
    pub claims-hold : (others : Others) → parsed_claims auction first ≡ Ok others → AreTrueOthers sale.lots sale.book (λ b. false) first others
    claims-hold others parsed =
        let (none, rest) = unless-parsed (first_failed (claim_counts auction)) _ others parsed in
        let (points, points_are, known) = ok-after (parsed_ties auction first [] auction.ties)
        (λ points. known_others auction first points auction.uniques) others rest in
        known-hold points auction.uniques others (ties-hold auction.ties [] points tt points_are) known
