-- Points of the program of the kept bids that are the only least ones win all allocations of kept bids.
use Rattle.std.proofs.Common.{◌≡◌, ℕ, ◌+◌, ◌≤◌, Bool, true, false, ◌==◌, cond, List, [], ◌∷◌, ◌++◌, map, refl, sym, ap, ap₂}
use Rattle.std.proofs.Common.{◌∙◌, Option, Some, subst, arith, eqb-true, eq-eqb, pos, neg_ℤ, ◌≤ℤ◌}
use Rattle.std.specs.Prelude.{All, IsPermutation, not, sum_by, ◌&&◌}
use Rattle.std.specs.Option.{option_map_or}
use Rattle.std.proofs.lemmas.Int.{ints}
use Rattle.std.proofs.lemmas.Bool.{and_parts, and_from}
use Rattle.std.proofs.lemmas.List.Sums.{sum_by-append, sum_by-cons}
use Rattle.std.proofs.lemmas.List.Elements.{All-from_recursion, All-map, recursion_from_All}
use Rattle.std.proofs.lemmas.List.Sorted.{IsPermutation-cons, IsPermutation-middle, IsPermutation-refl, IsPermutation-sym, IsPermutation-trans}
use Rattle.auction_terms.specs.declared.bids.Choice.{Choice}
use Rattle.auction_terms.specs.Allocations.{bid_of, form_of, total}
use Rattle.auction_terms.specs.declared.bids.Bid.{Bid}
use Rattle.auction_terms.specs.Domination.{is_kept}
use Rattle.auction_terms.specs.Keeping.{Offer, kept_of, is_kept_choice, offers_from}
use Rattle.auction_terms.specs.inside.Keeping.{choice_of}
use Rattle.auction_terms.proofs.LimitFacts.{kept_are_offers, sized}
use Rattle.auction_terms.proofs.OfferFacts.{all_agree, all_filter, stands as offers_stand}
use Rattle.program_rows.specs.Points.{objective}
use Rattle.program_rows.specs.Rows.{program_of, subjects}
use Rattle.program_rows.specs.Faithful.{back}
use Rattle.program_rows.specs.Only.{OnlyLeastAreAllKept, PointsWinKeptBids}
use Rattle.program_rows.proofs.EachFacts.{each}
use Rattle.program_rows.proofs.FaithfulFacts.{back_is, chosen, chosen_all, counted_members, exact_point, measured, numbered, presolved_is_faithful, same_choice, values_of}

-- ---------- lists that have each choice as often ----------

abbrev pub times : Choice → List Choice → ℕ
times c xs = sum_by (λ d. cond (same_choice c d) 1 0) xs

same-itself : (c : Choice) → same_choice c c ≡ true
same-itself c = and_from (c.bidder == c.bidder) (c.bid == c.bid) (eq-eqb c.bidder c.bidder refl) (eq-eqb c.bid c.bid refl)

are-same : (c d : Choice) → same_choice c d ≡ true → c ≡ d
are-same c d e =
    let parts = and_parts (c.bidder == d.bidder) (c.bid == d.bid) e in
    let bidder : c.bidder ≡ d.bidder = eqb-true c.bidder d.bidder parts.0 in
    let bid : c.bid ≡ d.bid = eqb-true c.bid d.bid parts.1 in
    ap₂ (λ (b j : ℕ). record { bidder = b; bid = j }) bidder bid

-- a choice, and the list before and after it
record Stands (c : Choice) (xs : List Choice) : Type 0 where
  before : List Choice
  after : List Choice
  is : xs ≡ before ++ c ∷ after

stands-here-or-later : (c x : Choice) (xs : List Choice) (b : Bool) → same_choice c x ≡ b → 1 ≤ times c (x ∷ xs)
    → (1 ≤ times c xs → Stands c xs) → Stands c (x ∷ xs)
stands-here-or-later c x xs true e h later = record { before = []; after = xs; is = ap (λ (d : Choice). d ∷ xs) (sym (are-same c x e)) }
stands-here-or-later c x xs false e h later =
    let n : ℕ = cond (same_choice c x) 1 0 in
    let none : n ≡ 0 = ap (λ (b : Bool). cond b 1 0) e in
    let more : times c (x ∷ xs) ≡ n + times c xs = sum_by-cons (λ d. cond (same_choice c d) 1 0) x xs in
    let r = later (omega arith) in
    record { before = x ∷ r.before; after = r.after; is = ap (λ (ys : List Choice). x ∷ ys) r.is }

stands : (c : Choice) (xs : List Choice) → 1 ≤ times c xs → Stands c xs
stands c [] h = absurd (omega arith)
stands c (x ∷ xs) h = stands-here-or-later c x xs (same_choice c x) refl h (stands c xs)

pub as-often : (xs ys : List Choice) → ((c : Choice) → times c xs ≡ times c ys) → IsPermutation xs ys
as-often [] [] h = IsPermutation-refl []
as-often [] (y ∷ ys) h =
    let here : times y [] ≡ times y (y ∷ ys) = h y in
    let n : ℕ = cond (same_choice y y) 1 0 in
    let one : n ≡ 1 = ap (λ (b : Bool). cond b 1 0) (same-itself y) in
    let more : times y (y ∷ ys) ≡ n + times y ys = sum_by-cons (λ d. cond (same_choice y d) 1 0) y ys in
    absurd (omega arith)
as-often (x ∷ xs) ys h =
    let n : ℕ = cond (same_choice x x) 1 0 in
    let one : n ≡ 1 = ap (λ (b : Bool). cond b 1 0) (same-itself x) in
    let more : times x (x ∷ xs) ≡ n + times x xs = sum_by-cons (λ d. cond (same_choice x d) 1 0) x xs in
    let here : times x (x ∷ xs) ≡ times x ys = h x in
    let r = stands x ys (omega arith) in
    let others : (c : Choice) → times c xs ≡ times c (r.before ++ r.after) = λ c.
    let m : ℕ = cond (same_choice c x) 1 0 in
    let first : times c (x ∷ xs) ≡ m + times c xs = sum_by-cons (λ d. cond (same_choice c d) 1 0) x xs in
    let whole : times c ys ≡ times c (r.before ++ x ∷ r.after) = ap (times c) r.is in
    let parts : times c (r.before ++ x ∷ r.after) ≡ times c r.before + times c (x ∷ r.after) =
    sum_by-append (λ d. cond (same_choice c d) 1 0) r.before (x ∷ r.after) in
    let next : times c (x ∷ r.after) ≡ m + times c r.after = sum_by-cons (λ d. cond (same_choice c d) 1 0) x r.after in
    let together : times c (r.before ++ r.after) ≡ times c r.before + times c r.after = sum_by-append (λ d. cond (same_choice c d) 1 0) r.before r.after in
    let both : times c (x ∷ xs) ≡ times c ys = h c in
    omega arith in
    let moved = IsPermutation-cons x xs (r.before ++ r.after) (as-often xs (r.before ++ r.after) others) in
    let back_in = IsPermutation-sym (r.before ++ x ∷ r.after) (x ∷ (r.before ++ r.after)) (IsPermutation-middle r.before x r.after) in
    subst (λ (zs : List Choice). IsPermutation (x ∷ xs) zs) (sym r.is)
    (IsPermutation-trans (x ∷ xs) (x ∷ (r.before ++ r.after)) (r.before ++ x ∷ r.after) moved back_in)

-- ---------- the laws ----------

pub points_win_kept_bids : PointsWinKeptBids
points_win_kept_bids lots book group values within =
    let all = kept_of lots book group in
    let kept = all_agree (λ (o : Offer). (bid_of book (choice_of o) ≡ Some o.bid) × ((not (group o.bidder) && is_kept lots (form_of book o.bidder) o.bid) ≡ true))
    (λ (o : Offer). is_kept_choice lots book group (choice_of o) ≡ true) all
    (λ o h. ap (λ (b : Option Bid). not (group o.bidder) && option_map_or (λ x. is_kept lots (form_of book o.bidder) x) b false) h.0 ∙ h.1)
    (all_filter (λ (o : Offer). bid_of book (choice_of o) ≡ Some o.bid) (λ (o : Offer). not (group o.bidder) && is_kept lots (form_of book o.bidder) o.bid)
    (offers_from 1 book) (offers_stand book)) in
    let is = back_is lots (subjects lots all) all values (numbered lots all (kept_are_offers lots book group within)) in
    subst (All (λ c. is_kept_choice lots book group c ≡ true)) (sym is)
    (All-map (λ c. is_kept_choice lots book group c ≡ true) choice_of (chosen all values)
    (All-from_recursion (λ (o : Offer). is_kept_choice lots book group (choice_of o) ≡ true) (chosen all values)
    (chosen_all (λ (o : Offer). is_kept_choice lots book group (choice_of o) ≡ true) all values kept)))

pub only_least_are_all_kept : OnlyLeastAreAllKept
only_least_are_all_kept lots book group first others within is_point only other feasible kept no_less =
    let all = kept_of lots book group in
    let p = program_of lots all in
    let fits = sized lots book within in
    let k = recursion_from_All (λ c. is_kept_choice lots book group c ≡ true) other kept in
    let parsed = (presolved_is_faithful lots book group within).maps_back first is_point in
    let exact = exact_point lots book group fits other k feasible in
    let v = values_of lots book group fits other in
    let of_first : pos (total lots book (back p.columns first)) ≡ neg_ℤ (objective p first) = parsed.same_total in
    let of_other : pos (total lots book other) ≡ neg_ℤ (objective p v) = exact.1 in
    let lower : objective p v ≤ℤ objective p first = omega (arith, ints) in
    let among = only v exact.0 lower in
    let won = back p.columns v in
    let chosen_is : won ≡ map choice_of (chosen all v) = back_is lots (subjects lots all) all v (numbered lots all (kept_are_offers lots book group within)) in
    let often : (c : Choice) → times c won ≡ times c other = λ c.
    ap (times c) chosen_is
    ∙ measured (λ d. cond (same_choice c d) 1 0) (λ o. cond (same_choice c (choice_of o)) 1 0) (chosen all v) (each _ (chosen all v) (λ o. refl))
    ∙ counted_members lots book group fits (λ d. cond (same_choice c d) 1 0) other k feasible.one_bid_each in
    (among.0, v, among.1, among.2, as-often won other often)
