-- What is printed of other awards is true.
use Rattle.std.proofs.Common.{◌≡◌, ◌<◌, ℕ, zero, suc, Bool, true, false, List, [], ◌∷◌, ◌∙◌, ap, arith, length, leb-true, refl, subst, sym, take}
use Rattle.std.specs.Prelude.{Any, IsPermutation, if◌then◌else◌, nat_le}
use Rattle.std.specs.List.{AllByRecursion}
use Rattle.std.proofs.lemmas.Bool.{leb-false}
use Rattle.std.proofs.Math.Dec.{leb-suc-suc, leb-suc-zero}
use Rattle.std.proofs.lemmas.List.{take_all}
use Rattle.auction_terms.specs.Allocations.{Book, IsSized}
use Rattle.auction_terms.specs.Packages.{Lots}
use Rattle.auction_terms.specs.declared.bids.Choice.{Choice}
use Rattle.auction_terms.specs.declared.limits.TheConstants.{MOST_TIES}
use Rattle.outcome.specs.Following.{AreAllGreatest, AreAllKept, EachPair, with_following}
use Rattle.outcome.specs.Others.{IsAnother, OthersAreTrue}
use Rattle.outcome.specs.declared.others.Further.{Further}
use Rattle.outcome.specs.declared.others.Further.TheVariants.{More, NoOther}
use Rattle.program_rows.specs.Faithful.{IsGreatest}
use Rattle.outcome.proofs.FollowFacts.{following_are_the_rest}

-- ---- the first of a list

module _ {X : Type 0} where
  all_take : (P : X → Type 0) (n : ℕ) (xs : List X) → AllByRecursion P xs → AllByRecursion P (take n xs)
  all_take P zero xs a = tt
  all_take P (suc n) [] a = tt
  all_take P (suc n) (x ∷ xs) a = (a.0, all_take P n xs a.1)

  both : (P Q : X → Type 0) (xs : List X) → AllByRecursion P xs → AllByRecursion Q xs → AllByRecursion (λ x. P x × Q x) xs
  both P Q [] a b = tt
  both P Q (x ∷ xs) a b = ((a.0, b.0), both P Q xs a.1 b.1)

  pub one-deeper : (n : ℕ) (xs : List X) → take n (take (suc n) xs) ≡ take n xs
  one-deeper zero xs = refl
  one-deeper (suc n) [] = refl
  one-deeper (suc n) (x ∷ xs) = ap (λ (ys : List X). x ∷ ys) (one-deeper n xs)

  pub as-many : (n : ℕ) (xs : List X) → nat_le (length (take (suc n) xs)) n ≡ nat_le (length xs) n
  as-many n [] = refl
  as-many zero (x ∷ xs) = sym (leb-suc-zero (length xs))
  as-many (suc n) (x ∷ xs) = leb-suc-suc (length (take (suc n) xs)) n ∙ as-many n xs ∙ sym (leb-suc-suc (length xs) n)

  module _ (R : X → X → Type 0) where
    pairs_take : (n : ℕ) (xs : List X) → EachPair R xs → EachPair R (take n xs)
    pairs_take zero xs p = tt
    pairs_take (suc n) [] p = tt
    pairs_take (suc n) (x ∷ xs) p = (all_take (R x) n xs p.0, pairs_take n xs p.1)

    -- the one after the first n, which is in R with each of them
    record Next (P : X → Type 0) (n : ℕ) (xs : List X) : Type 0 where
      it : X
      holds : P it
      after_all : AllByRecursion (λ a. R a it) (take n xs)

    next : (P : X → Type 0) (n : ℕ) (xs : List X) → n < length xs → AllByRecursion P xs → EachPair R xs → Next P n xs
    next P n [] l a p = absurd (omega arith)
    next P zero (x ∷ xs) l a p = record { it = x; holds = a.0; after_all = tt }
    next P (suc n) (x ∷ xs) l a p =
        let r = next (λ y. P y × R x y) n xs (omega arith) (both P (R x) xs a.1 p.0) p.1 in
        record { it = r.it; holds = r.holds.0; after_all = (r.holds.1, r.after_all) }

-- ---- the law

module _ (lots : Lots) (book : Book) (group : ℕ → Bool) (first : List Choice) (ties : List (List Choice)) (sized : IsSized lots book)
    (kept : AreAllKept lots book group (first ∷ ties)) where
  abbrev listed : List (List Choice)
  listed = with_following lots book (first ∷ ties)

  abbrev printed : List (List Choice)
  printed = take (suc MOST_TIES) listed

  known : AreAllGreatest lots book group listed
  known = following_are_the_rest lots book group (first ∷ ties) sized kept

  abbrev said : Bool → Further
  said few = if few then NoOther else More

  no_other : (few : Bool) → nat_le (length listed) (suc MOST_TIES) ≡ few → said few ≡ NoOther → (other : List Choice) → IsGreatest lots book group other
      → Any (λ a. IsPermutation a other) printed
  no_other false e none other best = cc
  no_other true e none other best =
      let all : printed ≡ listed = take_all (suc MOST_TIES) listed (leb-true _ _ e) in
      subst (λ (xs : List (List Choice)). Any (λ a. IsPermutation a other) xs) (sym all) (known.all other best)

  one_more : (few : Bool) → nat_le (length listed) (suc MOST_TIES) ≡ few → said few ≡ More
      → (other : List Choice) × IsAnother lots book group printed other
  one_more true e more = cc
  one_more false e more =
      let r = next (λ a b. ¬ IsPermutation a b) (IsGreatest lots book group) (suc MOST_TIES) listed (leb-false _ _ e) known.greatest known.apart in
      (r.it, record { greatest = r.holds; differs = r.after_all })

pub others_are_true : OthersAreTrue
others_are_true lots book group first ties sized kept = record {
  greatest = all_take (IsGreatest lots book group) (suc MOST_TIES) (listed lots book group first ties sized kept) (known lots book group first ties sized kept).greatest;
  apart = pairs_take (λ a b. ¬ IsPermutation a b) (suc MOST_TIES) (listed lots book group first ties sized kept) (known lots book group first ties sized kept).apart;
  all = no_other lots book group first ties sized kept (nat_le (length (with_following lots book (first ∷ ties))) (suc MOST_TIES)) refl;
  more = one_more lots book group first ties sized kept (nat_le (length (with_following lots book (first ∷ ties))) (suc MOST_TIES)) refl;
}
