-- Packages less another one, and two together, category by category.
use Rattle.std.proofs.Common.{◌≡◌, ℕ, zero, suc, ◌+◌, ◌-◌, ◌<◌, ◌≤◌, Bool, true, false, List, [], ◌∷◌, length, get_or, refl, arith, le-leb, leb-true}
use Rattle.std.specs.Prelude.{nat_le, All}
use Rattle.std.specs.List.{AllByRecursion, list_all}
use Rattle.std.proofs.lemmas.Bool.{and_parts, and_from, both_ways}
use Rattle.std.proofs.lemmas.List.Elements.{recursion_from_All, All-from_recursion}
use Rattle.auction_terms.specs.declared.limits.TheConstants.{GREATEST_QUANTITY}
use Rattle.auction_terms.specs.Packages.{IsPackage, Lots, fits, is_within, left}
use Rattle.auction_terms.specs.inside.Packages.{is_within_cap}
use Rattle.outcome.specs.inside.Following.{both_packages}

-- ---- less another one

pub left-length : (p q : List ℕ) → length (left p q) ≡ length p
left-length [] q = refl
left-length (x ∷ p) [] = let r = left-length p [] in omega arith
left-length (x ∷ p) (y ∷ q) = let r = left-length p q in omega arith

pub left-at : (p q : List ℕ) (k : ℕ) → k < length p → length p ≡ length q → get_or (left p q) k 0 ≡ get_or p k 0 - get_or q k 0
left-at [] q k l e = absurd (omega arith)
left-at (x ∷ p) [] k l e = absurd (omega arith)
left-at (x ∷ p) (y ∷ q) zero l e = refl
left-at (x ∷ p) (y ∷ q) (suc k) l e = left-at p q k (omega arith) (omega arith)

small-left : (p q : List ℕ) → AllByRecursion (λ n. n ≤ GREATEST_QUANTITY) p → AllByRecursion (λ n. n ≤ GREATEST_QUANTITY) (left p q)
small-left [] q h = tt
small-left (x ∷ p) [] h = (h.0, small-left p [] h.1)
small-left (x ∷ p) (y ∷ q) h = ((let l = h.0 in omega arith), small-left p q h.1)

-- as many small quantities as a package has
package-of : (p r : List ℕ) → IsPackage p → length r ≡ length p → AllByRecursion (λ n. n ≤ GREATEST_QUANTITY) r → IsPackage r
package-of p r h e small = record { some = rw e h.some; few = rw e h.few; each = All-from_recursion (λ n. n ≤ GREATEST_QUANTITY) r small }

pub package-left : (p q : List ℕ) → IsPackage p → IsPackage (left p q)
package-left p q h = package-of p (left p q) h (left-length p q) (small-left p q (recursion_from_All (λ n. n ≤ GREATEST_QUANTITY) p h.each))

-- ---- two together

pub both-length : (p q : List ℕ) → length p ≡ length q → length (both_packages p q) ≡ length p
both-length [] q e = refl
both-length (x ∷ p) [] e = absurd (omega arith)
both-length (x ∷ p) (y ∷ q) e = let r = both-length p q (omega arith) in omega arith

pub both-at : (p q : List ℕ) (k : ℕ) → k < length p → length p ≡ length q → get_or (both_packages p q) k 0 ≡ get_or p k 0 + get_or q k 0
both-at [] q k l e = absurd (omega arith)
both-at (x ∷ p) [] k l e = absurd (omega arith)
both-at (x ∷ p) (y ∷ q) zero l e = refl
both-at (x ∷ p) (y ∷ q) (suc k) l e = both-at p q k (omega arith) (omega arith)

abbrev pub are_small : List ℕ → Bool
are_small q = list_all (λ quantity. nat_le quantity GREATEST_QUANTITY) q

small-each : (q : List ℕ) → are_small q ≡ true → AllByRecursion (λ n. n ≤ GREATEST_QUANTITY) q
small-each [] h = tt
small-each (x ∷ q) h =
    let e = and_parts (nat_le x GREATEST_QUANTITY) (are_small q) h in
    (leb-true x GREATEST_QUANTITY e.0, small-each q e.1)

pub package-both : (p q : List ℕ) → length p ≡ length q → IsPackage p → are_small (both_packages p q) ≡ true → IsPackage (both_packages p q)
package-both p q same h small = package-of p (both_packages p q) h (both-length p q same) (small-each (both_packages p q) small)

-- ---- what fits is small

small-within : (q s : List ℕ) → AllByRecursion (λ n. n ≤ GREATEST_QUANTITY) s → is_within q s ≡ true → are_small q ≡ true
small-within [] s h e = refl
small-within (x ∷ q) [] h e =
    let f = and_parts (nat_le x 0) (is_within q []) e in
    let l = leb-true x 0 f.0 in
    and_from (nat_le x GREATEST_QUANTITY) (are_small q) (le-leb x GREATEST_QUANTITY (omega arith)) (small-within q [] tt f.1)
small-within (x ∷ q) (y ∷ s) h e =
    let f = and_parts (nat_le x y) (is_within q s) e in
    let l = leb-true x y f.0 in
    let m = h.0 in
    and_from (nat_le x GREATEST_QUANTITY) (are_small q) (le-leb x GREATEST_QUANTITY (omega arith)) (small-within q s h.1 f.1)

pub small-fits : (lots : Lots) (q : List ℕ) → AllByRecursion (λ n. n ≤ GREATEST_QUANTITY) lots.supply → fits lots q ≡ true → are_small q ≡ true
small-fits lots q h e = small-within q lots.supply h (and_parts (is_within q lots.supply) (list_all (is_within_cap q) lots.pools) e).0

pub small-package : (q : List ℕ) → are_small q ≡ true → All (λ n. n ≤ GREATEST_QUANTITY) q
small-package q h = All-from_recursion (λ n. n ≤ GREATEST_QUANTITY) q (small-each q h)

-- what isn't small doesn't fit
pub large-fails : (lots : Lots) (q : List ℕ) → AllByRecursion (λ n. n ≤ GREATEST_QUANTITY) lots.supply → are_small q ≡ false → fits lots q ≡ false
large-fails lots q h large = by (fits lots q) refl
  where
    by : (b : Bool) → fits lots q ≡ b → b ≡ false
    by true e = absurd (both_ways (are_small q) large (small-fits lots q h e))
    by false e = refl

-- a number at a place of small ones
pub small-at : (xs : List ℕ) (k : ℕ) → AllByRecursion (λ n. n ≤ GREATEST_QUANTITY) xs → get_or xs k 0 ≤ GREATEST_QUANTITY
small-at [] k h = omega arith
small-at (x ∷ xs) zero h = h.0
small-at (x ∷ xs) (suc k) h = small-at xs k h.1
