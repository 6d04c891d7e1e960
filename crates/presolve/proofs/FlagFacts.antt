-- Laws of the flags: comparing a bid with the fitting bids of smaller size is comparing it with all.
use Rattle.std.proofs.Common.{◌≡◌, ◌+◌, ◌≤◌, ◌&&◌, ◌||◌, ⊎_elim, ℕ, Bool, true, false, not, nat_lt, List, [], ◌∷◌, length}
use Rattle.std.proofs.Common.{map, arith, refl, sym, ap, ap₂, ◌∙◌, lt-ltb, le-ltb, ℤ}
use Rattle.std.specs.Prelude.{All, int_le, pos}
use Rattle.std.specs.List.{AllByRecursion, list_any}
use Rattle.std.proofs.Math.Bool.{and-false, and-true, and_assoc}
use Rattle.std.proofs.lemmas.Bool.{and_parts, cases_Bool, both_ways, cond_both}
use Rattle.std.proofs.lemmas.List.Elements.{recursion_from_All}
use Rattle.std.proofs.lemmas.List.Sorted.{list_any-IsPermutation}
use Rattle.auction_terms.specs.declared.bids.Bid.{Bid}
use Rattle.auction_terms.specs.Packages.{Lots, is_within, fits, size}
use Rattle.auction_terms.specs.Domination.{net, dominates, is_kept}
use Rattle.auction_terms.proofs.PackageFacts.{fits_smaller, size_le, size_lt}
use Rattle.presolve.specs.declared.order.SizedBid.{SizedBid}
use Rattle.presolve.specs.Sizes.{IsUpTo}
use Rattle.presolve.specs.inside.Sizes.{Sized, sized_of, fitting_from, IsOrdered, AreRivals, TellsItsSize, TellsItsNet, beats}
use Rattle.presolve.proofs.SizeFacts.{all_ordered, sized}

abbrev beats_sized : Lots → Bid → Sized → Bool
beats_sized lots x s = nat_lt s.size (size x.package) && (int_le (net lots x) (net lots s.bid) && is_within s.bid.package x.package)

-- what bids say of their sizes and nets is so
beats_as_sized : (lots : Lots) (x s : SizedBid) → TellsItsSize x → TellsItsNet lots x → TellsItsNet lots s → beats x s ≡ beats_sized lots x.bid.now (sized_of s)
beats_as_sized lots x s reported mine its =
    let within = is_within s.bid.now.package x.bid.now.package in
    ap (λ (n : ℕ). nat_lt s.size n && (int_le x.net s.net && within)) reported
    ∙ ap₂ (λ (a b : ℤ). nat_lt s.size (size x.bid.now.package) && (int_le a b && within)) mine its

beats_each : (lots : Lots) (x : SizedBid) (rivals : List SizedBid) → TellsItsSize x → TellsItsNet lots x
    → AllByRecursion (TellsItsNet lots) rivals
    → list_any (beats x) rivals ≡ list_any (λ (s : SizedBid). beats_sized lots x.bid.now (sized_of s)) rivals
beats_each lots x [] reported mine nets = refl
beats_each lots x (s ∷ rivals) reported mine nets =
    ap₂ (λ (here rest : Bool). here || rest) (beats_as_sized lots x s reported mine nets.0) (beats_each lots x rivals reported mine nets.1)

pub any_of_map : (test : Sized → Bool) (rivals : List SizedBid) → list_any (λ (s : SizedBid). test (sized_of s)) rivals ≡ list_any test (map sized_of rivals)
any_of_map test [] = refl
any_of_map test (s ∷ rivals) = ap (λ (rest : Bool). test (sized_of s) || rest) (any_of_map test rivals)

-- of two packages, one within the other and not the other way round is the smaller one
tests : (smaller cheap within around : Bool) → (around ≡ true → smaller ≡ false) → (within ≡ true → around ≡ false → smaller ≡ true)
    → (smaller && (cheap && within)) ≡ ((within && not around) && cheap)
tests smaller cheap true true h k = rw (h refl) refl
tests smaller cheap true false h k = rw (k refl refl) (and-true cheap)
tests smaller cheap false around h k = rw (and-false cheap) (and-false smaller)

same_test : (lots : Lots) (x y : Bid) (j : ℕ) → beats_sized lots x (sized j y) ≡ dominates lots y x
same_test lots x y j =
    tests (nat_lt (size y.package) (size x.package)) (int_le (net lots x) (net lots y)) (is_within y.package x.package) (is_within x.package y.package)
    (λ a. le-ltb (size y.package) (size x.package) (size_le x.package y.package a))
    (λ w a. lt-ltb (size y.package) (size x.package) (size_lt y.package x.package w a))

-- of bids that give their sizes and nets, one beats another just where it dominates it
pub beats_dominates : (lots : Lots) (x s : SizedBid) → TellsItsSize x → TellsItsSize s → TellsItsNet lots x → TellsItsNet lots s
    → beats x s ≡ dominates lots s.bid.now x.bid.now
beats_dominates lots x s reported its_size mine its_net =
    beats_as_sized lots x s reported mine its_net
    ∙ ap (λ (n : ℕ). beats_sized lots x.bid.now (record { size = n; number = s.number; bid = s.bid.now })) its_size
    ∙ same_test lots x.bid.now s.bid.now s.number

-- a bid that doesn't fit dominates none that fits
dominates_none : (lots : Lots) (x y : Bid) → fits lots x.package ≡ true → fits lots y.package ≡ false → dominates lots y x ≡ false
dominates_none lots x y fit unfit = ⊎_elim
    (λ d. let s = (and_parts (is_within y.package x.package) (not (is_within x.package y.package))
    (and_parts (is_within y.package x.package && not (is_within x.package y.package)) (int_le (net lots x) (net lots y)) d).0).0 in
    absurd (both_ways (fits lots y.package) unfit (fits_smaller lots y.package x.package s fit)))
    (λ d. d)
    (cases_Bool (dominates lots y x))

-- among the bids that fit there is one that dominates wherever there is one at all
fitting_suffice : (lots : Lots) (x : Bid) (j : ℕ) (form : List Bid) → fits lots x.package ≡ true
    → list_any (beats_sized lots x) (fitting_from lots j form) ≡ list_any (λ (z : Bid). dominates lots z x) form
fitting_suffice lots x j [] fit = refl
fitting_suffice lots x j (y ∷ form) fit =
    let rest = fitting_suffice lots x (j + 1) form fit in
    cond_both (fits lots y.package) (sized j y ∷ fitting_from lots (j + 1) form) (fitting_from lots (j + 1) form)
    (λ (rs : List Sized). list_any (beats_sized lots x) rs ≡ list_any (λ (z : Bid). dominates lots z x) (y ∷ form))
    (λ e. ap₂ (λ (a b : Bool). a || b) (same_test lots x y j) rest)
    (λ e. rest ∙ sym (ap (λ (b : Bool). b || list_any (λ (z : Bid). dominates lots z x) form) (dominates_none lots x y fit e)))

-- a bid of a form is beaten where one of the form dominates it
pub rivals_suffice : (lots : Lots) (form : List Bid) (rivals : List SizedBid) (x : SizedBid) → IsOrdered lots form rivals → TellsItsSize x
    → TellsItsNet lots x → fits lots x.bid.now.package ≡ true
    → list_any (beats x) rivals ≡ list_any (λ (z : Bid). dominates lots z x.bid.now) form
rivals_suffice lots form rivals x o reported mine fit =
    let test = beats_sized lots x.bid.now in
    beats_each lots x rivals reported mine (recursion_from_All (TellsItsNet lots) rivals o.nets)
    ∙ sym (list_any-IsPermutation (λ (s : SizedBid). test (sized_of s)) o.fitting rivals o.moved)
    ∙ any_of_map test o.fitting ∙ ap (λ (rs : List Sized). list_any test rs) o.same ∙ fitting_suffice lots x.bid.now 1 form fit

-- the net of the bid isn't below 0, and no bid of its form dominates it
abbrev pub stands : Lots → List Bid → Bid → Bool
stands lots form x = int_le (pos 0) (net lots x) && not (list_any (λ (z : Bid). dominates lots z x) form)

pub all_kept : (lots : Lots) (form xs : List Bid) → map (λ (x : Bid). fits lots x.package && stands lots form x) xs ≡ map (is_kept lots form) xs
all_kept lots form [] = refl
all_kept lots form (x ∷ xs) = ap₂ (λ (b : Bool) (bs : List Bool). b ∷ bs)
    (sym (and_assoc (fits lots x.package) (int_le (pos 0) (net lots x)) (not (list_any (λ (z : Bid). dominates lots z x) form))))
    (all_kept lots form xs)

pub are_rivals : (lots : Lots) (n : ℕ) (form : List Bid) (rivals : List SizedBid) → All (λ (x : Bid). length x.package ≡ n) form
    → IsOrdered lots form rivals → AreRivals n rivals
are_rivals lots n form rivals a o = record {
  sized = all_ordered (λ (s : Sized). length s.bid.package ≡ n) lots form rivals o (λ i d small fit. a i d small);
  rising = λ i j d before within. no_larger (o.rising i j d before within);
}
  where
    no_larger : {a m b n : ℕ} → IsUpTo a m b n → a ≤ b
    no_larger h = ⊎_elim (λ l. omega arith) (λ e. let s = e.0 in omega arith) h

pub all_fit : (lots : Lots) (form : List Bid) (rivals : List SizedBid) → IsOrdered lots form rivals
    → All (λ (s : SizedBid). fits lots s.bid.now.package ≡ true) rivals
all_fit lots form rivals o = all_ordered (λ (s : Sized). fits lots s.bid.package ≡ true) lots form rivals o (λ i d small fit. fit)
