-- Laws of the order by size.
use Rattle.std.proofs.Common.{◌≡◌, ◌+◌, ◌<◌, ◌≤◌, ◌==◌, ⊎_elim, ℕ, zero, suc, Bool, true, false, cond, List, [], ◌∷◌, ◌++◌}
use Rattle.std.proofs.Common.{Option, Some, None, get_or, drop, length, map, take, slice_get, slice_index_or, nat_cmp}
use Rattle.std.proofs.Common.{is_lt, arith, refl, sym, ap, ◌∙◌, subst, eq-eqb, ne_eqb, take_all}
use Rattle.std.specs.Prelude.{All, AllPairs, count_by, filter}
use Rattle.std.specs.List.{AllByRecursion}
use Rattle.std.specs.Option.{option_map_or}
use Rattle.std.specs.Ordering.{ordering_then}
use Rattle.std.proofs.lemmas.Bool.{cases_lt, cond_both}
use Rattle.std.proofs.lemmas.List.{append_assoc, at_drop_more, get_or-map, length-map, map-append}
use Rattle.std.proofs.lemmas.List.Elements.{All-from_recursion}
use Rattle.std.proofs.lemmas.List.Sorted.{All-permutation, length_permutation, sum_by-IsPermutation}
use Rattle.std.proofs.lemmas.List.Sums.{length-filter, sum_by-cons}
use Rattle.std.proofs.lemmas.Option.{slice_get-get_or}
use Rattle.std.proofs.lemmas.Simd.{map-map}
use Rattle.std.proofs.lemmas.Bool.Decides.{nat_tests}
use Rattle.auction_terms.specs.declared.bids.Bid.{Bid}
use Rattle.auction_terms.specs.Packages.{Lots, fits, size}
use Rattle.presolve.specs.declared.order.SizedBid.{SizedBid}
use Rattle.presolve.specs.Sizes.{IsUpTo, IsBySize, is_fitting, size_at}
use Rattle.presolve.specs.inside.Sizes.{Sized, sized_of, fitting_from, IsOrdered}

abbrev pub sized : ℕ → Bid → Sized
sized j y = record { size = size y.package; number = j; bid = y }

-- no more bids fit than there are
few_fit : (lots : Lots) (j : ℕ) (form : List Bid) → length (fitting_from lots j form) ≤ length form
few_fit lots j [] = omega arith
few_fit lots j (x ∷ form) =
    let rest = few_fit lots (j + 1) form in
    cond_both (fits lots x.package) (sized j x ∷ fitting_from lots (j + 1) form) (fitting_from lots (j + 1) form)
    (λ (rs : List Sized). length rs ≤ suc (length form)) (omega arith) (omega arith)

pub no_more_fit : (lots : Lots) (form : List Bid) (bids : List SizedBid) → IsOrdered lots form bids → length bids ≤ length form
no_more_fit lots form bids o =
    let few = few_fit lots 1 form in
    let same = ap (λ (rs : List Sized). length rs) o.same in
    let sized = length-map o.fitting sized_of in
    let moved = length_permutation o.fitting bids o.moved in
    omega arith

-- what the order of pairs of a size and a number says
pub up_to : (a m b n : ℕ) → is_lt (ordering_then (nat_cmp b a) (nat_cmp n m)) ≡ false → IsUpTo a m b n
up_to a m b n h = grind (arith, nat_tests)

pub up_to_trans : (a m b n c o : ℕ) → IsUpTo a m b n → IsUpTo b n c o → IsUpTo a m c o
up_to_trans a m b n c o h k = grind arith

-- what holds of neighbours holds of each element and each later one
pub all_pairs : {X : Type 0} (R : X → X → Type 0) → ((x y z : X) → R x y → R y z → R x z) → (xs : List X)
    → ((k : ℕ) (d : X) → k + 1 < length xs → R (slice_index_or xs k d) (slice_index_or xs (k + 1) d)) → AllPairs R xs
all_pairs R trans xs next i zero d before within = absurd (omega arith)
all_pairs {X} R trans xs next i (suc j) d before within =
    let last : R (slice_index_or xs j d) (slice_index_or xs (suc j) d) = subst
    (λ (k : ℕ). R (slice_index_or xs j d) (slice_index_or xs k d)) (let e : j + 1 ≡ suc j = omega arith in e) (next j d (omega arith))
    in
    ⊎_elim
    (λ earlier. trans _ _ _ (all_pairs R trans xs next i j d earlier (omega arith)) last)
    (λ same. subst (λ (k : ℕ). R (slice_index_or xs k d) (slice_index_or xs (suc j) d)) (let e : j ≡ i = omega arith in e) last)
    (cases_lt i j)

-- what holds of each bid of a form that fits, with its number
fitting_each : (P : Sized → Type 0) (lots : Lots) (j : ℕ) (form : List Bid)
    → ((i : ℕ) (d : Bid) → i < length form → fits lots (slice_index_or form i d).package ≡ true → P
    (sized (j + i) (slice_index_or form i d))) → AllByRecursion P (fitting_from lots j form)
fitting_each P lots j [] each = tt
fitting_each P lots j (x ∷ form) each =
    let rest = fitting_each P lots (j + 1) form (λ i d small fit. subst (λ (n : ℕ). P (sized n (slice_index_or form i d)))
    (let e : j + suc i ≡ j + 1 + i = omega arith in e) (each (suc i) d (omega arith) fit)) in
    cond_both (fits lots x.package) (sized j x ∷ fitting_from lots (j + 1) form) (fitting_from lots (j + 1) form) (AllByRecursion P)
    (λ fit. (subst (λ (n : ℕ). P (sized n x)) (let e : j + 0 ≡ j = omega arith in e) (each 0 x (omega arith) fit), rest))
    (λ unfit. rest)

-- holds of each that is in order
pub all_ordered : (P : Sized → Type 0) (lots : Lots) (form : List Bid) (bids : List SizedBid) → IsOrdered lots form bids
    → ((i : ℕ) (d : Bid) → i < length form → fits lots (slice_index_or form i d).package ≡ true → P
    (sized (1 + i) (slice_index_or form i d))) → All (λ (s : SizedBid). P (sized_of s)) bids
all_ordered P lots form bids o each =
    All-permutation (λ (s : SizedBid). P (sized_of s)) o.fitting bids o.moved
    (All-from_recursion (λ (s : SizedBid). P (sized_of s)) o.fitting
    (of_map o.fitting (subst (AllByRecursion P) (sym o.same) (fitting_each P lots 1 form each))))
  where
    of_map : (rivals : List SizedBid) → AllByRecursion P (map sized_of rivals) → AllByRecursion (λ (s : SizedBid). P (sized_of s)) rivals
    of_map [] a = tt
    of_map (s ∷ rivals) a = (a.0, of_map rivals a.1)

module _ (lots : Lots) (k : ℕ) where
  -- numbers from j on are not below j
  none_before : (j : ℕ) (form : List Bid) → k < j → filter (λ (s : Sized). s.number == k) (fitting_from lots j form) ≡ []
  none_before j [] below = refl
  none_before j (x ∷ form) below =
      let rest = none_before (j + 1) form (omega arith) in
      cond_both (fits lots x.package) (sized j x ∷ fitting_from lots (j + 1) form) (fitting_from lots (j + 1) form)
      (λ (rs : List Sized). filter (λ s. s.number == k) rs ≡ [])
      (λ fit. rw (ne_eqb j k (λ same. omega arith)) rest)
      (λ unfit. rest)

  -- the bid with a number is there where it fits
  pub at_number : (j i : ℕ) (form : List Bid) → k ≡ j + i
      → filter (λ (s : Sized). s.number == k) (fitting_from lots j form)
      ≡ option_map_or (λ (x : Bid). cond (fits lots x.package) (sized k x ∷ []) []) (slice_get form i) []
  at_number j i [] e = refl
  at_number j zero (x ∷ form) e =
      let none = none_before (j + 1) form (omega arith) in
      let same : j ≡ k = omega arith in
      cond_both (fits lots x.package) (sized j x ∷ fitting_from lots (j + 1) form) (fitting_from lots (j + 1) form)
      (λ (rs : List Sized). filter (λ s. s.number == k) rs ≡ cond (fits lots x.package) (sized k x ∷ []) [])
      (λ fit. rw (fit, eq-eqb j k same, none) (ap (λ (n : ℕ). sized n x ∷ []) same))
      (λ unfit. rw (unfit, none) refl)
  at_number j (suc i) (x ∷ form) e =
      let rest = at_number (j + 1) i form (omega arith) in
      cond_both (fits lots x.package) (sized j x ∷ fitting_from lots (j + 1) form) (fitting_from lots (j + 1) form)
      (λ (rs : List Sized). filter (λ s. s.number == k) rs ≡ option_map_or (λ (x : Bid). cond (fits lots x.package) (sized k x ∷ []) []) (slice_get form i) [])
      (λ fit. rw (ne_eqb j k (λ same. omega arith)) rest)
      (λ unfit. rest)

  counted : (form : List Bid) → count_by (λ (s : Sized). s.number == k) (fitting_from lots 1 form) ≡ cond (is_fitting lots form k) 1 0
  counted form = sym (length-filter (λ (s : Sized). s.number == k) (fitting_from lots 1 form)) ∙ by k refl
    where
      by : (n : ℕ) → k ≡ n → length (filter (λ (s : Sized). s.number == k) (fitting_from lots 1 form)) ≡ cond (is_fitting lots form n) 1 0
      by zero e = ap length (none_before 1 form (omega arith))
      by (suc n) e = ap length (at_number 1 n form (omega arith)) ∙ alone (slice_get form n)
        where
          alone : (o : Option Bid) → length (option_map_or (λ (x : Bid). cond (fits lots x.package) (sized k x ∷ []) []) o [])
              ≡ cond (option_map_or (λ (x : Bid). fits lots x.package) o false) 1 0
          alone None = refl
          alone (Some x) = cond_both (fits lots x.package) (sized k x ∷ []) []
              (λ (rs : List Sized). length rs ≡ cond (fits lots x.package) 1 0) (λ fit. rw fit refl) (λ unfit. rw unfit refl)

counted_map : {X : Type 0} (number : X → ℕ) (k : ℕ) (xs : List X) → count_by (λ n. n == k) (map number xs) ≡ count_by (λ x. number x == k) xs
counted_map number k [] = refl
counted_map {X} number k (x ∷ xs) =
    sum_by-cons (λ (n : ℕ). cond (n == k) 1 0) (number x) (map number xs) ∙ ap (λ n. cond (number x == k) 1 0 + n) (counted_map number k xs)
    ∙ sym (sum_by-cons (λ (y : X). cond (number y == k) 1 0) x xs)

-- of numbers in the order of their bids
rising_with : (form : List Bid) (bids : List SizedBid) (s : SizedBid) (i j d : ℕ)
    → All (λ (s : SizedBid). s.size ≡ size_at form s.number) bids
    → AllPairs (λ (s t : SizedBid). IsUpTo s.size s.number t.size t.number) bids → i < j → j < length bids
    → IsUpTo (size_at form (slice_index_or (map (λ (s : SizedBid). s.number) bids) i d))
    (slice_index_or (map (λ (s : SizedBid). s.number) bids) i d)
    (size_at form (slice_index_or (map (λ (s : SizedBid). s.number) bids) j d))
    (slice_index_or (map (λ (s : SizedBid). s.number) bids) j d)
rising_with form bids s i j d sizes rising before within =
    let a : SizedBid = slice_index_or bids i s in
    let b : SizedBid = slice_index_or bids j s in
    let m = get_or-map (λ (s : SizedBid). s.number) bids i s d (omega arith) in
    let n = get_or-map (λ (s : SizedBid). s.number) bids j s d within in
    let x : a.size ≡ size_at form a.number = sizes i s (omega arith) in
    let y : b.size ≡ size_at form b.number = sizes j s within in
    let up : IsUpTo a.size a.number b.size b.number = rising i j s before within in
    let up' : IsUpTo (size_at form a.number) a.number (size_at form b.number) b.number =
    subst (λ (k : ℕ). IsUpTo (size_at form a.number) a.number k b.number) y (subst (λ (k : ℕ). IsUpTo k a.number b.size b.number) x up)
    in
    subst (λ (k : ℕ). IsUpTo (size_at form k) k (size_at form (slice_index_or (map (λ (s : SizedBid). s.number) bids) j d))
    (slice_index_or (map (λ (s : SizedBid). s.number) bids) j d)) (sym m)
    (subst (λ (k : ℕ). IsUpTo (size_at form a.number) a.number (size_at form k) k) (sym n) up')

rising_numbers : (form : List Bid) (bids : List SizedBid) → All (λ (s : SizedBid). s.size ≡ size_at form s.number) bids
    → AllPairs (λ (s t : SizedBid). IsUpTo s.size s.number t.size t.number) bids
    → AllPairs (λ j k. IsUpTo (size_at form j) j (size_at form k) k) (map (λ (s : SizedBid). s.number) bids)
rising_numbers form [] sizes rising i j d before within = absurd (omega arith)
rising_numbers form (s ∷ bids) sizes rising i j d before within =
    let l = length-map (s ∷ bids) (λ (s : SizedBid). s.number) in
    rising_with form (s ∷ bids) s i j d sizes rising before (omega arith)

pub is_by_size : (lots : Lots) (form : List Bid) (bids : List SizedBid) → IsOrdered lots form bids → IsBySize lots form (map (λ (s : SizedBid). s.number) bids)
is_by_size lots form bids o =
    let sizes = all_ordered (λ (s : Sized). s.size ≡ size_at form s.number) lots form bids o
    (λ i d small fit. subst (λ (n : ℕ). size (slice_index_or form i d).package ≡ size_at form n)
    (let e : suc i ≡ 1 + i = omega arith in e)
    (sym (ap (λ (o : Option Bid). option_map_or (λ (x : Bid). size x.package) o 0) (slice_get-get_or form i d small)))) in
    record {
      fitting = λ j. counted_map (λ (s : SizedBid). s.number) j bids
          ∙ sum_by-IsPermutation (λ (s : SizedBid). cond (s.number == j) 1 0) o.fitting bids o.moved
          ∙ sym (counted_map (λ (s : SizedBid). s.number) j o.fitting)
          ∙ ap (count_by (λ n. n == j)) (numbers_of o.fitting ∙ ap (map (λ (s : Sized). s.number)) o.same)
          ∙ counted_map (λ (s : Sized). s.number) j (fitting_from lots 1 form) ∙ counted lots j form;
      rising = rising_numbers form bids sizes o.rising;
    }
  where
    numbers_of : (xs : List SizedBid) → map (λ (s : SizedBid). s.number) xs ≡ map (λ (s : Sized). s.number) (map sized_of xs)
    numbers_of xs = sym (map-map (λ (s : Sized). s.number) sized_of xs)

pub whole : (items taken : List SizedBid) (i : ℕ) (numbers : List ℕ) → taken ≡ items → length taken ≤ i
    → numbers ≡ map (λ (s : SizedBid). s.number) (take i taken) → numbers ≡ map (λ (s : SizedBid). s.number) items
whole items taken i numbers e l h = h ∙ ap (map (λ (s : SizedBid). s.number)) (take_all i taken l ∙ e)

fitting_at : (lots : Lots) (bids : List Bid) (i : ℕ) (x : Bid) → i < length bids → x ≡ get_or bids i x
    → fitting_from lots (1 + i) (drop i bids) ≡ cond (fits lots x.package)
    (sized (1 + i) x ∷ fitting_from lots (1 + (i + 1)) (drop (i + 1) bids)) (fitting_from lots (1 + (i + 1)) (drop (i + 1) bids))
fitting_at lots bids i x within is =
    let next : 1 + i + 1 ≡ 1 + (i + 1) = omega arith in
    at_drop_more (fitting_from lots (1 + i)) bids i x within
    ∙ ap (λ (y : Bid). cond (fits lots y.package) (sized (1 + i) y ∷ fitting_from lots (1 + i + 1) (drop (i + 1) bids))
    (fitting_from lots (1 + i + 1) (drop (i + 1) bids))) (sym is)
    ∙ ap (λ (n : ℕ). cond (fits lots x.package) (sized (1 + i) x ∷ fitting_from lots n (drop (i + 1) bids)) (fitting_from lots n (drop (i + 1) bids))) next

-- a bid that fits is taken, and another one is not
pub fitting_more : (lots : Lots) (bids : List Bid) (i : ℕ) (x : Bid) (s : SizedBid) (made : List SizedBid) → i < length bids
    → x ≡ get_or bids i x → fits lots x.package ≡ true → sized_of s ≡ sized (i + 1) x
    → map sized_of made ++ fitting_from lots (1 + i) (drop i bids) ≡ fitting_from lots 1 bids
    → map sized_of (made ++ s ∷ []) ++ fitting_from lots (1 + (i + 1)) (drop (i + 1) bids) ≡ fitting_from lots 1 bids
fitting_more lots bids i x s made within is fit same so_far =
    let rest = fitting_from lots (1 + (i + 1)) (drop (i + 1) bids) in
    let number : i + 1 ≡ 1 + i = omega arith in
    let own : sized_of s ≡ sized (1 + i) x = same ∙ ap (λ n. sized n x) number in
    ap (λ (xs : List Sized). xs ++ rest) (map-append sized_of made (s ∷ []))
    ∙ append_assoc (map sized_of made) (sized_of s ∷ []) rest
    ∙ ap (λ (t : Sized). map sized_of made ++ t ∷ rest) own
    ∙ ap (λ (xs : List Sized). map sized_of made ++ xs) (sym (fitting_at lots bids i x within is ∙ ap (λ (b : Bool). cond b (sized (1 + i) x ∷ rest) rest) fit))
    ∙ so_far

pub fitting_less : (lots : Lots) (bids : List Bid) (i : ℕ) (x : Bid) (made : List SizedBid) → i < length bids → x ≡ get_or bids i x
    → fits lots x.package ≡ false
    → map sized_of made ++ fitting_from lots (1 + i) (drop i bids) ≡ fitting_from lots 1 bids
    → map sized_of made ++ fitting_from lots (1 + (i + 1)) (drop (i + 1) bids) ≡ fitting_from lots 1 bids
fitting_less lots bids i x made within is unfit so_far =
    let rest = fitting_from lots (1 + (i + 1)) (drop (i + 1) bids) in
    ap (λ (xs : List Sized). map sized_of made ++ xs) (sym (fitting_at lots bids i x within is ∙ ap (λ (b : Bool). cond b (sized (1 + i) x ∷ rest) rest) unfit))
    ∙ so_far
