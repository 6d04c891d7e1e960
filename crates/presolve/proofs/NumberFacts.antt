-- Laws of flags that are set by the numbers of the bids that fit.
use Rattle.std.proofs.Common.{◌≡◌, ◌≢◌, ◌+◌, ◌-◌, ◌<◌, ◌≤◌, ◌==◌, ◌&&◌, ◌||◌, ℕ, zero, suc, Bool, true, false, List, []}
use Rattle.std.proofs.Common.{◌∷◌, drop, get_or, length, map, slice_get, slice_index_or, slice_set, arith, refl, sym, ap}
use Rattle.std.proofs.Common.{subst, ◌∙◌}
use Rattle.std.specs.Prelude.{Option, Some, None, cond, filter}
use Rattle.std.specs.List.{list_any}
use Rattle.std.specs.Option.{option_map_or}
use Rattle.std.proofs.Math.Bool.{and-false, or-false, or-true}
use Rattle.std.proofs.lemmas.Bool.{eqb-false, eqb-true, cond_both}
use Rattle.std.proofs.lemmas.List.{at_drop_more, ext_get_or, get_or-set_other, get_or-set_same, length-map}
use Rattle.std.proofs.lemmas.List.Sorted.{list_any-IsPermutation}
use Rattle.std.proofs.Math.ListN.{drop_of_length-le}
use Rattle.auction_terms.specs.declared.bids.Bid.{Bid}
use Rattle.auction_terms.specs.Packages.{Lots, fits}
use Rattle.presolve.specs.declared.order.SizedBid.{SizedBid}
use Rattle.presolve.specs.inside.Sizes.{Sized, fitting_from, IsOrdered}
use Rattle.presolve.proofs.FlagFacts.{any_of_map}
use Rattle.presolve.proofs.SizeFacts.{all_ordered, at_number, sized}

-- a bid with the number k that passes the test
abbrev pub passes : (Bid → Bool) → ℕ → SizedBid → Bool
passes test k s = (s.number == k) && test s.bid.now

abbrev passes_sized : (Bid → Bool) → ℕ → Sized → Bool
passes_sized test k s = (s.number == k) && test s.bid

-- the bid with a number passes where it fits and passes
any_at : (lots : Lots) (test : Bid → Bool) (i : ℕ) (form : List Bid)
    → list_any (passes_sized test (1 + i)) (fitting_from lots 1 form)
    ≡ option_map_or (λ (x : Bid). fits lots x.package && test x) (slice_get form i) false
any_at lots test i form =
    any_filter (fitting_from lots 1 form) ∙ ap (list_any (λ (s : Sized). test s.bid)) (at_number lots (1 + i) 1 i form refl) ∙ by (slice_get form i)
  where
    any_filter : (rs : List Sized) → list_any (passes_sized test (1 + i)) rs
        ≡ list_any (λ (s : Sized). test s.bid) (filter (λ (s : Sized). s.number == 1 + i) rs)
    any_filter [] = refl
    any_filter (r ∷ rs) =
        let p : Sized → Bool = λ (s : Sized). s.number == 1 + i in
        cond_both (p r) (r ∷ filter p rs) (filter p rs) (λ (xs : List Sized).
        (passes_sized test (1 + i) r || list_any (passes_sized test (1 + i)) rs) ≡ list_any (λ (s : Sized). test s.bid) xs)
        (λ is. rw is (ap (λ (b : Bool). test r.bid || b) (any_filter rs)))
        (λ other. rw other (any_filter rs))

    by : (o : Option Bid) → list_any (λ (s : Sized). test s.bid) (option_map_or
        (λ (x : Bid). cond (fits lots x.package) (sized (1 + i) x ∷ []) []) o []) ≡ option_map_or
        (λ (x : Bid). fits lots x.package && test x) o false
    by None = refl
    by (Some x) = cond_both (fits lots x.package) (sized (1 + i) x ∷ []) []
        (λ (rs : List Sized). list_any (λ (s : Sized). test s.bid) rs ≡ (fits lots x.package && test x)) (λ fit. rw fit (or-false (test x)))
        (λ unfit. rw unfit refl)

-- the number of an ordered bid is that of a bid of the form
pub is_numbered : (lots : Lots) (form : List Bid) (bids : List SizedBid) → IsOrdered lots form bids → (k : ℕ) (x : SizedBid)
    → k < length bids → x ≡ slice_index_or bids k x → (1 ≤ x.number) × (x.number < 1 + length form)
is_numbered lots form bids o k x within is =
    subst (λ (s : SizedBid). (1 ≤ s.number) × (s.number < 1 + length form)) (sym is)
    (all_ordered (λ (s : Sized). (1 ≤ s.number) × (s.number < 1 + length form)) lots form bids o (λ i d small fit. (omega arith, omega arith)) k x within)

-- a flag that is set for each bid that passes, by its number, says of each bid of the form whether it fits and passes
pub flags_by_number : (lots : Lots) (test : Bid → Bool) (form : List Bid) (bids : List SizedBid) (flags : List Bool)
    → IsOrdered lots form bids → length flags ≡ length form
    → ((i : ℕ) → i < length form → slice_index_or flags i false ≡ list_any (passes test (1 + i)) bids)
    → flags ≡ map (λ (x : Bid). fits lots x.package && test x) form
flags_by_number lots test form bids flags o count each =
    ext_get_or false flags (map (λ (x : Bid). fits lots x.package && test x) form) (count ∙ sym (length-map form (λ (x : Bid). fits lots x.package && test x)))
    (λ i small.
    let within : i < length form = omega arith in
    each i within
    ∙ sym (list_any-IsPermutation (passes test (1 + i)) o.fitting bids o.moved)
    ∙ any_of_map (passes_sized test (1 + i)) o.fitting
    ∙ ap (list_any (passes_sized test (1 + i))) o.same
    ∙ any_at lots test i form
    ∙ at_place (λ (x : Bid). fits lots x.package && test x) form i within)
  where
    at_place : (f : Bid → Bool) (xs : List Bid) (i : ℕ) → i < length xs → option_map_or f (slice_get xs i) false ≡ get_or (map f xs) i false
    at_place f [] i small = absurd (omega arith)
    at_place f (x ∷ xs) zero small = refl
    at_place f (x ∷ xs) (suc i) small = at_place f xs i (omega arith)

-- the bids that are left, from the next one on
next_passes : (test : Bid → Bool) (k : ℕ) (items : List SizedBid) (at : ℕ) (r : SizedBid) → at < length items → r ≡ get_or items at r
    → list_any (passes test k) (drop at items) ≡ (passes test k r || list_any (passes test k) (drop (at + 1) items))
next_passes test k items at r small is =
    at_drop_more (list_any (passes test k)) items at r small
    ∙ ap (λ (b : Bool). b || list_any (passes test k) (drop (at + 1) items)) (ap (passes test k) (sym is))

-- after a bid that doesn't pass
pub after_failing : (test : Bid → Bool) (k : ℕ) (items : List SizedBid) (at : ℕ) (r : SizedBid) (flag all : Bool) → at < length items
    → r ≡ get_or items at r → test r.bid.now ≡ false
    → (flag || list_any (passes test k) (drop at items)) ≡ all → (flag || list_any (passes test k) (drop (at + 1) items)) ≡ all
after_failing test k items at r flag all small is fails h =
    rw (next_passes test k items at r small is, fails, and-false (r.number == k)) at h

-- after one that passes, whose flag is set then
pub after_passing : (test : Bid → Bool) (i : ℕ) (items : List SizedBid) (at : ℕ) (r : SizedBid) (flags : List Bool) (all : Bool)
    → at < length items → r ≡ get_or items at r → test r.bid.now ≡ true
    → 1 ≤ r.number → r.number < 1 + length flags → (get_or flags i false || list_any (passes test (1 + i)) (drop at items)) ≡ all
    → (get_or (slice_set flags (r.number - 1) true) i false || list_any (passes test (1 + i)) (drop (at + 1) items)) ≡ all
after_passing test i items at r flags all small is passed some within h = by (r.number == 1 + i) refl
  where
    rest : Bool
    rest = list_any (passes test (1 + i)) (drop (at + 1) items)

    reported : (get_or flags i false || (((r.number == 1 + i) && test r.bid.now) || rest)) ≡ all
    reported = rw (next_passes test (1 + i) items at r small is) at h

    by : (b : Bool) → (r.number == 1 + i) ≡ b → (get_or (slice_set flags (r.number - 1) true) i false || rest) ≡ all
    by true e =
        let same : r.number ≡ 1 + i = eqb-true r.number (1 + i) e in
        let place : r.number - 1 ≡ i = omega arith in
        ap (λ (b : Bool). b || rest) (ap (λ (n : ℕ). get_or (slice_set flags n true) i false) place ∙ get_or-set_same flags i true false (omega arith))
        ∙ sym (or-true (get_or flags i false)) ∙ (rw (e, passed) at reported)
    by false e =
        let other : i ≢ r.number - 1 = (λ s. eqb-false r.number (1 + i) e (omega arith)) in
        ap (λ (b : Bool). b || rest) (get_or-set_other flags (r.number - 1) i true false other) ∙ (rw e at reported)

-- where none is left
pub none_left_over : (test : Bid → Bool) (k : ℕ) (items : List SizedBid) (at : ℕ) (flag all : Bool) → length items ≤ at
    → (flag || list_any (passes test k) (drop at items)) ≡ all → flag ≡ all
none_left_over test k items at flag all end h =
    sym (ap (λ (rs : List SizedBid). flag || list_any (passes test k) rs) (drop_of_length-le items end) ∙ or-false flag) ∙ h
