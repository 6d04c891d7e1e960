use Rattle.std.proofs.Common.{◌≡◌, ◌∙◌, ◌<◌, ◌+◌, ◌&&◌, ℕ, ℤ, pos, int_le, Bool, sym, ap, ap₂, subst, length, List, not, true, false, slice_index_or, arith, rules}
use Rattle.auction_terms.specs.declared.bids.Bid.{Bid}
use Rattle.auction_terms.specs.Packages.{Lots, fits}
use Rattle.auction_terms.specs.Terms.{lots_in}
use Rattle.std.proofs.lemmas.List.{length-set}
use Rattle.std.specs.List.{list_any}
use Rattle.presolve.specs.declared.order.SizedBid.{SizedBid}
use Rattle.presolve.specs.inside.Sizes.{IsOrdered, TellsItsNet, TellsItsSize, beats}
use Rattle.presolve.proofs.FlagFacts.{all_fit, all_kept, are_rivals, rivals_suffice, stands}
use Rattle.presolve.proofs.NumberFacts.{after_failing, after_passing, flags_by_number, is_numbered, none_left_over}
use Rattle.presolve.proofs.SizeFacts.{no_more_fit}
use Rattle.presolve.proofs.flags.flags_of_form.Goals as goal
use Rattle.presolve.proofs.flags.flags_of_form.Goals.{then-rival-ge0+then-not-is_beaten, else-rival-ge0, else-rival-ge0-via-then-rival-ge0+else-not-is_beaten, else-rival-ge0-via-else-rival-ge0}

pub sieves-requires-clause-sized : goal.sieves-requires-clause-sized
sieves-requires-clause-sized c =
    let rivals = are_rivals (lots_in c.args.rules.now) (length c.args.rules.now.categories) c.args.bids.now c.in_ok-rivals.rivals.items
    c.requires.sized c.in_ok-rivals.ensures in
    rw (c.deref.ensures.value, c.categories.ensures.value) rivals.sized

pub sieves-requires-clause-many : goal.sieves-requires-clause-many
sieves-requires-clause-many c =
    let few = no_more_fit (lots_in c.args.rules.now) c.args.bids.now c.in_ok-rivals.rivals.items c.in_ok-rivals.ensures in
    let many = c.requires.few in
    rw c.deref.ensures.value (omega arith)

pub is_beaten-requires-clause-rivals : goal.is_beaten-requires-clause-rivals
is_beaten-requires-clause-rivals c =
    let n = length c.args.rules.now.categories in
    let items = c.in_ok-rivals.rivals.items in
    let rivals = are_rivals (lots_in c.args.rules.now) n c.args.bids.now items c.requires.sized c.in_ok-rivals.ensures in
    let at : c.rival-item.result ≡ slice_index_or items c.loop-place.place c.rival-item.result = rw c.deref-rival-items.ensures.value at c.rival-item.is in
    let small : c.loop-place.place < length items = rw c.deref-rival-items.ensures.value at c.loop-place-test.true in
    let size : length c.rival-item.result.bid.now.package ≡ n =
    subst (λ (s : SizedBid). length s.bid.now.package ≡ n) (sym at) (rivals.sized c.loop-place.place c.rival-item.result small) in
    rw (size, c.deref-then-rival-ge0.ensures.value) rivals

pub is_beaten-requires-clause-sieves : goal.is_beaten-requires-clause-sieves
is_beaten-requires-clause-sieves c =
    let each = rw c.deref.ensures.value at c.in_ok-sieves.ensures.each in
    rw (c.deref-then-rival-ge0.ensures.value, c.deref-then-rival-ge0-2.ensures.value) each

pub is_beaten-requires-clause-many : goal.is_beaten-requires-clause-many
is_beaten-requires-clause-many c =
    let few = no_more_fit (lots_in c.args.rules.now) c.args.bids.now c.in_ok-rivals.rivals.items c.in_ok-rivals.ensures in
    let many = c.requires.few in
    rw c.deref-then-rival-ge0.ensures.value (omega arith)

pub overflow_sub-from : goal.overflow_sub-from
overflow_sub-from c =
    let numbers = is_numbered (lots_in c.args.rules.now) c.args.bids.now c.in_ok-rivals.rivals.items c.in_ok-rivals.ensures
    c.loop-place.place c.rival-item.result
    (rw c.deref-rival-items.ensures.value at c.loop-place-test.true) (rw c.deref-rival-items.ensures.value at c.rival-item.is) in
    rw c.from.ensures numbers.0

pub index_mut-requires : goal.index_mut-requires
index_mut-requires c =
    let numbers = is_numbered (lots_in c.args.rules.now) c.args.bids.now c.in_ok-rivals.rivals.items c.in_ok-rivals.ensures
    c.loop-place.place c.rival-item.result
    (rw c.deref-rival-items.ensures.value at c.loop-place-test.true) (rw c.deref-rival-items.ensures.value at c.rival-item.is) in
    omega (arith, numbers.0, numbers.1, c.from.ensures, c.loop-place.invariant.count)

-- a bid that fits is beside the others as it is in the form
stands_beside : (lots : Lots) (form : List Bid) (items : List SizedBid) (k : ℕ) (x : SizedBid) → IsOrdered lots form items
    → k < length items → x ≡ slice_index_or items k x
    → (int_le (pos 0) x.net && not (list_any (beats x) items)) ≡ stands lots form x.bid.now
stands_beside lots form items k x o within is =
    let mine : TellsItsNet lots x = subst (TellsItsNet lots) (sym is) (o.nets k x within) in
    let reported : TellsItsSize x = subst TellsItsSize (sym is) (o.reported k x within) in
    let fit : fits lots x.bid.now.package ≡ true =
    subst (λ (s : SizedBid). fits lots s.bid.now.package ≡ true) (sym is) (all_fit lots form items o k x within) in
    ap₂ (λ (z : ℤ) (b : Bool). int_le (pos 0) z && not b) mine (rivals_suffice lots form items x o reported mine fit)

pub loop-place-preserved : goal.loop-place-preserved
loop-place-preserved c =
    let lots = lots_in c.args.rules.now in
    let bids = c.args.bids.now in
    let items = c.in_ok-rivals.rivals.items in
    let idx = c.loop-place.place in
    let rival = c.rival-item.result in
    let test : Bid → Bool = stands lots bids in
    let at : rival ≡ slice_index_or items idx rival = rw c.deref-rival-items.ensures.value at c.rival-item.is in
    let small : idx < length items = rw c.deref-rival-items.ensures.value at c.loop-place-test.true in
    let numbers = is_numbered lots bids items c.in_ok-rivals.ensures idx rival small at in
    let beside : (int_le (pos 0) rival.net && not (list_any (beats rival) items)) ≡ test rival.bid.now =
    stands_beside lots bids items idx rival c.in_ok-rivals.ensures small at in
    record {
      count = elim c.if-rival-ge0.branch [
        | then-rival-ge0+then-not-is_beaten w ↦ rw w.flags-is (length-set c.loop-place.flags.items _ _ ∙ c.loop-place.invariant.count)
        | else-rival-ge0 w ↦ rw w.flags-is c.loop-place.invariant.count
      ];
      each = λ i in_form. (let h = c.loop-place.invariant.each i in_form in
          elim c.if-rival-ge0.branch [
            | then-rival-ge0+then-not-is_beaten w ↦
                (let net : int_le (pos 0) rival.net ≡ true = (let up = w.if-rival-ge0.true in search rules) in
                let unbeaten : list_any (beats rival) items ≡ false =
                sym (w.is_beaten.ensures ∙ ap (λ (xs : List SizedBid). list_any (beats rival) xs) w.deref-then-rival-ge0.ensures.value)
                ∙ w.if-not-is_beaten.true in
                let passed : test rival.bid.now ≡ true = sym beside ∙ ap₂ (λ (a b : Bool). a && not b) net unbeaten in
                let within' : rival.number < 1 + length c.loop-place.flags.items =
                subst (λ (n : ℕ). rival.number < 1 + n) (sym c.loop-place.invariant.count) numbers.1 in
                rw (w.flags-is, w.from.ensures) (after_passing test i c.deref-rival-items.result.now idx rival c.loop-place.flags.items _
                c.loop-place-test.true c.rival-item.is passed numbers.0 within' h))
            | else-rival-ge0 w ↦
                (let failed : test rival.bid.now ≡ false = elim w.else-rival-ge0.branch [
                  | else-rival-ge0-via-then-rival-ge0+else-not-is_beaten w' ↦
                      (let net : int_le (pos 0) rival.net ≡ true = (let up = w'.if-rival-ge0.true in search rules) in
                      let beaten : list_any (beats rival) items ≡ true =
                      sym (w'.is_beaten.ensures ∙ ap (λ (xs : List SizedBid). list_any (beats rival) xs) w'.deref-then-rival-ge0.ensures.value)
                      ∙ w'.if-not-is_beaten.false in
                      sym beside ∙ ap₂ (λ (a b : Bool). a && not b) net beaten)
                  | else-rival-ge0-via-else-rival-ge0 w' ↦
                      (let net : int_le (pos 0) rival.net ≡ false = (let down = w'.if-rival-ge0.false in search rules) in
                      sym beside ∙ ap (λ (a : Bool). a && not (list_any (beats rival) items)) net)
                ] in
                rw w.flags-is (after_failing test (1 + i) c.deref-rival-items.result.now idx rival _ _ c.loop-place-test.true c.rival-item.is failed h))
          ]);
    }

pub returns : goal.returns
returns c =
    let lots = lots_in c.args.rules.now in
    let bids = c.args.bids.now in
    let items = c.in_ok-rivals.rivals.items in
    flags_by_number lots (stands lots bids) bids items c.loop-place.flags.items c.in_ok-rivals.ensures c.loop-place.invariant.count
    (λ i small. (let h = rw c.deref-rival-items.ensures.value at (c.loop-place.invariant.each i small) in none_left_over _ (1 + i) items
    c.loop-place.place _ _ (let e = rw c.deref-rival-items.ensures.value at c.loop-place-test.false in omega arith) h))
    ∙ all_kept lots bids bids
