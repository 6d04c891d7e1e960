use Rattle.std.proofs.Common.{◌≡◌, ◌∙◌, ◌++◌, ◌∷◌, [], List, Option, ap, arith, length, map, sym, take}
use Rattle.std.proofs.lemmas.List.{map-append, take_more}
use Rattle.auction_terms.specs.Terms.{lots_in}
use Rattle.auction_terms.specs.declared.bids.Bid.{Bid}
use Rattle.presolve.specs.Reasons.{why_left_out}
use Rattle.presolve.specs.declared.reason.Reason.{Reason}
use Rattle.presolve.proofs.RivalFacts.{numbered-all}
use Rattle.presolve.proofs.reasons.reasons_of_form.Goals as goal

pub sieves-requires-clause-sized : goal.sieves-requires-clause-sized
sieves-requires-clause-sized c =
    let n = length c.args.rules.now.categories in
    rw (c.deref.ensures.value, c.categories.ensures.value) (numbered-all (λ (x : Bid). length x.package ≡ n) (lots_in c.args.rules.now)
    c.args.bids.now c.in_ok-rivals.rivals.items c.in_ok-rivals.ensures c.requires.sized)

pub why_left_out-requires-clause-sized : goal.why_left_out-requires-clause-sized
why_left_out-requires-clause-sized c =
    let n = length c.args.rules.now.categories in
    rw c.deref-in-loop-place.ensures.value (numbered-all (λ (x : Bid). length x.package ≡ n) (lots_in c.args.rules.now) c.args.bids.now
    c.in_ok-rivals.rivals.items c.in_ok-rivals.ensures c.requires.sized)

pub why_left_out-requires-clause-sieves : goal.why_left_out-requires-clause-sieves
why_left_out-requires-clause-sieves c =
    let each = rw c.deref.ensures.value at c.in_ok-sieves.ensures.each in
    rw (c.deref-in-loop-place.ensures.value, c.deref-in-loop-place-2.ensures.value) each

pub loop-place-preserved : goal.loop-place-preserved
loop-place-preserved c =
    let lots = lots_in c.args.rules.now in
    let bids = c.args.bids.now in
    let place = c.loop-place.place in
    let before = c.loop-place.invariant in
    let any : Bid = record { «package» = []; amount = 0 } in
    let are = rw (sym c.deref-in-loop-place.ensures.value) at c.in_ok-rivals.ensures in
    let own = c.why_left_out.ensures bids any are in
    let filled = before.filled in
    let room = before.room in
    let more = c.push_reserved.ensures.len in
    let same = c.push_reserved.ensures.capacity in
    record {
      own = c.push_reserved.ensures.items ∙ ap (λ (xs : List (Option Reason)). xs ++ c.why_left_out.result ∷ []) before.own
          ∙ ap (λ (why : Option Reason). map (why_left_out lots bids) (take place bids) ++ why ∷ []) own
          ∙ sym (ap (map (why_left_out lots bids)) (take_more bids place any c.loop-place-test.true) ∙ map-append (why_left_out lots bids) (take place bids) _);
      filled = omega arith;
      room = omega arith;
    }
