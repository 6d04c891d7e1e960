use Rattle.std.proofs.Common.{◌≡◌, ◌∙◌, arith, map, slice_index}
use Rattle.std.proofs.lemmas.List.Elements.{All-push}
use Rattle.presolve.specs.declared.order.SizedBid.{SizedBid}
use Rattle.presolve.specs.inside.Sieves.{IsSieve, shortfall}
use Rattle.presolve.proofs.SieveFacts.{fewer_at, is_sieve, no_shorter}
use Rattle.presolve.proofs.sieve.sieves.Goals as goal

pub loop-place-init : goal.loop-place-init
loop-place-init c =
    let rivals = c.args.rivals.now in
    let numbers = c.deref.result.now in
    let same : numbers ≡ map (λ (s : SizedBid). shortfall s.net) rivals = c.deref.ensures.value ∙ c.in_ok-shortfalls.ensures in
    let made : IsSieve rivals c.in_ok-sieve_of.field-0 =
    is_sieve rivals numbers (λ (s : SizedBid). shortfall s.net) c.in_ok-sieve_of.field-0 no_shorter same c.in_ok-sieve_of.ensures in
    let empty = c.in_ok-sieves.ensures in
    let pushed = c.push_reserved.ensures in
    record {
      count = omega (arith, empty.len, pushed.len);
      room = omega (arith, empty.capacity, pushed.capacity);
      each = rw pushed.items (All-push (IsSieve rivals) c.in_ok-sieves.sieves.items c.in_ok-sieve_of.field-0
          (rw empty.items (λ k d l. absurd (omega arith))) made);
    }

pub loop-place-preserved : goal.loop-place-preserved
loop-place-preserved c =
    let rivals = c.args.rivals.now in
    let before = c.loop-place in
    let place = before.place in
    let numbers = c.deref-in-loop-place.result.now in
    let same : numbers ≡ map (λ (s : SizedBid). slice_index s.bid.now.package place) rivals =
    c.deref-in-loop-place.ensures.value ∙ c.in_ok-quantities_at.ensures in
    let made : IsSieve rivals c.in_ok-sieve_of-2.field-0 =
    is_sieve rivals numbers (λ (s : SizedBid). slice_index s.bid.now.package place) c.in_ok-sieve_of-2.field-0 (fewer_at place) same
    c.in_ok-sieve_of-2.ensures in
    let long = c.push_reserved-in-loop-place.ensures.len in
    let kept = c.push_reserved-in-loop-place.ensures.capacity in
    let count = before.invariant.count in
    let room = before.invariant.room in
    record {
      count = omega arith;
      room = omega arith;
      each = rw c.push_reserved-in-loop-place.ensures.items
          (All-push (IsSieve rivals) before.sieves.items c.in_ok-sieve_of-2.field-0 before.invariant.each made);
    }
