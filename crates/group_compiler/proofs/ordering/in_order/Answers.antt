use Rattle.std.proofs.Common.{◌≡◌, ◌<◌, [], ◌∙◌, arith, length-set, sym, subst}
use Rattle.std.specs.List.{AllZip}
use Rattle.std.proofs.lemmas.Option.{same_Some}
use Rattle.group_compiler.proofs.SlotFacts.{one_more, keeps_made, full_at}
use Rattle.group_compiler.proofs.ordering.in_order.Goals as goal

pub loop-place-init : goal.loop-place-init
loop-place-init g c = record {
  size = c.in_ok-slots.ensures.count;
  full = λ k from below. c.in_ok-slots.ensures.full k below;
  so_far = subst (AllZip (g.M.Maker.makes c.args.maker.now) []) (sym c.in_ok-ordered.ensures.items) tt;
  filled = c.in_ok-ordered.ensures.len;
  room = omega (arith, c.in_ok-ordered.ensures.capacity);
}

pub unreachable-requires : goal.unreachable-requires
unreachable-requires g c =
    let below : c.loop-place.place < g.M.Maker.count_of c.args.maker.now =
    (let l = c.loop-place-test.true in let e = c.count-count.ensures.count in omega arith) in
    let full = c.loop-place.invariant.full c.loop-place.place (omega arith) below in
    let e = full_at c.loop-place.slots.items c.loop-place.place full.found c.index_mut.result.now full.slot c.index_mut.ensures.value in
    c.in_default.not-Some full.found (c.take.ensures.value ∙ e)

pub loop-place-preserved : goal.loop-place-preserved
loop-place-preserved g c =
    let makes = g.M.Maker.makes c.args.maker.now in
    let h = c.loop-place.invariant in
    let place = c.loop-place.place in
    let below : place < g.M.Maker.count_of c.args.maker.now = (let l = c.loop-place-test.true in let e = c.count-count.ensures.count in omega arith) in
    let full = h.full place (omega arith) below in
    let e = full_at c.loop-place.slots.items place full.found c.index_mut.result.now full.slot c.index_mut.ensures.value in
    let found : c.in-Some.made ≡ full.found = same_Some c.in-Some.made full.found (sym c.in-Some.is ∙ c.take.ensures.value ∙ e) in
    let more = c.push_reserved.ensures.len in
    let same = c.push_reserved.ensures.capacity in
    let filled = h.filled in
    let room = h.room in
    record {
      size = length-set c.loop-place.slots.items place c.take.new.self ∙ h.size;
      full = λ k l m. keeps_made makes c.loop-place.slots.items place k c.take.new.self (λ t. omega arith) (h.full k (omega arith) m);
      so_far = one_more makes place c.loop-place.ordered.items c.push_reserved.new.self.items c.in-Some.made c.push_reserved.ensures.items
          h.so_far (subst (makes place) (sym found) full.right);
      filled = omega arith;
      room = omega arith;
    }
