use Rattle.std.proofs.Common.{◌≡◌, ◌<◌, inl, ⊎_elim, ◌∙◌, arith, length, rules}
use Rattle.group_compiler.proofs.SlotFacts.{filled, popped, none_left}
use Rattle.group_compiler.proofs.ordering.in_slots.Goals as goal

pub loop-numbered-init : goal.loop-numbered-init
loop-numbered-init g c = record {
  size = c.in_ok-slots.ensures ∙ c.count.ensures.count;
  below = c.requires.below;
  made = c.requires.made;
  each = λ k l. inl (c.requires.complete k l);
}

pub index_mut-requires : goal.index_mut-requires
index_mut-requires g c =
    let count = g.M.Maker.count_of c.args.maker.now in
    let b = popped (λ r. r.number < count) c.loop-numbered.results.items c.pop.new.self.items c.in-Some.numbered c.in-Some.ensures.items
    c.loop-numbered.invariant.below in
    let s : length c.loop-numbered.slots.items ≡ count = c.loop-numbered.invariant.size in
    let l : c.in-Some.numbered.number < count = b.1 in
    let k : c.in-Some.numbered.number < length c.loop-numbered.slots.items = omega arith in
    search (rules, k)

pub loop-numbered-preserved-in-Some : goal.loop-numbered-preserved-in-Some
loop-numbered-preserved-in-Some g c =
    let h = c.loop-numbered.invariant in
    let s = filled (g.M.Maker.makes c.args.maker.now) c.loop-numbered.slots.items c.loop-numbered.results.items c.pop.new.self.items
    c.in-Some.numbered (g.M.Maker.count_of c.args.maker.now) c.in-Some.ensures.items h.size h.below h.made h.each in
    record { size = s.0; below = s.1; made = s.2; each = s.3 }

pub loop-numbered-preserved : goal.loop-numbered-preserved
loop-numbered-preserved g c =
    let h = c.loop-numbered.invariant in
    let s = filled (g.M.Maker.makes c.args.maker.now) c.loop-numbered.slots.items c.loop-numbered.results.items c.pop.new.self.items
    c.in-Some.numbered (g.M.Maker.count_of c.args.maker.now) c.in-Some.ensures.items h.size h.below h.made h.each in
    record { size = s.0; below = s.1; made = s.2; each = s.3 }

pub returns : goal.returns
returns g c =
    let h = c.loop-numbered.invariant in
    let none = c.in_default.ensures.cases.0 in
    let empty : length c.loop-numbered.results.items ≡ 0 = omega (arith, c.loop-numbered.results.ok.0) in
    record {
      count = h.size;
      full = λ k below. ⊎_elim (λ left. absurd (none_left k c.loop-numbered.results.items empty left)) (λ full. full) (h.each k below);
    }
