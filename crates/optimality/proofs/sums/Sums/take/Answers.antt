use Rattle.std.proofs.Common.{List, ℕ, ℤ, subst, sym}
use Rattle.optimality.specs.inside.Adding.{AreListed}
use Rattle.optimality.proofs.PlaceFacts.{listed-taken}
use Rattle.optimality.proofs.sums.Sums.take.Goals as goal

pub invariant_of-self-2 : goal.invariant_of-self-2
invariant_of-self-2 c = record {
  listed = subst (λ (ns : List ℤ). AreListed c.pop.new.self.items ns) (sym c.set_number.ensures)
      (listed-taken c.pop.new.self.items c.args.self.now.numbers.items c.in-Some.place
      (subst (λ (places : List ℕ). AreListed places c.args.self.now.numbers.items) c.in-Some.ensures.items c.args.self.now.listed));
}
