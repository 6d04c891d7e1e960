use Rattle.std.proofs.Common.{rules, ℕ, ℤ}
use Rattle.std.specs.Prelude.{unsigned_abs}
use Rattle.std.proofs.lemmas.Int.{to_z-of_z}
use mir.Syntax.{w128}
use mir.Val.{SFits}
use Rattle.optimality.specs.Adding.{number_at}
use Rattle.optimality.proofs.PlaceFacts.{taken-pushed}
use Rattle.optimality.proofs.PlaceSizeFacts.{size-pushed}
use Rattle.optimality.proofs.sums.taken.Goals as goal

pub loop-place-preserved-in-Continue-1 : goal.loop-place-preserved-in-Continue-1
loop-place-preserved-in-Continue-1 c =
    let fits : SFits w128 c.in-Some.number = search rules in
    let pushed = simp to_z-of_z at c.in_ok-push.ensures.items in
    let all = c.args.sums.now.numbers.items in
    let t : ℕ × ℤ = (c.in-Some.place, c.in-Some.number) in (
      taken-pushed (number_at all) c.loop-place.form.items c.push.new.self.items t c.loop-place.sums.numbers.items
          c.take.new.self.numbers.items c.in-Some.ensures.taken pushed c.loop-place.invariant.0,
      size-pushed (λ (q : ℕ). unsigned_abs (number_at all q)) c.loop-place.form.items c.push.new.self.items t
          c.loop-place.sums.numbers.items c.take.new.self.numbers.items c.in-Some.ensures.taken pushed c.loop-place.invariant.1,
    )
