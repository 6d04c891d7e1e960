use Rattle.std.proofs.Common.{◌≡◌, ◌∙◌, ◌&&◌, Bool, add-one, ap, ap₂, arith, false, sym, true}
use Rattle.optimality.specs.OnlyPoints.{is_zero_or_one}
use Rattle.optimality.proofs.OnlyFacts.{free_ones-at, one_of}
use Rattle.optimality.proofs.only_points.free_ones.Goals as goal
use Rattle.optimality.proofs.only_points.free_ones.Goals.{then-is_zero_or_one+then-value, else-is_zero_or_one, else-is_zero_or_one-via-then-is_zero_or_one+else-value, else-is_zero_or_one-via-else-is_zero_or_one}

pub loop-column-preserved : goal.loop-column-preserved
loop-column-preserved c =
    let b = c.bounds.result in
    let v = c.value-value.result in
    let next = free_ones-at c.loop-column.column c.args.program.now.columns c.args.values.now b v c.bounds.ensures c.value-value.ensures in
    let so_far = c.loop-column.invariant.0 in
    let few = c.loop-column.invariant.1 in
    elim c.if-is_zero_or_one.branch [
      | then-is_zero_or_one+then-value w ↦
          (let both : (is_zero_or_one b && v) ≡ true =
          ap₂ (λ (x y : Bool). x && y) (sym c.is_zero_or_one.ensures ∙ w.if-is_zero_or_one.true) w.if-value.true in
          let one = ap one_of both in
          let is = w.ones-is in
          (rw add-one (omega arith), omega arith))
      | else-is_zero_or_one w ↦
          (let none : (is_zero_or_one b && v) ≡ false = elim w.else-is_zero_or_one.branch [
            | else-is_zero_or_one-via-then-is_zero_or_one+else-value w' ↦
                ap₂ (λ (x y : Bool). x && y) (sym c.is_zero_or_one.ensures ∙ w'.if-is_zero_or_one.true) w'.if-value.false
            | else-is_zero_or_one-via-else-is_zero_or_one w' ↦
                ap (λ (x : Bool). x && v) (sym c.is_zero_or_one.ensures ∙ w'.if-is_zero_or_one.false)
          ] in
          let nothing = ap one_of none in
          let is = w.ones-is in
          (rw add-one (omega arith), omega arith))
    ]
