use Rattle.std.proofs.Common.{◌≡◌, ◌∙◌, ◌+◌, ◌++◌, ◌∷◌, ◌<◌, [], Some, None, true, append_assoc, add-one, ap, arith, drop, length, refl, rules}
use Rattle.program_rows.specs.Faithful.{back}
use Rattle.outcome.proofs.BackFacts.{back_at, back_skips}
use Rattle.outcome.proofs.mapping.bids_at_one.Goals as goal
use Rattle.outcome.proofs.mapping.bids_at_one.Goals.{then-value+in-Some+in_ok-push, then-value+in_default, else-value}

pub loop-column-preserved : goal.loop-column-preserved
loop-column-preserved c =
    let columns = c.args.program.now.columns in
    let point = c.args.point.now in
    let column = c.loop-column.column in
    let bids = c.loop-column.bids.items in
    elim c.if-value.branch [
      | then-value+in-Some+in_ok-push w ↦
          (let named = back_at column columns point true (Some w.in-Some.choice) (c.value.ensures ∙ ap (λ v. Some v) w.if-value.true) w.in-Some.ensures in
          let pushed : w.push.new.self.items ≡ bids ++ w.in-Some.choice ∷ [] = search rules in
          let step : w.push.new.self.items ++ back (drop (column + 1) columns) (drop (column + 1) point)
          ≡ bids ++ back (drop column columns) (drop column point) = rw (add-one, named, pushed, append_assoc) refl in
          rw w.bids-is (step ∙ c.loop-column.invariant))
      | then-value+in_default w ↦
          (let named = back_at column columns point true None (c.value.ensures ∙ ap (λ v. Some v) w.if-value.true) w.in_default.ensures in
          let step : bids ++ back (drop (column + 1) columns) (drop (column + 1) point) ≡ bids ++ back (drop column columns) (drop column point) =
          rw (add-one, named) refl in
          rw w.bids-is (step ∙ c.loop-column.invariant))
      | else-value w ↦
          (let within : column < length columns = (let test = c.loop-column-test.true in let count = c.column_count-column-end.ensures in omega arith) in
          let skips = back_skips column columns point within (c.value.ensures ∙ ap (λ v. Some v) w.if-value.false) in
          let step : bids ++ back (drop (column + 1) columns) (drop (column + 1) point) ≡ bids ++ back (drop column columns) (drop column point) =
          rw (add-one, skips) refl in
          rw w.bids-is (step ∙ c.loop-column.invariant))
    ]
