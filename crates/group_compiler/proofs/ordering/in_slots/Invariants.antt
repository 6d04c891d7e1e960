use Rattle.std.proofs.Common.{◌≡◌, ◌⊎◌, ℕ, ◌<◌, map, length}
use Rattle.std.specs.Prelude.{All, Contains}
use Rattle.group_compiler.specs.inside.Ordering.{HasMade}
use Rattle.group_compiler.proofs.ordering.in_slots.Given as goal

-- each number is still to come, or its slot has what it makes
abbrev pub invariant-loop-numbered : goal.invariant-loop-numbered
invariant-loop-numbered g l = record {
  size : length l.slots.items ≡ g.M.Maker.count_of l.maker;
  below : All (λ r. r.number < g.M.Maker.count_of l.maker) l.results.items;
  made : All (λ r. g.M.Maker.makes l.maker r.number r.made) l.results.items;
  each : (k : ℕ) → k < g.M.Maker.count_of l.maker → Contains (map (λ r. r.number) l.results.items) k ⊎ HasMade (g.M.Maker.makes l.maker) l.slots.items k;
}

abbrev pub decreases-loop-numbered : goal.decreases-loop-numbered
decreases-loop-numbered g l = goal.left-loop-numbered g l
