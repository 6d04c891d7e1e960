use Rattle.std.proofs.Common.{◌≡◌, ℕ, ◌<◌, ◌≤◌, length}
use Rattle.std.specs.List.{AllZip, range_with_len}
use Rattle.std.specs.Prelude.{vec_len, vec_capacity}
use Rattle.group_compiler.specs.inside.Ordering.{HasMade}
use Rattle.group_compiler.proofs.ordering.in_order.Given as goal

-- the slots from here on are full
abbrev pub invariant-loop-place : goal.invariant-loop-place
invariant-loop-place g l = record {
  size : length l.slots.items ≡ g.M.Maker.count_of l.maker;
  full : (k : ℕ) → l.place ≤ k → k < g.M.Maker.count_of l.maker → HasMade (g.M.Maker.makes l.maker) l.slots.items k;
  so_far : AllZip (g.M.Maker.makes l.maker) (range_with_len 0 l.place) l.ordered.items;
  filled : vec_len l.ordered ≡ l.place;
  room : g.M.Maker.count_of l.maker ≤ vec_capacity l.ordered;
}
