use Rattle.std.proofs.Common.{◌≡◌, ◌+◌, ◌<◌, filter, length, map, nat_lt}
use Rattle.std.specs.Prelude.{All}
use Rattle.group_compiler.specs.Claimed.{IsOf}
use Rattle.group_compiler.proofs.work.draw_on.Given as goal

-- something is made of each number drawn so far that is below the count, and each group whose number was drawn has come past
abbrev pub invariant-loop-turn : goal.invariant-loop-turn
invariant-loop-turn g l = record {
  same : IsOf l.claims l.work.claim;
  turns : length l.work.claim.drawn ≡ l._turn;
  whole : l.work.claim.room + length l.work.claim.drawn ≡ l.fn.work.claim.room;
  numbers : map (λ r. r.number) l.work.results.items ≡ filter (λ n. nat_lt n (g.M.Maker.count_of l.maker)) l.work.claim.drawn;
  results : All (λ r. g.M.Maker.makes l.maker r.number r.made) l.work.results.items;
  past : All (λ n. n < g.M.Maker.groups_of l.maker → g.G.Stop.is_past l.stop (n + 1)) l.work.claim.drawn;
}
