use Rattle.std.proofs.Common.{◌≡◌, ◌+◌, ◌≤◌}
use Rattle.std.specs.Prelude.{All, vec_len, vec_capacity}
use Rattle.presolve.specs.inside.Sieves.{IsSieve}
use Rattle.presolve.proofs.sieve.sieves.Given as goal

-- a sieve for the net, and one for each category so far
abbrev pub invariant-loop-place : goal.invariant-loop-place
invariant-loop-place l = record {
  count : vec_len l.sieves ≡ l.place + 1;
  room : l.categories + 1 ≤ vec_capacity l.sieves;
  each : All (IsSieve l.rivals) l.sieves.items;
}
