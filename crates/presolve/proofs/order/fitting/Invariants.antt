use Rattle.std.proofs.Common.{◌≡◌, ◌+◌, ◌++◌, All, map, drop}
use Rattle.auction_terms.specs.Terms.{lots_in}
use Rattle.presolve.specs.inside.Sizes.{TellsItsNet, TellsItsSize, fitting_from, sized_of}
use Rattle.presolve.proofs.order.fitting.Given as goal

-- those so far, followed by those that are left, are all
abbrev pub invariant-loop-place : goal.invariant-loop-place
invariant-loop-place l = record {
  so_far : map sized_of l.fitting.items ++ fitting_from (lots_in l.rules) (1 + l.place) (drop l.place l.bids) ≡ fitting_from (lots_in l.rules) 1 l.bids;
  reported : All TellsItsSize l.fitting.items;
  nets : All (TellsItsNet (lots_in l.rules)) l.fitting.items;
}
