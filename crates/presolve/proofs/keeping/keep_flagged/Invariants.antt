use Rattle.std.proofs.Common.{◌≡◌, ◌+◌, ◌++◌, All, drop}
use Rattle.auction_terms.specs.Bids.{IsKeptBid}
use Rattle.auction_terms.specs.Offers.{offers}
use Rattle.presolve.specs.inside.Flags.{flagged_from}
use Rattle.presolve.proofs.keeping.keep_flagged.Given as goal

-- those so far, followed by the flagged ones that are left, are all
abbrev pub invariant-loop-place : goal.invariant-loop-place
invariant-loop-place l = record {
  so_far : offers l.kept.items ++ flagged_from l.bidder (1 + l.place) (drop l.place l.bids) (drop l.place l.flags)
      ≡ offers l.fn.kept.items ++ flagged_from l.bidder 1 l.bids l.flags;
  each : All IsKeptBid l.kept.items;
}
