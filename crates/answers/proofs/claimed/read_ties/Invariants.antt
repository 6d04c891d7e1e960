use Rattle.std.proofs.Common.{◌≡◌, [], drop, length, map}
use Rattle.std.specs.Prelude.{All}
use Rattle.auction_input.specs.Settled.{held}
use Rattle.auction_terms.specs.Lines.{bytes_of}
use Rattle.outcome.specs.PointAllocation.{allocation_of}
use Rattle.program_rows.specs.Points.{IsPoint}
use Rattle.answers.specs.Claimed.{parsed_ties}
use Rattle.answers.proofs.ClaimedFacts.{onto}
use Rattle.answers.proofs.claimed.read_ties.Given as goal

-- the ties so far, and the rest
abbrev pub invariant-loop-text : goal.invariant-loop-text
invariant-loop-text l = record {
  parsed : parsed_ties (held l.auction) l.first [] (held l.auction).ties
      ≡ onto l.ties.points.items (parsed_ties (held l.auction) l.first l.ties.awards.items (bytes_of (drop l.text-index l.auction.ties.items)));
  points : All (IsPoint l.program) l.ties.points.items;
  awards : l.ties.awards.items ≡ map (allocation_of l.program) l.ties.points.items;
  count : length l.ties.awards.items ≡ l.text-index;
}
