use Rattle.std.proofs.Common.{◌≡◌, ◌++◌, map, drop}
use Rattle.auction_terms.specs.Offers.{offers}
use Rattle.program_rows.specs.declared.subject.Subject.TheVariants.{Bidder}
use Rattle.program_rows.proofs.BuiltFacts.{next_bidders}
use Rattle.program_rows.proofs.rows.bidders.Given as goal

-- the bidders so far, and those that are left, are all
abbrev pub invariant-loop-bid : goal.invariant-loop-bid
invariant-loop-bid l = l.subjects.items ++ map Bidder (next_bidders l.last (offers (drop l.bid-index l.kept))) ≡ map Bidder (next_bidders 0 (offers l.kept))
