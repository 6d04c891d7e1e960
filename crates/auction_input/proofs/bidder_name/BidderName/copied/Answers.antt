use Rattle.auction_input.proofs.BidderNameFacts.{filled}
use Rattle.auction_input.proofs.bidder_name.BidderName.copied.Goals as goal

pub invariant_of-result : goal.invariant_of-result
invariant_of-result c = filled c.as_bytes-text.result.now c.copy_from_slice.new.self c.copy_from_slice.ensures.after
