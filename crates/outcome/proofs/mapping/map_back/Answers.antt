use Rattle.outcome.proofs.mapping.map_back.Goals as goal

pub by_rising_bidder-requires : goal.by_rising_bidder-requires
by_rising_bidder-requires c = record { map = rw (c.deref.ensures.value, c.in_ok-bids.ensures) c.requires.map }
