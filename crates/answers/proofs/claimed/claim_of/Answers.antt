use Rattle.std.proofs.Common.{List, subst, sym, ◌⊎◌, IfErr}
use Rattle.auction_terms.specs.declared.bids.Choice.{Choice}
use Rattle.auction_input.specs.Refused.{Refuses}
use Rattle.auction_input.specs.Settled.{held}
use Rattle.answers.specs.Claimed.{IsTooWideClaim, parsed_claims}
use Rattle.answers.proofs.ClaimedFacts.{first-won, is-first-won}
use Rattle.answers.proofs.claimed.claim_of.Goals as goal

pub claimed_others-requires-clause-won : goal.claimed_others-requires-clause-won
claimed_others-requires-clause-won c = is-first-won c.args.auction.now c.args.won.now c.index-won-0.result c.requires.won c.index-won-0.is

pub returns-clause-refuses : goal.returns-clause-refuses
returns-clause-refuses c =
    let auction = c.args.auction.now in
    let won = c.args.won.now in
    subst (λ (first : List Choice). IfErr c.claimed_others.result (λ r. Refuses (parsed_claims (held auction) first) r ⊎ IsTooWideClaim (held auction) first r))
    (sym (first-won (held auction) won c.index-won-0.result c.requires.won c.index-won-0.is)) c.claimed_others.ensures.refuses
