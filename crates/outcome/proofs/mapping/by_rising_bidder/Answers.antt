use Rattle.std.proofs.Common.{◌≡◌, ◌==◌, ◌++◌, ◌+◌, ℕ, List, sym, ap, subst, ◌∙◌, arith}
use Rattle.std.specs.Prelude.{filter}
use Rattle.std.specs.List.{range_with_len}
use Rattle.auction_terms.specs.declared.bids.Choice.{Choice}
use Rattle.auction_terms.specs.declared.limits.TheConstants.{MOST_BIDDERS}
use Rattle.outcome.specs.inside.Winning.{by_bidder}
use Rattle.outcome.specs.PointAllocation.{HasRisingBidders}
use Rattle.outcome.proofs.BackFacts.{by_bidder-more, rises_all}
use Rattle.outcome.proofs.mapping.by_rising_bidder.Goals as goal

pub loop-k-preserved : goal.loop-k-preserved
loop-k-preserved c =
    let choices = c.args.choices.now in
    let k = c.loop-k.k in
    let bidder : k + 1 ≡ 1 + k = omega arith in
    c.in_ok-add_choices_of.ensures
    ∙ ap (λ (w : List Choice). w ++ filter (λ d. d.bidder == k + 1) choices) c.loop-k.invariant
    ∙ ap (λ (n : ℕ). by_bidder (range_with_len 1 k) choices ++ filter (λ d. d.bidder == n) choices) bidder
    ∙ sym (by_bidder-more choices 1 k)

pub new-requires : goal.new-requires
new-requires c =
    let choices = c.args.choices.now in
    let all : c.loop-k.k ≡ MOST_BIDDERS = omega arith in
    subst HasRisingBidders (sym (c.loop-k.invariant ∙ ap (λ (n : ℕ). by_bidder (range_with_len 1 n) choices) all)) (rises_all choices c.requires.map)
