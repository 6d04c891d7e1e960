use Rattle.std.proofs.Common.{◌≡◌, ◌∙◌}
use Rattle.outcome.proofs.PutFacts.{rising_set}
use Rattle.outcome.proofs.following.with_bid.Goals as goal

pub new-requires : goal.new-requires
new-requires c =
    let same : c.in_ok-choices.choices.items ≡ c.args.award.now = c.in_ok-choices.ensures.items_if_clones_equal (λ x y e. e) ∙ c.choices.ensures.choices in
    rw same (rising_set c.args.award.now c.args.place c.args.bid c.requires.within c.requires.same c.choices.ensures.rising)
