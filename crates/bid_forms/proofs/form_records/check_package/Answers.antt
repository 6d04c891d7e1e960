use Rattle.auction_terms.proofs.JudgeFacts.{holds-both}
use Rattle.bid_forms.proofs.BidFacts.{none-of-three}
use Rattle.bid_forms.proofs.form_records.check_package.Goals as goal

pub returns-clause-told : goal.returns-clause-told
returns-clause-told c =
    rw (c.categories-categories.ensures.value, c.requires.quantities) at (
    holds-both _ _ _ _ _ c.in_ok-is_allowed.ensures.told
    (holds-both _ _ _ _ _ c.in_ok-is_enough.ensures.told c.in_ok-is_new.ensures.told)
    )

pub returns-clause-none : goal.returns-clause-none
returns-clause-none c =
    rw (c.categories-categories.ensures.value, c.requires.quantities) at (
    none-of-three _ _ _ _ _ _ c.in_ok-is_allowed.ensures.none c.in_ok-is_enough.ensures.none c.in_ok-is_new.ensures.none
    )
