use Rattle.std.proofs.Common.{◌∙◌}
use Rattle.auction_input.specs.Settled.{held}
use Rattle.answers.specs.inside.RuleHeld.{in_parts_held}
use Rattle.answers.proofs.ClaimedFacts.{first-program}
use Rattle.answers.proofs.PricingFacts.{cover-refused, cover-parsed}
use Rattle.answers.proofs.pricing.check_covered.Goals as goal

pub check_cover-requires-clause-program : goal.check_cover-requires-clause-program
check_cover-requires-clause-program c = c.in_ok-program.ensures
    ∙ first-program c.args.auction.now c.args.compiler.now c.group.result.now c.requires.compiler c.requires.empty c.group.ensures

pub returns-in-Ok-clause-parsed : goal.returns-in-Ok-clause-parsed
returns-in-Ok-clause-parsed c =
    cover-parsed (held c.args.auction.now) c.args.first.now (in_parts_held c.args.p.now) c.args.text.now
    (rw c.as_slice.ensures.value at c.in-Ok.ensures.first)

pub returns-in-Ok-clause-suffice : goal.returns-in-Ok-clause-suffice
returns-in-Ok-clause-suffice c = rw c.as_slice.ensures.value at c.in-Ok.ensures.suffice

pub returns-in-Err-clause-refuses : goal.returns-in-Err-clause-refuses
returns-in-Err-clause-refuses c =
    cover-refused (held c.args.auction.now) c.args.first.now (in_parts_held c.args.p.now) c.args.text.now c.in-Err.fault
    (rw c.as_slice.ensures.value at c.in-Err.ensures.first) (rw c.as_slice.ensures.value at c.in-Err.ensures.too_large)
