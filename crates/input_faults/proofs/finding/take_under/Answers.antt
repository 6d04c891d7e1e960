use Rattle.auction_input.specs.Parts.{parts_held}
use Rattle.input_faults.proofs.MergeFacts.{finds-both}
use Rattle.input_faults.proofs.UnmetFacts.{are-groups}
use Rattle.input_faults.proofs.finding.take_under.Goals as goal

pub returns-clause-faults : goal.returns-clause-faults
returns-clause-faults c =
    let another = rw c.in_ok-together.ensures.another at c.in_ok-add_another.ensures in
    let groups = rw c.text_of.ensures at c.in_ok-groups.ensures.faults in
    let call = rw c.in_ok-together.ensures.call at c.in_ok-add_call.ensures in
    finds-both _ _ _ _ _ c.in_ok-together.ensures.faults (finds-both _ _ _ _ _ another (finds-both _ _ _ _ _ groups call))

pub returns-clause-groups : goal.returns-clause-groups
returns-clause-groups c = are-groups c.args.rules.now (parts_held c.args.parts.now) _ _ c.text_of.ensures c.in_ok-groups.ensures.groups
