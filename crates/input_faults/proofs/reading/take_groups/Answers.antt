use Rattle.std.proofs.Common.{ap}
use Rattle.auction_input.specs.ParsedTexts.{parsed_groups}
use Rattle.auction_input.specs.declared.refusal.Refusal.TheVariants as refusal
use Rattle.auction_terms.specs.GroupsText.{group_faults, groups_of}
use Rattle.auction_terms.specs.Stages.{refused_as}
use Rattle.auction_terms.specs.declared.groups_text.GroupFault.TheVariants as groups
use Rattle.input_faults.proofs.InputBeginsFacts.{begin-group-text}
use Rattle.input_faults.proofs.TextFacts.{judged-sized, nothing-more, some-refused}
use Rattle.input_faults.specs.declared.fault.Fault.TheVariants as fault
use Rattle.input_faults.proofs.reading.take_groups.Goals as goal

pub returns-in-Ok : goal.returns-in-Ok
returns-in-Ok c =
    let text = c.args.text.now in
    let bidders = c.args.rules.now.bidders in
    let judged = judged-sized groups.TooLarge text (groups_of bidders text) (group_faults bidders text) _
    c.in_ok-groups.ensures.too_large c.in_ok-groups.ensures.answer in
    let reported = ap (refused_as refusal.Groups) (rw c.in-Ok.is at judged) in
    record { faults = nothing-more c.args.faults.now _ _ _ (begin-group-text c.args.rules.now text) reported; groups = reported }

pub returns-in_ok-add_groups-in-Err : goal.returns-in_ok-add_groups-in-Err
returns-in_ok-add_groups-in-Err c =
    let text = c.args.text.now in
    let t = c.args.rules.now in
    let judged = judged-sized groups.TooLarge text (groups_of t.bidders text) (group_faults t.bidders text) _
    c.in_ok-groups.ensures.too_large c.in_ok-groups.ensures.answer in
    let (some, held) = rw c.in-Err.is at judged in
    record {
      faults = c.in_ok-add_groups-in-Err.ensures _ held;
      groups = some-refused fault.Groups _ (parsed_groups t text) (begin-group-text t text) some;
    }
