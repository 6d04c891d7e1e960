use Rattle.std.proofs.Common.{◌∙◌, None, Some, ap, sym}
use Rattle.input_faults.proofs.MergeFacts.{finds-none}
use Rattle.auction_input.specs.Parts.{parts_held}
use Rattle.auction_terms.specs.declared.limits.TheConstants.{MOST_FAULTS}
use Rattle.input_faults.specs.PartFaults.{uncounted_fault, uncut_fault}
use Rattle.input_faults.proofs.PartsFacts.{part-reported, parts-counted, parts-unknown}
use Rattle.input_faults.proofs.finding.take_parts.Goals as goal

pub returns-in-Err : goal.returns-in-Err
returns-in-Err c =
    let asked = c.args.request.now in
    let input = c.args.input.now in
    let f = c.in-Err.fault in
    let is = parts-unknown asked input f (part-reported asked input f c.in-Err.ensures c.in_ok-check_part_fault-in-Err.ensures) in
    record { faults = rw is (rw (c.uncut_fault.ensures ∙ ap (λ texts. uncut_fault texts f) c.texts.ensures) at c.in_ok-add-in-Err.ensures MOST_FAULTS); parts = (uncut_fault input.texts f, is) }

pub returns-in-None : goal.returns-in-None
returns-in-None c =
    let (none, held) = c.in-Ok.ensures in
    let counted = rw c.as_slice.ensures.value at c.miscounted.ensures in
    let is = parts-counted c.args.request.now c.args.input.now (parts_held c.in-Ok.parts.items) None none held (sym counted ∙ c.in-None.is) in
    record { faults = rw is (finds-none c.args.faults.now); parts = (is, held) }

pub returns : goal.returns
returns c =
    let (none, held) = c.in-Ok.ensures in
    let kind = c.in-Some.kind in
    let counted = rw c.as_slice.ensures.value at c.miscounted.ensures in
    let is = parts-counted c.args.request.now c.args.input.now (parts_held c.in-Ok.parts.items) (Some kind) none held (sym counted ∙ c.in-Some.is) in
    record { faults = rw is (rw (c.uncounted_fault.ensures ∙ ap (λ held. uncounted_fault c.args.request.now (parts_held held) kind) c.as_slice-in-Some.ensures.value) at c.in_ok-add-in-Some.ensures MOST_FAULTS); parts = (uncounted_fault c.args.request.now (parts_held c.in-Ok.parts.items) kind, is) }
