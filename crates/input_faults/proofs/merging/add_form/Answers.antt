use Rattle.std.proofs.Common.{arith, refl}
use Rattle.input_faults.proofs.MergeFacts.{holds-others, merged-all, merged-more}
use Rattle.input_faults.specs.declared.fault.Fault.TheVariants as fault
use Rattle.input_faults.proofs.merging.add_form.Goals as goal

pub loop-at-preserved : goal.loop-at-preserved
loop-at-preserved c =
    let (finds, are) = c.loop-at.invariant in
    merged-more (fault.Form c.args.form) _ _ _ c.loop-at.yielded c.loop-at.at-iterator.rest.items c.next.new.self.rest.items c.args.found.kept.items c.in-Some.at _ finds are
    c.in-Some.ensures.steps.0 c.reported_as-told.ensures c.in_ok-add.ensures

pub returns : goal.returns
returns c reported keeps =
    let (finds, are) = c.loop-at.invariant in
    holds-others (fault.Form c.args.form) c.args.faults.now c.loop-at.faults (record
    { most = c.loop-at.faults.most; kept = c.loop-at.faults.kept; more = c.saturating_add-faults.result }) c.args.found reported keeps
    (merged-all (fault.Form c.args.form) _ _ c.loop-at.yielded c.loop-at.at-iterator.rest.items c.args.found.kept.items finds are (let none = c.in-None.ensures.steps.0 in let size = c.loop-at.at-iterator.rest.ok in omega arith)) refl refl c.saturating_add-faults.ensures
