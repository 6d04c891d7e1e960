use Rattle.std.proofs.Common.{◌≡◌, ◌++◌}
use Rattle.input_faults.proofs.MergeFacts.{kept_as}
use Rattle.input_faults.specs.inside.Finding.{FindsMore}
use Rattle.input_faults.specs.declared.fault.Fault.TheVariants as fault
use Rattle.input_faults.proofs.merging.add_form.Given as goal

abbrev pub invariant-loop-at : goal.invariant-loop-at
invariant-loop-at l = FindsMore l.initial.faults l.faults (kept_as (fault.Form l.form) l.yielded)
    × (l.yielded ++ l.at-iterator.rest.items ≡ l.fn.found.kept.items)
