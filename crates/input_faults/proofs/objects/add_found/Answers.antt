use Rattle.std.proofs.Common.{◌∙◌, ◌++◌, ap}
use Rattle.std.specs.Prelude.{codes}
use Rattle.byte_sinks.proofs.AddingFacts.{Adds-then, Adds-to}
use Rattle.input_faults.specs.FaultObjects.{cut_member, next_text}
use Rattle.input_faults.proofs.objects.add_found.Goals as goal

pub returns : goal.returns
returns g c =
    Adds-to (Adds-then c.add_text.ensures c.add_cut.ensures)
    (ap (λ shown. next_text (codes "found") shown ++ cut_member c.args.text.now) (c.as_slice.ensures.value ∙ c.in_ok-shown.ensures))
