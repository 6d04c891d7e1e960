use Rattle.std.proofs.Common.{◌∙◌, ◌++◌, ap, ap₂}
use Rattle.std.specs.Prelude.{codes}
use Rattle.byte_sinks.proofs.AddingFacts.{Adds-then, Adds-to}
use Rattle.input_faults.specs.FaultObjects.{next_text}
use Rattle.input_faults.specs.FileNames.{shown_name}
use Rattle.input_faults.proofs.objects.add_another.Goals as goal

pub returns : goal.returns
returns g c =
    Adds-to (Adds-then c.add_text.ensures c.add_text-2.ensures)
    (ap₂ (λ bidder other. next_text (codes "bidder") bidder ++ next_text (codes "other_file") other) c.as_slice.ensures
    (c.as_slice-2.ensures.value ∙ c.in_ok-other.ensures ∙ ap shown_name c.file_name.ensures))
