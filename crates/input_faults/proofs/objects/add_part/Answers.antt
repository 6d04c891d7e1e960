use Rattle.std.proofs.Common.{◌∙◌, ap₂, ◌++◌}
use Rattle.std.specs.Prelude.{codes, option_map}
use Rattle.byte_sinks.proofs.AddingFacts.{Adds-then, Adds-to}
use Rattle.input_faults.specs.FaultObjects.{number_in_file, next_number_if, next_text}
use Rattle.input_faults.proofs.objects.add_part.Goals as goal

pub returns : goal.returns
returns g c =
    Adds-to (Adds-then c.add_text.ensures c.add_part_number.ensures)
    (ap₂ (λ name number. next_text (codes "part") name ++ next_number_if (codes "number") (option_map (number_in_file c.args.spot) number))
    (c.as_bytes.ensures.value ∙ c.part_of.ensures) c.part_number.ensures)
