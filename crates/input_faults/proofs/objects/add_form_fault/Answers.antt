use Rattle.std.proofs.Common.{◌∙◌, ◌++◌, ap, ap₂}
use Rattle.std.specs.Prelude.{codes}
use Rattle.bid_forms.specs.FormFaultText.{form_code, form_place}
use Rattle.byte_sinks.proofs.AddingFacts.{Adds-then, Adds-to}
use Rattle.input_faults.specs.FaultObjects.{code_members, next_number_if}
use Rattle.input_faults.proofs.objects.add_form_fault.Goals as goal

pub returns : goal.returns
returns g c =
    let f = c.args.fault in
    Adds-to (Adds-then c.add_coded.ensures c.add_number_if.ensures)
    (ap₂ (λ code place. (code_members code ++ next_number_if (codes "record") place) ++ next_number_if (codes "earlier_bid") c.earlier.result)
    c.code.ensures c.place.ensures
    ∙ ap (λ earlier. (code_members (form_code f) ++ next_number_if (codes "record") (form_place f)) ++ next_number_if (codes "earlier_bid") earlier)
    c.earlier.ensures)
