use Rattle.std.proofs.Common.{◌∙◌, ap, codes, ◌≡◌, rules}
use Rattle.byte_sinks.proofs.AddingFacts.{Adds-to}
use Rattle.byte_sinks.specs.Objects.{named_number, named_number_if, named_signed, object_text}
use Rattle.byte_sinks.specs.Objects.Value.{Many}
use Rattle.award_objects.proofs.MemberFacts.{and_then, lone, of_value}
use mir.Syntax.{w128}
use mir.Val.{of_z, to_z}
use Rattle.award_objects.proofs.groups.add_named_group.Goals as goal

pub returns : goal.returns
returns g c =
    let names = of_value c.list.result (codes "left_out") _ c.list.ensures.name (c.list.ensures.value ∙ ap Many c.requires) in
    let total = c.number-2.ensures ∙ ap (named_number (codes "total")) c.total.ensures.sum in
    let whole : to_z w128 (of_z w128 c.cost.result) ≡ c.cost.result = search rules in
    let cost = c.signed.ensures ∙ ap (named_signed (codes "cost")) (whole ∙ c.cost.ensures) in
    let pays = c.number_if.ensures ∙ ap (named_number_if (codes "pays")) c.paid_by.ensures in
    Adds-to c.add_object.ensures (ap object_text (and_then c.number.ensures (and_then names (and_then total (and_then cost (lone pays))))))
