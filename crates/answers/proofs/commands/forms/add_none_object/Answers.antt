use Rattle.std.specs.Prelude.{codes}
use Rattle.std.proofs.Common.{◌≡◌, ◌∷◌, [], ap, map, None}
use Rattle.byte_sinks.proofs.AddingFacts.{Adds-to}
use Rattle.byte_sinks.specs.Objects.{member_seen, named_number_if, named_text, named_text_if, object_text}
use Rattle.answers.proofs.commands.forms.add_none_object.Goals as goal

pub returns : goal.returns
returns g c =
    let same : map member_seen (c.text.result ∷ c.number_if.result ∷ c.text_if.result ∷ [])
    ≡ named_text (codes "form") c.args.name.now ∷ named_number_if (codes "bids") None ∷ named_text_if (codes "sha256") None ∷ [] = cc in
    Adds-to c.add_object.ensures (ap object_text same)
