use Rattle.std.specs.Prelude.{codes}
use Rattle.std.proofs.Common.{◌≡◌, ◌∷◌, [], ap, map}
use Rattle.byte_sinks.proofs.AddingFacts.{Adds-to}
use Rattle.byte_sinks.specs.Objects.{member_seen, named_number, named_text, object_text}
use Rattle.answers.specs.Forms.{digest}
use Rattle.answers.proofs.commands.forms.add_rules_object.Goals as goal

pub returns : goal.returns
returns g c =
    let same : map member_seen (c.text.result ∷ c.number.result ∷ [])
    ≡ named_text (codes "rules") (digest c.args.bytes.now) ∷ named_number (codes "step") c.args.rules.now.step ∷ [] = cc in
    Adds-to c.add_object.ensures (ap object_text same)
