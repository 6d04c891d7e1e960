use Rattle.std.proofs.Common.{ap, rules, ◌++◌, ◌∷◌, [], codes}
use Rattle.byte_sinks.proofs.AddingFacts.{Adds-then}
use Rattle.input_faults.specs.PlacedText.{hint, message_at}
use Rattle.answers.proofs.LineFacts.{puts}
use Rattle.answers.proofs.messages.print_refusal.Goals as goal

pub returns : goal.returns
returns g c =
    puts _ _ c.flush.result c.new-writer.ensures (Adds-then c.add.ensures (Adds-then c.add_message.ensures (Adds-then c.add_hint.ensures c.add-2.ensures)))
    c.flush.ensures.adds c.flush.ensures.ok c.flush.ensures.err (search rules)
    (ap (λ spot. codes "wdp: " ++ (message_at c.args.texts.now spot c.args.refusal.now ++ (hint c.args.texts.now c.args.refusal.now ++ 10 ∷ []))) c.spot_of.ensures)
