use Rattle.std.proofs.Common.{◌∙◌, ◌++◌, ◌∷◌, [], ap}
use Rattle.auction_terms.specs.Judged.{kept_fault}
use Rattle.byte_sinks.proofs.AddingFacts.{Adds-then, Adds-to}
use Rattle.input_faults.specs.Details.{detail}
use Rattle.input_faults.specs.PlacedText.{message_at, message_in}
use Rattle.input_faults.proofs.lines.add_words.Goals as goal

pub returns : goal.returns
returns g c =
    let texts = c.args.places.now in
    let r = c.refusal-refusal.result in
    let reported = ap (λ xs. message_at xs c.spot_of.result r) c.texts.ensures ∙ ap (λ spot. message_at texts spot r) c.spot_of.ensures
    ∙ ap (message_in texts) c.refusal-refusal.ensures in
    Adds-to (Adds-then c.add_message.ensures (Adds-then c.add_detail.ensures c.add.ensures))
    (ap (λ bytes. bytes ++ (detail (kept_fault c.args.at.now) ++ 10 ∷ [])) reported)
