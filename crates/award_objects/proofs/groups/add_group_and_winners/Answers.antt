use Rattle.std.proofs.Common.{ap, codes}
use Rattle.byte_sinks.proofs.AddingFacts.{Adds-then, Adds-to}
use Rattle.bid_desk.specs.Sale.{sale_of}
use Rattle.byte_sinks.specs.Objects.{named_number}
use Rattle.award_objects.specs.Objects.{winners_text}
use Rattle.award_objects.proofs.groups.add_group_and_winners.Goals as goal

pub returns : goal.returns
returns g c =
    let book = c.args.outcome.now.book.now in
    Adds-then c.add_group.ensures (Adds-to c.add_winners.ensures (ap (winners_text book.rules (sale_of book) (named_number (codes "group") c.args.k)) c.choices.ensures.choices))
