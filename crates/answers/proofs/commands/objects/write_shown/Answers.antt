use Rattle.std.proofs.Common.{List, ap, rules}
use Rattle.auction_terms.specs.declared.bids.Choice.{Choice}
use Rattle.award_objects.specs.Objects.{objects_shown}
use Rattle.bid_desk.specs.Sale.{sale_of}
use Rattle.byte_sinks.proofs.AddingFacts.{Adds-then, Adds-to, sends}
use Rattle.answers.proofs.commands.objects.write_shown.Goals as goal

pub returns : goal.returns
returns g c =
    let auction = c.args.auction.now in
    let proved = c.args.proved.now in
    let shown = Adds-to c.add_shown.ensures (ap (λ (won : List (List Choice)). objects_shown auction.book.rules (sale_of auction.book) auction.groups
    (record { won = won; pricing = proved.pricing; others = proved.others })) c.as_slice.ensures.value) in
    sends _ c.flush.result c.new-writer.ensures (Adds-then c.add_forms.ensures shown) c.flush.ensures.adds c.flush.ensures.ok
    c.flush.ensures.err (search rules)
