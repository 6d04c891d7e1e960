use Rattle.std.proofs.Common.{◌∙◌, ◌++◌, [], List, None, ap, slice_index_or}
use Rattle.auction_terms.specs.declared.bids.Choice.{Choice}
use Rattle.byte_sinks.proofs.AddingFacts.{Adds-then, Adds-to}
use Rattle.bid_desk.specs.Sale.{sale_of}
use Rattle.outcome.specs.Others.{Others}
use Rattle.outcome.specs.declared.others.Further.TheVariants.{Unknown}
use Rattle.award_objects.specs.Objects.{award_of, proved_object}
use Rattle.award_objects.proofs.objects.add_unshown.Goals as goal

pub returns : goal.returns
returns g c =
    let book = c.args.book.now in
    let none = c.new-others.ensures ∙ ap (λ (awards : List (List Choice)). record { awards = awards; further = Unknown }) c.new.ensures.items in
    Adds-to (Adds-then c.add_outcome.ensures c.add_proved.ensures) (ap (λ (others : Others). award_of book.rules (sale_of book) c.args.groups.now
    (record { won = c.args.won.now; pricing = None; others = others }) (slice_index_or c.args.won.now 0 []) ++ proved_object []) none)
