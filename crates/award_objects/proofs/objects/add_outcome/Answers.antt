use Rattle.std.proofs.Common.{◌∙◌, ◌<◌, [], ap, length, rules, slice_index_or}
use Rattle.std.specs.List.{zip}
use Rattle.std.proofs.lemmas.List.{get_or_default}
use Rattle.auction_terms.specs.Allocations.{loads}
use Rattle.byte_sinks.proofs.AddingFacts.{Adds-then, Adds-to}
use Rattle.bid_desk.specs.Sale.{sale_of}
use Rattle.byte_sinks.specs.Adds.{Adds}
use Rattle.outcome.specs.Report.{in_turn}
use Rattle.award_objects.specs.Objects.{award_of, award_text, group_objects, lots_text, outcome_seen, prices_text, sums_text}
use Rattle.award_objects.proofs.objects.add_outcome.Goals as goal

pub returns : goal.returns
returns g c =
    let outcome = c.args.outcome.now in
    let sale = sale_of outcome.book.now in
    let t = outcome.book.now.rules in
    let groups = outcome.groups.now in
    let some : 0 < length outcome.won.now = search rules in
    let a = slice_index_or outcome.won.now 0 c.index-outcome-0.result in
    let first = get_or_default outcome.won.now 0 c.index-outcome-0.result [] some in
    let sold = c.as_slice.ensures.value ∙ c.sold_by-sold.ensures.loads ∙ ap (loads sale.lots sale.book) c.choices.ensures.choices in
    let of_lots : Adds g.S.Sink.state c.args.writer.now c.add_lots.new.writer (lots_text t (loads sale.lots sale.book a)) =
    Adds-to c.add_lots.ensures (ap (lots_text t) sold) in
    let of_groups : Adds g.S.Sink.state c.add_lots.new.writer c.add_groups.new.writer (in_turn (group_objects t sale outcome.pricing.now a) 1 (zip groups outcome.won.now)) = c.add_groups.ensures in
    let of_prices : Adds g.S.Sink.state c.add_groups.new.writer c.add_prices.new.writer (prices_text t sale groups outcome.won.now a outcome.pricing.now) = c.add_prices.ensures in
    let of_awards : Adds g.S.Sink.state c.add_prices.new.writer c.add_awards.new.writer (in_turn (award_text t sale (zip groups outcome.won.now)) 2 outcome.others.now.awards) = c.add_awards.ensures in
    let of_sums : Adds g.S.Sink.state c.add_awards.new.writer c.add_sums.new.writer (sums_text t sale groups (outcome_seen outcome) a) = c.add_sums.ensures in
    Adds-to (Adds-then of_lots (Adds-then of_groups (Adds-then of_prices (Adds-then of_awards of_sums))))
    (ap (award_of t sale groups (outcome_seen outcome)) first)
