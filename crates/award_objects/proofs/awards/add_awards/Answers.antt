use Rattle.std.proofs.Common.{◌∙◌, ◌+◌, ℕ, List, ap, arith, flat_map, take}
use Rattle.std.specs.List.{enumerate_from, zip}
use Rattle.auction_terms.specs.declared.bids.Choice.{Choice}
use Rattle.byte_sinks.proofs.AddingFacts.{Adds-then, Adds-to}
use Rattle.bid_desk.specs.Sale.{sale_of}
use Rattle.outcome.specs.Report.{in_turn}
use Rattle.award_objects.specs.Objects.{award_text}
use Rattle.award_objects.proofs.ListFacts.{bytes_more, numbered_all, numbered_more}
use Rattle.award_objects.proofs.awards.add_awards.Goals as goal

pub loop-place-preserved : goal.loop-place-preserved
loop-place-preserved g c =
    let outcome = c.args.outcome.now in
    let awards = c.awards-awards.result.now in
    let at = c.loop-place.place in
    let award = c.index-awards-place.result in
    let further = numbered_more 2 awards at (at + 2) award award c.index-awards-place.is c.loop-place-test.true (omega arith) in
    Adds-to (Adds-then c.loop-place.invariant c.add_award_and_winners.ensures)
    (bytes_more (λ (e : ℕ × List Choice). award_text outcome.book.now.rules (sale_of outcome.book.now) (zip outcome.groups.now outcome.won.now) e.0 e.1)
    (take at (enumerate_from 2 awards)) (take (at + 1) (enumerate_from 2 awards)) (at + 2, award) further)

pub returns : goal.returns
returns g c =
    let outcome = c.args.outcome.now in
    let text = award_text outcome.book.now.rules (sale_of outcome.book.now) (zip outcome.groups.now outcome.won.now) in
    Adds-to c.loop-place.invariant (ap (flat_map (λ (e : ℕ × List Choice). text e.0 e.1))
    (numbered_all 2 c.awards-awards.result.now c.loop-place.place c.loop-place-test.false)
    ∙ ap (λ (awards : List (List Choice)). in_turn text 2 awards) c.awards-awards.ensures)
