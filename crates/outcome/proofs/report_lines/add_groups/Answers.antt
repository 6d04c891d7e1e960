use Rattle.std.proofs.Common.{◌≡◌, ◌+◌, ◌-◌, ◌<◌, ℕ, [], take, length, ap, ◌∙◌, arith}
use Rattle.std.specs.Prelude.{get_or}
use Rattle.std.specs.List.{zip}
use Rattle.std.proofs.lemmas.List.{get_or_default}
use Rattle.byte_sinks.proofs.AddingFacts.{Adds-then, Adds-to}
use Rattle.bid_desk.specs.Sale.{sale_of}
use Rattle.outcome.specs.Report.{group_report, in_turn}
use Rattle.outcome.proofs.ReportFacts.{more_at}
use Rattle.outcome.proofs.report_lines.add_groups.Goals as goal

pub loop-i-preserved : goal.loop-i-preserved
loop-i-preserved g c =
    let at = c.loop-i.i in
    let book = sale_of c.args.book.now in
    let first = c.args.first.now in
    let groups = c.args.groups.now in
    let allocations = c.args.allocations.now in
    let listed : at < length allocations = c.loop-i-test.true in
    let lt : at < length groups = omega (arith, listed, c.requires) in
    let place : at + 1 - 1 ≡ at = omega arith in
    let group : c.group.result.now ≡ get_or groups at [] = c.group.ensures ∙ ap (λ (n : ℕ). get_or groups n []) place in
    let choices : c.choices.result.now ≡ get_or allocations at [] =
    c.choices.ensures.choices ∙ c.index-allocations-i.is ∙ get_or_default allocations at c.index-allocations-i.result [] listed in
    let more = more_at book first 1 at (at + 1) groups allocations c.group.result.now c.choices.result.now c.requires lt (omega arith) group choices in
    Adds-to (Adds-then {xs = in_turn (group_report book first) 1 (zip (take at groups) (take at allocations))} c.loop-i.invariant c.add_group.ensures) more
