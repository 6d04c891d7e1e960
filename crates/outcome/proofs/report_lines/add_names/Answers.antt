use Rattle.std.proofs.Common.{◌≡◌, ◌∷◌, rules}
use Rattle.bid_desk.specs.Sale.{sale_of}
use Rattle.byte_sinks.specs.Adds.{Adds}
use Rattle.byte_sinks.proofs.AddingFacts.{Adds-then}
use Rattle.outcome.specs.Report.{group_names}
use Rattle.outcome.proofs.report_lines.add_names.Goals as goal

pub returns-in-Some : goal.returns-in-Some
returns-in-Some g c =
    let first = c.in-Some.first.now in
    let more = c.in-Some.more.now in
    let added : Adds g.S.Sink.state c.args.writer.now c.add_more_names.new.writer (group_names (sale_of c.args.book.now).names (first ∷ more)) =
    Adds-then (rw c.name_of.ensures at c.add-in-Some.ensures) c.add_more_names.ensures in
    let group : c.args.group.now ≡ first ∷ more = search rules in
    rw group added
