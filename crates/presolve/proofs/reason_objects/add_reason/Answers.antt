use Rattle.std.proofs.Common.{ap}
use Rattle.std.specs.Prelude.{codes}
use Rattle.byte_sinks.proofs.AddingFacts.{Adds-then, Adds-to}
use Rattle.byte_sinks.specs.Json.{number_member, text_member}
use Rattle.presolve.proofs.reason_objects.add_reason.Goals as goal

pub returns-in-OverSupply : goal.returns-in-OverSupply
returns-in-OverSupply g c =
    rw c.in-OverSupply.is (Adds-then c.add_text_member.ensures (Adds-then
    (Adds-to c.add_text_member-in-OverSupply.ensures (ap (text_member (codes ", ") (codes "category")) c.category_name.ensures)) (Adds-then
    (Adds-to c.add_number_member.ensures (ap (number_member (codes ", ") (codes "asked")) c.from.ensures))
    (Adds-to c.add_number_member-in-OverSupply.ensures (ap (number_member (codes ", ") (codes "supply")) c.from-in-OverSupply.ensures)))))

pub returns-in-OverCap : goal.returns-in-OverCap
returns-in-OverCap g c =
    rw c.in-OverCap.is (Adds-then c.add_text_member-in-OverCap.ensures (Adds-then
    (Adds-to c.add_text_member-in-OverCap-2.ensures (ap (text_member (codes ", ") (codes "pool")) c.pool_name.ensures))
    (Adds-then c.add_number_member-in-OverCap.ensures c.add_number_member-in-OverCap-2.ensures)))
