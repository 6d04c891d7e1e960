use Rattle.std.proofs.Common.{arith}
use Rattle.program_rows.specs.Program.{TableColumn}
use Rattle.program_rows.proofs.ColumnFacts.{as_many, joined_costed, parts_of}
use Rattle.program_rows.proofs.columns.Columns.with_costs.Goals as goal

pub invariant_of-result : goal.invariant_of-result
invariant_of-result c =
    let many = as_many (λ (x : TableColumn). x.cost) c.args.self (parts_of c.self.inside.names c.self.inside.bounds.items
    c.self.inside.costs.items c.self.inside.entries c.self.invariant.0 c.self.invariant.1 c.self.invariant.2 c.self.view_is).costs in
    (omega (arith, c.requires, c.self.invariant.0), omega (arith, c.requires, c.self.invariant.1), omega (arith, c.requires, c.self.invariant.2))

pub returns : goal.returns
returns c = joined_costed _ _ _ _ c.args.self (parts_of c.self.inside.names c.self.inside.bounds.items c.self.inside.costs.items
    c.self.inside.entries c.self.invariant.0 c.self.invariant.1 c.self.invariant.2 c.self.view_is) c.args.costs.items
