use Rattle.std.proofs.Common.{ap, sym, ◌∙◌, length}
use Rattle.program_rows.specs.Parts.{table_of}
use Rattle.program_rows.specs.Program.{Table}
use Rattle.program_rows.proofs.CostedFacts.{costed_is_program}
use Rattle.program_rows.proofs.program.Program.with_costs.Goals as goal

pub invariant_of-result : goal.invariant_of-result
invariant_of-result c =
    let many = c.requires ∙ ap (λ (p : Table). length p.columns) (sym c.self.view_is) in
    let costed = costed_is_program (table_of c.self.inside.parts) c.args.costs.items many c.self.invariant in
    rw c.with_costs.ensures costed
