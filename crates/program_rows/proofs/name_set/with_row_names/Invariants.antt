use Rattle.std.proofs.Common.{◌≡◌, drop, fold, map}
use Rattle.std.specs.Hash.DefaultHasher as sip
use Rattle.program_rows.specs.Program.{TableRow}
use Rattle.program_rows.proofs.name_set.with_row_names.Given as goal

-- the names that are left come after those before
abbrev pub invariant-loop-row : goal.invariant-loop-row
invariant-loop-row l = fold sip.write l.hasher (drop l.row (map (λ (x : TableRow). x.name) l.program.rows))
    ≡ fold sip.write l.fn.hasher (map (λ (x : TableRow). x.name) l.program.rows)
