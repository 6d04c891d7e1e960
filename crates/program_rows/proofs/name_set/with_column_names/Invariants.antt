use Rattle.std.proofs.Common.{◌≡◌, drop, fold, map}
use Rattle.std.specs.Hash.DefaultHasher as sip
use Rattle.program_rows.specs.Program.{TableColumn}
use Rattle.program_rows.proofs.name_set.with_column_names.Given as goal

-- the names that are left come after those before
abbrev pub invariant-loop-column : goal.invariant-loop-column
invariant-loop-column l = fold sip.write l.hasher (drop l.column (map (λ (x : TableColumn). x.name) l.program.columns))
    ≡ fold sip.write l.fn.hasher (map (λ (x : TableColumn). x.name) l.program.columns)
