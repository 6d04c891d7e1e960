-- A program with other costs is one.
use Rattle.std.proofs.Common.{◌≡◌, ℕ, ℤ, List, [], ◌∷◌, length, map, refl, sym, ap, subst, arith}
use Rattle.std.specs.List.{AllByRecursion}
use Rattle.program_rows.specs.Costed.{costed, costed_program}
use Rattle.program_rows.specs.Parts.{AreDistinct, AreEntries, IsName, IsProgram}
use Rattle.program_rows.specs.Program.{Table, TableColumn}

same_names : (cs : List TableColumn) (vs : List ℤ) → length vs ≡ length cs → map (λ c. c.name) (costed cs vs) ≡ map (λ c. c.name) cs
same_names [] [] e = refl
same_names [] (v ∷ vs) e = absurd (omega arith)
same_names (c ∷ cs) [] e = absurd (omega arith)
same_names (c ∷ cs) (v ∷ vs) e = ap (λ (ns : List (List ℕ)). c.name ∷ ns) (same_names cs vs (omega arith))

same_entries : (rows : ℕ) (cs : List TableColumn) (vs : List ℤ) → AllByRecursion (λ c. AreEntries rows c.entries) cs
    → AllByRecursion (λ c. AreEntries rows c.entries) (costed cs vs)
same_entries rows [] vs h = tt
same_entries rows (c ∷ cs) [] h = tt
same_entries rows (c ∷ cs) (v ∷ vs) h = (h.0, same_entries rows cs vs h.1)

pub costed_is_program : (p : Table) (vs : List ℤ) → length vs ≡ length p.columns → IsProgram p → IsProgram (costed_program p vs)
costed_is_program p vs e h = record {
  row_names = h.row_names;
  rows_differ = h.rows_differ;
  column_names = subst (λ (ns : List (List ℕ)). AllByRecursion IsName ns) (sym (same_names p.columns vs e)) h.column_names;
  columns_differ = subst AreDistinct (sym (same_names p.columns vs e)) h.columns_differ;
  entries = same_entries (length p.rows) p.columns vs h.entries;
}
