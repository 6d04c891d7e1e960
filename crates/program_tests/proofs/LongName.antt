-- A program of one row, whose name is one letter again and again, and no column.
use Rattle.std.proofs.Common.{◌≡◌, ℕ, zero, suc, ◌<◌, ◌≤◌, List, [], ◌∷◌, length, refl, sym, subst, arith, leb-true, replicate}
use Rattle.std.specs.Prelude.{codes}
use Rattle.std.specs.List.{AllByRecursion}
use Rattle.program_rows.specs.Program.{Table}
use Rattle.program_rows.specs.Parts.{IsProgram}
use Rattle.outcome.proofs.WorkedPrograms.{at_most}
use Rattle.program_tests.proofs.Named.{are_names, distinct}

-- the letter R
abbrev letters : ℕ → List ℕ
letters n = replicate n 82

printable : (n : ℕ) → AllByRecursion (λ b. (33 ≤ b) × (b ≤ 126)) (letters n)
printable zero = tt
printable (suc n) = ((leb-true 33 82 refl, leb-true 82 126 refl), printable n)

some : (n : ℕ) → 0 < length (letters (suc n))
some n = omega arith

abbrev pub long : ℕ → Table
long n = record { objective = codes "OBJ"; rows = at_most (letters n) 1 ∷ []; columns = [] }

long_is_program : (n : ℕ) → IsProgram (long (suc n))
long_is_program n = record {
  row_names = ((are_names (codes "OBJ" ∷ []) refl).0, ((some n, printable (suc n)), tt));
  rows_differ = distinct (codes "OBJ" ∷ letters (suc n) ∷ []) refl;
  column_names = tt;
  columns_differ = distinct [] refl;
  entries = tt;
}

pub is_long_program : (n : ℕ) (p : Table) → 0 < n → p.objective ≡ codes "OBJ" → p.rows ≡ (long n).rows → p.columns ≡ [] → IsProgram p
is_long_program zero p h e f g = absurd (omega arith)
is_long_program (suc n) p h e f g =
    let same : long (suc n) ≡ record { objective = p.objective; rows = p.rows; columns = p.columns } =
    λ i. record { objective = (sym e) i; rows = (sym f) i; columns = (sym g) i } in
    subst IsProgram same (long_is_program n)
