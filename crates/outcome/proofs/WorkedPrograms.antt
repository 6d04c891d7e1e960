-- Worked programs: that of three bidders' kept bids, and one whose column is fixed.
use Rattle.std.proofs.Common.{ℕ, Bool, true, false, List, [], ◌∷◌, pos, negsuc}
use Rattle.std.specs.Prelude.{codes}
use Rattle.program_rows.specs.declared.row.RowKind.TheVariants.{AtMost}
use Rattle.program_rows.specs.declared.column.Bounds.TheVariants.{ZeroOrOne, One}
use Rattle.program_rows.specs.Program.{Table, TableRow}

abbrev pub at_most : List ℕ → ℕ → TableRow
at_most name n = record { name = name; kind = AtMost; right_side = pos n }

abbrev pub three : Table
three = record {
  objective = codes "OBJ";
  rows = at_most (codes "B1") 1 ∷ at_most (codes "B2") 1 ∷ at_most (codes "B3") 1 ∷ at_most (codes "C1") 2 ∷ at_most (codes "C2") 1 ∷ [];
  columns =
      record { name = codes "X1_1"; bounds = ZeroOrOne; cost = negsuc 29; entries = (0, pos 1) ∷ (3, pos 1) ∷ [] } ∷
      record { name = codes "X1_2"; bounds = ZeroOrOne; cost = negsuc 49; entries = (0, pos 1) ∷ (3, pos 2) ∷ (4, pos 1) ∷ [] } ∷
      record { name = codes "X2_1"; bounds = ZeroOrOne; cost = negsuc 19; entries = (1, pos 1) ∷ (3, pos 1) ∷ [] } ∷
      record { name = codes "X3_1"; bounds = ZeroOrOne; cost = negsuc 11; entries = (2, pos 1) ∷ (4, pos 1) ∷ [] } ∷ [];
}

abbrev pub winners : List Bool
winners = true ∷ false ∷ true ∷ true ∷ []

abbrev pub fixed : Table
fixed = record { objective = codes "OBJ"; rows = []; columns = record { name = codes "X1_1"; bounds = One; cost = pos 0; entries = [] } ∷ [] }
