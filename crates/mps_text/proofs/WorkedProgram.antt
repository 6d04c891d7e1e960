-- The text of a small program.
use Rattle.std.specs.Prelude.{◌≡◌, [], ◌∷◌, pos, negsuc, codes, refl}
use Rattle.std.specs.Fmt.{digits}
use Rattle.program_rows.specs.declared.row.RowKind.TheVariants.{AtMost}
use Rattle.program_rows.specs.declared.column.Bounds.TheVariants.{ZeroOrOne}
use Rattle.program_rows.specs.Program.{Table}
use Rattle.mps_text.specs.Text.{text}

abbrev small : Table
small = record {
  objective = codes "OBJ";
  rows = record { name = codes "B3"; kind = AtMost; right_side = pos 1 } ∷ record { name = codes "C1"; kind = AtMost; right_side = pos 2 } ∷
      record { name = codes "C2"; kind = AtMost; right_side = pos 1 } ∷ [];
  columns = record { name = codes "X3_1"; bounds = ZeroOrOne; cost = negsuc 11; entries = (0, pos 1) ∷ (2, pos 1) ∷ [] } ∷ [];
}

written : text small ≡ codes
    "NAME wdp\nROWS\n N OBJ\n L B3\n L C1\n L C2\nCOLUMNS\n M1 'MARKER' 'INTORG'\n X3_1 OBJ -12\n X3_1 B3 1\n X3_1 C2 1\n M2 'MARKER' 'INTEND'\nRHS\n RHS B3 1\n RHS C1 2\n RHS C2 1\nBOUNDS\n UP BND X3_1 1\nENDATA\n"
unfolding text digits
written = refl
