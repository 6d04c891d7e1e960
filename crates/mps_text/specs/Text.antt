-- The one MPS text of a program.
use Rattle.std.specs.Prelude.{ℕ, List, [], ◌∷◌, ◌++◌, map, flat_map, codes}
use Rattle.std.specs.List.{join_with_byte}
use Rattle.std.specs.Fmt.{signed_decimal}
use Rattle.program_rows.specs.declared.row.RowKind.{RowKind}
use Rattle.program_rows.specs.declared.row.RowKind.TheVariants.{AtMost, AtLeast, Equal}
use Rattle.program_rows.specs.declared.column.Bounds.{Bounds}
use Rattle.program_rows.specs.declared.column.Bounds.TheVariants.{ZeroOrOne, Zero, One}
use Rattle.program_rows.specs.Program.{Table, TableColumn}
use Rattle.auction_terms.specs.LineFields.{LineFields}
use Rattle.program_rows.specs.MpsLines.{Line, Header, Data}
use Rattle.program_rows.specs.ProgramNames.{row_name}

-- A line as it is written: a space before data, a space between fields, a line feed at the end.
abbrev pub written : Line → List ℕ
written (Header word more) = join_with_byte 32 (word ∷ more) ++ 10 ∷ []
written (Data fields) = 32 ∷ (join_with_byte 32 fields ++ 10 ∷ [])
written line = 10 ∷ []

-- the letter of a row's kind: L for at most, G for at least, E for equal
abbrev pub kind_letter : RowKind → List ℕ
kind_letter AtMost = codes "L"
kind_letter AtLeast = codes "G"
kind_letter Equal = codes "E"

-- the type of a bound and its number
abbrev pub bound_words : Bounds → List ℕ × List ℕ
bound_words ZeroOrOne = (codes "UP", codes "1")
bound_words Zero = (codes "FX", codes "0")
bound_words One = (codes "FX", codes "1")

-- a header and the data lines below it
abbrev pub block : List ℕ → List LineFields → List Line
block word lines = Header word [] ∷ map Data lines

-- nothing if there is no column
abbrev pub if_any : {X : Type 0} → List TableColumn → List X → List X
if_any [] lines = []
if_any (c ∷ columns) lines = lines

-- the text of a program, line by line: each row, each column with its cost, also if that is 0, and its entries, between markers, each right side, and
-- the bounds of each column
unfoldable pub text : Table → List ℕ
text p = flat_map written (
    Header (codes "NAME") (codes "wdp" ∷ []) ∷ block (codes "ROWS") ((codes "N" ∷ p.objective ∷ []) ∷ map (λ r. kind_letter r.kind ∷ r.name ∷ []) p.rows)
    ++ block (codes "COLUMNS") (if_any p.columns ((codes "M1" ∷ codes "'MARKER'" ∷ codes "'INTORG'" ∷ [])
    ∷ flat_map (λ c. (c.name ∷ p.objective ∷ signed_decimal c.cost ∷ []) ∷ map (λ e. c.name ∷ row_name p.rows e.0 ∷ signed_decimal e.1 ∷ [])
    c.entries) p.columns
    ++ (codes "M2" ∷ codes "'MARKER'" ∷ codes "'INTEND'" ∷ []) ∷ []))
    ++ block (codes "RHS") (map (λ r. codes "RHS" ∷ r.name ∷ signed_decimal r.right_side ∷ []) p.rows)
    ++ if_any p.columns (block (codes "BOUNDS") (map (λ c. (bound_words c.bounds).0 ∷ codes "BND" ∷ c.name ∷ (bound_words c.bounds).1 ∷ []) p.columns))
    ++ Header (codes "ENDATA") [] ∷ [])
