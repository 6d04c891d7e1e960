-- The lines of an MPS text, gathered by the section that they are in.
use Rattle.std.specs.Prelude.{ℕ, Bool, false, List, [], ◌∷◌, codes, bytes_eq, if◌then◌else◌}
use Rattle.auction_terms.specs.LineFields.{LineFields}
use Rattle.program_rows.specs.MpsLines.{Line, Header, Data}

-- the section that is open, by the word of its header, and the data lines of each section, the last one first
pub record Sections : Type 0 where
  pub section : List ℕ
  pub rows : List LineFields
  pub columns : List LineFields
  pub right_sides : List LineFields
  pub bounds : List LineFields

-- the gathered lines of a text before its first line: none
abbrev pub no_lines : Sections
no_lines = record { section = []; rows = []; columns = []; right_sides = []; bounds = [] }

-- the gathered lines with one more: a header opens its section, and a data line goes to the section that is open
abbrev pub with_line : Sections → Line → Sections
with_line s (Header word more) = record s { section = word }
with_line s (Data fields) = record s {
  rows = if bytes_eq s.section (codes "ROWS") then fields ∷ s.rows else s.rows;
  columns = if bytes_eq s.section (codes "COLUMNS") then fields ∷ s.columns else s.columns;
  right_sides = if bytes_eq s.section (codes "RHS") then fields ∷ s.right_sides else s.right_sides;
  bounds = if bytes_eq s.section (codes "BOUNDS") then fields ∷ s.bounds else s.bounds;
}
with_line s line = s

-- whether a line is the header ENDATA
abbrev pub is_end : Line → Bool
is_end (Header word more) = bytes_eq word (codes "ENDATA")
is_end line = false
