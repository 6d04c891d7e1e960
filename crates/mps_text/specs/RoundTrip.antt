-- A text says what the program is.
use Rattle.std.specs.Prelude.{◌≡◌, Ok}
use Rattle.program_rows.specs.Program.{Table}
use Rattle.program_rows.specs.Parts.{IsProgram}
use Rattle.program_rows.specs.Legal.{IsWritable}
use Rattle.program_rows.specs.MpsMeaning.{meaning}
use Rattle.mps_text.specs.Text.{text}

-- the meaning of the text of a program is the program
abbrev pub TextIsRead : Type 0
TextIsRead = (p : Table) → IsProgram p → IsWritable p → meaning (text p) ≡ Ok p
