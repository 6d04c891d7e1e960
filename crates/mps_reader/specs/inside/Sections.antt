-- The sections that the code distinguishes, by their words.
use Rattle.std.specs.Prelude.{ℕ, List, [], codes, bytes_eq, if◌then◌else◌}
use Rattle.mps_reader.specs.declared.sections.Section.{Section}
use Rattle.mps_reader.specs.declared.sections.Section.TheVariants.{Start, Name, Sense, Rows, Columns, RightSides, Bounds, End}

-- the word of the header of a section; no bytes before the first one
abbrev pub word_of : Section → List ℕ
word_of Start = []
word_of Name = codes "NAME"
word_of Sense = codes "OBJSENSE"
word_of Rows = codes "ROWS"
word_of Columns = codes "COLUMNS"
word_of RightSides = codes "RHS"
word_of Bounds = codes "BOUNDS"
word_of End = codes "ENDATA"

-- the section whose header has this word; the start if there is none
abbrev pub section_named : List ℕ → Section
section_named word =
    if bytes_eq word (codes "NAME") then Name
    else (if bytes_eq word (codes "OBJSENSE") then Sense
    else (if bytes_eq word (codes "ROWS") then Rows
    else (if bytes_eq word (codes "COLUMNS") then Columns
    else (if bytes_eq word (codes "RHS") then RightSides
    else (if bytes_eq word (codes "BOUNDS") then Bounds
    else (if bytes_eq word (codes "ENDATA") then End
    else Start))))))
