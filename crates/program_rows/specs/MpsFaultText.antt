-- The message of a fault of an MPS text.
use Rattle.std.specs.Prelude.{◌++◌, ℕ, List, codes, decimal}
use Rattle.program_rows.specs.declared.mps_fault_kind.MpsFaultKind.{MpsFaultKind}
use Rattle.program_rows.specs.declared.mps_fault_kind.MpsFaultKind.TheVariants as kind

-- the words printed for a fault of an MPS text, by its line and its kind, with the column if the kind has one
abbrev pub mps_fault_text : ℕ → MpsFaultKind → List ℕ
mps_fault_text line kind.TooLarge = codes "1 TooLarge"
mps_fault_text line kind.NotText = codes "2 NotText at line " ++ decimal line
mps_fault_text line kind.Section = codes "3 Section at line " ++ decimal line
mps_fault_text line kind.SectionLeftOut = codes "4 SectionLeftOut at line " ++ decimal line
mps_fault_text line kind.Fields = codes "5 Fields at line " ++ decimal line
mps_fault_text line kind.RowType = codes "6 RowType at line " ++ decimal line
mps_fault_text line kind.RowRepeated = codes "7 RowRepeated at line " ++ decimal line
mps_fault_text line kind.NoObjective = codes "8 NoObjective at line " ++ decimal line
mps_fault_text line kind.UnknownRow = codes "9 UnknownRow at line " ++ decimal line
mps_fault_text line kind.ColumnSplit = codes "10 ColumnSplit at line " ++ decimal line
mps_fault_text line kind.EntryRepeated = codes "11 EntryRepeated at line " ++ decimal line
mps_fault_text line kind.NumberText = codes "12 NumberText at line " ++ decimal line
mps_fault_text line kind.NotWhole = codes "13 NotWhole at line " ++ decimal line
mps_fault_text line kind.NumberRange = codes "14 NumberRange at line " ++ decimal line
mps_fault_text line kind.Marker = codes "15 Marker at line " ++ decimal line
mps_fault_text line kind.UnknownColumn = codes "16 UnknownColumn at line " ++ decimal line
mps_fault_text line kind.BoundType = codes "17 BoundType at line " ++ decimal line
mps_fault_text line kind.BoundValue = codes "18 BoundValue at line " ++ decimal line
mps_fault_text line kind.ObjectiveConstant = codes "19 ObjectiveConstant at line " ++ decimal line
mps_fault_text line kind.SenseMax = codes "20 SenseMax at line " ++ decimal line
mps_fault_text line kind.NoEnd = codes "21 NoEnd at line " ++ decimal line
mps_fault_text line (kind.NotBinary column) = codes "22 NotBinary at line " ++ (decimal line ++ (codes ", column " ++ decimal column))
mps_fault_text line kind.OutOfMemory = codes "out of memory"
