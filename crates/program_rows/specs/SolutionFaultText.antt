-- The message of a fault of a solution. The name of a column or row that is broken is added by the caller, who has the program.
use Rattle.std.specs.Prelude.{◌++◌, ℕ, List, codes, decimal}
use Rattle.program_rows.specs.declared.solution_fault.SolutionFault.{SolutionFault}
use Rattle.program_rows.specs.declared.solution_fault.SolutionFault.TheVariants as fault

-- the words printed for a fault of a solution, with the number of the line if it is in one
abbrev pub solution_fault_text : SolutionFault → List ℕ
solution_fault_text fault.TooLarge = codes "1 TooLarge"
solution_fault_text (fault.Fields place) = codes "2 Fields at line " ++ decimal place
solution_fault_text (fault.UnknownColumn place) = codes "3 UnknownColumn at line " ++ decimal place
solution_fault_text (fault.RepeatedColumn place) = codes "4 RepeatedColumn at line " ++ decimal place
solution_fault_text (fault.ValueText place) = codes "5 ValueText at line " ++ decimal place
solution_fault_text (fault.NotZeroOne place) = codes "6 NotZeroOne at line " ++ decimal place
solution_fault_text (fault.BoundBroken column) = codes "7 BoundBroken"
solution_fault_text (fault.RowBroken row) = codes "8 RowBroken"
solution_fault_text fault.OutOfMemory = codes "out of memory"
