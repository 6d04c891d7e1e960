-- What is written for all groups: for each in order a line with its number and names, and then the text of its program.
use Rattle.std.specs.Prelude.{◌≡◌, ◌≤◌, ◌<◌, ◌-◌, ⊤, ℕ, List, ◌++◌, Option, None, Some, codes, length, take, min, ◌^◌}
use Rattle.bid_desk.specs.Closing.{Closing}
use Rattle.group_compiler.specs.Compiled.{GroupProgram}
use Rattle.byte_sinks.specs.Sinks.{HasFailed, Outlet}
use Rattle.mps_text.specs.Text.{text}
use Rattle.outcome.specs.Report.{heading, in_turn}
use Rattle.answers.specs.Programs.{program_for}
use Rattle.bid_desk.specs.Sale.{Sale, sale_of}
use Rattle.answers.specs.declared.group_texts.RunFault.TheVariants as fault
use Rattle.answers.specs.declared.group_texts.RunFault.{RunFault}

-- the line and the program of group k of a sale
abbrev pub program_text : Sale → ℕ → List ℕ → List ℕ
program_text sale k group =
    heading (codes "* program ") sale.names k group ++ text (program_for sale group)

-- the line and the program of what was compiled for group k
abbrev pub program_bytes : Closing → ℕ → GroupProgram → List ℕ
program_bytes book k c =
    heading (codes "* program ") (sale_of book).names k c.group ++ text c.program

-- the lines and the programs of what was compiled for all groups, group by group
abbrev pub programs_bytes : Closing → List GroupProgram → List ℕ
programs_bytes book programs = in_turn (program_bytes book) 1 programs

-- where a sink reports its bytes: what went out is the first bytes of the whole, as many as are reported, and the next byte is one of the
-- line or the text of that group
abbrev pub EndsIn : Closing → List GroupProgram → ℕ → ℕ → Option (List ℕ) → Option (List ℕ) → Type 0
EndsIn book programs group written None after = ⊤
EndsIn book programs group written (Some before) None = ⊥
EndsIn book programs group written (Some before) (Some after) =
    (n : ℕ) × (after ≡ before ++ take n (programs_bytes book programs)) × (written ≡ min n (2 ^ 64 - 1))
    × (length (programs_bytes book (take (group - 1) programs)) ≤ n) × (n < length (programs_bytes book (take group programs)))

-- a fault after which the output ends as it says
abbrev pub StopsAsReported : Closing → List GroupProgram → Outlet → Outlet → RunFault → Type 0
StopsAsReported book programs before after (fault.OutOfMemory written) = (written ≡ 0) × (after ≡ before)
StopsAsReported book programs before after (fault.Sink group written) =
    (1 ≤ group) × (group ≤ length programs) × EndsIn book programs group written before.taken after.taken
    × HasFailed before.failures after.failures × (after.place ≡ before.place)
