-- What the code holds and answers, as lines and faults of the definitions.
use Rattle.std.specs.Prelude.{◌≡◌, ℕ, ◌≤◌, Bool, not, ◌||◌, ◌&&◌, nat_le, List, length, take, Option, Some, None, Result, Ok, Err, pos, drop, ◌==◌}
use Rattle.std.specs.List.{AllByRecursion}
use Rattle.std.specs.Ordering.{int_eq}
use Rattle.program_rows.specs.MpsLines as spec
use Rattle.auction_terms.specs.LineFields.{field, fields, is_space}
use Rattle.program_rows.specs.MpsLines.{line_of}
use Rattle.auction_terms.specs.Decimals.{number}
use Rattle.program_rows.specs.MpsProgram.{value}
use Rattle.program_rows.specs.MpsFaults.{number_fault}
use Rattle.program_rows.specs.Parts.{IsName}
use Rattle.program_rows.specs.declared.mps_fault_kind.MpsFaultKind.{MpsFaultKind}
use Rattle.program_rows.specs.declared.mps_fault_kind.MpsFaultKind.TheVariants.{BoundValue, OutOfMemory}
use Rattle.program_rows.specs.declared.mps_fault.MpsFault.{MpsFault}
use Rattle.mps_reader.specs.declared.fields.Line.{Line}
use Rattle.mps_reader.specs.declared.fields.Line.TheVariants.{Skipped, Unprintable, Header, Data}
use Rattle.mps_reader.specs.declared.refusal.Refusal.{Refusal}
use Rattle.mps_reader.specs.declared.refusal.Refusal.TheVariants.{Memory, Fault}
use Rattle.auction_terms.specs.Lines.{bytes_of}
use Rattle.std.specs.Bool.{then_some as when}
use Rattle.std.specs.Option.{option_or}

-- a byte that is no white space
abbrev pub is_other : ℕ → Bool
is_other b = not (is_space b)

-- tab and 0x20 to 0x7E
abbrev pub is_text_byte : ℕ → Bool
is_text_byte b = (b == 9) || (nat_le 32 b && nat_le b 126)

-- a byte that ends a field: white space, or one that no text has
abbrev pub is_after : ℕ → Bool
is_after b = not (nat_le 33 b && nat_le b 126)

-- the first fields of a line: more than five are as good as six
pub record AreFirst (first : List (List ℕ)) (all : List (List ℕ)) : Type 0 where
  pub front : first ≡ take 6 all
  pub some : 1 ≤ length first
  pub names : AllByRecursion IsName first

-- what the code holds is the line
abbrev pub IsLine : Line → List ℕ → Type 0
IsLine Skipped bytes = line_of bytes ≡ spec.Skipped
IsLine Unprintable bytes = line_of bytes ≡ spec.Unprintable
IsLine (Header first) bytes = (line_of bytes ≡ spec.Header (field 0 (fields bytes)) (drop 1 (fields bytes))) × AreFirst (bytes_of first.items) (fields bytes)
IsLine (Data first) bytes = (line_of bytes ≡ spec.Data (fields bytes)) × AreFirst (bytes_of first.items) (fields bytes)

-- Ok if there is no fault, else the fault, unless memory ran out
abbrev pub AnswersFault : {X : Type 0} → Result X Refusal → Option MpsFaultKind → Type 0
AnswersFault (Ok x) fault = fault ≡ None
AnswersFault (Err Memory) fault = Unit {0}
AnswersFault (Err (Fault kind)) fault = fault ≡ Some kind

-- the answer of all checks but the last: if they pass, the fault of the line is that of the last check, else it is theirs, unless memory ran out
abbrev pub AnswersUpTo : {X : Type 0} → Result X Refusal → Option MpsFaultKind → Option MpsFaultKind → Type 0
AnswersUpTo (Ok x) fault last = fault ≡ last
AnswersUpTo (Err Memory) fault last = Unit {0}
AnswersUpTo (Err (Fault kind)) fault last = fault ≡ Some kind

-- a number that is 0 or 1
abbrev pub bit_fault : List ℕ → Option MpsFaultKind
bit_fault token = option_or (number_fault (number token)) (when (not (int_eq (value token) (pos 0) || int_eq (value token) (pos 1))) BoundValue)

-- the fault of a refused line; memory that was short has no line
abbrev pub IsRefusedLine : ℕ → Refusal → MpsFault → Type 0
IsRefusedLine line Memory fault = fault ≡ record { line = 0; kind = OutOfMemory }
IsRefusedLine line (Fault kind) fault = fault ≡ record { line = line; kind = kind }
