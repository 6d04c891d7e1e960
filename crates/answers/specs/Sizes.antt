-- The program that the input of `check` is the text of, and the line of its sizes.
use Rattle.std.specs.Prelude.{◌++◌, ◌∷◌, ◌-◌, ◌^◌, [], ℕ, List, Result, Err, codes, decimal, if◌then◌else◌, length, min, nat_lt, sum_by}
use Rattle.auction_input.specs.declared.refusal.Refusal.TheVariants as refusal
use Rattle.auction_input.specs.declared.refusal.Refusal.{Refusal}
use Rattle.auction_terms.specs.Stages.{refused_as}
use Rattle.mps_reader.specs.declared.limits.TheConstants.{PROGRAM_LIMIT}
use Rattle.program_rows.specs.MpsMeaning.{meaning}
use Rattle.program_rows.specs.Program.{Table, TableColumn}
use Rattle.program_rows.specs.declared.mps_fault_kind.MpsFaultKind.TheVariants as kind
use Rattle.program_rows.specs.declared.mps_fault_kind.MpsFaultKind.{MpsFaultKind}

-- the program that an input is the text of, its size included, or its first faulty line
abbrev pub parsed_program : List ℕ → Result Table Refusal
parsed_program input =
    refused_as (λ (f : ℕ × MpsFaultKind). refusal.Program (record { line = f.0; kind = f.1 }))
    (if nat_lt PROGRAM_LIMIT (length input) then Err (0, kind.TooLarge) else meaning input)

-- the rows beside the objective, the columns, and the entries outside the objective, up to the greatest number of 64 bits
abbrev pub sizes_text : Table → List ℕ
sizes_text p =
    let entries = min (sum_by (λ (c : TableColumn). length c.entries) p.columns) (2 ^ 64 - 1) in
    codes "rows " ++ (decimal (length p.rows) ++ (codes " columns " ++ (decimal (length p.columns) ++ (codes " entries " ++ (decimal entries ++ 10 ∷ [])))))
