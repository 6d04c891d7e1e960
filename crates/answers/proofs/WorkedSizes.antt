-- The sizes of a program, and a text that is none.
use Rattle.std.specs.Prelude.{◌≡◌, refl, Ok, Err, codes}
use Rattle.std.specs.Fmt.{digits}
use Rattle.auction_terms.specs.LineFields.{fields}
use Rattle.program_rows.specs.MpsLines.{line_of}
use Rattle.program_rows.specs.MpsProgram.{program}
use Rattle.program_rows.specs.MpsFaults.{fault}
use Rattle.program_rows.specs.MpsMeaning.{meaning}
use Rattle.auction_terms.specs.Decimals.{number}
use Rattle.program_rows.specs.declared.mps_fault_kind.MpsFaultKind.TheVariants as kind
use Rattle.auction_input.specs.Input.{input_of}
use Rattle.answers.specs.Answer.{answer}
use Rattle.auction_input.specs.declared.refusal.Refusal.TheVariants as refusal
use Rattle.auction_input.specs.declared.request.Request.TheVariants.{Check}

sizes : answer Check
    (input_of
    (codes
    "NAME wdp\nROWS\n N OBJ\n L B3\n L C1\n L C2\nCOLUMNS\n M1 'MARKER' 'INTORG'\n X3_1 OBJ -12\n X3_1 B3 1\n X3_1 C2 1\n M2 'MARKER' 'INTEND'\nRHS\n RHS B3 1\n RHS C1 2\n RHS C2 1\nBOUNDS\n UP BND X3_1 1\nENDATA\n")) ≡ Ok (codes "rows 3 columns 1 entries 2\n")
unfolding digits meaning fields line_of number fault program
sizes = refl

row_type : answer Check
    (input_of
    (codes
    "NAME wdp\nROWS\n N OBJ\n Q B3\n L C1\n L C2\nCOLUMNS\n M1 'MARKER' 'INTORG'\n X3_1 OBJ -12\n X3_1 B3 1\n X3_1 C2 1\n M2 'MARKER' 'INTEND'\nRHS\n RHS B3 1\n RHS C1 2\n RHS C2 1\nBOUNDS\n UP BND X3_1 1\nENDATA\n")) ≡ Err (refusal.Program (record { line = 4; kind = kind.RowType }))
unfolding digits meaning fields line_of number fault program
row_type = refl
