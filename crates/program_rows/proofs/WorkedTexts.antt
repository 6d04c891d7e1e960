-- Worked texts and their meanings, which the definitions compute.
use Rattle.std.specs.Prelude.{◌≡◌, ◌-◌, ◌^◌, [], ◌∷◌, pos, negsuc, Ok, Err, codes, refl}
use Rattle.program_rows.specs.declared.row.RowKind.TheVariants.{AtMost}
use Rattle.program_rows.specs.declared.column.Bounds.TheVariants.{ZeroOrOne}
use Rattle.program_rows.specs.Program.{Table}
use Rattle.auction_terms.specs.LineFields.{fields}
use Rattle.program_rows.specs.MpsLines.{line_of}
use Rattle.auction_terms.specs.declared.decimals.NumberFault.TheVariants as numbers
use Rattle.auction_terms.specs.Decimals.{number}
use Rattle.program_rows.specs.declared.mps_fault_kind.MpsFaultKind.TheVariants.{NotText, Section, SectionLeftOut, Fields}
use Rattle.program_rows.specs.declared.mps_fault_kind.MpsFaultKind.TheVariants.{RowType, UnknownRow, ColumnSplit}
use Rattle.program_rows.specs.declared.mps_fault_kind.MpsFaultKind.TheVariants.{EntryRepeated, NotWhole, UnknownColumn}
use Rattle.program_rows.specs.declared.mps_fault_kind.MpsFaultKind.TheVariants.{BoundType, BoundValue, ObjectiveConstant}
use Rattle.program_rows.specs.declared.mps_fault_kind.MpsFaultKind.TheVariants.{SenseMax, NoEnd, NotBinary}
use Rattle.program_rows.specs.MpsMeaning.{meaning}
use Rattle.program_rows.specs.MpsFaults.{fault}
use Rattle.program_rows.specs.MpsProgram.{program}

abbrev v1_program : Table
v1_program = record {
  objective = codes "OBJ";
  rows = record { name = codes "B3"; kind = AtMost; right_side = pos 1 } ∷ record { name = codes "C1"; kind = AtMost; right_side = pos 2 } ∷
      record { name = codes "C2"; kind = AtMost; right_side = pos 1 } ∷ [];
  columns = record { name = codes "X3_1"; bounds = ZeroOrOne; cost = negsuc 11; entries = (0, pos 1) ∷ (2, pos 1) ∷ [] } ∷ [];
}

v1 : meaning
    (codes
    "NAME wdp\nROWS\n N OBJ\n L B3\n L C1\n L C2\nCOLUMNS\n M1 'MARKER' 'INTORG'\n X3_1 OBJ -12\n X3_1 B3 1\n X3_1 C2 1\n M2 'MARKER' 'INTEND'\nRHS\n RHS B3 1\n RHS C1 2\n RHS C2 1\nBOUNDS\n UP BND X3_1 1\nENDATA\n") ≡ Ok v1_program
unfolding meaning fields line_of number fault program
v1 = refl

v4 : meaning
    (codes
    "* made elsewhere\r\nNAME\r\nOBJSENSE MIN\r\nROWS\r\n\tN OBJ\r\n N SPARE\r\n L B3\r\n L C1\r\n L C2\r\n\r\nCOLUMNS\r\n X3_1 OBJ -1.2e1 SPARE 7\r\n X3_1 B3 1.0 C2 10e-1\r\nRHS\r\n B3 1 C1 2.0\r\n RHS C2 1\r\nBOUNDS\r\n BV X3_1\r\nENDATA\r\nnot read\r\n") ≡ Ok v1_program
unfolding meaning fields line_of number fault program
v4 = refl

without_end : meaning
    (codes
    "NAME wdp\nROWS\n N OBJ\n L B3\n L C1\n L C2\nCOLUMNS\n M1 'MARKER' 'INTORG'\n X3_1 OBJ -12\n X3_1 B3 1\n X3_1 C2 1\n M2 'MARKER' 'INTEND'\nRHS\n RHS B3 1\n RHS C1 2\n RHS C2 1\nBOUNDS\n UP BND X3_1 1\n") ≡ Err (18, NoEnd)
unfolding meaning fields line_of number fault program
without_end = refl

half : meaning
    (codes
    "NAME wdp\nROWS\n N OBJ\n L B3\n L C1\n L C2\nCOLUMNS\n M1 'MARKER' 'INTORG'\n X3_1 OBJ -12\n X3_1 B3 0.5\n X3_1 C2 1\n M2 'MARKER' 'INTEND'\nRHS\n RHS B3 1\n RHS C1 2\n RHS C2 1\nBOUNDS\n UP BND X3_1 1\nENDATA\n") ≡ Err (10, NotWhole)
unfolding meaning fields line_of number fault program
half = refl

ranges : meaning
    (codes
    "NAME wdp\nROWS\n N OBJ\n L B3\n L C1\n L C2\nCOLUMNS\n M1 'MARKER' 'INTORG'\n X3_1 OBJ -12\n X3_1 B3 1\n X3_1 C2 1\n M2 'MARKER' 'INTEND'\nRHS\n RHS B3 1\n RHS C1 2\n RHS C2 1\nRANGES\n UP BND X3_1 1\nENDATA\n") ≡ Err (17, SectionLeftOut)
unfolding meaning fields line_of number fault program
ranges = refl

no_bound : meaning
    (codes
    "NAME wdp\nROWS\n N OBJ\n L B3\n L C1\n L C2\nCOLUMNS\n M1 'MARKER' 'INTORG'\n X3_1 OBJ -12\n X3_1 B3 1\n X3_1 C2 1\n M2 'MARKER' 'INTEND'\nRHS\n RHS B3 1\n RHS C1 2\n RHS C2 1\nBOUNDS\nENDATA\n") ≡ Err (18, NotBinary 0)
unfolding meaning fields line_of number fault program
no_bound = refl

repeated : meaning
    (codes
    "NAME wdp\nROWS\n N OBJ\n L B3\n L C1\n L C2\nCOLUMNS\n M1 'MARKER' 'INTORG'\n X3_1 OBJ -12\n X3_1 OBJ -12\n X3_1 B3 1\n X3_1 C2 1\n M2 'MARKER' 'INTEND'\nRHS\n RHS B3 1\n RHS C1 2\n RHS C2 1\nBOUNDS\n UP BND X3_1 1\nENDATA\n") ≡ Err (10, EntryRepeated)
unfolding meaning fields line_of number fault program
repeated = refl

unknown_row : meaning
    (codes
    "NAME wdp\nROWS\n N OBJ\n L B3\n L C1\n L C2\nCOLUMNS\n M1 'MARKER' 'INTORG'\n X3_1 OBJ -12\n X3_1 Z 1\n X3_1 C2 1\n M2 'MARKER' 'INTEND'\nRHS\n RHS B3 1\n RHS C1 2\n RHS C2 1\nBOUNDS\n UP BND X3_1 1\nENDATA\n") ≡ Err (10, UnknownRow)
unfolding meaning fields line_of number fault program
unknown_row = refl

empty : meaning ([]) ≡ Err (0, NoEnd)
unfolding meaning fields line_of number fault program
empty = refl

header_fields : meaning
    (codes
    "NAME wdp\nROWS\n N OBJ\n L B3\n L C1\n L C2\nCOLUMNS X\n M1 'MARKER' 'INTORG'\n X3_1 OBJ -12\n X3_1 B3 1\n X3_1 C2 1\n M2 'MARKER' 'INTEND'\nRHS\n RHS B3 1\n RHS C1 2\n RHS C2 1\nBOUNDS\n UP BND X3_1 1\nENDATA\n") ≡ Err (7, Fields)
unfolding meaning fields line_of number fault program
header_fields = refl

data_first : meaning
    (codes
    " N OBJ\nROWS\n N OBJ\n L B3\n L C1\n L C2\nCOLUMNS\n M1 'MARKER' 'INTORG'\n X3_1 OBJ -12\n X3_1 B3 1\n X3_1 C2 1\n M2 'MARKER' 'INTEND'\nRHS\n RHS B3 1\n RHS C1 2\n RHS C2 1\nBOUNDS\n UP BND X3_1 1\nENDATA\n") ≡ Err (1, Section)
unfolding meaning fields line_of number fault program
data_first = refl

row_type : meaning
    (codes
    "NAME wdp\nROWS\n N OBJ\n Q B3\n L C1\n L C2\nCOLUMNS\n M1 'MARKER' 'INTORG'\n X3_1 OBJ -12\n X3_1 B3 1\n X3_1 C2 1\n M2 'MARKER' 'INTEND'\nRHS\n RHS B3 1\n RHS C1 2\n RHS C2 1\nBOUNDS\n UP BND X3_1 1\nENDATA\n") ≡ Err (4, RowType)
unfolding meaning fields line_of number fault program
row_type = refl

sos : meaning
    (codes
    "NAME wdp\nROWS\n N OBJ\n L B3\n L C1\n L C2\nCOLUMNS\n M1 'MARKER' 'INTORG'\n X3_1 OBJ -12\n X3_1 B3 1\n X3_1 C2 1\n M2 'MARKER' 'INTEND'\nRHS\n RHS B3 1\n RHS C1 2\n RHS C2 1\nSOS1\n UP BND X3_1 1\nENDATA\n") ≡ Err (17, SectionLeftOut)
unfolding meaning fields line_of number fault program
sos = refl

maximise : meaning
    (codes
    "NAME wdp\nOBJSENSE MAX\nROWS\n N OBJ\n L B3\n L C1\n L C2\nCOLUMNS\n M1 'MARKER' 'INTORG'\n X3_1 OBJ -12\n X3_1 B3 1\n X3_1 C2 1\n M2 'MARKER' 'INTEND'\nRHS\n RHS B3 1\n RHS C1 2\n RHS C2 1\nBOUNDS\n UP BND X3_1 1\nENDATA\n") ≡ Err (2, SenseMax)
unfolding meaning fields line_of number fault program
maximise = refl

constant : meaning
    (codes
    "NAME wdp\nROWS\n N OBJ\n L B3\n L C1\n L C2\nCOLUMNS\n M1 'MARKER' 'INTORG'\n X3_1 OBJ -12\n X3_1 B3 1\n X3_1 C2 1\n M2 'MARKER' 'INTEND'\nRHS\n RHS OBJ 3\n RHS C1 2\n RHS C2 1\nBOUNDS\n UP BND X3_1 1\nENDATA\n") ≡ Err (14, ObjectiveConstant)
unfolding meaning fields line_of number fault program
constant = refl

split : meaning
    (codes
    "NAME wdp\nROWS\n N OBJ\n L B3\n L C1\n L C2\nCOLUMNS\n M1 'MARKER' 'INTORG'\n X3_1 OBJ -12\n X3_1 B3 1\n M2 'MARKER' 'INTEND'\n X3_1 C2 1\nRHS\n RHS B3 1\n RHS C1 2\n RHS C2 1\nBOUNDS\n UP BND X3_1 1\nENDATA\n") ≡ Err (12, ColumnSplit)
unfolding meaning fields line_of number fault program
split = refl

bound_value : meaning
    (codes
    "NAME wdp\nROWS\n N OBJ\n L B3\n L C1\n L C2\nCOLUMNS\n M1 'MARKER' 'INTORG'\n X3_1 OBJ -12\n X3_1 B3 1\n X3_1 C2 1\n M2 'MARKER' 'INTEND'\nRHS\n RHS B3 1\n RHS C1 2\n RHS C2 1\nBOUNDS\n UP BND X3_1 2\nENDATA\n") ≡ Err (18, BoundValue)
unfolding meaning fields line_of number fault program
bound_value = refl

bound_type : meaning
    (codes
    "NAME wdp\nROWS\n N OBJ\n L B3\n L C1\n L C2\nCOLUMNS\n M1 'MARKER' 'INTORG'\n X3_1 OBJ -12\n X3_1 B3 1\n X3_1 C2 1\n M2 'MARKER' 'INTEND'\nRHS\n RHS B3 1\n RHS C1 2\n RHS C2 1\nBOUNDS\n MI BND X3_1\nENDATA\n") ≡ Err (18, BoundType)
unfolding meaning fields line_of number fault program
bound_type = refl

cut_3 : meaning (codes "NAM") ≡ Err (1, Section)
unfolding meaning fields line_of number fault program
cut_3 = refl

cut_4 : meaning (codes "NAME") ≡ Err (1, NoEnd)
unfolding meaning fields line_of number fault program
cut_4 = refl

cut_70 : meaning (codes "NAME wdp\nROWS\n N OBJ\n L B3\n L C1\n L C2\nCOLUMNS\n M1 'MARKER' 'INTORG'\n ") ≡ Err (9, NoEnd)
unfolding meaning fields line_of number fault program
cut_70 = refl

cut_181 : meaning
    (codes
    "NAME wdp\nROWS\n N OBJ\n L B3\n L C1\n L C2\nCOLUMNS\n M1 'MARKER' 'INTORG'\n X3_1 OBJ -12\n X3_1 B3 1\n X3_1 C2 1\n M2 'MARKER' 'INTEND'\nRHS\n RHS B3 1\n RHS C1 2\n RHS C2 1\nBOUNDS\n UP BND X3_1 ") ≡ Err (18, UnknownColumn)
unfolding meaning fields line_of number fault program
cut_181 = refl

cut_182 : meaning
    (codes
    "NAME wdp\nROWS\n N OBJ\n L B3\n L C1\n L C2\nCOLUMNS\n M1 'MARKER' 'INTORG'\n X3_1 OBJ -12\n X3_1 B3 1\n X3_1 C2 1\n M2 'MARKER' 'INTEND'\nRHS\n RHS B3 1\n RHS C1 2\n RHS C2 1\nBOUNDS\n UP BND X3_1 1") ≡ Err (18, NoEnd)
unfolding meaning fields line_of number fault program
cut_182 = refl

cut_183 : meaning
    (codes
    "NAME wdp\nROWS\n N OBJ\n L B3\n L C1\n L C2\nCOLUMNS\n M1 'MARKER' 'INTORG'\n X3_1 OBJ -12\n X3_1 B3 1\n X3_1 C2 1\n M2 'MARKER' 'INTEND'\nRHS\n RHS B3 1\n RHS C1 2\n RHS C2 1\nBOUNDS\n UP BND X3_1 1\n") ≡ Err (18, NoEnd)
unfolding meaning fields line_of number fault program
cut_183 = refl

cut_184 : meaning
    (codes
    "NAME wdp\nROWS\n N OBJ\n L B3\n L C1\n L C2\nCOLUMNS\n M1 'MARKER' 'INTORG'\n X3_1 OBJ -12\n X3_1 B3 1\n X3_1 C2 1\n M2 'MARKER' 'INTEND'\nRHS\n RHS B3 1\n RHS C1 2\n RHS C2 1\nBOUNDS\n UP BND X3_1 1\nE") ≡ Err (19, Section)
unfolding meaning fields line_of number fault program
cut_184 = refl

cut_188 : meaning
    (codes
    "NAME wdp\nROWS\n N OBJ\n L B3\n L C1\n L C2\nCOLUMNS\n M1 'MARKER' 'INTORG'\n X3_1 OBJ -12\n X3_1 B3 1\n X3_1 C2 1\n M2 'MARKER' 'INTEND'\nRHS\n RHS B3 1\n RHS C1 2\n RHS C2 1\nBOUNDS\n UP BND X3_1 1\nENDAT") ≡ Err (19, Section)
unfolding meaning fields line_of number fault program
cut_188 = refl

cut_189 : meaning
    (codes
    "NAME wdp\nROWS\n N OBJ\n L B3\n L C1\n L C2\nCOLUMNS\n M1 'MARKER' 'INTORG'\n X3_1 OBJ -12\n X3_1 B3 1\n X3_1 C2 1\n M2 'MARKER' 'INTEND'\nRHS\n RHS B3 1\n RHS C1 2\n RHS C2 1\nBOUNDS\n UP BND X3_1 1\nENDATA") ≡ Ok v1_program
unfolding meaning fields line_of number fault program
cut_189 = refl

return_inside : meaning
    (codes
    "NAME wdp\nROWS\n N OBJ\n L B3\n L C1\n L C2\nCOLUMNS\n M1 'MARKER' 'INTORG'\n X3_1 OBJ -12\n X3_1 B3\r1\n X3_1 C2 1\n M2 'MARKER' 'INTEND'\nRHS\n RHS B3 1\n RHS C1 2\n RHS C2 1\nBOUNDS\n UP BND X3_1 1\nENDATA\n") ≡ Err (10, NotText)
unfolding meaning fields line_of number fault program
return_inside = refl

two_returns : meaning
    (codes
    "NAME wdp\nROWS\n N OBJ\n L B3\n L C1\n L C2\nCOLUMNS\n M1 'MARKER' 'INTORG'\n X3_1 OBJ -12\n X3_1 B3 1\r\r\n X3_1 C2 1\n M2 'MARKER' 'INTEND'\nRHS\n RHS B3 1\n RHS C1 2\n RHS C2 1\nBOUNDS\n UP BND X3_1 1\nENDATA\n") ≡ Err (10, NotText)
unfolding meaning fields line_of number fault program
two_returns = refl

number_0 : meaning
    (codes
    "NAME wdp\nROWS\n N OBJ\n L B3\n L C1\n L C2\nCOLUMNS\n M1 'MARKER' 'INTORG'\n X3_1 OBJ -12\n X3_1 B3 000000000000000000000000000001\n X3_1 C2 1\n M2 'MARKER' 'INTEND'\nRHS\n RHS B3 1\n RHS C1 2\n RHS C2 1\nBOUNDS\n UP BND X3_1 1\nENDATA\n") ≡ Ok v1_program
unfolding meaning fields line_of number fault program
number_0 = refl

number_1 : meaning
    (codes
    "NAME wdp\nROWS\n N OBJ\n L B3\n L C1\n L C2\nCOLUMNS\n M1 'MARKER' 'INTORG'\n X3_1 OBJ -12\n X3_1 B3 1.\n X3_1 C2 1\n M2 'MARKER' 'INTEND'\nRHS\n RHS B3 1\n RHS C1 2\n RHS C2 1\nBOUNDS\n UP BND X3_1 1\nENDATA\n") ≡ Ok v1_program
unfolding meaning fields line_of number fault program
number_1 = refl

number_2 : meaning
    (codes
    "NAME wdp\nROWS\n N OBJ\n L B3\n L C1\n L C2\nCOLUMNS\n M1 'MARKER' 'INTORG'\n X3_1 OBJ -12\n X3_1 B3 +1\n X3_1 C2 1\n M2 'MARKER' 'INTEND'\nRHS\n RHS B3 1\n RHS C1 2\n RHS C2 1\nBOUNDS\n UP BND X3_1 1\nENDATA\n") ≡ Ok v1_program
unfolding meaning fields line_of number fault program
number_2 = refl

number_3 : meaning
    (codes
    "NAME wdp\nROWS\n N OBJ\n L B3\n L C1\n L C2\nCOLUMNS\n M1 'MARKER' 'INTORG'\n X3_1 OBJ -12\n X3_1 B3 1000e-3\n X3_1 C2 1\n M2 'MARKER' 'INTEND'\nRHS\n RHS B3 1\n RHS C1 2\n RHS C2 1\nBOUNDS\n UP BND X3_1 1\nENDATA\n") ≡ Ok v1_program
unfolding meaning fields line_of number fault program
number_3 = refl

token_0 : number (codes "0000000000000000000000000000001") ≡ Err numbers.NumberRange
unfolding number
token_0 = refl

token_1 : number (codes "1e61") ≡ Err numbers.NumberRange
unfolding number
token_1 = refl

token_2 : number (codes "1e-61") ≡ Err numbers.NumberRange
unfolding number
token_2 = refl

token_3 : number (codes "1e0060") ≡ Err numbers.NumberRange
unfolding number
token_3 = refl

token_4 : number (codes "1e60") ≡ Err numbers.NumberRange
unfolding number
token_4 = refl

token_5 : number (codes "1000000000000000001") ≡ Err numbers.NumberRange
unfolding number
token_5 = refl

token_6 : number (codes "1e-60") ≡ Err numbers.NotWhole
unfolding number
token_6 = refl

token_7 : number (codes ".5") ≡ Err numbers.NotWhole
unfolding number
token_7 = refl

token_8 : number (codes ".") ≡ Err numbers.NumberText
unfolding number
token_8 = refl

token_9 : number (codes "1e") ≡ Err numbers.NumberText
unfolding number
token_9 = refl

token_10 : number (codes "--1") ≡ Err numbers.NumberText
unfolding number
token_10 = refl

token_11 : number (codes "0e60") ≡ Ok (pos 0)
unfolding number
token_11 = refl

token_12 : number (codes "0e-60") ≡ Ok (pos 0)
unfolding number
token_12 = refl

token_13 : number (codes "1000000000000000000") ≡ Ok (pos (10 ^ 18))
unfolding number
token_13 = refl

token_14 : number (codes "-1000000000000000000") ≡ Ok (negsuc (10 ^ 18 - 1))
unfolding number
token_14 = refl
