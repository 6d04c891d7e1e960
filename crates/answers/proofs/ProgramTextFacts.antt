-- What is read of a program's text is what it describes, its size included.
use Rattle.std.proofs.Common.{◌≡◌, ◌<◌, ◌≤◌, ℕ, List, Result, Ok, Err, arith, length, refl, subst, sym, inl, inr}
use Rattle.std.proofs.lemmas.Bool.Decides.{leb_tells}
use Rattle.program_rows.specs.declared.mps_fault.MpsFault.{MpsFault}
use Rattle.mps_reader.specs.Answer.{IsRead}
use Rattle.mps_reader.specs.declared.limits.TheConstants.{PROGRAM_LIMIT}
use Rattle.program_rows.specs.MpsMeaning.{meaning}
use Rattle.program_rows.specs.Program.{Table}
use Rattle.program_rows.specs.declared.mps_fault_kind.MpsFaultKind.TheVariants as kind
use Rattle.auction_input.proofs.InputTextFacts.{sized}

abbrev no_program : MpsFault → Result Table MpsFault
no_program f = Err f

-- a text that is refused is no program
pub program-refused : (text : List ℕ) (f : MpsFault) → (PROGRAM_LIMIT < length text → no_program f ≡ no_program (record { line = 0; kind = kind.TooLarge }))
    → (length text ≤ PROGRAM_LIMIT → IsRead (no_program f) (meaning text)) → IsRead (no_program f) (sized PROGRAM_LIMIT (0, kind.TooLarge) meaning text)
program-refused text f large parsed = elim (leb_tells 67108865 (length text)) [
  | inl (is, more) ↦ (
      let e = large (omega arith) in
      let same : f ≡ record { line = 0; kind = kind.TooLarge } = cc in
      subst (λ x. IsRead (no_program x) (sized PROGRAM_LIMIT (0, kind.TooLarge) meaning text)) (sym same) (inr (rw is refl)))
  | inr (is, few) ↦ rw is (parsed (omega arith))
]

-- a text that is read is a program
pub program-parsed : (text : List ℕ) (p : Table)
    → (PROGRAM_LIMIT < length text → Ok p ≡ no_program (record { line = 0; kind = kind.TooLarge }))
    → (length text ≤ PROGRAM_LIMIT → IsRead (Ok p) (meaning text)) → sized PROGRAM_LIMIT (0, kind.TooLarge) meaning text ≡ Ok p
program-parsed text p large parsed = elim (leb_tells 67108865 (length text)) [
  | inl (_, more) ↦ (let e = large (omega arith) in cc)
  | inr (is, few) ↦ rw is (parsed (omega arith))
]
