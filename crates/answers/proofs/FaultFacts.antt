-- A fault that a part of the program answers is the refusal that is reported, or memory was short.
use Rattle.std.proofs.Common.{◌≡◌, ◌∙◌, ℕ, Bool, List, Result, Err, ap, sym, inl, inr}
use Rattle.auction_input.specs.Refused.{Refuses}
use Rattle.auction_input.specs.declared.refusal.Refusal.{Refusal}
use Rattle.auction_terms.specs.Stages.{Answers, refused_as}
use Rattle.auction_input.specs.declared.refusal.Refusal.TheVariants as refusal
use Rattle.mps_reader.specs.Answer.{IsRead}
use Rattle.program_rows.specs.declared.mps_fault.MpsFault.{MpsFault}
use Rattle.outcome.specs.Solution as solution_text
use Rattle.program_rows.specs.declared.solution_fault.SolutionFault.TheVariants as solution
use Rattle.program_rows.specs.declared.solution_fault.SolutionFault.{SolutionFault}
use Rattle.program_rows.specs.Program.{Table}
use Rattle.program_rows.specs.declared.mps_fault_kind.MpsFaultKind.{MpsFaultKind}
use Rattle.auction_input.specs.Line.{refusal_text}
use Rattle.answers.specs.SolutionWinners.{solution_refused}

abbrev no_program : MpsFault → Result Table MpsFault
no_program f = Err f

abbrev pub program_refused : ℕ × MpsFaultKind → Refusal
program_refused f = refusal.Program (record { line = f.0; kind = f.1 })

pub program-refuses : (f : MpsFault) (x : Result Table (ℕ × MpsFaultKind)) → IsRead (no_program f) x
    → Refuses (refused_as program_refused x) (refusal.Program f)
program-refuses f x (inl short) = inr (ap (λ (g : MpsFault). refusal_text (refusal.Program g)) short)
program-refuses f x (inr parsed) = inl (ap (λ (r : Result Table (ℕ × MpsFaultKind)). refused_as program_refused r) parsed)

abbrev pub no_point : SolutionFault → Result (List Bool) SolutionFault
no_point f = Err f

-- a fault of a solution, as it is reported
pub solution-refuses : (p : Table) (n : ℕ) (f : SolutionFault) (x : Result (List Bool) SolutionFault) (r : Refusal)
    → r ≡ solution_refused p n f → Answers solution_text.is_solution_memory (no_point f) x
    → Refuses (refused_as (solution_refused p n) x) r
solution-refuses p n solution.OutOfMemory x r parsed is = inr (ap (λ (e : Refusal). refusal_text e) parsed)
solution-refuses p n f x r parsed is =
    let same : no_point f ≡ x = is in
    inl (ap (λ q. refused_as (solution_refused p n) q) (sym same) ∙ ap (λ (e : Refusal). Err e) (sym parsed))
