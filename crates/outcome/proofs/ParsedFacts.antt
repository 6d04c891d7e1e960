-- Refusals of a solution, and the answer that they make.
use Rattle.std.proofs.Common.{◌≡◌, ℕ, ◌<◌, ◌≤◌, Bool, true, false, List, [], Option, Some, None, Result, Ok, Err, length, map, refl, sym, ap, ◌∙◌, arith}
use Rattle.std.specs.Prelude.{nat_lt}
use Rattle.std.proofs.lemmas.Bool.{lt-ltb}
use Rattle.std.proofs.lemmas.Bool.Decides.{nat_tests}
use Rattle.auction_terms.specs.FirstFault.{first_fault}
use Rattle.auction_terms.specs.Stages.{Answers, unless, and_then}
use Rattle.auction_terms.proofs.FirstFaultFacts.{answers-more, answers-parsed}
use Rattle.auction_terms.specs.Lines.{lines_of}
use Rattle.outcome.specs.declared.limits.TheConstants.{SOLUTION_LIMIT}
use Rattle.program_rows.specs.declared.solution_fault.SolutionFault.{SolutionFault}
use Rattle.program_rows.specs.declared.solution_fault.SolutionFault.TheVariants as fault
use Rattle.program_rows.specs.Program.{Table}
use Rattle.program_rows.specs.ProgramNames.{column_names}
use Rattle.outcome.specs.Solution.{is_one, is_solution_memory, solution_line_fault, point_fault, solution}

module _ {T : Type 0} where
  pub fine_unless : (f : Option SolutionFault) (x y : T) → Ok x ≡ unless f (Ok y) → f ≡ None
  fine_unless None x y h = refl
  fine_unless (Some g) x y h = cc h

  pub parsed_some : (f : Option SolutionFault) (g : SolutionFault) (y : T) → Err g ≡ unless f (Ok y) → f ≡ Some g
  parsed_some None g y h = cc h
  parsed_some (Some k) g y h = let same : g ≡ k = cc in rw same refl

  pub unless_fine : (f : Option SolutionFault) (y : T) → f ≡ None → Ok y ≡ unless f (Ok y)
  unless_fine None y h = refl
  unless_fine (Some g) y h = cc h

  pub message_of : (f : Option SolutionFault) (g : SolutionFault) (y : T) → f ≡ Some g → Err g ≡ unless f (Ok y)
  message_of None g y h = cc h
  message_of (Some k) g y h = let same : k ≡ g = cc in rw same refl

-- ---- the answer to a text

-- the values of a text, or the first fault that they have
abbrev checked : Table → Result (List Bool) SolutionFault → Result (List Bool) SolutionFault
checked p parsed = and_then parsed (λ values. unless (point_fault p values) (Ok values))

module _ (p : Table) (text : List ℕ) where
  abbrev line_faults : Option SolutionFault
  line_faults = first_fault (solution_line_fault (column_names p)) [] (lines_of text)

  abbrev values : List Bool
  values = map (is_one (lines_of text)) (column_names p)

  pub too_long : SOLUTION_LIMIT < length text → Err fault.TooLarge ≡ solution p text
  unfolding solution
  too_long h = let t : nat_lt SOLUTION_LIMIT (length text) ≡ true = lt-ltb _ _ h in rw t refl

  short : length text ≤ SOLUTION_LIMIT → solution p text ≡ checked p (unless line_faults (Ok values))
  unfolding solution
  short h = let t : nat_lt SOLUTION_LIMIT (length text) ≡ false = grind (arith, nat_tests) in rw t refl

  pub faulty_line : (f : SolutionFault) → length text ≤ SOLUTION_LIMIT → Answers is_solution_memory (Err f) (unless line_faults (Ok values))
      → Answers is_solution_memory (Err f) (solution p text)
  faulty_line f small h = answers-more is_solution_memory f (unless line_faults (Ok values)) (solution p text) h (λ e. ap (checked p) e ∙ sym (short small))

  of_point : (r : Result (Unit {0}) SolutionFault) (read : List Bool) → r ≡ unless {A = Unit {0}} (point_fault p read) (Ok tt)
      → and_then r (λ u. Ok read) ≡ checked p (Ok read)
  of_point r read h = ap (λ (s : Result (Unit {0}) SolutionFault). and_then s (λ u. Ok read)) h ∙ by (point_fault p read)
    where
      by : (f : Option SolutionFault) → and_then (unless {A = Unit {0}} f (Ok tt)) (λ u. Ok read) ≡ unless f (Ok read)
      by None = refl
      by (Some f) = refl

  pub no_point : (f : SolutionFault) (read : List Bool) → length text ≤ SOLUTION_LIMIT → Ok read ≡ unless line_faults (Ok values)
      → Err f ≡ unless {A = Unit {0}} (point_fault p read) (Ok tt) → Answers is_solution_memory (Err f) (solution p text)
  no_point f read small e h = answers-parsed is_solution_memory (Err f) (solution p text) (of_point (Err f) read h ∙ ap (checked p) e ∙ sym (short small))

  pub parsed_point : (read : List Bool) → length text ≤ SOLUTION_LIMIT → Ok read ≡ unless line_faults (Ok values)
      → Ok tt ≡ unless {A = Unit {0}} (point_fault p read) (Ok tt) → Ok read ≡ solution p text
  parsed_point read small e h = of_point (Ok tt) read h ∙ ap (checked p) e ∙ sym (short small)
