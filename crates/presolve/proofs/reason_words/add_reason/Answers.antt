use Rattle.std.proofs.Common.{◌++◌, ℕ, List, ap}
use Rattle.std.specs.Prelude.{codes, decimal}
use Rattle.std.proofs.lemmas.List.{append-nil}
use Rattle.byte_sinks.proofs.AddingFacts.{Adds-to}
use Rattle.presolve.proofs.reason_words.add_reason.Goals as goal

pub returns-in-Dominated : goal.returns-in-Dominated
returns-in-Dominated g c =
    rw c.in-Dominated.is (Adds-to c.add_number-in-Dominated.ensures
    (ap (λ (xs : List ℕ). codes " is dominated by bid " ++ xs) (append-nil (decimal c.in-Dominated.by))))
