use Rattle.std.proofs.Common.{◌++◌, ℕ, List, Option, take}
use Rattle.std.specs.Prelude.{flat_map}
use Rattle.std.specs.List.{enumerate_from}
use Rattle.byte_sinks.specs.Adds.{Adds}
use Rattle.presolve.specs.Lines.{form_lines, replaced_lines}
use Rattle.presolve.specs.declared.reason.Reason.{Reason}
use Rattle.presolve.proofs.writing.add_bidders.Given as goal

-- the lines of the forms so far are added
abbrev pub invariant-loop-place : goal.invariant-loop-place
invariant-loop-place g l =
    Adds g.S.Sink.state l.initial.writer l.writer
    (flat_map (λ (numbered : ℕ × List (Option Reason)). replaced_lines l.format l.rules l.bidders numbered.0 ++ form_lines l.format l.rules numbered.0
    numbered.1) (take l.place (enumerate_from 1 l.reasons)))
