use Rattle.std.proofs.Common.{ℕ, [], Option, take}
use Rattle.std.specs.Prelude.{flat_map}
use Rattle.std.specs.List.{enumerate_from}
use Rattle.std.specs.Option.{option_map_or}
use Rattle.byte_sinks.specs.Adds.{Adds}
use Rattle.presolve.specs.Lines.{left_out}
use Rattle.presolve.specs.declared.reason.Reason.{Reason}
use Rattle.presolve.proofs.writing.add_form.Given as goal

-- the lines so far are added
abbrev pub invariant-loop-place : goal.invariant-loop-place
invariant-loop-place g l =
    Adds g.S.Sink.state l.initial.writer l.writer
    (flat_map (λ (numbered : ℕ × Option Reason). option_map_or (left_out l.format l.rules l.bidder numbered.0) numbered.1 [])
    (take l.place (enumerate_from 1 l.reasons)))
