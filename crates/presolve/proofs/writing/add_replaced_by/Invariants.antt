use Rattle.std.proofs.Common.{◌==◌, ℕ, [], cond, take}
use Rattle.std.specs.Prelude.{flat_map}
use Rattle.std.specs.List.{enumerate_from}
use Rattle.byte_sinks.specs.Adds.{Adds}
use Rattle.presolve.specs.Lines.{replaced}
use Rattle.presolve.proofs.writing.add_replaced_by.Given as goal

-- the lines of the bidder's forms so far
abbrev pub invariant-loop-place : goal.invariant-loop-place
invariant-loop-place g l =
    Adds g.S.Sink.state l.initial.writer l.writer
    (flat_map (λ (form : ℕ × ℕ). cond (form.1 == l.bidder) (cond (form.0 == l.last) [] (replaced l.format l.rules l.bidder l.last form.0)) [])
    (take l.place (enumerate_from 1 l.bidders)))
