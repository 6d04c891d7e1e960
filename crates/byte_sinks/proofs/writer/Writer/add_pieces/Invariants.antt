use Rattle.std.proofs.Common.{take}
use Rattle.std.specs.Prelude.{flat_map}
use Rattle.byte_sinks.specs.Adds.{Adds}
use Rattle.byte_sinks.proofs.writer.Writer.add_pieces.Given as goal

-- the pieces so far are added
abbrev pub invariant-loop-piece : goal.invariant-loop-piece
invariant-loop-piece g l = Adds g.S.Sink.state l.initial.self l.self (flat_map (λ p. p.now) (take l.piece-index l.pieces))
