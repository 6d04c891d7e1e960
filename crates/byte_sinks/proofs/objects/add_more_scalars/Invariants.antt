use Rattle.std.proofs.Common.{◌++◌, codes, take}
use Rattle.std.specs.Prelude.{flat_map}
use Rattle.byte_sinks.specs.Adds.{Adds}
use Rattle.byte_sinks.specs.Objects.{scalar_seen, scalar_text}
use Rattle.byte_sinks.proofs.objects.add_more_scalars.Given as goal

-- the items so far are added
abbrev pub invariant-loop-scalar : goal.invariant-loop-scalar
invariant-loop-scalar g l = Adds g.S.Sink.state l.initial.writer l.writer (flat_map (λ it. codes ", " ++ scalar_text (scalar_seen it)) (take l.scalar-index l.scalars))
