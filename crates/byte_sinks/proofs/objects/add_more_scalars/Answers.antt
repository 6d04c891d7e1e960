use Rattle.std.proofs.Common.{◌++◌, arith, codes}
use Rattle.byte_sinks.proofs.AddingFacts.{Adds-then, Adds-to}
use Rattle.byte_sinks.proofs.KnownByteFacts.{flat_map-next_or}
use Rattle.byte_sinks.specs.Objects.{scalar_seen, scalar_text}
use Rattle.byte_sinks.proofs.objects.add_more_scalars.Goals as goal

pub loop-scalar-preserved : goal.loop-scalar-preserved
loop-scalar-preserved g c =
    Adds-to (Adds-then c.loop-scalar.invariant (Adds-then c.add.ensures c.add_scalar.ensures))
    (flat_map-next_or (λ it. codes ", " ++ scalar_text (scalar_seen it)) c.args.scalars.now c.loop-scalar.scalar-index _ (omega arith))
