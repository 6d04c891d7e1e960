use Rattle.std.proofs.Common.{◌++◌, arith, codes}
use Rattle.byte_sinks.proofs.AddingFacts.{Adds-then, Adds-to}
use Rattle.byte_sinks.proofs.KnownByteFacts.{flat_map-next_or}
use Rattle.byte_sinks.specs.Objects.{count_seen, count_text}
use Rattle.byte_sinks.proofs.objects.add_more_counts.Goals as goal

pub loop-count-preserved : goal.loop-count-preserved
loop-count-preserved g c =
    Adds-to (Adds-then c.loop-count.invariant (Adds-then c.add.ensures c.add_count.ensures))
    (flat_map-next_or (λ it. codes ", " ++ count_text (count_seen it)) c.args.counts.now c.loop-count.count-index _ (omega arith))
