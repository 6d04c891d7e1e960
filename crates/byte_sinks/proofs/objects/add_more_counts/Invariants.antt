use Rattle.std.proofs.Common.{◌++◌, codes, take}
use Rattle.std.specs.Prelude.{flat_map}
use Rattle.byte_sinks.specs.Adds.{Adds}
use Rattle.byte_sinks.specs.Objects.{count_seen, count_text}
use Rattle.byte_sinks.proofs.objects.add_more_counts.Given as goal

-- the items so far are added
abbrev pub invariant-loop-count : goal.invariant-loop-count
invariant-loop-count g l = Adds g.S.Sink.state l.initial.writer l.writer (flat_map (λ it. codes ", " ++ count_text (count_seen it)) (take l.count-index l.counts))
