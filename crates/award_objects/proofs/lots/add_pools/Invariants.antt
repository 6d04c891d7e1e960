use Rattle.std.proofs.Common.{take}
use Rattle.std.specs.Prelude.{flat_map}
use Rattle.byte_sinks.specs.Adds.{Adds}
use Rattle.byte_sinks.specs.Objects.{object_text}
use Rattle.award_objects.specs.Objects.{pool_members}
use Rattle.award_objects.proofs.lots.add_pools.Given as goal

-- the objects so far are added
abbrev pub invariant-loop-pool : goal.invariant-loop-pool
invariant-loop-pool g l = Adds g.S.Sink.state l.initial.writer l.writer (flat_map (λ pool. object_text (pool_members l.sold pool)) (take l.pool-index l.pools))
