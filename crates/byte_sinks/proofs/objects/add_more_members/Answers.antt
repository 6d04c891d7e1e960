use Rattle.std.proofs.Common.{◌++◌, arith, codes}
use Rattle.byte_sinks.proofs.AddingFacts.{Adds-then, Adds-to}
use Rattle.byte_sinks.proofs.KnownByteFacts.{flat_map-next_or}
use Rattle.byte_sinks.specs.Objects.{member_seen, member_text}
use Rattle.byte_sinks.proofs.objects.add_more_members.Goals as goal

pub loop-member-preserved : goal.loop-member-preserved
loop-member-preserved g c =
    Adds-to (Adds-then c.loop-member.invariant (Adds-then c.add.ensures c.add_member.ensures))
    (flat_map-next_or (λ it. codes ", " ++ member_text (member_seen it)) c.args.members.now c.loop-member.member-index _ (omega arith))
