use Rattle.std.proofs.Common.{◌++◌, codes, take}
use Rattle.std.specs.Prelude.{flat_map}
use Rattle.byte_sinks.specs.Adds.{Adds}
use Rattle.byte_sinks.specs.Objects.{member_seen, member_text}
use Rattle.byte_sinks.proofs.objects.add_more_members.Given as goal

-- the items so far are added
abbrev pub invariant-loop-member : goal.invariant-loop-member
invariant-loop-member g l = Adds g.S.Sink.state l.initial.writer l.writer (flat_map (λ it. codes ", " ++ member_text (member_seen it)) (take l.member-index l.members))
