use Rattle.std.proofs.Common.{take}
use Rattle.std.specs.Prelude.{flat_map}
use Rattle.byte_sinks.specs.Adds.{Adds}
use Rattle.std.specs.List.{zip}
use Rattle.byte_sinks.specs.Objects.{object_text}
use Rattle.award_objects.specs.Objects.{category_members}
use Rattle.award_objects.proofs.lots.add_categories.Given as goal

-- the objects so far are added
abbrev pub invariant-loop-place : goal.invariant-loop-place
invariant-loop-place g l = Adds g.S.Sink.state l.initial.writer l.writer (flat_map (λ item. object_text (category_members item)) (take l.place (zip l.categories l.sold)))
