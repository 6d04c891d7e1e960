use Rattle.std.proofs.Common.{take}
use Rattle.byte_sinks.specs.Adds.{Adds}
use Rattle.bid_desk.specs.Sale.{sale_of}
use Rattle.byte_sinks.specs.Objects.{named_number}
use Rattle.award_objects.specs.Objects.{winners_text}
use Rattle.award_objects.proofs.winners.add_winners.Given as goal

-- the objects so far are added
abbrev pub invariant-loop-choice : goal.invariant-loop-choice
invariant-loop-choice g l = Adds g.S.Sink.state l.initial.writer l.writer (winners_text l.book.rules (sale_of l.book) (named_number l.of l.k) (take l.choice-index l.choices))
