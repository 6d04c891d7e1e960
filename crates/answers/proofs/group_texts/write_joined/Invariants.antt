use Rattle.std.proofs.Common.{map, take}
use Rattle.byte_sinks.specs.Adds.{Adds, IsSent}
use Rattle.group_compiler.specs.Compiled.{compiled}
use Rattle.answers.specs.GroupTexts.{programs_bytes}
use Rattle.answers.proofs.group_texts.write_joined.Given as goal

-- the groups so far have gone out, and nothing waits
abbrev pub invariant-loop-place : goal.invariant-loop-place
invariant-loop-place g l = record {
  added : Adds g.S.Sink.state l.initial.writer l.writer (programs_bytes l.fn.book (take l.place (map (compiled l.fn.book) l.groups)));
  sent : IsSent l.writer;
}
