use Rattle.std.proofs.Common.{◌≡◌}
use Rattle.desk_line.specs.Served.{disk_full_times}
use Rattle.desk_line.proofs.line.disk_full_lines.Given as goal

abbrev pub invariant-loop-place : goal.invariant-loop-place
invariant-loop-place l = l.lines.items ≡ disk_full_times l._place
