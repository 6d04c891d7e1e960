use Rattle.std.proofs.Common.{length, ◌+◌, ◌-◌, ◌≤◌, ◌≡◌}
use Rattle.std.specs.Io.KnownBytes.{Consumes}
use Rattle.auction_input.proofs.input.read_bytes.Given as goal

abbrev pub invariant-loop-block : goal.invariant-loop-block
invariant-loop-block g l = (length l.text.items ≤ l.fn.limit + 1)
    × Consumes (g.I.Read.remaining l.fn.input.reader) (g.I.Read.remaining l.input.reader) l.text.items
    × (l.input.failures ≡ l.fn.input.failures)

abbrev pub decreases-loop-block : goal.decreases-loop-block
decreases-loop-block g l = l.fn.limit + 1 - length l.text.items
