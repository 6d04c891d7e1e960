use Rattle.std.proofs.Common.{◌≡◌, ◌<◌, ℕ, false, slice_index}
use Rattle.auction_terms.specs.Lines.{is_line_feed}
use Rattle.auction_input.proofs.parts.line_end.Given as goal

abbrev pub invariant-loop-end : goal.invariant-loop-end
invariant-loop-end l = (k : ℕ) → k < l.end → is_line_feed (slice_index l.text k) ≡ false
