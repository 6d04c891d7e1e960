use Rattle.std.proofs.Common.{◌≡◌, ◌<◌, ℕ, drop, false}
use Rattle.desk_book.specs.Journals.{says_beyond}
use Rattle.desk_book.proofs.replaying.is_durable_beyond.Given as goal

abbrev pub invariant-loop-place : goal.invariant-loop-place
invariant-loop-place l = (k : ℕ) → k < l.place → says_beyond l.at (drop k l.bytes) ≡ false
