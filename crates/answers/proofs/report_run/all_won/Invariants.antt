use Rattle.std.proofs.Common.{◌≡◌, ◌+◌, ℕ, length}
use Rattle.auction_terms.specs.Lines.{bytes_of}
use Rattle.answers.proofs.ReportFacts.{IsLeftFrom, MadeFrom}
use Rattle.answers.proofs.report_run.all_won.Given as goal

-- the solutions so far win these allocations, and the others are left
abbrev pub invariant-loop-found : goal.invariant-loop-found
invariant-loop-found l = record {
  made : (count : ℕ) × (length l.all.items + count ≡ length l.winning.compiler.now.groups)
      × MadeFrom l.winning.compiler.now (bytes_of l.winning.solutions.now) (length l.all.items) count l.found-iterator.rest.items;
  left : IsLeftFrom l.winning.compiler.now (bytes_of l.winning.solutions.now) l.all.items;
}
