use Rattle.std.specs.Prelude.{◌≡◌, ◌++◌, ℕ, List}
use Rattle.desk_book.specs.Settling.{AreOpened}
use Rattle.desk_book.proofs.settle.add_parts.Given as goal

abbrev pub invariant-loop-place : goal.invariant-loop-place
invariant-loop-place l = (parts : List ℕ) × AreOpened l.fn.book l.place parts × (l.input.items ≡ l.fn.input.items ++ parts)
