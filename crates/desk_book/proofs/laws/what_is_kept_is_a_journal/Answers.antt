use Rattle.desk_book.proofs.Kept.{journal_kept}
use Rattle.desk_book.proofs.laws.what_is_kept_is_a_journal.Goals as goal

pub returns : goal.returns
returns g c = λ faults judge bytes desk first now batches journal alike few there served. journal_kept faults judge bytes desk first now batches journal alike few there served
