use Rattle.std.proofs.Common.{sym}
use Rattle.auction_terms.proofs.rules_records.add_category.Goals as goal

pub returns-in-Err-clause-fault : goal.returns-in-Err-clause-fault
returns-in-Err-clause-fault c = sym (rw c.categories.ensures at c.in-Err.ensures.answer)
