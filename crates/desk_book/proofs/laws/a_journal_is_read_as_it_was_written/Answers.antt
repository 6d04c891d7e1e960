use Rattle.desk_book.proofs.ReadBack.{read_back, read_beyond}
use Rattle.desk_book.proofs.laws.a_journal_is_read_as_it_was_written.Goals as goal

pub returns-clause-whole : goal.returns-clause-whole
returns-clause-whole g c = λ judge bytes desk result is read. read_back judge bytes desk is result read

pub returns-clause-beginning : goal.returns-clause-beginning
returns-clause-beginning g c = λ judge bytes end desk result is read. read_beyond judge bytes end desk is result read
