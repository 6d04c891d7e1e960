use Rattle.library_tests.proofs.worked.books.book_of.Given as goal

abbrev pub ghosts-settled-L-Ledger : goal.ghosts-settled-L-Ledger
ghosts-settled-L-Ledger g a = record { name = a.blank.name; parts = a.blank.parts }

abbrev pub ghosts-settled-L-Round : goal.ghosts-settled-L-Round
ghosts-settled-L-Round g a = record { rules = a.rules; part_count = a.blank.parts }
