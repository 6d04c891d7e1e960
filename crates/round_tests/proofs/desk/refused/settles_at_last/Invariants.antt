use Rattle.round_tests.proofs.desk.refused.settles_at_last.Given as goal

abbrev pub ghosts-settled_at_last-L-Ledger : goal.ghosts-settled_at_last-L-Ledger
ghosts-settled_at_last-L-Ledger g a = record { name = a.blank.name; parts = a.blank.parts }

abbrev pub ghosts-settled_at_last-L-Round : goal.ghosts-settled_at_last-L-Round
ghosts-settled_at_last-L-Round g a = record { rules = a.rules; part_count = a.blank.parts }
