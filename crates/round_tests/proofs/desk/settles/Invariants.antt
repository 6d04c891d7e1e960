use Rattle.round_tests.proofs.desk.settles.Given as goal

abbrev pub ghosts-settled_as_played-L-Ledger : goal.ghosts-settled_as_played-L-Ledger
ghosts-settled_as_played-L-Ledger g a = record { name = a.blank.name; parts = a.blank.parts }

abbrev pub ghosts-settled_as_played-L-Round : goal.ghosts-settled_as_played-L-Round
ghosts-settled_as_played-L-Round g a = record { rules = a.rules; part_count = a.blank.parts }
