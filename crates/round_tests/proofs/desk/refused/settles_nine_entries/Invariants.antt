use Rattle.round_tests.proofs.desk.refused.settles_nine_entries.Given as goal

abbrev pub ghosts-round-L-Ledger : goal.ghosts-round-L-Ledger
ghosts-round-L-Ledger g a = record { name = a.blank.name; parts = a.blank.parts }

abbrev pub ghosts-round-L-Round : goal.ghosts-round-L-Round
ghosts-round-L-Round g a = record { rules = a.rules; part_count = a.blank.parts }
