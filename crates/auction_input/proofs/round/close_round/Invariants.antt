use Rattle.auction_input.proofs.round.close_round.Given as goal

abbrev pub ghosts-close_round_of-L-Ledger : goal.ghosts-close_round_of-L-Ledger
ghosts-close_round_of-L-Ledger g a = record { name = a.blank.name; parts = a.blank.parts }

abbrev pub ghosts-close_round_of-L-Round : goal.ghosts-close_round_of-L-Round
ghosts-close_round_of-L-Round g a = record { rules = a.rules; part_count = a.blank.parts }
