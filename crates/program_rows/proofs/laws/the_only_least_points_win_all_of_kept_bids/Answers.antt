use Rattle.program_rows.proofs.OnlyPointFacts.{only_least_are_all_kept}
use Rattle.program_rows.proofs.laws.the_only_least_points_win_all_of_kept_bids.Goals as goal

pub returns : goal.returns
returns c = only_least_are_all_kept
