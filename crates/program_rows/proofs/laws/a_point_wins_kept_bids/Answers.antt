use Rattle.program_rows.proofs.OnlyPointFacts.{points_win_kept_bids}
use Rattle.program_rows.proofs.laws.a_point_wins_kept_bids.Goals as goal

pub returns : goal.returns
returns c = points_win_kept_bids
