use Rattle.std.proofs.Common.{vec_len}
use Rattle.optimality.proofs.sums.Sums.clear.Given as goal

abbrev pub decreases-loop : goal.decreases-loop
decreases-loop l = vec_len l.self.places
