use Rattle.input_faults.proofs.lines.lines_of.Goals as goal

pub returns : goal.returns
returns c = rw c.in_ok-places.ensures at c.lines_at.ensures
