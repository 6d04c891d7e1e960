use Rattle.auction_input.proofs.message.in_tie.Goals as goal

pub returns-in-BoundBroken : goal.returns-in-BoundBroken
returns-in-BoundBroken c = rw (c.in-BoundBroken.is, c.as_slice.ensures)

pub returns-in-RowBroken : goal.returns-in-RowBroken
returns-in-RowBroken c = rw (c.in-RowBroken.is, c.as_slice-in-RowBroken.ensures)
