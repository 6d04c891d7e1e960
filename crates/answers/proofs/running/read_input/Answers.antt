use Rattle.std.proofs.Common.{refl}
use Rattle.answers.proofs.running.read_input.Goals as goal

pub returns-in-Ok-clause-read : goal.returns-in-Ok-clause-read
returns-in-Ok-clause-read g c =
    let read = rw c.as_slice.ensures.value at c.in-Ok.ensures.read in
    rw c.with_last_wins.ensures (read, refl)

pub returns-in-Err-clause-unread : goal.returns-in-Err-clause-unread
returns-in-Err-clause-unread g c = rw c.as_slice.ensures.value at c.in-Err.ensures.unread

pub returns-in-Ok-clause-called : goal.returns-in-Ok-clause-called
returns-in-Ok-clause-called g c = rw c.as_slice.ensures.value at c.in-Ok.ensures.called

pub returns-in-Err-clause-begun : goal.returns-in-Err-clause-begun
returns-in-Err-clause-begun g c = rw c.as_slice.ensures.value at c.in-Err.ensures.begun
