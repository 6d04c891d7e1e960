use Rattle.answers.proofs.commands.forms.add_bidder.Goals as goal

pub returns-in-Json-None : goal.returns-in-Json-None
returns-in-Json-None g c = rw (c.in-Json-None.is-0, c.in-Json-None.is-1) (rw c.as_bytes-name.ensures.bytes at c.add_none_object.ensures)

pub returns-in-Json-Some : goal.returns-in-Json-Some
returns-in-Json-Some g c = rw (c.in-Json-Some.is-0, c.in-Json-Some.is-1) (rw c.as_bytes-name.ensures.bytes at c.add_form_object.ensures)
