use Rattle.std.proofs.Common.{◌≡◌, None, take}
use Rattle.std.specs.List.{last_or}
use Rattle.presolve.specs.Lines.{forms_by}
use Rattle.presolve.proofs.writing.last_form.Given as goal

-- the last form so far
abbrev pub invariant-loop-place : goal.invariant-loop-place
invariant-loop-place l = l.last ≡ last_or None (forms_by (take l.place l.bidders) l.bidder)
