use Rattle.std.proofs.Common.{take}
use Rattle.std.specs.List.{zip}
use Rattle.auction_input.specs.LastForms.{HoldsLast}
use Rattle.auction_terms.specs.Lines.{bytes_of}
use Rattle.auction_input.proofs.last_forms.last_forms.Given as goal

-- the last ones of the forms so far are held
abbrev pub invariant-loop-place : goal.invariant-loop-place
invariant-loop-place l = HoldsLast l.last (zip (take l.place l.forms) (take l.place (bytes_of l.texts)))
