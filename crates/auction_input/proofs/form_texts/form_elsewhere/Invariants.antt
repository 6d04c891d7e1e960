use Rattle.std.proofs.Common.{take}
use Rattle.std.specs.List.{zip}
use Rattle.auction_input.specs.FormTexts.{KnowsTexts}
use Rattle.auction_input.proofs.form_texts.form_elsewhere.Given as goal

-- the forms so far are known
abbrev pub invariant-loop-place : goal.invariant-loop-place
invariant-loop-place l = KnowsTexts l.rules l.known (zip (take l.place l.forms) (take l.place l.numbers))
