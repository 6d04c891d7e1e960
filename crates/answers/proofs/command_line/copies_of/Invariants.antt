use Rattle.std.proofs.Common.{◌≡◌, map, take}
use Rattle.answers.specs.Asked.{text_of}
use Rattle.answers.proofs.command_line.copies_of.Given as goal

-- the texts so far are copied
abbrev pub invariant-loop-text : goal.invariant-loop-text
invariant-loop-text l = map text_of l.copies.items ≡ map (λ t. t.now) (take l.text-index l.texts)
