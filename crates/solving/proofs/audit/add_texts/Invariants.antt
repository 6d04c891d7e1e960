use Rattle.std.proofs.Common.{◌≡◌, ◌++◌, take}
use Rattle.std.specs.Prelude.{flat_map}
use Rattle.auction_input.specs.Input.{NamedText}
use Rattle.solving.proofs.audit.add_texts.Given as goal

-- the bytes of the texts so far are added
abbrev pub invariant-loop-given : goal.invariant-loop-given
invariant-loop-given l =
    l.text.items ≡ l.initial.text.items ++ flat_map (λ (given : NamedText). given.bytes) (take l.given-index l.texts)
