-- What a run is refused for.
use Rattle.std.specs.Prelude.{◌≡◌, ◌⊎◌, Result, Err, codes}
use Rattle.auction_input.specs.Line.{refusal_text}
use Rattle.auction_input.specs.declared.refusal.Refusal.{Refusal}

-- this is the refusal that is reported, or memory was short, wherever it was
abbrev pub Refuses : {A : Type 0} → Result A Refusal → Refusal → Type 0
Refuses parsed r = (parsed ≡ Err r) ⊎ (refusal_text r ≡ codes "out of memory")
