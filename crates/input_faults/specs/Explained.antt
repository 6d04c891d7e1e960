-- What a call leaves that reports all faults.
use Rattle.std.specs.Prelude.{◌≡◌, ℕ, List}
use Rattle.auction_input.specs.declared.refusal.Refusal.{Refusal}
use Rattle.auction_input.specs.declared.refusal.Refusal.TheVariants as refusal
use Rattle.byte_sinks.specs.Sinks.{GoesInPart, Outlet}
use Rattle.byte_sinks.specs.declared.writer.WriteFault.TheVariants as write

-- why lines aren't written whole: memory was short before the first, or a put failed after the first bytes, as many as the refusal says
pub data IsCutShort (lines : List ℕ) (before after : Outlet) : Refusal → Type 0 where
  by_memory : after ≡ before → IsCutShort lines before after refusal.OutOfMemory
  by_put : {written : ℕ} → GoesInPart before after lines written → IsCutShort lines before after (refusal.Write (write.Sink written))
