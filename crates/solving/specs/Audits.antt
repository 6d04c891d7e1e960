-- What is written of an input whose winners were found.
use Rattle.std.specs.Prelude.{◌≡◌, ◌⊎◌, ℕ, List, ◌++◌, Ok, flat_map}
use Rattle.auction_input.specs.Input.{Input, NamedText, input_of}
use Rattle.auction_input.specs.declared.refusal.Refusal.{Refusal}
use Rattle.auction_input.specs.declared.refusal.Refusal.TheVariants as refusal
use Rattle.auction_input.specs.declared.request.Request.{Request}
use Rattle.auction_input.specs.declared.request.Request.TheVariants.{Report, Verify}
use Rattle.byte_sinks.specs.Sinks.{GoesInPart, GoesWhole, Outlet}
use Rattle.byte_sinks.specs.declared.writer.WriteFault.TheVariants as write
use Rattle.solving.specs.declared.solver.Unsolved.{Unsolved}
use Rattle.solving.specs.declared.solver.Unsolved.TheVariants as unsolved
use Rattle.solving.specs.declared.solver.Wanted.{Wanted}
use Rattle.answers.specs.Answer.{answer}
use Rattle.answers.specs.Sold.{HasSold}

-- the bytes that came in, text after text
abbrev pub given_bytes : Input → List ℕ
given_bytes given = flat_map (λ (text : NamedText). text.bytes) given.texts

-- a text that ends with the bytes that came in
abbrev pub EndsWith : Input → List ℕ → Type 0
EndsWith given text = (found : List ℕ) × (text ≡ found ++ given_bytes given)

-- a text that ends with the bytes that came in, and that a request accepts as an input; it has sold the auction that it describes
pub record IsAcceptedText (asked : Request) (given : Input) (text : List ℕ) : Type 0 where
  pub ends : EndsWith given text
  pub accepted : (report : List ℕ) × (answer asked (input_of text) ≡ Ok report)
  pub sold : HasSold asked (input_of text)

-- a text was written that a request accepts, and nothing else
abbrev pub WritesAccepted : Request → Input → Outlet → Outlet → Type 0
WritesAccepted asked given before after = (text : List ℕ) × IsAcceptedText asked given text × GoesWhole before after text

-- nothing was written; or a put failed, after the first bytes of a text that a request accepts
pub data IsLeft (asked : Request) (given : Input) (before after : Outlet) : Refusal → Type 0 where
  untouched : {r : Refusal} → after ≡ before → IsLeft asked given before after r
  cut_off : {written : ℕ} → (text : List ℕ) → IsAcceptedText asked given text → GoesInPart before after text written
      → IsLeft asked given before after (refusal.Write (write.Sink written))

-- why there is no audit, and what is left then: nothing; the first bytes of a text that a put cut off; or solutions that aren't proved, where they were
-- asked for
pub data IsUnsolved (workers : ℕ) (given : Input) (before after : Outlet) : Unsolved → Type 0 where
  unwritten : {why : Unsolved} → after ≡ before → IsUnsolved workers given before after why
  in_part : {r : Refusal} → IsLeft (Verify workers) given before after r → IsUnsolved workers given before after (unsolved.Refused r)
  unproved_in_part : {r : Refusal} → IsLeft (Report workers) given before after r → IsUnsolved workers given before after (unsolved.Refused r)
  unproved : {wanted : Wanted} → WritesAccepted (Report workers) given before after → IsUnsolved workers given before after (unsolved.NotProved wanted)
