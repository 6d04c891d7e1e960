-- What is left of an audit that isn't written whole.
use Rattle.std.proofs.Common.{◌≡◌, ◌++◌, ℕ, List, Result, Ok, Err, refl, subst, sym}
use Rattle.std.specs.Prelude.{IfErr}
use Rattle.auction_input.specs.Input.{Input, input_of, text_bytes}
use Rattle.auction_input.specs.ParsedParts.{only_text}
use Rattle.auction_input.specs.declared.refusal.Refusal.{Refusal}
use Rattle.auction_input.specs.declared.refusal.Refusal.TheVariants as refusal
use Rattle.auction_input.specs.declared.request.Request.{Request}
use Rattle.byte_sinks.specs.Sinks.{GoesInPart, Outlet, written_of}
use Rattle.byte_sinks.specs.declared.writer.WriteFault.TheVariants as write
use Rattle.byte_sinks.specs.declared.writer.WriteFault.{WriteFault}
use Rattle.answers.specs.Answer.{answer}
use Rattle.answers.specs.Sold.{HasSold}
use Rattle.solving.specs.Audits.{IsAcceptedText, IsLeft, IsUnsolved, cut_off, given_bytes, untouched, unwritten}
use Rattle.solving.specs.declared.solver.Unsolved.{Unsolved}

-- nothing was written, whatever the error is
pub all-left : {T : Type 0} (asked : Request) (given : Input) (before : Outlet) (r : Result T Refusal) → IfErr r (IsLeft asked given before before)
all-left asked given before (Ok x) = tt
all-left asked given before (Err e) = untouched refl

pub all-unsolved : {T : Type 0} (workers : ℕ) (given : Input) (before : Outlet) (r : Result T Unsolved) → IfErr r (IsUnsolved workers given before before)
all-unsolved workers given before (Ok x) = tt
all-unsolved workers given before (Err e) = unwritten refl

-- the text of what was found and of what came in is accepted as its input is
pub accepted-of : (asked : Request) (given : Input) (found : List ℕ) (input : Input) → input ≡ input_of (found ++ given_bytes given)
    → (report : List ℕ) × (answer asked input ≡ Ok report) → HasSold asked input → IsAcceptedText asked given (only_text (text_bytes input))
accepted-of asked given found input is = subst (λ (it : Input). (report : List ℕ) × (answer asked it ≡ Ok report) → HasSold asked it
    → IsAcceptedText asked given (only_text (text_bytes it))) (sym is)
    (λ accepted sold. record { ends = (found, refl); accepted = accepted; sold = sold })

-- a put failed within a text that is accepted
pub left-in-part : (asked : Request) (given : Input) (before after : Outlet) (text : List ℕ) (f : WriteFault) → IsAcceptedText asked given text
    → GoesInPart before after text (written_of f) → IsLeft asked given before after (refusal.Write f)
left-in-part asked given before after text (write.Sink written) accepted part = cut_off text accepted part
