-- What is reported of all faults.
use Rattle.std.proofs.Common.{◌≡◌, ◌∷◌, ◌∙◌, ◌++◌, ℕ, arith, map, Bool, true, false, List, [], Result, Ok, Err, ap, length, refl, subst, sym}
use Rattle.std.proofs.lemmas.List.{length-map}
use Rattle.std.specs.Prelude.{flat_map, ◌↔◌, IsErr, IsTrue, not}
use Rattle.auction_input.specs.Auction.{Auction}
use Rattle.auction_input.specs.Input.{NamedText, Input}
use Rattle.auction_input.specs.Requests.{format_of}
use Rattle.auction_input.specs.PartCounts.{parsed_taken}
use Rattle.auction_input.specs.declared.refusal.Refusal.{Refusal}
use Rattle.auction_input.specs.declared.refusal.Refusal.TheVariants as refusal
use Rattle.auction_terms.proofs.JudgeFacts.{none-held}
use Rattle.auction_terms.specs.Judged.{Fault as Judged, Holds, kept_fault}
use Rattle.auction_terms.specs.declared.judge.All.{All}
use Rattle.auction_terms.specs.declared.judge.FaultAt.{FaultAt}
use Rattle.auction_terms.specs.declared.limits.TheConstants.{MOST_FAULTS}
use Rattle.input_faults.proofs.BeginFacts.{none-reported}
use Rattle.input_faults.proofs.InputBeginsFacts.{begin-input}
use Rattle.input_faults.specs.Explained.{IsCutShort, by_put}
use Rattle.input_faults.specs.FaultLines.{explanation, fault_line, fault_lines}
use Rattle.input_faults.specs.FaultsAs.{BeginWith, judged_as}
use Rattle.input_faults.specs.InputFaults.{input_faults, refusal_of}
use Rattle.input_faults.specs.declared.fault.Fault.{Fault}
use Rattle.input_faults.specs.inside.HeldLines.{held_lines, kept_line}
use Rattle.byte_sinks.proofs.AddingFacts.{goes-nothing}
use Rattle.byte_sinks.specs.declared.json.Format.{Format}
use Rattle.byte_sinks.specs.declared.json.Format.TheVariants.{Words, Json}
use Rattle.byte_sinks.specs.Sinks.{GoesInPart, GoesWhole, Outlet, written_of}
use Rattle.byte_sinks.specs.declared.writer.WriteFault.{WriteFault}
use Rattle.byte_sinks.specs.declared.writer.WriteFault.TheVariants as write
use Rattle.auction_input.specs.declared.request.Request.{Request}

-- the lines of kept faults are those of the faults
kept-lines : (format : Format) (texts : List NamedText) (kept : List (FaultAt Fault))
    → flat_map (kept_line format texts) kept ≡ flat_map (fault_line format texts) (map kept_fault kept)
kept-lines format texts [] = refl
kept-lines format texts (at ∷ more) = ap (λ (bytes : List ℕ). kept_line format texts at ++ bytes) (kept-lines format texts more)

-- the lines of what is kept are those of the first faults
pub held-lines : (format : Format) (texts : List NamedText) (held : All Fault) (faults : List (Judged Fault))
    → Holds MOST_FAULTS held faults → held_lines format texts held ≡ fault_lines format texts faults
held-lines format texts held faults holds = rw (kept-lines format texts held.kept.items, holds.kept, holds.more) refl

pub cut-short : (lines : List ℕ) (before after : Outlet) (f : WriteFault) → GoesInPart before after lines (written_of f)
    → IsCutShort lines before after (refusal.Write f)
cut-short lines before after (write.Sink written) part = by_put part

-- there is a fault just where no auction is parsed, or it hasn't got what is wanted
faulty : {A : Type 0} (held : All Fault) (faults : List (Judged Fault)) (reported : Result A Refusal) (empty : Bool) → Holds MOST_FAULTS held faults
    → BeginWith (judged_as refusal_of faults) reported
    → (empty ≡ true → length held.kept.items ≡ 0) → (empty ≡ false → length held.kept.items ≡ 0 → ⊥) → IsTrue (not empty) ↔ IsErr reported
faulty held [] (Ok x) true keeps are none some = (λ is. is, λ is. is)
faulty held [] (Ok x) false keeps are none some =
    (λ is. absurd (some refl (sym (length-map held.kept.items (kept_fault {F = Fault})) ∙ ap length keeps.kept)), λ _. refl)
faulty held (at ∷ more) (Ok x) empty keeps are none some = cc
faulty held [] (Err r) empty keeps (first, more, are, is) none some = cc
faulty held (at ∷ more) (Err r) false keeps are none some = (λ _. refl, λ _. refl)
faulty held (at ∷ more) (Err r) true keeps are none some = (let nothing = none-held MOST_FAULTS held (at ∷ more) (omega arith) keeps (none refl) in cc)

-- of no fault nothing is reported
no-lines : (format : Format) (texts : List NamedText) → fault_lines format texts [] ≡ []
no-lines Words texts = refl
no-lines Json texts = refl

-- where none is kept, there is none, and nothing is reported
pub nothing-found : (asked : Request) (input : Input) (held : All Fault) (sink : Outlet)
    → Holds MOST_FAULTS held (input_faults asked input) → length held.kept.items ≡ 0 → GoesWhole sink sink (explanation asked input)
nothing-found asked input held sink keeps none =
    subst (λ (bytes : List ℕ). GoesWhole sink sink bytes) (sym (ap (fault_lines (format_of asked) input.texts)
    (none-held MOST_FAULTS held (input_faults asked input) (omega arith) keeps none) ∙ no-lines (format_of asked) input.texts)) (goes-nothing sink)

pub is-faulty : (asked : Request) (input : Input) (held : All Fault) (empty : Bool) → Holds MOST_FAULTS held (input_faults asked input)
    → (empty ≡ true → length held.kept.items ≡ 0) → (empty ≡ false → length held.kept.items ≡ 0 → ⊥)
    → IsTrue (not empty) ↔ IsErr (parsed_taken asked input)
is-faulty asked input held empty keeps none some =
    faulty held (input_faults asked input) (parsed_taken asked input) empty keeps (begin-input asked input) none some

-- nothing is reported of an input that describes an auction with what is wanted
pub nothing-explained : (asked : Request) (input : Input) (auction : Auction) → parsed_taken asked input ≡ Ok auction → explanation asked input ≡ []
nothing-explained asked input auction is =
    ap (fault_lines (format_of asked) input.texts)
    (none-reported refusal_of (input_faults asked input) (parsed_taken asked input) auction (begin-input asked input) is)
    ∙ no-lines (format_of asked) input.texts
