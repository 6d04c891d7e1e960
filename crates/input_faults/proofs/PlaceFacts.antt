-- What comes after what is reported of a refusal.
use Rattle.std.proofs.Common.{◌≡◌, ◌++◌, ℕ, List, [], refl}
use Rattle.std.proofs.lemmas.List.{append-nil}
use Rattle.auction_input.specs.Input.{NamedText}
use Rattle.auction_input.specs.declared.form_texts.AnotherForm.{AnotherForm}
use Rattle.auction_input.specs.declared.refusal.Refusal.TheVariants as refusal
use Rattle.auction_input.specs.declared.refusal.Refusal.{Refusal}
use Rattle.auction_input.specs.declared.parts.PartFault.TheVariants as part
use Rattle.auction_input.specs.declared.parts.PartFault.{PartFault}
use Rattle.input_faults.specs.PlacedText.{hint, hint_on, with_other}

pub other-after : (texts : List NamedText) (r : Refusal) (reported : List ℕ) → reported ++ with_other texts r [] ≡ with_other texts r reported
other-after texts (refusal.AnotherForm f) reported = refl
other-after texts r reported = append-nil reported

pub no-other : (texts : List NamedText) (r : Refusal) → ((f : AnotherForm) → r ≡ refusal.AnotherForm f → ⊥) → [] ≡ with_other texts r []
no-other texts (refusal.AnotherForm f) none = absurd (none f refl)
no-other texts r none = refl

pub no-hint-on : (name : List ℕ) (f : PartFault) → (f ≡ part.BeforeFirst → ⊥) → [] ≡ hint_on name f
no-hint-on name part.BeforeFirst not = absurd (not refl)
no-hint-on name f not = refl

pub no-hint : (texts : List NamedText) (r : Refusal) → ((f : PartFault) → r ≡ refusal.Parts f → ⊥) → [] ≡ hint texts r
no-hint texts (refusal.Parts f) none = absurd (none f refl)
no-hint texts r none = refl
