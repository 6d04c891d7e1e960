-- One check, or two in order, before what is reported.
use Rattle.std.proofs.Common.{◌≡◌, ◌∷◌, [], Bool, true, false, Result, Ok, Err, refl, cond}
use Rattle.auction_terms.specs.FirstFault.{first_failed}
use Rattle.auction_terms.specs.Stages.{unless}
use Rattle.auction_input.specs.declared.refusal.Refusal.{Refusal}

pub when-counted : {A : Type 0} (test : Bool) (r : Result A Refusal) (e : Refusal) (x : A) → cond test r (Err e) ≡ Ok x → (test ≡ true) × (r ≡ Ok x)
when-counted true r e x parsed = (refl, parsed)
when-counted false r e x parsed = cc

-- two checks, in order
module _ {A : Type 0} (e f : Refusal) where
  abbrev checked : Bool → Bool → Result A Refusal → Result A Refusal
  checked first second r = unless (first_failed ((first, e) ∷ (second, f) ∷ [])) r

  pub when-both : (first second : Bool) (r : Result A Refusal) (x : A) → checked first second r ≡ Ok x → (first ≡ true) × (second ≡ true) × (r ≡ Ok x)
  when-both true true r x parsed = (refl, refl, parsed)
  when-both true false r x parsed = cc
  when-both false second r x parsed = cc
