-- A multiple of a form, added term by term. The code holds the factor as k and the number of the term at i as n.
use Rattle.std.proofs.Common.{◌≡◌, ℕ, ◌+◌, ◌*◌, ◌^◌, ◌<◌, ◌≤◌, List, length, drop, get_or, subst, ℤ, pos, ◌+ℤ◌}
use Rattle.std.specs.Prelude.{◌*ℤ◌, unsigned_abs}
use Rattle.optimality.specs.Certificates.{Form}
use Rattle.optimality.specs.Adding.{AreGivenMore, at_place, number_at}
use Rattle.optimality.specs.inside.Adding.{form_given}
use Rattle.optimality.specs.inside.Sizes.{form_size}
use Rattle.optimality.specs.inside.Stopping.{ReachesLimit}
use Rattle.optimality.proofs.PlaceFacts.{form-step, form-end}
use Rattle.optimality.proofs.SizeFacts.{form-step-within, reach}

-- the sums so far, and what the terms from i on give
abbrev AreSoFar : ℤ → Form → ℕ → List ℤ → List ℤ → Type 0
AreSoFar k form i start now = (q : ℕ) → number_at now q +ℤ form_given k (drop i form) q ≡ number_at start q +ℤ form_given k form q

pub term-added : (k : ℤ) (form : Form) (i : ℕ) (n : ℤ) (start before after : List ℤ) → i < length form → n ≡ (get_or form i (0, pos 0)).1
    → AreGivenMore (at_place (get_or form i (0, pos 0)).0 (k *ℤ n)) before after → AreSoFar k form i start before
    → AreSoFar k form (i + 1) start after
term-added k form i n start before after l is added =
    form-step k form i (0, pos 0) start before after l
    (subst (λ (m : ℤ). AreGivenMore (at_place (get_or form i (0, pos 0)).0 (k *ℤ m)) before after) is added)

pub all-added : (k factor : ℤ) (form : Form) (i : ℕ) (start after : List ℤ) → k ≡ factor → length form ≤ i → AreSoFar k form i start after
    → AreGivenMore (form_given factor form) start after
all-added k factor form i start after is l h =
    subst (λ (f : ℤ). AreGivenMore (form_given f form) start after) is (form-end k form i start after l h)

pub term-too-large : (k factor : ℤ) (form : Form) (i : ℕ) (n : ℤ) (start now : List ℤ) → k ≡ factor → i < length form
    → n ≡ (get_or form i (0, pos 0)).1 → AreSoFar k form i start now
    → 2 ^ 126 ≤ unsigned_abs (number_at now (get_or form i (0, pos 0)).0) + unsigned_abs k * unsigned_abs n
    → ReachesLimit start (unsigned_abs factor * form_size form)
term-too-large k factor form i n start now is l number h large =
    let t = get_or form i (0, pos 0) in
    let within = form-step-within k form i (0, pos 0) t.0 (number_at now t.0) (number_at start t.0) l (h t.0) in
    let reached = subst (λ (m : ℤ). 2 ^ 126 ≤ unsigned_abs (number_at now t.0) + unsigned_abs k * unsigned_abs m) number large in
    subst (λ (f : ℤ). ReachesLimit start (unsigned_abs f * form_size form)) is (t.0, reach within reached)
