use Rattle.std.proofs.Common.{◌≡◌, ℕ, ◌*◌, ◌%◌, false, sym, ap, ◌∙◌, arith}
use Rattle.std.specs.Prelude.{◌==◌}
use Rattle.std.proofs.Math.Nat.{mul-mod_right}
use Rattle.std.proofs.lemmas.Bool.{eqb-true, false_from_ne_true}
use Rattle.outcome.proofs.pricing.is_exact.Goals as goal

-- a multiple has no rest
no_multiple : (parts pounds exact : ℕ) → ¬ (exact % parts ≡ 0) → (parts * pounds == exact) ≡ false
no_multiple parts pounds exact rest = false_from_ne_true (parts * pounds == exact)
    (λ same. rest (ap (λ (n : ℕ). n % parts) (sym (eqb-true _ _ same)) ∙ mul-mod_right parts pounds))

pub returns-else-exact-from-eq0 : goal.returns-else-exact-from-eq0
returns-else-exact-from-eq0 c =
    let rest : ¬ (c.args.exact % c.args.parts ≡ 0) = grind (arith, c.from.ensures, c.if-exact-from-eq0.false) in
    grind (arith, no_multiple c.args.parts c.args.pounds c.args.exact rest, c.from.ensures, c.if-exact-from-eq0.false)
