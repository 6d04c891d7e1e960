use Rattle.std.proofs.Common.{◌≡◌, ◌+◌, ◌∙◌, ℕ, List, length, ap, sym, subst, arith}
use Rattle.group_compiler.specs.Claimed.{Claimed}
use Rattle.group_compiler.specs.Claims.{IsEachBelow}
use Rattle.group_compiler.specs.declared.limits.TheConstants.{ALL_DRAWS}
use Rattle.group_compiler.proofs.ClaimFacts.{closes}
use Rattle.group_compiler.proofs.claims.Claims.close.Goals as goal

pub returns : goal.returns
returns c =
    let v = c.claim.inside.seat.me.0 in
    let drawn : v.drawn ≡ c.args.claim.drawn = ap (λ (k : Claimed). k.drawn) c.claim.view_is in
    let room : v.room ≡ c.args.claim.room = ap (λ (k : Claimed). k.room) c.claim.view_is in
    let long : length v.drawn ≡ length c.args.claim.drawn = ap (λ (xs : List ℕ). length xs) drawn in
    let whole : v.room + length v.drawn ≡ ALL_DRAWS = omega arith in
    let h = closes _ v _ _ _ whole c.close_with-closed.ensures.values.2 c.word-word.ensures in
    record { each_once = subst (λ (xs : List ℕ). IsEachBelow c.word-word.result xs) drawn h.0; count = sym long ∙ h.1 }
