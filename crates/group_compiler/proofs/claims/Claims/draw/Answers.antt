use Rattle.std.proofs.Common.{arith, ◌≡◌, ◌<◌, ◌∙◌, ap, sym}
use Rattle.group_compiler.specs.Claimed.{Claimed}
use Rattle.group_compiler.proofs.ClaimFacts.{draws}
use Rattle.group_compiler.proofs.claims.Claims.draw.Goals as goal

pub fetch_add-requires : goal.fetch_add-requires
fetch_add-requires c =
    let same = ap (λ (k : Claimed). k.counter) c.claim.view_is ∙ c.requires.same ∙ sym c.self.view_is in
    let room = ap (λ (k : Claimed). k.room) c.claim.view_is in (
      same,
      (let w : c.self.inside.table.shared.table_id.words ≡ 1 = c.self.inside.one_word in let l : 0 <
          c.self.inside.table.shared.table_id.words = omega arith in l),
      draws _ _ _ (omega arith),
    )
