use Rattle.std.proofs.Common.{arith, ◌≡◌, ◌<◌, ◌∙◌, ap, sym}
use Rattle.group_compiler.specs.Claimed.{Claimed}
use Rattle.group_compiler.proofs.ClaimFacts.{joins}
use Rattle.group_compiler.proofs.claims.Claims.join.Goals as goal

pub join_seat-requires : goal.join_seat-requires
join_seat-requires c =
    let same = ap (λ (k : Claimed). k.counter) c.claim.view_is ∙ c.requires.same ∙ sym c.self.view_is in
    let other = ap (λ (k : Claimed). k.counter) c.other.view_is ∙ c.requires.other ∙ sym c.self.view_is in (
      same,
      other,
      c.other.inside.bare,
      (let w : c.self.inside.table.shared.table_id.words ≡ 1 = c.self.inside.one_word in let l : 0 <
          c.self.inside.table.shared.table_id.words = omega arith in l),
      joins _ _ _ _,
    )
