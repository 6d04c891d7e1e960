use Rattle.std.proofs.Common.{◌≡◌, ◌+◌, arith}
use Rattle.std.proofs.lemmas.Result.{IfOk-at_ok, IfOk-weaker}
use Rattle.group_compiler.specs.inside.Works.{draws}
use Rattle.group_compiler.proofs.pool.join_both.Goals as goal

pub returns-clause-draws : goal.returns-clause-draws
returns-clause-draws g c a b mine theirs =
    let m : draws c.in_ok-mine.field-0 ≡ a = IfOk-at_ok (λ work. draws work ≡ a) c.in_ok-mine.was mine in
    let t : draws c.in_ok-theirs.field-0 ≡ b = IfOk-at_ok (λ work. draws work ≡ b) c.in_ok-theirs.was theirs in
    IfOk-weaker c.join_works.result _ (λ both. draws both ≡ a + b)
    (λ both j. let all : draws both ≡ draws c.in_ok-mine.field-0 + draws c.in_ok-theirs.field-0 = j.1 in let whole : draws both ≡ a + b = omega arith in whole)
    c.join_works.ensures
