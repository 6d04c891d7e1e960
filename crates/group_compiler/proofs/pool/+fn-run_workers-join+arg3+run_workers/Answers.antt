use Rattle.std.proofs.Common.{◌≡◌, ◌+◌, ◌∙◌, arith}
use Rattle.std.proofs.lemmas.Result.{IfOk-weaker}
use Rattle.group_compiler.specs.declared.limits.TheConstants.{WORKER_DRAWS}
use Rattle.group_compiler.specs.inside.Works.{IsWork, draws}
use Rattle.group_compiler.proofs.WorkFacts.{if_both}
use Rattle.group_compiler.proofs.pool.+fn-run_workers-join+arg3+run_workers.Goals as goal

pub returns : goal.returns
returns g t c =
    let claims = c.args.claims.now in
    let is_work = IsWork claims (g.M.Maker.count_of c.args.maker.now) (g.M.Maker.groups_of c.args.maker.now)
    (g.M.Maker.makes c.args.maker.now) (g.G.Stop.is_past c.args.stop.now) in
    let own = c.split.new.claim.room in
    let given : own + c.in_ok-other.other.room ≡ c.args.claim.room = c.in_ok-other.ensures.room in
    let taken : c.in_ok-other.other.room ≡ WORKER_DRAWS = c.in_ok-other.ensures.other_room in
    let mine = IfOk-weaker c.join-theirs.result.1 (λ work. is_work work × (draws work ≡ own)) (λ work. draws work ≡ own) (λ work h. h.1)
    c.join-theirs.ensures.second in
    let theirs = IfOk-weaker c.join-theirs.result.0 (λ work. is_work work × (draws work ≡ WORKER_DRAWS)) (λ work. draws work ≡ WORKER_DRAWS)
    (λ work h. h.1) c.join-theirs.ensures.first in
    let whole : own + WORKER_DRAWS ≡ c.args.claim.room = omega arith in
    if_both c.join_both.result is_work (λ work. draws work ≡ c.args.claim.room) c.join_both.ensures.work
    (IfOk-weaker c.join_both.result (λ work. draws work ≡ own + WORKER_DRAWS) (λ work. draws work ≡ c.args.claim.room) (λ work e. e ∙ whole)
    (c.join_both.ensures.draws own WORKER_DRAWS mine theirs))
