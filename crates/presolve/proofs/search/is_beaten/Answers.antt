use Rattle.std.proofs.Common.{ap, ◌∙◌, ℕ, Option}
use Rattle.std.specs.Option.{is_some}
use Rattle.presolve.specs.inside.Sizes.{beats}
use Rattle.presolve.proofs.RivalFacts.{some-first}
use Rattle.presolve.proofs.SieveFacts.{stands_before}
use Rattle.presolve.proofs.search.is_beaten.Goals as goal

pub first_sifted-requires-clause-sifts : goal.first_sifted-requires-clause-sifts
first_sifted-requires-clause-sifts c = λ i d within beaten.
    c.leave_before.ensures.before i (stands_before c.args.bid.now c.args.rivals.now c.args.place i d c.requires.rivals.rising c.requires.bid within beaten)

pub returns : goal.returns
returns c = c.is_some.ensures ∙ ap (λ (found : Option ℕ). is_some found) c.first_sifted.ensures.first ∙ some-first (beats c.args.bid.now) 0 c.args.rivals.now
