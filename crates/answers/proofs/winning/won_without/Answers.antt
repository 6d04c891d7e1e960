use Rattle.std.proofs.Common.{◌≡◌, ℕ, List, Ok, Option, subst, IfSome}
use Rattle.auction_terms.specs.declared.bids.Choice.{Choice}
use Rattle.group_compiler.specs.Compiled.{program_without}
use Rattle.answers.specs.SolutionWinners.{winners_by}
use Rattle.answers.proofs.winning.won_without.Goals as goal

pub returns-in-Some-clause-won : goal.returns-in-Some-clause-won
returns-in-Some-clause-won c =
    subst (λ (taken : Option (List Choice)). IfSome taken (λ a. (number : ℕ) → winners_by
    (program_without c.args.compiler.now.book c.args.group.now) number c.args.text.now
    ≡ Ok a)) c.in-Some.is c.in_ok-allocation.ensures.won c.args.solution
