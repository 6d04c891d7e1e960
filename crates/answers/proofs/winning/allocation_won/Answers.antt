use Rattle.std.proofs.Common.{refl, inr}
use Rattle.auction_terms.specs.Groups.{has}
use Rattle.auction_terms.specs.Terms.{lots_in}
use Rattle.bid_desk.specs.Closing.{book_of}
use Rattle.outcome.proofs.BackFacts.{points_come_back}
use Rattle.outcome.specs.Solution.{solution}
use Rattle.auction_input.specs.Refused.{Refuses}
use Rattle.answers.specs.SolutionWinners.{winners_by}
use Rattle.auction_input.specs.declared.refusal.Refusal.TheVariants as refusal
use Rattle.answers.proofs.FaultFacts.{solution-refuses}
use Rattle.auction_input.proofs.StepFacts.{if-err-of}
use Rattle.auction_input.proofs.StageFacts.{stop}
use Rattle.answers.proofs.WinningFacts.{allowed-length, won-by}
use Rattle.answers.proofs.winning.allocation_won.Goals as goal

pub map_back-requires : goal.map_back-requires
map_back-requires c =
    let p = c.args.program.now in
    let point = c.in-Ok.ensures.point in
    let comes = points_come_back (lots_in c.args.book.now.rules) (book_of c.args.book.now) (has c.args.group.now) p c.in-Ok.point c.requires point in
    record { sized = allowed-length p.columns c.in-Ok.point point.allowed; map = comes.map }

pub returns-in_ok-map_back-in-Ok : goal.returns-in_ok-map_back-in-Ok
returns-in_ok-map_back-in-Ok c =
    let p = c.args.program.now in
    let point = c.in-Ok.ensures.point in
    let comes = points_come_back (lots_in c.args.book.now.rules) (book_of c.args.book.now) (has c.args.group.now) p c.in-Ok.point c.requires point in
    record {
      feasible = rw c.in_ok-map_back-in-Ok.ensures comes.feasible;
      won = won-by p c.args.solution c.args.text.now c.in-Ok.point _ c.in-Ok.ensures.answer c.in_ok-map_back-in-Ok.ensures;
      refuses = tt;
    }

pub returns-in_err-map_back-in-Ok-clause-refuses : goal.returns-in_err-map_back-in-Ok-clause-refuses
returns-in_err-map_back-in-Ok-clause-refuses c =
    if-err-of (Refuses (winners_by c.args.program.now c.args.solution c.args.text.now)) c.from_residual.result refusal.OutOfMemory
    c.from_residual.ensures.1 (inr refl)

pub returns-in_err-refused-in-Err-clause-refuses : goal.returns-in_err-refused-in-Err-clause-refuses
returns-in_err-refused-in-Err-clause-refuses c =
    if-err-of (Refuses (winners_by c.args.program.now c.args.solution c.args.text.now)) c.from_residual-in_err-refused-in-Err.result
    refusal.OutOfMemory c.from_residual-in_err-refused-in-Err.ensures.1 (inr refl)

pub returns-in_ok-refused-in-Err-clause-refuses : goal.returns-in_ok-refused-in-Err-clause-refuses
returns-in_ok-refused-in-Err-clause-refuses c =
    let p = c.args.program.now in
    stop _ _ _ (solution-refuses p c.args.solution c.in-Err.fault (solution p c.args.text.now) c.in_ok-refused-in-Err.field-0
    c.in_ok-refused-in-Err.ensures c.in-Err.ensures.answer)
