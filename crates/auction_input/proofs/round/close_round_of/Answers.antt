use Rattle.std.proofs.Common.{sym, subst}
use Rattle.auction_terms.specs.Terms.{AreTerms}
use Rattle.auction_input.specs.inside.Submissions.{AreByBidder}
use Rattle.rayon.proofs.ListFacts.{IfOk-then}
use Rattle.auction_input.proofs.SubmissionFacts.{own-forms}
use Rattle.auction_input.proofs.round.close_round_of.Goals as goal

pub run_round-requires-clause-terms : goal.run_round-requires-clause-terms
run_round-requires-clause-terms g c = λ _ _. subst AreTerms c.requires.rules c.bidders.ensures.terms

pub run_round-requires-clause-own : goal.run_round-requires-clause-own
run_round-requires-clause-own g c = λ _ _.
    let forms = c.args.forms.items in
    own-forms g.L.Round.rules forms c.as_slice.result.now c.requires.meet (subst (AreByBidder forms) (sym c.as_slice.ensures.value) c.in_ok-lists.ensures)

pub returns-clause-submitted : goal.returns-clause-submitted
returns-clause-submitted g c =
    let forms = c.args.forms.items in
    IfOk-then c.run_round.result _ _ c.run_round.ensures.submitted
    (λ book holds. holds forms (subst (AreByBidder forms) (sym c.as_slice.ensures.value) c.in_ok-lists.ensures))
