use Rattle.std.proofs.Common.{subst, sym}
use Rattle.auction_input.specs.inside.Submissions.{AreFormsOf}
use Rattle.auction_input.proofs.SubmissionFacts.{idle-more, is-first, jobs-more}
use Rattle.auction_input.proofs.round.add_session.Goals as goal

pub new-requires-clause-forms : goal.new-requires-clause-forms
new-requires-clause-forms g c =
    let session = c.args.session in
    let forms = c.forms_to_submit-forms.result.now in
    let one = is-first session forms c.if-is_empty.ensures c.forms_to_submit-forms.ensures.other in
    subst (AreFormsOf g.L.Round.rules session.bidder) (sym (c.forms_to_submit-forms.ensures.first one)) c.requires.own

pub returns-in_ok-push-clause-others : goal.returns-in_ok-push-clause-others
returns-in_ok-push-clause-others g c =
    idle-more c.args.lists.now c.args.others.now.items c.push.new.self.items c.args.session c.forms_to_submit-forms.result.now
    c.in_ok-push.ensures.items c.requires.fresh c.if-is_empty.ensures
    c.forms_to_submit-forms.ensures.first

pub returns-in_ok-push-2-clause-jobs : goal.returns-in_ok-push-2-clause-jobs
returns-in_ok-push-2-clause-jobs g c =
    let session = c.args.session in
    let forms = c.forms_to_submit-forms.result.now in
    let one = is-first session forms c.if-is_empty.ensures c.forms_to_submit-forms.ensures.other in
    jobs-more c.args.lists.now c.args.jobs.now.items c.push-else-is_empty.new.self.items c.new.result session forms
    c.in_ok-push-2.ensures.items c.new.ensures.session c.new.ensures.forms one
    (c.forms_to_submit-forms.ensures.first one)
