use Rattle.std.proofs.Common.{◌≡◌, ◌∙◌, ℕ, OnOk, subst, sym}
use Rattle.auction_input.specs.declared.request.Request.TheVariants as request
use Rattle.answers.specs.VerifiedForms.{WritesVerifiedWithForms}
use Rattle.answers.proofs.AnswerFacts.{of-auction}
use Rattle.auction_input.specs.declared.request.Objects.TheVariants as objects
use Rattle.answers.proofs.WrittenOnFacts.{compiled-on, mapped-on, objects-on, reported-on, text-on, verified-on}
use Rattle.answers.proofs.commands.answer.Goals as goal

pub returns-in-Check-clause-text : goal.returns-in-Check-clause-text
returns-in-Check-clause-text g c is = (let other = c.in-Check.is in absurd (cc))

pub returns-in-Check-clause-compiled : goal.returns-in-Check-clause-compiled
returns-in-Check-clause-compiled g c workers is = (let other = c.in-Check.is in absurd (cc))

pub returns-in-Check-clause-mapped : goal.returns-in-Check-clause-mapped
returns-in-Check-clause-mapped g c group is = (let other = c.in-Check.is in absurd (cc))

pub returns-in-Check-clause-reported : goal.returns-in-Check-clause-reported
returns-in-Check-clause-reported g c workers is = (let other = c.in-Check.is in absurd (cc))

pub returns-in-Check-clause-verified : goal.returns-in-Check-clause-verified
returns-in-Check-clause-verified g c workers is = (let other = c.in-Check.is in absurd (cc))

pub returns-in-Check-clause-verified_with_forms : goal.returns-in-Check-clause-verified_with_forms
returns-in-Check-clause-verified_with_forms g c workers is = (let other = c.in-Check.is in absurd (cc))

pub returns-in-Forms-clause-text : goal.returns-in-Forms-clause-text
returns-in-Forms-clause-text g c is = (let other = c.in-Forms.is in absurd (cc))

pub returns-in-Forms-clause-compiled : goal.returns-in-Forms-clause-compiled
returns-in-Forms-clause-compiled g c workers is = (let other = c.in-Forms.is in absurd (cc))

pub returns-in-Forms-clause-mapped : goal.returns-in-Forms-clause-mapped
returns-in-Forms-clause-mapped g c group is = (let other = c.in-Forms.is in absurd (cc))

pub returns-in-Forms-clause-reported : goal.returns-in-Forms-clause-reported
returns-in-Forms-clause-reported g c workers is = (let other = c.in-Forms.is in absurd (cc))

pub returns-in-Forms-clause-verified : goal.returns-in-Forms-clause-verified
returns-in-Forms-clause-verified g c workers is = (let other = c.in-Forms.is in absurd (cc))

pub returns-in-Forms-clause-verified_with_forms : goal.returns-in-Forms-clause-verified_with_forms
returns-in-Forms-clause-verified_with_forms g c workers is = (let other = c.in-Forms.is in absurd (cc))

pub returns-in-VerifyWithForms-clause-text : goal.returns-in-VerifyWithForms-clause-text
returns-in-VerifyWithForms-clause-text g c is = (let other = c.in-VerifyWithForms.is in absurd (cc))

pub returns-in-VerifyWithForms-clause-compiled : goal.returns-in-VerifyWithForms-clause-compiled
returns-in-VerifyWithForms-clause-compiled g c workers is = (let other = c.in-VerifyWithForms.is in absurd (cc))

pub returns-in-VerifyWithForms-clause-mapped : goal.returns-in-VerifyWithForms-clause-mapped
returns-in-VerifyWithForms-clause-mapped g c group is = (let other = c.in-VerifyWithForms.is in absurd (cc))

pub returns-in-VerifyWithForms-clause-reported : goal.returns-in-VerifyWithForms-clause-reported
returns-in-VerifyWithForms-clause-reported g c workers is = (let other = c.in-VerifyWithForms.is in absurd (cc))

pub returns-in-VerifyWithForms-clause-verified : goal.returns-in-VerifyWithForms-clause-verified
returns-in-VerifyWithForms-clause-verified g c workers is = (let other = c.in-VerifyWithForms.is in absurd (cc))

pub returns-in-VerifyWithForms-clause-verified_with_forms : goal.returns-in-VerifyWithForms-clause-verified_with_forms
returns-in-VerifyWithForms-clause-verified_with_forms g c workers is =
    let matched = c.in-VerifyWithForms.is in
    let same : c.in-VerifyWithForms.workers ≡ workers = cc in
    subst (λ (n : ℕ). OnOk c.verify_with_forms.result (WritesVerifiedWithForms n c.args.input.now (g.S.Sink.state c.args.out.now).taken
    (g.S.Sink.state c.verify_with_forms.new.out).taken)) same c.verify_with_forms.ensures.verified

pub returns-in_default-clause-text : goal.returns-in_default-clause-text
returns-in_default-clause-text g c =
    text-on c.args.request c.args.input.now c.answer_auction.result (g.S.Sink.state c.args.out.now) (g.S.Sink.state c.answer_auction.new.out)
    c.answer_auction.ensures.written

pub returns-in_default-clause-compiled : goal.returns-in_default-clause-compiled
returns-in_default-clause-compiled g c =
    compiled-on c.args.request c.args.input.now c.answer_auction.result (g.S.Sink.state c.args.out.now) (g.S.Sink.state c.answer_auction.new.out)
    c.answer_auction.ensures.written

pub returns-in_default-clause-mapped : goal.returns-in_default-clause-mapped
returns-in_default-clause-mapped g c =
    mapped-on c.args.request c.args.input.now c.answer_auction.result (g.S.Sink.state c.args.out.now) (g.S.Sink.state c.answer_auction.new.out)
    c.answer_auction.ensures.written

pub returns-in_default-clause-reported : goal.returns-in_default-clause-reported
returns-in_default-clause-reported g c =
    reported-on c.args.request c.args.input.now c.answer_auction.result (g.S.Sink.state c.args.out.now) (g.S.Sink.state c.answer_auction.new.out)
    c.answer_auction.ensures.written

pub returns-in_default-clause-verified : goal.returns-in_default-clause-verified
returns-in_default-clause-verified g c =
    verified-on c.args.request c.args.input.now c.answer_auction.result (g.S.Sink.state c.args.out.now) (g.S.Sink.state c.answer_auction.new.out)
    c.answer_auction.ensures.written

pub returns-in_default-clause-verified_with_forms : goal.returns-in_default-clause-verified_with_forms
returns-in_default-clause-verified_with_forms g c workers is = absurd (c.in_default.not-VerifyWithForms workers is)

pub returns-in-Objects-clause-text : goal.returns-in-Objects-clause-text
returns-in-Objects-clause-text g c is = (let other = c.in-Objects.is in absurd (cc))

pub returns-in-Objects-clause-compiled : goal.returns-in-Objects-clause-compiled
returns-in-Objects-clause-compiled g c workers is = (let other = c.in-Objects.is in absurd (cc))

pub returns-in-Objects-clause-mapped : goal.returns-in-Objects-clause-mapped
returns-in-Objects-clause-mapped g c group is = (let other = c.in-Objects.is in absurd (cc))

pub returns-in-Objects-clause-reported : goal.returns-in-Objects-clause-reported
returns-in-Objects-clause-reported g c workers is = (let other = c.in-Objects.is in absurd (cc))

pub returns-in-Objects-clause-verified : goal.returns-in-Objects-clause-verified
returns-in-Objects-clause-verified g c workers is = (let other = c.in-Objects.is in absurd (cc))

pub returns-in-Objects-clause-verified_with_forms : goal.returns-in-Objects-clause-verified_with_forms
returns-in-Objects-clause-verified_with_forms g c workers is = (let other = c.in-Objects.is in absurd (cc))

pub returns-in-Objects-clause-verified_as_objects : goal.returns-in-Objects-clause-verified_as_objects
returns-in-Objects-clause-verified_as_objects g c workers is =
    objects-on (request.Objects c.in-Objects.objects) c.args.input.now c.write_objects.result (g.S.Sink.state c.args.out.now)
    (g.S.Sink.state c.write_objects.new.out) c.write_objects.ensures.written workers (sym c.in-Objects.is ∙ is)

pub returns-in-Check-clause-verified_as_objects : goal.returns-in-Check-clause-verified_as_objects
returns-in-Check-clause-verified_as_objects g c workers is = (let other = c.in-Check.is in absurd (cc))

pub returns-in-Forms-clause-verified_as_objects : goal.returns-in-Forms-clause-verified_as_objects
returns-in-Forms-clause-verified_as_objects g c workers is = (let other = c.in-Forms.is in absurd (cc))

pub returns-in-VerifyWithForms-clause-verified_as_objects : goal.returns-in-VerifyWithForms-clause-verified_as_objects
returns-in-VerifyWithForms-clause-verified_as_objects g c workers is = (let other = c.in-VerifyWithForms.is in absurd (cc))

pub returns-in_default-clause-verified_as_objects : goal.returns-in_default-clause-verified_as_objects
returns-in_default-clause-verified_as_objects g c workers is = absurd (c.in_default.not-Objects (objects.Verify workers) is)

pub answer_auction-requires-clause-of_auction : goal.answer_auction-requires-clause-of_auction
answer_auction-requires-clause-of_auction g c κs within =
    of-auction c.args.request c.in_default.not-Check c.in_default.not-Forms c.in_default.not-VerifyWithForms c.in_default.not-Objects
