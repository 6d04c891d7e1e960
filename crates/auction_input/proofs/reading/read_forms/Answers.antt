use Rattle.std.proofs.Common.{◌≤◌, ◌+◌, arith, length}
use Rattle.auction_input.specs.Refused.{Refuses}
use Rattle.auction_terms.specs.Lines.{bytes_of}
use Rattle.auction_input.specs.ParsedTexts.{parsed_form}
use Rattle.auction_terms.specs.Stages.{each_in_turn}
use Rattle.auction_input.proofs.StepFacts.{if-err-of}
use Rattle.auction_input.proofs.FormStageFacts.{all-read, none-read, stage-read, stage-refused}
use Rattle.auction_input.proofs.reading.read_forms.Goals as goal

pub loop-start-init : goal.loop-start-init
loop-start-init g c = none-read c.args.rules.now c.args.texts.now c.new-forms.result.items c.new-forms.ensures.items

pub loop-start-preserved : goal.loop-start-preserved
loop-start-preserved g c =
    let i = c.loop-start in
    let size = c.min.ensures in
    let order : i.start ≤ i.start + c.min.result = omega arith in
    let within : i.start + c.min.result ≤ length c.args.texts.now = omega arith in
    stage-read c.args.rules.now c.args.texts.now i.start (i.start + c.min.result) i.forms.items c.read_more.new.forms.items order within
    i.invariant c.in_ok-read_more.ensures.parsed

pub loop-start-smaller : goal.loop-start-smaller
loop-start-smaller g c =
    let size = c.min.ensures in
    omega arith

pub returns-clause-parsed : goal.returns-clause-parsed
returns-clause-parsed g c =
    let all : length c.args.texts.now ≤ c.loop-start.start = omega arith in
    all-read c.args.rules.now c.args.texts.now c.loop-start.start c.loop-start.forms.items all c.loop-start.invariant

pub returns-clause-meet : goal.returns-clause-meet
returns-clause-meet g c = c.loop-start.invariant.3

pub returns-in_err-read_more-clause-refuses : goal.returns-in_err-read_more-clause-refuses
returns-in_err-read_more-clause-refuses g c =
    let i = c.loop-start in
    let order : i.start ≤ i.start + c.min.result = omega arith in
    let r = c.in_err-read_more.field-0.0 in
    if-err-of (Refuses (each_in_turn (parsed_form c.args.rules.now) 1 (bytes_of c.args.texts.now))) c.from_residual.result r c.from_residual.ensures.1
    (stage-refused c.args.rules.now c.args.texts.now i.start (i.start + c.min.result) i.forms.items r order i.invariant c.in_err-read_more.ensures.refuses)
