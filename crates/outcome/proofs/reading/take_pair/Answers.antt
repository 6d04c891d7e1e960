use Rattle.std.proofs.Common.{◌∙◌, sym}
use Rattle.outcome.proofs.SaidFacts.{noted, not_valued, repeated, unknown, valued}
use Rattle.outcome.proofs.reading.take_pair.Goals as goal

pub returns-in_default-clause-answer : goal.returns-in_default-clause-answer
returns-in_default-clause-answer c =
    λ before is. unknown c.args.columns.now.names.keys before c.args.place c.args.name.now c.args.token.now c.in_default.ensures.index

pub returns-then-is_some-clause-answer : goal.returns-then-is_some-clause-answer
returns-then-is_some-clause-answer c = λ before is.
    repeated c.args.columns.now.names.keys before c.args.place c.args.name.now c.args.token.now c.args.said.now c.in-Some.column is
    c.in-Some.ensures.index (sym c.is_some.ensures ∙ c.if-is_some.true)

pub returns-in-Err-clause-answer : goal.returns-in-Err-clause-answer
returns-in-Err-clause-answer c = λ before is.
    not_valued c.args.columns.now.names.keys before c.args.place c.args.name.now c.args.token.now c.args.said.now c.in-Some.column
    c.in-Err.fault c.at_line.result is c.in-Some.ensures.index (sym c.is_some.ensures ∙ c.if-is_some.false) c.in-Err.ensures
    c.at_line.ensures

pub returns-clause-answer : goal.returns-clause-answer
returns-clause-answer c = λ before is.
    valued c.args.columns.now.names.keys before c.args.place c.args.name.now c.args.token.now c.args.said.now c.in-Some.column c.in-Ok.value
    is c.in-Some.ensures.index (sym c.is_some.ensures ∙ c.if-is_some.false) c.in-Ok.ensures

pub returns-clause-kept : goal.returns-clause-kept
returns-clause-kept c = λ before line distinct is full two.
    noted c.args.columns.now.names.keys before c.args.place c.args.name.now c.args.token.now c.in-Some.column c.in-Ok.value c.args.said.now
    line distinct is full two c.in-Some.ensures.index (sym c.is_some.ensures ∙ c.if-is_some.false) c.in-Ok.ensures
