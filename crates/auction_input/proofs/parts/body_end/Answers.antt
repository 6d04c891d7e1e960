use Rattle.std.proofs.Common.{sym, ◌∙◌}
use Rattle.auction_input.proofs.PartFacts.{found-before, none-found-before}
use Rattle.auction_input.proofs.parts.body_end.Goals as goal

pub returns-in-Some-clause-bytes : goal.returns-in-Some-clause-bytes
returns-in-Some-clause-bytes c = (found-before 0 c.args.text.now c.in-Some.feed (sym c.is_headed.ensures ∙ c.if-is_headed.false)
    (rw c.in-Some.is at c.find.ensures)).0.0

pub returns-in-Some-clause-parts : goal.returns-in-Some-clause-parts
returns-in-Some-clause-parts c = λ n. (found-before n c.args.text.now c.in-Some.feed (sym c.is_headed.ensures ∙ c.if-is_headed.false)
    (rw c.in-Some.is at c.find.ensures)).0.1

pub returns-in-Some-clause-next : goal.returns-in-Some-clause-next
returns-in-Some-clause-next c = λ _. (found-before 0 c.args.text.now c.in-Some.feed (sym c.is_headed.ensures ∙ c.if-is_headed.false)
    (rw c.in-Some.is at c.find.ensures)).1

pub returns-in-None-clause-bytes : goal.returns-in-None-clause-bytes
returns-in-None-clause-bytes c = (none-found-before 0 c.args.text.now (sym c.is_headed.ensures ∙ c.if-is_headed.false) (rw c.in-None.is at c.find.ensures)).0

pub returns-in-None-clause-parts : goal.returns-in-None-clause-parts
returns-in-None-clause-parts c =
    λ n. (none-found-before n c.args.text.now (sym c.is_headed.ensures ∙ c.if-is_headed.false) (rw c.in-None.is at c.find.ensures)).1
