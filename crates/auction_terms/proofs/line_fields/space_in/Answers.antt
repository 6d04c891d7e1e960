use Rattle.std.proofs.Common.{sym, ◌∙◌, arith}
use Rattle.std.proofs.lemmas.List.Sums.{position_or_len_is}
use Rattle.auction_terms.specs.LineFields.{is_space}
use Rattle.auction_terms.proofs.line_fields.space_in.Goals as goal

pub returns-then-is_white-clause-value : goal.returns-then-is_white-clause-value
returns-then-is_white-clause-value c = sym (position_or_len_is is_space c.args.line.now c.loop-i.i 0 c.loop-i.invariant.0
    c.loop-i.invariant.1 (λ _. sym c.is_white.ensures ∙ c.if-is_white.true))

pub returns-clause-value : goal.returns-clause-value
returns-clause-value c = sym (position_or_len_is is_space c.args.line.now c.loop-i.i 0 c.loop-i.invariant.0 c.loop-i.invariant.1
    (λ h. absurd (omega (arith, c.loop-i-test.false))))
