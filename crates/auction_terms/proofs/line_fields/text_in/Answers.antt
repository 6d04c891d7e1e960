use Rattle.std.proofs.Common.{not, sym, ap, ◌∙◌, arith}
use Rattle.std.proofs.lemmas.List.Sums.{position_or_len_is}
use Rattle.auction_terms.specs.LineFields.{is_space}
use Rattle.auction_terms.proofs.line_fields.text_in.Goals as goal

pub returns-then-not-is_white-clause-value : goal.returns-then-not-is_white-clause-value
returns-then-not-is_white-clause-value c = sym (position_or_len_is (λ b. not (is_space b)) c.args.line.now c.loop-i.i 0 c.loop-i.invariant.0
    (λ k h. ap not (c.loop-i.invariant.1 k h)) (λ _. ap not (sym c.is_white.ensures ∙ c.if-not-is_white.true)))

pub returns-clause-value : goal.returns-clause-value
returns-clause-value c = sym (position_or_len_is (λ b. not (is_space b)) c.args.line.now c.loop-i.i 0 c.loop-i.invariant.0
    (λ k h. ap not (c.loop-i.invariant.1 k h)) (λ h. absurd (omega (arith, c.loop-i-test.false))))
