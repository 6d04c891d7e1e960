use Rattle.std.proofs.Common.{sym, arith}
use Rattle.std.proofs.lemmas.Bool.{eq-eqb}
use Rattle.std.proofs.lemmas.List.Sums.{position_or_len_is}
use Rattle.std.specs.Prelude.{◌==◌}
use Rattle.program_rows.proofs.spelling.bar_in.Goals as goal

pub returns-then-bytes-i-eq95-clause-value : goal.returns-then-bytes-i-eq95-clause-value
returns-then-bytes-i-eq95-clause-value c = sym (position_or_len_is (λ b. b == 95) c.args.bytes.now c.loop-i.i 0 c.loop-i.invariant.0
    c.loop-i.invariant.1 (λ _. eq-eqb _ _ c.if-bytes-i-eq95.true))

pub returns-clause-value : goal.returns-clause-value
returns-clause-value c = sym (position_or_len_is (λ b. b == 95) c.args.bytes.now c.loop-i.i 0 c.loop-i.invariant.0 c.loop-i.invariant.1
    (λ h. absurd (omega (arith, c.loop-i-test.false))))
