use Rattle.std.proofs.Common.{◌*◌, ◌^◌, arith}
use Rattle.std.proofs.Math.Nat.{mul-le-mul_left, mul-le-mul_right}
use Rattle.auction_terms.proofs.PowerFacts.{past_limit, pow_above, pow_some}
use Rattle.auction_terms.proofs.decimals.raised.Goals as goal

pub returns-then-places-gt18 : goal.returns-then-places-gt18
returns-then-places-gt18 c =
    past_limit (c.args.digits * 10 ^ c.args.places) (omega (
      arith,
      pow_above 19 c.args.places c.if-places-gt18.true,
      mul-le-mul_right (10 ^
          c.args.places) c.requires.some,
    ))

pub returns-then-digits-gt-LIMIT : goal.returns-then-digits-gt-LIMIT
returns-then-digits-gt-LIMIT c =
    past_limit (c.args.digits * 10 ^ c.args.places) (omega (
      arith,
      mul-le-mul_left {m = 1} {n = 10 ^ c.args.places} c.args.digits (pow_some
          c.args.places),
      c.if-digits-gt-LIMIT.true,
    ))
