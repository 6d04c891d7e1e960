use Rattle.std.proofs.Common.{ap, sym, ◌∙◌}
use Rattle.auction_terms.specs.Decimals.{without_sign}
use Rattle.auction_terms.proofs.TokenFacts.{exponent-digits}
use Rattle.auction_terms.proofs.token.read_token.Goals as goal

pub exponent_value-places-requires-clause-digits : goal.exponent_value-places-requires-clause-digits
exponent_value-places-requires-clause-digits c =
    exponent-digits c.args.bytes.now c.after_sign-exponent.result.now c.has_mark.result
    (c.after_sign-exponent.ensures ∙ ap without_sign c.pieces_of-pieces.ensures.exponent) c.has_mark.ensures
    (sym c.is_exponent.ensures ∙ c.if-not-is_exponent.false)
