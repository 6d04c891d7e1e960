use Rattle.std.proofs.Common.{◌≡◌, true, refl, sym, ◌∙◌}
use Rattle.std.specs.Prelude.{◌==◌, slice_index}
use Rattle.auction_terms.specs.LineFields.{fields}
use Rattle.auction_input.proofs.price_reading.given_line.Goals as goal

pub returns-then-is_comment : goal.returns-then-is_comment
unfolding fields
returns-then-is_comment c =
    let comment : (slice_index c.args.line.now 0 == 35) ≡ true = sym c.is_comment.ensures ∙ c.if-is_comment.true in
    rw (comment, c.as_slice.ensures) refl
