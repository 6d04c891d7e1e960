use Rattle.std.proofs.Common.{◌≡◌, ◌∙◌, false, true, sym, arith}
use Rattle.auction_terms.specs.inside.RecordFields.{begins_with, quote}
use Rattle.auction_terms.proofs.FieldFacts.{closed, doubled, gives_after, never_closed}
use Rattle.auction_terms.proofs.record_fields.unquote.Goals as goal

pub returns-then-not-begins_with-clause-given : goal.returns-then-not-begins_with-clause-given
returns-then-not-begins_with-clause-given c =
    let left = c.loop-mark.left.now in
    let after = c.split_at-in-Some.result.1.now in
    let plain : begins_with quote after ≡ false = sym c.begins_with.ensures.value ∙ c.if-not-begins_with.true in
    rw (
      c.in_ok-extend_from_slice-2.ensures.items,
      c.in_ok-extend_from_slice.ensures.items,
      c.split_at.ensures.front,
      c.split_at-then-not-begins_with.ensures.front,
      c.split_at-then-not-begins_with.ensures.back,
    )
    (gives_after c.args.bytes.now left c.args.field.now.items c.loop-mark.field.items _ _ c.loop-mark.invariant.same
    (closed c.loop-mark.field.items left after c.in-Some.mark c.in-Some.ensures.0.high c.in-Some.ensures.0.before c.in-Some.ensures.1
    c.split_at-in-Some.ensures.back c.field_end.result plain c.field_end.ensures.within c.field_end.ensures.before
    c.field_end.ensures.end))

pub loop-mark-preserved : goal.loop-mark-preserved
loop-mark-preserved c =
    let left = c.loop-mark.left.now in
    let after = c.split_at-in-Some.result.1.now in
    let begins : begins_with quote after ≡ true = sym c.begins_with.ensures.value ∙ c.if-not-begins_with.false in
    record {
      same = λ fields. rw (c.in_ok-push.ensures.items, c.in_ok-extend_from_slice.ensures.items, c.split_at.ensures.front, c.split_at-in-Some-2.ensures.back)
          (c.loop-mark.invariant.same fields
          ∙ doubled c.loop-mark.field.items left after c.in-Some.mark c.in-Some.ensures.0.high c.in-Some.ensures.0.before
          c.in-Some.ensures.1 c.split_at-in-Some.ensures.back fields begins);
      shorter = (let so_far = c.loop-mark.invariant.shorter in let one = c.split_at-in-Some.ensures.back_len in let two =
          c.split_at-in-Some-2.ensures.back_len in omega arith);
    }

pub returns-clause-given : goal.returns-clause-given
returns-clause-given c =
    rw c.in_ok-extend_from_slice-3.ensures.items
    (gives_after c.args.bytes.now c.loop-mark.left.now c.args.field.now.items c.loop-mark.field.items _ _ c.loop-mark.invariant.same
    (never_closed c.loop-mark.field.items c.loop-mark.left.now c.in_default.ensures))
