use Rattle.std.proofs.Common.{◌≡◌, [], true, take, drop, length, add-one, refl, arith, slice_index}
use Rattle.std.proofs.lemmas.List.{drop_all, take_all}
use Rattle.auction_terms.specs.Lines.{is_line_feed}
use Rattle.auction_input.proofs.PartFacts.{cut-at, cut-none}
use Rattle.auction_input.proofs.parts.line_end.Goals as goal

pub returns-then-byte-eq10-clause-cut : goal.returns-then-byte-eq10-clause-cut
returns-then-byte-eq10-clause-cut c =
    let feed : is_line_feed (slice_index c.args.text.now c.loop-end.end) ≡ true = rw c.if-byte-eq10.true refl in
    rw (add-one c.loop-end.end) (cut-at c.args.text.now c.loop-end.end c.loop-end-test.true c.loop-end.invariant feed)

pub returns-clause-cut : goal.returns-clause-cut
returns-clause-cut c =
    let text = c.args.text.now in
    let all : take (length text) text ≡ text = take_all (length text) text (omega arith) in
    let none : drop (length text) text ≡ [] = drop_all (length text) text (omega arith) in
    rw (all, none) (cut-none text c.requires (λ k small. c.loop-end.invariant k (omega arith)))
