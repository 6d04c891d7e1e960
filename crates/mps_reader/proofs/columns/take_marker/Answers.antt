use Rattle.std.proofs.Common.{true, ◌≡◌, ◌&&◌, ◌∙◌, ap, ap₂, sym, arith, not}
use Rattle.std.specs.Prelude.{bytes_eq, codes}
use Rattle.auction_terms.specs.LineFields.{field}
use Rattle.auction_terms.specs.Lines.{bytes_of}
use Rattle.mps_reader.proofs.RowStepFacts.{field-at}
use Rattle.mps_reader.proofs.MarkerFacts.{begins-again, ends-none}
use Rattle.mps_reader.proofs.columns.take_marker.Goals as goal

pub returns-then-is_begun-clause-fault : goal.returns-then-is_begun-clause-fault
returns-then-is_begun-clause-fault c = λ lines h.
    let word : bytes_eq (field 2 (bytes_of c.args.fields.now)) (codes "'INTORG'") ≡ true =
    ap (λ w. bytes_eq w (codes "'INTORG'")) (field-at c.args.fields.now 2 (omega arith)) ∙ sym c.is_word-begins.ensures ∙ c.if-begins.true in
    begins-again lines (bytes_of c.args.fields.now) c.args.is_begun h (ap₂ (λ a b. a && b) word c.if-is_begun.true)

pub returns-then-not-is_begun-clause-fault : goal.returns-then-not-is_begun-clause-fault
returns-then-not-is_begun-clause-fault c = λ lines h.
    let word : bytes_eq (field 2 (bytes_of c.args.fields.now)) (codes "'INTEND'") ≡ true =
    ap (λ w. bytes_eq w (codes "'INTEND'")) (field-at c.args.fields.now 2 (omega arith)) ∙ sym c.is_word-ends.ensures ∙ c.if-ends.true in
    ends-none lines (bytes_of c.args.fields.now) c.args.is_begun h (ap₂ (λ a b. a && not b) word c.if-not-is_begun.true)
