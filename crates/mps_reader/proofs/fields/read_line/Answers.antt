use Rattle.std.proofs.Common.{ℕ, sym, ◌∙◌, ap}
use Rattle.std.specs.Prelude.{◌==◌}
use Rattle.std.proofs.lemmas.Bool.{eq-eqb, ne_eqb}
use Rattle.auction_terms.specs.Lines.{bytes_of}
use Rattle.mps_reader.proofs.NameFacts.{length-bytes}
use Rattle.mps_reader.proofs.LineCaseFacts.{line-empty, line-comment, line-blank, line-other, line-data, line-header, first-of}
use Rattle.mps_reader.proofs.fields.read_line.Goals as goal

pub returns-then-is_empty : goal.returns-then-is_empty
returns-then-is_empty c = line-empty c.args.bytes.now (sym c.if-is_empty.true ∙ c.is_empty.ensures)

pub returns-then-bytes-eq42 : goal.returns-then-bytes-eq42
returns-then-bytes-eq42 c = line-comment c.args.bytes.now (eq-eqb _ _ c.if-bytes-eq42.true)

pub returns-in_default : goal.returns-in_default
returns-in_default c = line-other c.args.bytes.now (ne_eqb _ _ c.if-bytes-eq42.false) c.in_default.ensures.other

pub returns-then-is_empty-2 : goal.returns-then-is_empty-2
returns-then-is_empty-2 c =
    line-blank c.args.bytes.now (bytes_of c.in-Ok.fields.items) c.in-Ok.ensures.fields (ne_eqb _ _ c.if-bytes-eq42.false)
    (ap (λ (n : ℕ). n == 0) (length-bytes c.in-Ok.fields.items) ∙ sym c.is_empty-2.ensures ∙ c.if-is_empty-2.true)

pub returns-then-is_space_byte : goal.returns-then-is_space_byte
returns-then-is_space_byte c =
    let filled = ap (λ (n : ℕ). n == 0) (length-bytes c.in-Ok.fields.items) ∙ sym c.is_empty-2.ensures ∙ c.if-is_empty-2.false in (
      line-data c.args.bytes.now (bytes_of c.in-Ok.fields.items) c.in-Ok.ensures.fields (ne_eqb _ _ c.if-bytes-eq42.false) filled
          c.in-Ok.ensures.text (sym c.is_space_byte.ensures ∙ c.if-is_space_byte.true),
      first-of c.args.bytes.now (bytes_of c.in-Ok.fields.items) c.in-Ok.ensures.fields filled c.in-Ok.ensures.text,
    )

pub returns : goal.returns
returns c =
    let filled = ap (λ (n : ℕ). n == 0) (length-bytes c.in-Ok.fields.items) ∙ sym c.is_empty-2.ensures ∙ c.if-is_empty-2.false in (
      line-header c.args.bytes.now (bytes_of c.in-Ok.fields.items) c.in-Ok.ensures.fields (ne_eqb _ _ c.if-bytes-eq42.false) filled
          c.in-Ok.ensures.text (sym c.is_space_byte.ensures ∙ c.if-is_space_byte.false),
      first-of c.args.bytes.now (bytes_of c.in-Ok.fields.items) c.in-Ok.ensures.fields filled c.in-Ok.ensures.text,
    )
