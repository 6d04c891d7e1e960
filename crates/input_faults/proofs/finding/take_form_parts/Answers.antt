use Rattle.std.proofs.Common.{◌∙◌, ap, length, sym}
use Rattle.std.proofs.lemmas.List.{length-map}
use Rattle.std.specs.Prelude.{codes}
use Rattle.auction_input.proofs.PartFacts.{as-many-numbers}
use Rattle.auction_input.specs.Parts.{parts_held}
use Rattle.auction_terms.specs.Lines.{bytes_of}
use Rattle.input_faults.proofs.finding.take_form_parts.Goals as goal

pub take_forms-requires : goal.take_forms-requires
take_forms-requires c =
    ap length (c.as_slice-2.ensures.value ∙ c.in_ok-numbers.ensures) ∙ as-many-numbers (codes "%form") (parts_held c.args.parts.now)
    ∙ ap length (sym c.in_ok-texts.ensures) ∙ length-map c.in_ok-texts.texts.items (λ text. text.now) ∙ ap length (sym c.as_slice.ensures.value)

pub returns-clause-faults : goal.returns-clause-faults
returns-clause-faults c =
    let texts = ap bytes_of c.as_slice.ensures.value ∙ c.in_ok-texts.ensures in
    rw texts at c.in_ok-together.ensures.faults

pub returns-clause-another : goal.returns-clause-another
returns-clause-another c =
    let texts = ap bytes_of c.as_slice.ensures.value ∙ c.in_ok-texts.ensures in
    let numbers = c.as_slice-2.ensures.value ∙ c.in_ok-numbers.ensures in
    rw (texts, numbers) at c.in_ok-together.ensures.another

pub returns-clause-call : goal.returns-clause-call
returns-clause-call c =
    let texts = ap bytes_of c.as_slice.ensures.value ∙ c.in_ok-texts.ensures in
    rw texts at c.in_ok-together.ensures.call
