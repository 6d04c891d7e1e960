use Rattle.std.proofs.Common.{◌∙◌, None, Some, inl, sym}
use Rattle.auction_input.specs.Refused.{Refuses}
use Rattle.auction_input.specs.ParsedParts.{parsed_parts}
use Rattle.auction_input.specs.declared.refusal.Refusal.TheVariants as refusal
use Rattle.auction_input.proofs.AuctionFacts.{counted, parts-refused}
use Rattle.auction_input.proofs.StepFacts.{if-err-of}
use Rattle.auction_input.proofs.auction.read_parts.Goals as goal

pub returns-in_err-parts-clause-refuses : goal.returns-in_err-parts-clause-refuses
returns-in_err-parts-clause-refuses c =
    let f = c.in_err-parts.field-0.0 in
    if-err-of (Refuses (parsed_parts c.args.request.now c.args.input.now)) c.from_residual.result (refusal.Parts f)
    c.from_residual.ensures.1 (parts-refused c.args.request.now c.args.input.now f c.in_err-parts.ensures)

pub returns-in-None-clause-parsed : goal.returns-in-None-clause-parsed
returns-in-None-clause-parsed c =
    let count = rw c.as_slice.ensures.value at c.miscounted.ensures in
    counted c.args.request.now c.args.input.now c.in_ok-parts.parts None c.in_ok-parts.ensures (sym count ∙ c.in-None.is)

pub returns-clause-refuses : goal.returns-clause-refuses
returns-clause-refuses c =
    let count = rw c.as_slice.ensures.value at c.miscounted.ensures in
    inl (counted c.args.request.now c.args.input.now c.in_ok-parts.parts (Some c.in-Some.kind) c.in_ok-parts.ensures (sym count ∙ c.in-Some.is))
