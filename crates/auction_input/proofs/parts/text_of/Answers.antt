use Rattle.std.proofs.Common.{◌∙◌, None, Some, sym}
use Rattle.auction_input.proofs.PartFacts.{first_held}
use Rattle.auction_input.proofs.parts.text_of.Goals as goal

pub returns-in-Some : goal.returns-in-Some
returns-in-Some c = first_held c.args.kind c.args.parts.now (Some c.in-Some.part.now) (sym c.in-Some.ensures)

pub returns-in-None : goal.returns-in-None
returns-in-None c = c.as_slice.ensures ∙ first_held c.args.kind c.args.parts.now None (sym c.in-None.ensures)
