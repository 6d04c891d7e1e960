use Rattle.std.proofs.Common.{◌∙◌}
use Rattle.rayon.proofs.ListFacts.{IfOk-then}
use Rattle.auction_input.proofs.PartFacts.{numbers_held}
use Rattle.auction_input.proofs.parts.text_numbers_of.Goals as goal

pub returns : goal.returns
returns c = IfOk-then c.numbers_held.result _ _ c.numbers_held.ensures (λ numbers is. is ∙ numbers_held c.args.kind c.args.parts.now)
