use Rattle.std.proofs.Common.{◌∙◌, ap}
use Rattle.rayon.proofs.ListFacts.{IfOk-then}
use Rattle.auction_terms.specs.Lines.{bytes_of}
use Rattle.auction_input.proofs.PartFacts.{texts_held}
use Rattle.auction_input.proofs.parts.texts_of.Goals as goal

pub returns : goal.returns
returns c = IfOk-then c.texts_held.result _ _ c.texts_held.ensures (λ texts is. ap bytes_of is ∙ texts_held c.args.kind c.args.parts.now)
