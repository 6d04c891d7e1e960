use Rattle.std.proofs.Common.{◌≡◌, ◌∙◌, rules, count_by}
use Rattle.std.proofs.iter.runs.Made.{chains}
use Rattle.auction_input.specs.inside.Parts.{is_held}
use Rattle.auction_input.proofs.PartFacts.{count_held}
use Rattle.auction_input.proofs.parts.count_of.Goals as goal

pub returns : goal.returns
returns c =
    let found : c.count.result ≡ count_by (is_held c.args.kind) c.args.parts.now =
    search (rules, chains, c.iter.ensures.runs, c.filter.ensures.runs, c.count.ensures.runs) in
    found ∙ count_held c.args.kind c.args.parts.now
