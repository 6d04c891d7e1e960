use Rattle.std.proofs.Common.{sym, ◌∙◌}
use Rattle.auction_terms.proofs.WeighedFacts.{worthless}
use Rattle.auction_terms.proofs.worth.worth_where.Goals as goal

pub returns-else-is_valued-clause-worth : goal.returns-else-is_valued-clause-worth
returns-else-is_valued-clause-worth c = sym (worthless c.args.categories.now c.args.quantities.now (sym c.requires.known ∙ c.if-is_valued.false))
