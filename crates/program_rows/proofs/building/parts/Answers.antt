use Rattle.auction_terms.specs.Terms.{lots_in}
use Rattle.program_rows.proofs.BuiltFacts.{each_there}
use Rattle.auction_terms.specs.Offers.{offers}
use Rattle.program_rows.proofs.building.parts.Goals as goal

pub rows-requires : goal.rows-requires
rows-requires c = each_there (lots_in c.args.rules.now) (offers c.args.kept.now) _ c.requires.subjects

pub returns : goal.returns
returns c = record {
  objective = c.in_ok-objective_name.ensures;
  rows = c.in_ok-rows.ensures;
  columns = c.in_ok-columns.ensures;
}
