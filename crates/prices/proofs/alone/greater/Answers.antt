use Rattle.std.proofs.Common.{refl, rules}
use Rattle.prices.proofs.FewFacts.{Greater, greater_is}
use Rattle.prices.proofs.alone.greater.Goals as goal

module _ (c : goal.After-max) where
  greater : Greater c.max.result c.args.cost c.args.reserve
  greater = greater_is c.max.result c.args.cost c.from.result c.args.reserve c.args.cost c.args.reserve c.max.ensures.value refl
      c.from.ensures refl c.requires.low c.requires.high (search rules)

pub overflow_cast-result : goal.overflow_cast-result
overflow_cast-result c = ((greater c).not_negative, (greater c).fits)
