use Rattle.std.proofs.Common.{rules}
use Rattle.optimality.proofs.ProductBoundFacts.{product_within}
use Rattle.optimality.proofs.arithmetic.plus_multiple.Goals as goal

pub plus_product-requires : goal.plus_product-requires
plus_product-requires c =
    let within = product_within c.args.factor c.args.number c.product.result c.ranges.factor c.ranges.number (search rules) c.product.ensures in
    record { low = within.0; high = within.1 }
