use Rattle.std.proofs.Common.{rules}
use Rattle.optimality.proofs.ProductBoundFacts.{product_within}
use Rattle.optimality.proofs.sums.add_product.Goals as goal

pub add_product-requires : goal.add_product-requires
add_product-requires c =
    let within = product_within c.args.factor c.args.number c.product.result c.ranges.factor c.ranges.number (search rules) c.product.ensures in
    record { low = within.0; high = within.1 }
