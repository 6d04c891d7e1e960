use Rattle.std.proofs.Common.{◌≡◌, ap, arith}
use Rattle.std.specs.Prelude.{unsigned_abs}
use Rattle.std.proofs.lemmas.Int.{ints}
use Rattle.optimality.specs.Certificates.{number_in}
use Rattle.optimality.specs.Adding.{number_at}
use Rattle.optimality.proofs.PlaceSizeFacts.{number-size}
use Rattle.optimality.proofs.sums.added_up.Goals as goal

pub returns-clause-size : goal.returns-clause-size
returns-clause-size c q =
    let given = c.in_ok-add_terms.ensures.value q in
    let none = c.clear.ensures q in
    let is : number_at c.add_terms.new.sums.numbers.items q ≡ number_in c.args.terms.now q = omega (arith, ints) in
    let same : unsigned_abs (number_at c.add_terms.new.sums.numbers.items q) ≡ unsigned_abs (number_in c.args.terms.now q) = ap unsigned_abs is in
    omega (arith, c.in_ok-taken.ensures.size q, number-size c.args.terms.now q)
