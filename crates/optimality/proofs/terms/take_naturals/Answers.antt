use Rattle.std.proofs.Common.{◌∷◌, [], ap, length, arith, length-append}
use Rattle.std.proofs.lemmas.Result.{err_from_is_err_and}
use Rattle.auction_terms.specs.LineFields.{fields}
use Rattle.optimality.specs.declared.terms.Naturals.{Naturals}
use Rattle.optimality.proofs.TermFacts.{naturals-next, naturals-stop, naturals-fault}
use Rattle.optimality.proofs.terms.take_naturals.Goals as goal

pub returns-in_default-clause-parsed : goal.returns-in_default-clause-parsed
returns-in_default-clause-parsed c = naturals-stop _ c.args.count c.loop-i.i c.loop-i.numbers.items (fields c.loop-i.rest.now)
    c.loop-i-test.true c.in_default.ensures.first c.loop-i.invariant.1

pub returns-in_err-number-clause-parsed : goal.returns-in_err-number-clause-parsed
returns-in_err-number-clause-parsed c =
    let p = err_from_is_err_and c.from_residual.result c.from_residual.ensures.1 in
    rw (p.1, p.2) (naturals-fault {X = Naturals} (λ n. (n.numbers.items, fields n.rest.now)) _ _ c.args.count c.loop-i.i
    c.loop-i.numbers.items (fields c.loop-i.rest.now) (fields c.in-Some.token.rest.now) c.in-Some.token.text.now c.loop-i-test.true
    c.in-Some.ensures.first c.in_err-number.ensures c.loop-i.invariant.1)

pub loop-i-preserved : goal.loop-i-preserved
loop-i-preserved c = (
  omega (arith, ap length c.in_ok-push.ensures.items, length-append c.loop-i.numbers.items (c.in_ok-number.number ∷ []), c.loop-i.invariant.0),
  naturals-next _ c.args.count c.loop-i.i c.loop-i.numbers.items _ (fields c.loop-i.rest.now) (fields c.in-Some.token.rest.now)
      c.in-Some.token.text.now c.in_ok-number.number c.loop-i-test.true c.in-Some.ensures.first c.in_ok-number.ensures
      c.in_ok-push.ensures.items c.loop-i.invariant.1,
)
