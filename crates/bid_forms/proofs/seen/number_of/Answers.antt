use Rattle.std.proofs.Common.{◌≡◌, ◌∙◌, true, false, sym, bytes_eq}
use Rattle.bid_forms.proofs.PackageFacts.{number-step}
use Rattle.bid_forms.proofs.seen.number_of.Goals as goal

pub returns-then-eq : goal.returns-then-eq
returns-then-eq c =
    let next = number-step c.args.quantities.now c.args.bids.now c.loop-place.place c.index-bids-place.result c.loop-place-test.true c.index-bids-place.is in
    let shown : c.quantities.result.now ≡ c.index-bids-place.result.package = c.quantities.ensures.quantities in
    let same : bytes_eq c.args.quantities.now c.index-bids-place.result.package ≡ true = rw shown at (sym c.if-eq.ensures) in
    sym (rw same at next) ∙ c.loop-place.invariant

pub loop-place-preserved : goal.loop-place-preserved
loop-place-preserved c =
    let next = number-step c.args.quantities.now c.args.bids.now c.loop-place.place c.index-bids-place.result c.loop-place-test.true c.index-bids-place.is in
    let shown : c.quantities.result.now ≡ c.index-bids-place.result.package = c.quantities.ensures.quantities in
    let other : bytes_eq c.args.quantities.now c.index-bids-place.result.package ≡ false = rw shown at (sym c.if-eq.ensures) in
    sym (rw other at next) ∙ c.loop-place.invariant
