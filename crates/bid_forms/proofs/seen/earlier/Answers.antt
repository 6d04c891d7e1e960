use Rattle.std.proofs.Common.{◌≡◌, ◌∙◌, false, sym, nat_eq}
use Rattle.std.specs.List.{list_any}
use Rattle.bid_forms.proofs.PackageFacts.{seen-more, still-known, unseen-is-new}
use Rattle.bid_forms.proofs.RecordFacts.{when-not-true}
use Rattle.bid_forms.proofs.seen.earlier.Goals as goal

pub returns-in-Ok-true-clause-number : goal.returns-in-Ok-true-clause-number
returns-in-Ok-true-clause-number c =
    let unknown : list_any (nat_eq c.fingerprint-print.result) c.args.seen.now.prints.keys ≡ false =
    when-not-true _ (sym c.in-Ok-true.field-0-test ∙ c.in-Ok-true.ensures.added) in
    sym (unseen-is-new c.args.seen.now.multiplier 1 c.args.seen.now.prints.keys c.args.quantities.now c.args.bids.now c.requires.seen
    (rw c.fingerprint-print.ensures at unknown))

pub returns-in-Ok-true-clause-seen : goal.returns-in-Ok-true-clause-seen
returns-in-Ok-true-clause-seen c bid is =
    seen-more c.args.seen.now.multiplier c.args.seen.now.prints.keys c.insert.new.self.keys c.args.bids.now bid c.requires.seen
    (λ q. still-known (nat_eq c.fingerprint-print.result q) _ _ (c.in-Ok-true.ensures.updates.0 q))
    (rw (is, ← c.fingerprint-print.ensures) c.in-Ok-true.ensures.updates.1)

pub returns-in-Ok-false-clause-seen : goal.returns-in-Ok-false-clause-seen
returns-in-Ok-false-clause-seen c bid is =
    seen-more c.args.seen.now.multiplier c.args.seen.now.prints.keys c.insert.new.self.keys c.args.bids.now bid c.requires.seen
    (λ q. still-known (nat_eq c.fingerprint-print.result q) _ _ (c.in-Ok-false.ensures.updates.0 q))
    (rw (is, ← c.fingerprint-print.ensures) c.in-Ok-false.ensures.updates.1)
