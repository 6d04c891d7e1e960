use Rattle.std.proofs.Common.{◌≡◌, false, true, List, ℕ, subst, sym}
use Rattle.optimality.specs.inside.Adding.{has_place}
use Rattle.optimality.proofs.PlaceFacts.{place-pushed, pushed-keeps}
use Rattle.optimality.proofs.sums.list_new.Goals as goal

pub returns-in_ok-push-clause-kept : goal.returns-in_ok-push-clause-kept
returns-in_ok-push-clause-kept c q none =
    pushed-keeps c.args.places.now.items c.args.place q (subst (λ (places : List ℕ). has_place places q ≡ false) c.in_ok-push.ensures.items none)

pub returns-in_ok-push-clause-listed : goal.returns-in_ok-push-clause-listed
returns-in_ok-push-clause-listed c zero =
    subst (λ (places : List ℕ). has_place places c.args.place ≡ true) (sym c.in_ok-push.ensures.items) (place-pushed c.args.places.now.items c.args.place)
