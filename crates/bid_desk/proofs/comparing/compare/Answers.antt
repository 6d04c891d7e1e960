use Rattle.std.proofs.Common.{refl}
use Rattle.bid_desk.proofs.CompareFacts.{compared-start}
use Rattle.bid_desk.proofs.comparing.compare.Goals as goal

pub loop-place-init : goal.loop-place-init
loop-place-init g c = compared-start c.args.sessions.now c.args.chair.now _ (c.in_ok-vec.ensures.items_if_clones_equal (λ y same. same)) refl
