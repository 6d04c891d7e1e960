use Rattle.std.proofs.Common.{◌<◌, length, ap, sym, ◌∙◌, subst, arith}
use Rattle.std.specs.Prelude.{slice_index_or}
use Rattle.bid_desk.proofs.SlotFacts.{slot-before, slot-within}
use Rattle.bid_desk.specs.inside.Slots.{empty_slot, slot_of}
use Rattle.bid_desk.proofs.slots.missing.Goals as goal

pub returns-then-slot-ne1-clause-some : goal.returns-then-slot-ne1-clause-some
returns-then-slot-ne1-clause-some c =
    let (known, is) = c.in-Some.ensures.some in
    record {
      known = known;
      wrong = λ one. c.if-slot-ne1.true (ap (λ m. (slice_index_or c.args.slots.now m empty_slot).times) (sym is) ∙ one);
      first = λ b s of_rules before. c.loop-place.invariant b s of_rules
          (subst (λ m. slot_of b s < m) is (slot-before b s c.in-Some.bidder c.in-Some.session of_rules.bidder_least of_rules.session_least
          (c.requires.most b s of_rules) known.session_least before));
    }

pub returns-clause-none : goal.returns-clause-none
returns-clause-none c b s known =
    c.loop-place.invariant b s known
    (let within = slot-within b s (length c.args.rules.now.bidders) known.bidder_least known.bidder_most known.session_least
    (c.requires.most b s known) in let size = c.requires.size in let end = c.loop-place-test.false in omega arith)
