use Rattle.std.proofs.Common.{◌≡◌, ◌∷◌, ◌++◌, [], ap, arith, length, refl}
use Rattle.csv.specs.Records.{fields_of}
use Rattle.auction_terms.proofs.JudgeFacts.{holds-both, holds-none}
use Rattle.bid_forms.proofs.FormFacts.{bids-all, bids-more, enough-all, enough-here}
use Rattle.bid_forms.specs.FormText.{bid_faults}
use Rattle.bid_forms.proofs.form_text.read_bids.Goals as goal

pub loop-bids-init : goal.loop-bids-init
loop-bids-init c =
    let empty = c.new-bids.ensures.items in
    let none = ap length empty in (
      [],
      record {
        accepted = [];
        found_are = refl;
        bids_are = empty;
        whole = λ same. refl;
        place_is = refl;
        are = record { few = omega arith; each = λ k d small. absurd (omega arith); differ = λ i j d less small. absurd (omega arith) };
      },
      holds-none c.args.faults.now,
      λ k d small. absurd (omega arith),
    )

pub loop-bids-preserved : goal.loop-bids-preserved
loop-bids-preserved c =
    let (so_far, so, told, seen) = c.loop-bids.invariant in
    let r = fields_of c.next.new.row in
    let t = c.args.rules.now in
    let next : c.loop-bids.reader ≡ r ∷ c.next.new.self = rw c.if-branch.true at c.in_ok-next.ensures.next in (
      so_far ++ bid_faults t c.args.eligibility c.loop-bids.place c.loop-bids.bids.items r,
      bids-more t c.args.eligibility c.args.reader.now c.loop-bids.reader c.next.new.self c.loop-bids.place c.loop-bids.bids.items
          c.take_bid.new.bids.items so_far r so next c.in_ok-take_bid.ensures.bids,
      holds-both _ _ _ _ _ told c.in_ok-take_bid.ensures.told,
      c.in_ok-take_bid.ensures.seen,
    )

pub returns-then-has_enough : goal.returns-then-has_enough
returns-then-has_enough c =
    let (so_far, so, told, seen) = c.loop-bids.invariant in
    let r = fields_of c.next.new.row in
    let t = c.args.rules.now in
    let next : c.loop-bids.reader ≡ r ∷ c.next.new.self = rw c.if-branch.true at c.in_ok-next.ensures.next in
    let now = bids-more t c.args.eligibility c.args.reader.now c.loop-bids.reader c.next.new.self c.loop-bids.place c.loop-bids.bids.items
    c.take_bid.new.bids.items so_far r so next c.in_ok-take_bid.ensures.bids in
    let enough = c.has_enough.ensures c.if-has_enough.true in
    record {
      found = enough-here _ _ _ _ _ now.found_are (holds-both _ _ _ _ _ told c.in_ok-take_bid.ensures.told) enough;
      bids = λ empty. absurd (let some = enough.1 in omega arith);
      are = now.are;
    }

pub returns : goal.returns
returns c =
    let (so_far, so, told, seen) = c.loop-bids.invariant in
    let none : c.loop-bids.reader ≡ [] = rw c.if-branch.false at c.in_ok-next.ensures.next in
    let all = bids-all c.args.rules.now c.args.eligibility c.args.reader.now c.loop-bids.reader c.loop-bids.place c.loop-bids.bids.items so_far so none in
    record { found = rw all.0 (enough-all _ _ so_far told); bids = λ empty. all.1; are = so.are }
