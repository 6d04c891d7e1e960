use Rattle.std.proofs.Common.{◌≡◌, ◌+◌, ◌∙◌, ◌∷◌, ◌++◌, ℕ, Bool, List, [], cond, length, set, ap, arith, rules}
use Rattle.std.proofs.lemmas.List.{length_push}
use Rattle.auction_terms.specs.declared.bids.Choice.{Choice}
use Rattle.auction_terms.specs.Domination.{net}
use Rattle.auction_terms.specs.Terms.{lots_in}
use Rattle.outcome.specs.inside.Following.{each_put, replaces}
use Rattle.outcome.proofs.NumberFacts.{numbers_from, numbers_next}
use Rattle.outcome.proofs.PutFacts.{none_found, one_found}
use Rattle.outcome.proofs.following.add_replaced.Goals as goal
use Rattle.outcome.proofs.following.add_replaced.Goals.{then-replaces+in_ok-with_bid+in_ok-push, else-replaces}

pub loop-at-preserved : goal.loop-at-preserved
loop-at-preserved c =
    let lots = lots_in c.args.book.now.rules in
    let s = c.args.seat.now in
    let q = replaces lots s.winner.bids.now s.winner.choice.bid (net lots s.winner.won.now) s.others in
    let at = c.loop-at.at in
    let put : List ℕ → List (List Choice) = λ numbers. each_put s.award.now s.place s.winner.choice.bidder numbers in
    let next = numbers_next q s.winner.bids.now at c.x-item.result c.replaces.result c.loop-at-test.true c.x-item.is c.replaces.ensures in
    let whole = c.args.found.now.items ++ put (numbers_from q s.winner.bids.now 0) in
    elim c.if-replaces.branch [
      | then-replaces+in_ok-with_bid+in_ok-push w ↦ (
          let pushed : w.push.new.self.items ≡ c.loop-at.found.items ++ w.in_ok-with_bid.field-0 ∷ [] = search rules in
          let new : c.if-replaces.found.items ≡ c.loop-at.found.items ++ set s.award.now s.place (record { bidder = s.winner.choice.bidder; bid = at + 1 }) ∷ [] =
          ap (λ v. v.items) w.found-is ∙ pushed ∙ ap (λ (v : List Choice). c.loop-at.found.items ++ v ∷ []) w.in_ok-with_bid.ensures in
          let grown = length_push c.loop-at.found.items (set s.award.now s.place (record { bidder = s.winner.choice.bidder; bid = at + 1 })) in
          record {
            found_are = one_found c.args.most c.loop-at.found.items c.if-replaces.found.items (put (numbers_from q s.winner.bids.now (at + 1)))
                (put (numbers_from q s.winner.bids.now at)) whole (set s.award.now s.place (record { bidder = s.winner.choice.bidder; bid = at + 1 })) new
                (ap put (next ∙ ap (λ (b : Bool). cond b ((at + 1) ∷ numbers_from q s.winner.bids.now (at + 1)) (numbers_from q s.winner.bids.now (at + 1)))
                w.if-replaces.true))
                c.loop-at.invariant.found_are;
            room = omega (arith, ap length new);
          })
      | else-replaces w ↦ (
          let same : c.if-replaces.found.items ≡ c.loop-at.found.items = ap (λ v. v.items) w.found-is in
          record {
            found_are = none_found c.args.most c.loop-at.found.items c.if-replaces.found.items (put (numbers_from q s.winner.bids.now (at + 1)))
                (put (numbers_from q s.winner.bids.now at)) whole same
                (ap put (next ∙ ap (λ (b : Bool). cond b ((at + 1) ∷ numbers_from q s.winner.bids.now (at + 1)) (numbers_from q s.winner.bids.now (at + 1)))
                w.if-replaces.false))
                c.loop-at.invariant.found_are;
            room = omega (arith, ap length same);
          })
    ]
