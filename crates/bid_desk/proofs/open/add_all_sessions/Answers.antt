use Rattle.std.proofs.Common.{◌≡◌, ◌+◌, ◌-◌, ◌<◌, ◌≤◌, ◌++◌, ◌∷◌, ◌∙◌, ℕ, List, [], ap, append-nil, append_assoc, arith, drop, length, map, subst, sym}
use Rattle.std.specs.Prelude.{slice_index, slice_index_or, sum_by}
use Rattle.std.proofs.lemmas.List.{drop_all, drop_more, get_or-map}
use Rattle.std.proofs.lemmas.List.Sums.{sum_by-cons}
use Rattle.auction_terms.specs.Terms.{Terms}
use Rattle.auction_terms.specs.declared.rules.Bidder.{Bidder}
use Rattle.bid_desk.specs.Holding.{SessionOwn}
use Rattle.bid_desk.specs.Opening.{all_sessions, sessions_of}
use Rattle.bid_desk.specs.Sessions.{IsSessionOf, session_limit}
use Rattle.bid_desk.proofs.open.add_all_sessions.Goals as goal

-- the sessions of one bidder more
module _ (all : List Bidder) (i : ℕ) (bidder : Bidder) (next : drop i all ≡ bidder ∷ drop (i + 1) all) where
  sessions-more : (before after : List SessionOwn) → after ≡ before ++ sessions_of (i + 1) bidder.sessions
      → before ++ all_sessions (i + 1) (drop i all) ≡ all_sessions 1 all
      → after ++ all_sessions (i + 1 + 1) (drop (i + 1) all) ≡ all_sessions 1 all
  sessions-more before after grown are =
      let left = all_sessions (i + 1 + 1) (drop (i + 1) all) in
      ap (λ (xs : List SessionOwn). xs ++ left) grown ∙ append_assoc before (sessions_of (i + 1) bidder.sessions) left
      ∙ ap (λ (bidders : List Bidder). before ++ all_sessions (i + 1) bidders) (sym next) ∙ are

  count-more : sum_by (λ (b : Bidder). b.sessions) (drop i all) ≡ bidder.sessions + sum_by (λ (b : Bidder). b.sessions) (drop (i + 1) all)
  count-more = ap (λ (bidders : List Bidder). sum_by (λ (b : Bidder). b.sessions) bidders) next
      ∙ sum_by-cons (λ (b : Bidder). b.sessions) bidder (drop (i + 1) all)

-- a session that the rules name
known-of : (t : Terms) (i s : ℕ) (d : Bidder) → i < length t.bidders → 1 ≤ s → s ≤ (slice_index_or t.bidders i d).sessions → IsSessionOf t (i + 1) s
known-of t i s d small least most =
    let here : i + 1 - 1 ≡ i = omega arith in
    let limit : session_limit t (i + 1) ≡ (slice_index_or t.bidders i d).sessions =
    ap (λ (k : ℕ). slice_index (map (λ (b : Bidder). b.sessions) t.bidders) k) here ∙ get_or-map (λ (b : Bidder). b.sessions) t.bidders i d 0 small in
    record { bidder_least = omega arith; bidder_most = omega arith; session_least = least; session_most = omega (arith, limit, most) }

pub add_sessions-requires-clause-known : goal.add_sessions-requires-clause-known
add_sessions-requires-clause-known g c = λ s least most.
    let i = c.loop-i.i in
    let d = c.bidder-item.result in
    let value = c.bidders-bidder-items.ensures.value in
    let small : i < length c.args.rules.now.bidders = omega (arith, c.loop-i-test.true, ap length value) in
    subst (λ (t : Terms). IsSessionOf t (i + 1) s) c.requires.rules
    (known-of c.args.rules.now i s d small least (subst (λ (bidders : List Bidder). s ≤ (slice_index_or bidders i d).sessions) value
    (subst (λ (b : Bidder). s ≤ b.sessions) c.bidder-item.is most)))

pub loop-i-preserved : goal.loop-i-preserved
loop-i-preserved g c =
    let all = c.args.rules.now.bidders in
    let read = c.bidders-bidder-items.result.now in
    let i = c.loop-i.i in
    let bidder = c.bidder-item.result in
    let value = c.bidders-bidder-items.ensures.value in
    let next : drop i all ≡ bidder ∷ drop (i + 1) all =
    ap (λ (bidders : List Bidder). drop i bidders) (sym value) ∙ drop_more read i bidder c.loop-i-test.true
    ∙ ap (λ (b : Bidder). b ∷ drop (i + 1) read) (sym c.bidder-item.is)
    ∙ ap (λ (bidders : List Bidder). bidder ∷ drop (i + 1) bidders) value in
    let was = c.loop-i.invariant in
    let now = c.add_sessions.ensures in
    let count = count-more all i bidder next in
    record {
      items = sessions-more all i bidder next c.loop-i.sessions.items c.add_sessions.new.sessions.items now.sessions was.items;
      room = omega (arith, count, was.room, now.len, now.room);
      parts = omega (arith, count, was.parts, now.parts);
      amount = now.amount;
    }

pub returns-clause-sessions : goal.returns-clause-sessions
returns-clause-sessions g c =
    let all = c.args.rules.now.bidders in
    let none : drop c.loop-i.i all ≡ [] = drop_all c.loop-i.i all (omega (arith, c.loop-i-test.false, ap length c.bidders-bidder-items.ensures.value)) in
    sym (append-nil c.loop-i.sessions.items) ∙ ap (λ (bidders : List Bidder). c.loop-i.sessions.items ++ all_sessions (c.loop-i.i + 1)
    bidders) (sym none) ∙ c.loop-i.invariant.items
