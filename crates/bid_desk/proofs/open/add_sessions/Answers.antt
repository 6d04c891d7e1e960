use Rattle.std.proofs.Common.{◌+◌, [], ◌∷◌, ◌++◌, ap, sym, ◌∙◌, arith, append_assoc}
use Rattle.std.proofs.lemmas.List.FromFn.{map-range_with_len_more}
use Rattle.bid_desk.specs.Opening.{fresh_session, sessions_of}
use Rattle.bid_desk.proofs.open.add_sessions.Goals as goal

pub new_session-requires-clause-known : goal.new_session-requires-clause-known
new_session-requires-clause-known g c = c.requires.known (c.loop-i.i + 1) (omega arith) (omega arith)

pub loop-i-preserved : goal.loop-i-preserved
loop-i-preserved g c =
    let b = c.args.bidder in
    let was = c.loop-i.invariant in
    record {
      items = c.push_session.ensures.sessions
          ∙ (λ i. was.items i ++ c.new_session.ensures i ∷ [])
          ∙ append_assoc c.args.sessions.now.items (sessions_of b c.loop-i.i) (fresh_session b (c.loop-i.i + 1) ∷ [])
          ∙ ap (λ xs. c.args.sessions.now.items ++ xs) (sym (map-range_with_len_more (fresh_session b) 1 c.loop-i.i (c.loop-i.i + 1) (omega arith)));
      len = omega arith;
      room = omega arith;
      parts = omega arith;
      amount = omega arith;
    }
