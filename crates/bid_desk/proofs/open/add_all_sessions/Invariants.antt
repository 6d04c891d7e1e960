use Rattle.std.specs.Prelude.{◌≡◌, ◌+◌, ◌≤◌, ◌++◌, drop, sum_by, vec_len, vec_capacity}
use Rattle.bid_desk.specs.Opening.{all_sessions}
use Rattle.bid_desk.proofs.open.add_all_sessions.Given as goal

abbrev pub invariant-loop-i : goal.invariant-loop-i
invariant-loop-i g l = record {
  items : l.sessions.items ++ all_sessions (l.i + 1) (drop l.i l.rules.bidders) ≡ all_sessions 1 l.rules.bidders;
  room : vec_len l.sessions + sum_by (λ bidder. bidder.sessions) (drop l.i l.rules.bidders) ≤ vec_capacity l.sessions;
  parts : l.rest.parts ≡ sum_by (λ bidder. bidder.sessions) (drop l.i l.rules.bidders) + 1;
  amount : l.rest.amount ≡ 0;
}
