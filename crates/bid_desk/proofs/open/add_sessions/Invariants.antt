use Rattle.std.specs.Prelude.{◌≡◌, ◌+◌, ◌≤◌, ◌++◌, vec_len, vec_capacity}
use Rattle.bid_desk.specs.Opening.{sessions_of}
use Rattle.bid_desk.proofs.open.add_sessions.Given as goal

abbrev pub invariant-loop-i : goal.invariant-loop-i
invariant-loop-i g l = record {
  items : l.sessions.items ≡ l.initial.sessions.items ++ sessions_of l.bidder l.i;
  len : vec_len l.sessions ≡ vec_len l.initial.sessions + l.i;
  room : vec_capacity l.initial.sessions ≤ vec_capacity l.sessions;
  parts : l.rest.parts + l.i ≡ l.initial.rest.parts;
  amount : l.rest.amount ≡ 0;
}
