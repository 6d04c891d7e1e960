use Rattle.std.proofs.Common.{map}
use Rattle.std.proofs.lemmas.Bool.{both_ways}
use Rattle.bid_book.specs.History.{call_value, reply_value}
use Rattle.bid_desk.specs.Holding.{pair_value}
use Rattle.bid_desk.proofs.CompareFacts.{compared-agree, compared-part, compared-parted}
use Rattle.bid_desk.proofs.comparing.Comparison.with.Goals as goal

pub returns-in-Differs : goal.returns-in-Differs
returns-in-Differs c theirs so_far =
    compared-parted theirs (map pair_value c.args.own.now) (call_value c.args.entry.now.call, reply_value c.args.entry.now.reply)
    c.in-Differs.place (rw c.in-Differs.is at so_far)

pub returns-then-agrees_at : goal.returns-then-agrees_at
returns-then-agrees_at c theirs so_far =
    compared-agree theirs (map pair_value c.args.own.now) (call_value c.args.entry.now.call, reply_value c.args.entry.now.reply)
    c.in-Agrees.pairs (rw c.in-Agrees.is at so_far) (c.agrees_at.ensures.0 c.if-agrees_at.true)

pub returns-else-agrees_at : goal.returns-else-agrees_at
returns-else-agrees_at c theirs so_far =
    compared-part theirs (map pair_value c.args.own.now) (call_value c.args.entry.now.call, reply_value c.args.entry.now.reply)
    c.in-Agrees.pairs (rw c.in-Agrees.is at so_far) (λ same. both_ways _ c.if-agrees_at.false (c.agrees_at.ensures.1 same))
