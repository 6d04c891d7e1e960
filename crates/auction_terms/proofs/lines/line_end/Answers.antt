use Rattle.auction_terms.proofs.LineFacts.{first-place}
use Rattle.auction_terms.proofs.lines.line_end.Goals as goal

pub returns : goal.returns
returns c = first-place c.args.text.now c.memchr_iter.result c.next.new.self c.next.result c.memchr_iter.ensures.value c.next.ensures.steps
