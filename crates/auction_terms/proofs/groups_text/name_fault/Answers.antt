use Rattle.std.proofs.Common.{rules}
use Rattle.auction_terms.proofs.GroupsTextFacts.{any_name-is}
use Rattle.auction_terms.proofs.groups_text.name_fault.Goals as goal

pub returns-then-is_among : goal.returns-then-is_among
returns-then-is_among c = rw (any_name-is c.args.name.now c.args.before.now) (search rules)

pub returns : goal.returns
returns c = rw (any_name-is c.args.name.now c.args.before.now) (search rules)
