use Rattle.std.proofs.Common.{◌≡◌, ◌∙◌}
use Rattle.auction_terms.proofs.AcceptedFacts.{both-none}
use Rattle.auction_terms.specs.GroupNames.{names_in}
use Rattle.auction_terms.specs.GroupsText.{names_faults, room_checks}
use Rattle.auction_terms.specs.Judged.{fault_of}
use Rattle.auction_terms.specs.Lines.{bytes_of}
use Rattle.auction_terms.proofs.groups_text.read_group.Goals as goal

pub returns-clause-group : goal.returns-clause-group
returns-clause-group c none =
    let line = c.args.line.now in
    let both = both-none (names_faults c.args.bidders.now c.args.place line) (fault_of (room_checks c.args.place)) none in
    let names : bytes_of c.in_ok-names.names.items ≡ names_in line = c.in_ok-names.ensures.names both.0 in
    let numbers = rw c.deref.ensures.value at c.in_ok-numbers.ensures.numbers in
    rw names at (c.new.ensures ∙ numbers)
