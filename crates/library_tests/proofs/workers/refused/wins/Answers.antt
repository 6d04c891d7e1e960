use Rattle.auction_terms.specs.Groups.{has}
use Rattle.auction_terms.specs.Terms.{lots_in}
use Rattle.bid_desk.specs.Closing.{book_of}
use Rattle.outcome.proofs.BackFacts.{points_come_back}
use Rattle.answers.proofs.WinningFacts.{allowed-length}
use Rattle.library_tests.proofs.workers.refused.wins.Goals as goal

pub map_back-requires : goal.map_back-requires
map_back-requires c =
    let p = c.args.program.now in
    let point = c.in_ok-point.ensures.point in
    let comes = points_come_back (lots_in c.args.book.now.rules) (book_of c.args.book.now) (has c.args.group.now) p c.in_ok-point.point c.requires point in
    record { sized = allowed-length p.columns c.in_ok-point.point point.allowed; map = comes.map }

pub objective-requires : goal.objective-requires
objective-requires c = allowed-length c.args.program.now.columns c.in_ok-point.point c.in_ok-point.ensures.point.allowed
