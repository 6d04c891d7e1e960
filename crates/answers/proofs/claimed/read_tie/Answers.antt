use Rattle.std.proofs.Common.{[]}
use Rattle.auction_terms.specs.Groups.{has}
use Rattle.auction_terms.specs.Terms.{lots_in}
use Rattle.bid_desk.specs.Closing.{book_of}
use Rattle.outcome.proofs.BackFacts.{points_come_back}
use Rattle.program_rows.proofs.FaithfulFacts.{presolved_is_faithful}
use Rattle.program_rows.specs.Faithful.{IsFaithful}
use Rattle.answers.proofs.WinningFacts.{allowed-length}
use Rattle.answers.proofs.claimed.read_tie.Goals as goal

pub map_back-requires : goal.map_back-requires
map_back-requires c =
    let p = c.args.program.now in
    let book = c.args.auction.now.book in
    let faithful : IsFaithful (lots_in book.rules) (book_of book) (has []) p =
    rw c.requires.program (presolved_is_faithful (lots_in book.rules) (book_of book) (has []) c.requires.book) in
    let comes = points_come_back (lots_in book.rules) (book_of book) (has []) p c.in-Ok.point faithful c.in-Ok.ensures.point in
    record { sized = allowed-length p.columns c.in-Ok.point c.in-Ok.ensures.point.allowed; map = comes.map }
