use Rattle.auction_terms.specs.Groups.{has}
use Rattle.auction_terms.specs.Terms.{lots_in}
use Rattle.bid_desk.specs.Closing.{book_of}
use Rattle.group_compiler.proofs.JoinedFacts.{joined_is}
use Rattle.byte_sinks.proofs.AddingFacts.{Adds-to}
use Rattle.answers.proofs.group_texts.add_program.Goals as goal

pub returns : goal.returns
returns g c =
    Adds-to c.add_group_text.ensures (joined_is (lots_in c.args.book.now.rules) (book_of c.args.book.now) (has c.args.group.now)
    c.args.pages.now c.within_limits.ensures.book c.requires.pages)
