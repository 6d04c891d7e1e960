-- The program that groups share.
use Rattle.std.specs.Prelude.{[]}
use Rattle.auction_terms.specs.Groups.{has}
use Rattle.auction_terms.specs.Keeping.{kept_of}
use Rattle.auction_terms.specs.Terms.{lots_in}
use Rattle.bid_desk.specs.Closing.{Closing, book_of}
use Rattle.program_rows.specs.Selections.{Shared, shared_of}

-- the program of all that is kept of a closed book, of which each group's program is a selection
abbrev pub shared_program : Closing → Shared
shared_program book = shared_of (lots_in book.rules) (kept_of (lots_in book.rules) (book_of book) (has []))
