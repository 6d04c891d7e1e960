-- The pages that workers make.
use Rattle.std.specs.Prelude.{ℕ, ◌+◌}
use Rattle.auction_terms.specs.Allocations.{form_of}
use Rattle.auction_terms.specs.Terms.{lots_in}
use Rattle.bid_desk.specs.Closing.{Closing, book_of}
use Rattle.group_compiler.specs.Pages.{PageText, page_of_form}

-- the page of the bidder with this number, from 0
abbrev pub page_at : Closing → ℕ → PageText
page_at book n = page_of_form (lots_in book.rules) (n + 1) (form_of (book_of book) (n + 1))
