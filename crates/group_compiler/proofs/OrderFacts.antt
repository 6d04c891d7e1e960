-- Pages by the numbers of their bidders.
use Rattle.std.proofs.Common.{◌≡◌, ◌∙◌, ℕ, ◌+◌, suc, List, [], ◌∷◌, length, map, slice_index_or, sym, refl, ap, ap₂, arith}
use Rattle.std.specs.List.{AllZip, range_with_len}
use Rattle.std.proofs.lemmas.Slice.Zip.{AllZip-map}
use Rattle.auction_terms.specs.Allocations.{Book, form_of}
use Rattle.auction_terms.specs.Packages.{Lots}
use Rattle.auction_terms.specs.Terms.{lots_in}
use Rattle.bid_desk.specs.Closing.{Closing, book_of}
use Rattle.group_compiler.specs.Pages.{PageText, page_of_form, pages_from}
use Rattle.group_compiler.specs.inside.Making.{page_at}

-- those of the bidders with the numbers from a on
each_page : (lots : Lots) (whole book : Book) (a : ℕ) → ((i n : ℕ) → n ≡ a + i → slice_index_or book i [] ≡ slice_index_or whole n [])
    → map (λ (n : ℕ). page_of_form lots (n + 1) (form_of whole (n + 1))) (range_with_len a (length book)) ≡ pages_from lots (a + 1) book
each_page lots whole [] a h = refl
each_page lots whole (form ∷ book) a h =
    ap₂ (λ (p : PageText) (ps : List PageText). p ∷ ps) (ap (page_of_form lots (a + 1))
    (ap (form_of whole) (let e : a + 1 ≡ suc a = omega arith in e) ∙ sym (h 0 a (omega arith))))
    (each_page lots whole book (a + 1) (λ i n e. h (suc i) n (omega arith)))

-- what is made of each bidder's number, in order, is the pages of the forms
pub pages_in_order : (book : Closing) (pages : List PageText)
    → AllZip (λ n page. page ≡ page_at book n) (range_with_len 0 (length (book_of book))) pages
    → pages ≡ pages_from (lots_in book.rules) 1 (book_of book)
pages_in_order book pages z =
    AllZip-map (page_at book) (range_with_len 0 (length (book_of book))) pages z
    ∙ each_page (lots_in book.rules) (book_of book) (book_of book) 0
    (λ i n e. ap (λ (m : ℕ). slice_index_or (book_of book) m []) (let t : i ≡ n = omega arith in t))
