-- Lines of pages in memory.
use Rattle.std.proofs.Common.{◌≡◌, ◌+◌, ◌-◌, arith, ℕ, Bool, length, length-append, take, List, [], ◌∷◌, ◌++◌, map, refl, sym, ap, ap₂, ◌∙◌, append-nil}
use Rattle.std.specs.List.{range_with_len}
use Rattle.std.proofs.lemmas.Grind.{flat_map-append}
use Rattle.std.proofs.lemmas.List.{length-map, map-append, take_at, take-map}
use Rattle.std.proofs.lemmas.List.FromFn.{length-map-range_with_len}
use Rattle.auction_terms.specs.Keeping.{Offer}
use Rattle.auction_terms.specs.Packages.{Lots}
use Rattle.program_rows.specs.declared.row.Row.{Row}
use Rattle.program_rows.specs.declared.subject.Subject.TheVariants as subject
use Rattle.program_rows.specs.Parts.{shown_row}
use Rattle.program_rows.specs.Program.{TableRow, TableColumn}
use Rattle.auction_terms.specs.Terms.{Terms, lots_in}
use Rattle.auction_terms.specs.inside.Terms.{cap_of}
use Rattle.auction_terms.specs.declared.rules.Category.{Category}
use Rattle.auction_terms.specs.declared.rules.Pool.{Pool}
use Rattle.program_rows.specs.Rows.{bidder_subjects, subjects, row_of, column_of}
use Rattle.group_compiler.specs.declared.section.Section.{Section}
use Rattle.group_compiler.specs.Pages.{PageText, AllPages, section_lines, outside, page_of_offers, page_with}
use Rattle.group_compiler.specs.Joining.{joined, pages_for}

-- the lines of bidders, and those of lots
pub lines_for : (section : Section) (group : ℕ → Bool) (pages : AllPages) (forms : List PageText) (lines : List ℕ) → forms ≡ pages.forms
    → lines ≡ section_lines section pages.lots
    → joined section (outside group 1 forms) ++ lines ≡ joined section (pages_for group pages)
lines_for section group pages forms lines e l =
    ap₂ (λ (xs : List PageText) (w : List ℕ). joined section (outside group 1 xs) ++ w) e (l ∙ sym (append-nil (section_lines section pages.lots)))
    ∙ sym (flat_map-append (section_lines section) (outside group 1 pages.forms) (pages.lots ∷ []))

-- how many rows are about bidders
pub length_rows : (lots : Lots) (offers : List Offer) (rows : List Row) → map shown_row rows ≡ map (row_of lots) (subjects lots offers)
    → length rows ≡ length (bidder_subjects offers) + (length lots.supply + length lots.pools)
length_rows lots offers rows e =
    sym (length-map rows shown_row) ∙ ap (λ (rs : List TableRow). length rs) e ∙ length-map (subjects lots offers) (row_of lots)
    ∙ length-append (bidder_subjects offers) (subjects lots [])
    ∙ ap (λ (n : ℕ). length (bidder_subjects offers) + n)
    (length-append (map subject.Category (range_with_len 0 (length lots.supply))) (map subject.Pool (range_with_len 0 (length lots.pools)))
    ∙ ap₂ (λ (n m : ℕ). n + m) (length-map-range_with_len subject.Category 0 (length lots.supply))
    (length-map-range_with_len subject.Pool 0 (length lots.pools)))

-- the rows of bidders are the first
pub bidder_rows : (lots : Lots) (offers : List Offer) (rows : List Row) (n : ℕ)
    → map shown_row rows ≡ map (row_of lots) (subjects lots offers) → n ≡ length (bidder_subjects offers)
    → map shown_row (take n rows) ≡ map (row_of lots) (bidder_subjects offers)
bidder_rows lots offers rows n e l =
    sym (take-map shown_row n rows) ∙ ap (take n) (e ∙ map-append (row_of lots) (bidder_subjects offers) (subjects lots []))
    ∙ ap (λ (m : ℕ). take m (map (row_of lots) (bidder_subjects offers) ++ map (row_of lots) (subjects lots [])))
    (l ∙ sym (length-map (bidder_subjects offers) (row_of lots)))
    ∙ take_at (map (row_of lots) (bidder_subjects offers)) (map (row_of lots) (subjects lots [])) (length (map (row_of lots) (bidder_subjects offers))) refl

-- how many rows are about lots
pub count_lots : (t : Terms) (categories : List Category) (pools : List Pool) → categories ≡ t.categories → pools ≡ t.pools
    → length categories + length pools ≡ length (lots_in t).supply + length (lots_in t).pools
count_lots t categories pools c p =
    ap₂ (λ (cs : List Category) (ps : List Pool). length cs + length ps) c p
    ∙ ap₂ (λ (n m : ℕ). n + m) (sym (length-map t.categories (λ (category : Category). category.supply))) (sym (length-map t.pools cap_of))

-- the page of a form, from the rows and columns of its kept bids
pub form_page : (lots lots' : Lots) (os own : List Offer) (items rows : List Row) (columns : List TableColumn) (count : ℕ) → lots ≡ lots'
    → os ≡ own → rows ≡ items
    → map shown_row items ≡ map (row_of lots) (subjects lots os) → columns ≡ map (column_of lots (subjects lots os)) os
    → count ≡ length lots.supply + length lots.pools
    → page_with (map shown_row rows) (map shown_row (take (length rows - count) rows)) columns ≡ page_of_offers lots' own
form_page lots lots' os own items rows columns count l o i r c n =
    let whole = ap (map shown_row) i ∙ r in
    let size = length_rows lots os rows whole in
    let first = bidder_rows lots os rows (length rows - count) whole (omega (arith, n, size)) in
    ap₂ (λ (xs ys : List TableRow). page_with xs ys columns) whole first
    ∙ ap (page_with (map (row_of lots) (subjects lots os)) (map (row_of lots) (bidder_subjects os))) c
    ∙ ap₂ page_of_offers l o
