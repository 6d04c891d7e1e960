-- Pages: what a form, or the lots, give to the text of each group.
use Rattle.std.specs.Prelude.{ℕ, ◌+◌, Bool, cond, List, [], ◌∷◌, flat_map, map, codes}
use Rattle.auction_terms.specs.declared.bids.Bid.{Bid}
use Rattle.auction_terms.specs.Packages.{Lots}
use Rattle.auction_terms.specs.Allocations.{Book}
use Rattle.auction_terms.specs.Keeping.{Offer}
use Rattle.presolve.specs.Flags.{kept_in_form}
use Rattle.program_rows.specs.Program.{TableRow, TableColumn}
use Rattle.program_rows.specs.Rows.{bidder_subjects, subjects, row_of, column_of, worth_column}
use Rattle.mps_text.specs.Bytes.{row_bytes, right_side_bytes, column_bytes, bound_bytes}
use Rattle.group_compiler.specs.declared.section.Section.{Section}
use Rattle.group_compiler.specs.declared.section.Section.TheVariants.{Rows, Columns, RightSides, Bounds}

-- a page's lines for each section of a text
pub record PageText : Type 0 where
  pub rows : List ℕ
  pub columns : List ℕ
  pub right_sides : List ℕ
  pub bounds : List ℕ

-- the page with these lines for each of the four sections
abbrev pub page_text : List ℕ → List ℕ → List ℕ → List ℕ → PageText
page_text rows columns right_sides bounds = record { rows = rows; columns = columns; right_sides = right_sides; bounds = bounds }

-- the lines that a page has for a section
abbrev pub section_lines : Section → PageText → List ℕ
section_lines Rows page = page.rows
section_lines Columns page = page.columns
section_lines RightSides page = page.right_sides
section_lines Bounds page = page.bounds

-- the lines of some rows, and of columns with entries in all rows
abbrev pub page_with : List TableRow → List TableRow → List TableColumn → PageText
page_with all rows columns = page_text (flat_map row_bytes rows) (flat_map (column_bytes (codes "OBJ") all) columns)
    (flat_map right_side_bytes rows) (flat_map bound_bytes columns)

-- what the program of offers has for them: the rows of their bidders, and their columns
abbrev pub page_of_offers : Lots → List Offer → PageText
page_of_offers lots offers = page_with (map (row_of lots) (subjects lots offers)) (map (row_of lots) (bidder_subjects offers))
    (map (column_of lots (subjects lots offers)) offers)

-- what every program has: the rows of categories and pools, and the column of what all lots are worth
abbrev pub page_of_lots : Lots → PageText
page_of_lots lots = page_with (map (row_of lots) (subjects lots [])) (map (row_of lots) (subjects lots [])) (worth_column lots)

-- the page of bidder b's form: of its kept bids
abbrev pub page_of_form : Lots → ℕ → List Bid → PageText
page_of_form lots b form = page_of_offers lots (kept_in_form lots b form)

-- a page for each bidder, numbered from b on
abbrev pub pages_from : Lots → ℕ → Book → List PageText
pages_from lots b [] = []
pages_from lots b (form ∷ book) = page_of_form lots b form ∷ pages_from lots (b + 1) book

-- the pages of the bidders outside a group; the first is bidder b's
abbrev pub outside : (ℕ → Bool) → ℕ → List PageText → List PageText
outside group b [] = []
outside group b (page ∷ pages) = cond (group b) (outside group (b + 1) pages) (page ∷ outside group (b + 1) pages)

-- the pages of an auction: of each bidder's form, and of the lots
pub record AllPages : Type 0 where
  pub forms : List PageText
  pub lots : PageText

-- the pages of an auction, from the forms' pages and the lots' page
abbrev pub all_pages : List PageText → PageText → AllPages
all_pages forms lots = record { forms = forms; lots = lots }

-- the pages of an auction by its lots and its book: one for each bidder's form, from bidder 1 on, and that of the lots
abbrev pub pages_of : Lots → Book → AllPages
pages_of lots book = all_pages (pages_from lots 1 book) (page_of_lots lots)
