-- The text of a group, joined from pages.
use Rattle.std.specs.Prelude.{◌≡◌, ℕ, Bool, true, false, cond, List, [], ◌∷◌, ◌++◌, codes, flat_map}
use Rattle.auction_terms.specs.Packages.{Lots}
use Rattle.auction_terms.specs.Allocations.{Book}
use Rattle.auction_terms.specs.Limits.{IsBook}
use Rattle.mps_text.specs.FaithfulText.{presolved_text}
use Rattle.group_compiler.specs.declared.section.Section.{Section}
use Rattle.group_compiler.specs.declared.section.Section.TheVariants.{Rows, Columns, RightSides, Bounds}
use Rattle.group_compiler.specs.Pages.{PageText, AllPages, section_lines, outside, pages_of}

-- there is at least one byte
abbrev pub has_any : List ℕ → Bool
has_any [] = false
has_any (byte ∷ bytes) = true

-- what comes before the lines of a section, whether it has any or not
abbrev pub opening : Section → Bool → List ℕ
opening Rows any = codes "NAME wdp\nROWS\n N OBJ\n"
opening Columns any = cond any (codes "COLUMNS\n M1 'MARKER' 'INTORG'\n") (codes "COLUMNS\n")
opening RightSides any = codes "RHS\n"
opening Bounds any = cond any (codes "BOUNDS\n") []

-- what follows them
abbrev pub section_end : Section → Bool → List ℕ
section_end Rows any = []
section_end Columns any = cond any (codes " M2 'MARKER' 'INTEND'\n") []
section_end RightSides any = []
section_end Bounds any = codes "ENDATA\n"

-- the text of a section with these lines: its opening, the lines, and its end
abbrev pub section_text : Section → List ℕ → List ℕ
section_text section lines = opening section (has_any lines) ++ (lines ++ section_end section (has_any lines))

-- the lines of a section, page after page
abbrev pub joined : Section → List PageText → List ℕ
joined section pages = flat_map (section_lines section) pages

-- the text of pages, section by section
abbrev pub text_of_pages : List PageText → List ℕ
text_of_pages pages =
    section_text Rows (joined Rows pages) ++ (section_text Columns (joined Columns pages)
    ++ (section_text RightSides (joined RightSides pages) ++ section_text Bounds (joined Bounds pages)))

-- the pages that a group's text is made of: those of the bidders outside it, and that of the lots
abbrev pub pages_for : (ℕ → Bool) → AllPages → List PageText
pages_for group pages = outside group 1 pages.forms ++ pages.lots ∷ []

-- the text of a group
abbrev pub group_text : (ℕ → Bool) → AllPages → List ℕ
group_text group pages = text_of_pages (pages_for group pages)

-- the text of the kept bids without a group is joined from the pages of the bidders outside it and of the lots
abbrev pub TextIsJoined : Type 0
TextIsJoined = (lots : Lots) (book : Book) (group : ℕ → Bool) → IsBook lots book → presolved_text lots book group ≡ group_text group (pages_of lots book)
