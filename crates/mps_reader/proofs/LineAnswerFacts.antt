-- A line, whatever it is.
use Rattle.std.proofs.Common.{◌≡◌, ℕ, ◌+◌, List, [], ◌∷◌, length, map, drop, refl, sym, ap, subst, ◌∙◌, arith, Some, None, true, false}
use Rattle.std.specs.Prelude.{Ok}
use Rattle.auction_terms.specs.LineFields.{LineFields, field}
use Rattle.program_rows.specs.MpsLines.{Line, Skipped, Unprintable, Header, Data, line_of}
use Rattle.program_rows.specs.MpsSections.{Sections, no_lines, with_line, is_end}
use Rattle.program_rows.specs.MpsProgram.{program}
use Rattle.program_rows.specs.MpsFaults.{fault, header_fault}
use Rattle.program_rows.specs.MpsMeaning.{meaning, meaning_after}
use Rattle.program_rows.specs.declared.mps_fault_kind.MpsFaultKind.TheVariants.{NotText}
use Rattle.auction_terms.specs.Lines.{lines_of}
use Rattle.mps_reader.specs.inside.Reading.{AreFirst}
use Rattle.mps_reader.specs.inside.Tracking.{ReadingTells}
use Rattle.mps_reader.specs.declared.tables.Reading.{Reading}
use Rattle.mps_reader.proofs.SectionFacts.{skipped-tells, header-first, data-first, data-whole}

pub skipped-fault : (before : Sections) (bytes : List ℕ) → line_of bytes ≡ Skipped → fault before (line_of bytes) ≡ None
unfolding fault
skipped-fault before bytes e = ap (fault before) e

pub skipped-next : (before : Sections) (bytes : List ℕ) (r : Reading) → line_of bytes ≡ Skipped → ReadingTells before r
    → ReadingTells (with_line before (line_of bytes)) r
skipped-next before bytes r e h = subst (λ l. ReadingTells (with_line before l) r) (sym e) (skipped-tells before r h)

pub unprintable-fault : (before : Sections) (bytes : List ℕ) → line_of bytes ≡ Unprintable → fault before (line_of bytes) ≡ Some NotText
unfolding fault
unprintable-fault before bytes e = ap (fault before) e

pub header-answer : (before : Sections) (bytes : List ℕ) (shown all : LineFields) → line_of bytes ≡ Header (field 0 all) (drop 1 all)
    → AreFirst shown all → fault before (line_of bytes) ≡ header_fault before (field 0 shown) (drop 1 shown)
unfolding fault
header-answer before bytes shown [] e a = absurd (let size : length shown ≡ 0 = ap length a.front in let some = a.some in omega arith)
header-answer before bytes shown (word ∷ more) e a =
    ap (fault before) e ∙ sym (header-first before word more) ∙ ap (λ ws. header_fault before (field 0 ws) (drop 1 ws)) (sym a.front)

pub header-next : (before : Sections) (bytes : List ℕ) (shown all : LineFields) (r : Reading)
    → line_of bytes ≡ Header (field 0 all) (drop 1 all) → AreFirst shown all
    → ((more : LineFields) → ReadingTells (with_line before (Header (field 0 shown) more)) r)
    → ReadingTells (with_line before (line_of bytes)) r
header-next before bytes shown [] r e a h = absurd (let size : length shown ≡ 0 = ap length a.front in let some = a.some in omega arith)
header-next before bytes shown (word ∷ more) r e a h =
    subst (λ l. ReadingTells (with_line before l) r) (sym e) (subst (λ ws. ReadingTells (with_line before (Header (field 0 ws) more)) r) a.front (h more))

pub data-answer : (before : Sections) (bytes : List ℕ) (shown all : LineFields) → line_of bytes ≡ Data all → AreFirst shown all
    → fault before (line_of bytes) ≡ fault before (Data shown)
unfolding fault
data-answer before bytes shown all e a = ap (fault before) e ∙ sym (data-first before shown all a)

pub data-next : (before : Sections) (bytes : List ℕ) (shown all : LineFields) (r : Reading) → line_of bytes ≡ Data all → AreFirst shown all
    → fault before (Data shown) ≡ None → ReadingTells (with_line before (Data shown)) r → ReadingTells (with_line before (line_of bytes)) r
data-next before bytes shown all r e a none h =
    subst (λ l. ReadingTells (with_line before l) r) (sym e) (subst (λ fs. ReadingTells (with_line before (Data fs)) r) (data-whole before shown all a none) h)

-- ---- the meaning, line by line

pub meaning-starts : (text : List ℕ) → meaning text ≡ meaning_after 0 no_lines (map line_of (lines_of text))
unfolding meaning
meaning-starts text = refl

pub meaning-goes-on : (text : List ℕ) (place : ℕ) (seen : Sections) (lines rest : List (List ℕ)) (line : List ℕ)
    → meaning text ≡ meaning_after place seen (map line_of lines) → lines ≡ line ∷ rest → fault seen (line_of line) ≡ None
    → is_end (line_of line) ≡ false
    → meaning text ≡ meaning_after (place + 1) (with_line seen (line_of line)) (map line_of rest)
meaning-goes-on text place seen lines rest line h e none more = h ∙ rw (e, none, more) refl

pub meaning-ends : (text : List ℕ) (place : ℕ) (seen : Sections) (lines rest : List (List ℕ)) (line : List ℕ)
    → meaning text ≡ meaning_after place seen (map line_of lines) → lines ≡ line ∷ rest → fault seen (line_of line) ≡ None
    → is_end (line_of line) ≡ true → meaning text ≡ Ok (program seen)
meaning-ends text place seen lines rest line h e none end = h ∙ rw (e, none, end) refl

-- the line that ends a text says nothing of the program
pub program-ended : (seen : Sections) (line : Line) → is_end line ≡ true → program (with_line seen line) ≡ program seen
unfolding program
program-ended seen (Header word more) h = refl
program-ended seen _ h = absurd cc
