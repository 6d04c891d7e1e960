-- Reading line after line, and what the lines of a block leave.
use Rattle.std.proofs.Common.{◌≡◌, ℕ, ◌+◌, false, List, [], ◌∷◌, ◌++◌, map, refl, None, Ok}
use Rattle.auction_terms.specs.LineFields.{LineFields}
use Rattle.program_rows.specs.MpsLines.{Line, Data}
use Rattle.program_rows.specs.MpsSections.{Sections, with_line, is_end}
use Rattle.program_rows.specs.MpsFaults.{fault}
use Rattle.program_rows.specs.MpsProgram.{program}
use Rattle.program_rows.specs.MpsMeaning.{meaning_after}
use Rattle.mps_text.proofs.FieldFacts.{end_line}

-- the lines ls, read after others
abbrev pub onto : List Line → Sections → Sections
onto [] before = before
onto (line ∷ ls) before = onto ls (with_line before line)

-- no line of these is faulty after those before it, and none is the end
abbrev pub AreRead : Sections → List Line → Type 0
AreRead before [] = Unit {0}
AreRead before (line ∷ ls) = (fault before line ≡ None) × (is_end line ≡ false) × AreRead (with_line before line) ls

-- lines that are read, and then the end
pub read-through : (n : ℕ) (before : Sections) (ls : List Line) → AreRead before ls → fault (onto ls before) end_line ≡ None
    → meaning_after n before (ls ++ end_line ∷ []) ≡ Ok (program (onto ls before))
read-through n before [] h e = rw e refl
read-through n before (line ∷ ls) h e = rw (h.0, h.1) (read-through (n + 1) (with_line before line) ls h.2 e)

pub AreRead-append : (before : Sections) (xs ys : List Line) → AreRead before xs → AreRead (onto xs before) ys → AreRead before (xs ++ ys)
AreRead-append before [] ys h k = k
AreRead-append before (x ∷ xs) ys h k = (h.0, h.1, AreRead-append (with_line before x) xs ys h.2 k)

pub onto-append : (xs ys : List Line) (before : Sections) → onto (xs ++ ys) before ≡ onto ys (onto xs before)
onto-append [] ys before = refl
onto-append (x ∷ xs) ys before = onto-append xs ys (with_line before x)

-- data lines leave the section
pub section-onto : (lines : List LineFields) (before : Sections) → (onto (map Data lines) before).section ≡ before.section
section-onto [] before = refl
section-onto (line ∷ lines) before = section-onto lines (with_line before (Data line))
