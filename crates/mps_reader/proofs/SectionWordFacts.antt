-- The word of the section that a word names.
use Rattle.std.proofs.Common.{◌≡◌, ℕ, ◌<◌, Bool, true, false, List, [], refl, sym, subst, arith}
use Rattle.std.specs.Prelude.{codes, bytes_eq}
use Rattle.std.proofs.lemmas.Slice.Eq.{bytes_eq-Decides}
use Rattle.program_rows.specs.MpsFaults.{place_of}
use Rattle.mps_reader.specs.inside.Sections.{word_of, section_named}

-- a word has the place of the section that it names, and is its word if that has a place
pub record IsNamed (text : List ℕ) : Type 0 where
  pub place : place_of (word_of (section_named text)) ≡ place_of text
  pub word : 0 < place_of text → word_of (section_named text) ≡ text

known : (word name : List ℕ) → IsNamed name → bytes_eq word name ≡ true → IsNamed word
known word name h e = subst (λ w. IsNamed w) (sym ((bytes_eq-Decides word name).0 e)) h

unknown : (word : List ℕ) → bytes_eq word (codes "NAME") ≡ false → bytes_eq word (codes "OBJSENSE") ≡ false
    → bytes_eq word (codes "ROWS") ≡ false → bytes_eq word (codes "COLUMNS") ≡ false
    → bytes_eq word (codes "RHS") ≡ false → bytes_eq word (codes "BOUNDS") ≡ false → bytes_eq word (codes "ENDATA") ≡ false → IsNamed word
unknown word a b c d e f g =
    let nowhere : place_of word ≡ 0 = rw (a, b, c, d, e, f, g) refl in
    let start : section_named word ≡ section_named [] = rw (a, b, c, d, e, f, g) refl in
    record { place = rw (start, nowhere) refl; word = λ h. absurd (omega arith) }

pub named : (word : List ℕ) → IsNamed word
named word = by1 (bytes_eq word (codes "NAME")) refl
  where
    by7 : (t : Bool) → bytes_eq word (codes "ENDATA") ≡ t → bytes_eq word (codes "NAME") ≡ false → bytes_eq word (codes "OBJSENSE") ≡ false
        → bytes_eq word (codes "ROWS") ≡ false → bytes_eq word (codes "COLUMNS") ≡ false → bytes_eq word (codes "RHS") ≡ false
        → bytes_eq word (codes "BOUNDS") ≡ false → IsNamed word
    by7 true h a b c d e f = known word (codes "ENDATA") (record { place = refl; word = λ _. refl }) h
    by7 false h a b c d e f = unknown word a b c d e f h

    by6 : (t : Bool) → bytes_eq word (codes "BOUNDS") ≡ t → bytes_eq word (codes "NAME") ≡ false → bytes_eq word (codes "OBJSENSE") ≡ false
        → bytes_eq word (codes "ROWS") ≡ false → bytes_eq word (codes "COLUMNS") ≡ false → bytes_eq word (codes "RHS") ≡ false → IsNamed word
    by6 true h a b c d e = known word (codes "BOUNDS") (record { place = refl; word = λ _. refl }) h
    by6 false h a b c d e = by7 (bytes_eq word (codes "ENDATA")) refl a b c d e h

    by5 : (t : Bool) → bytes_eq word (codes "RHS") ≡ t → bytes_eq word (codes "NAME") ≡ false → bytes_eq word (codes "OBJSENSE") ≡ false
        → bytes_eq word (codes "ROWS") ≡ false → bytes_eq word (codes "COLUMNS") ≡ false → IsNamed word
    by5 true h a b c d = known word (codes "RHS") (record { place = refl; word = λ _. refl }) h
    by5 false h a b c d = by6 (bytes_eq word (codes "BOUNDS")) refl a b c d h

    by4 : (t : Bool) → bytes_eq word (codes "COLUMNS") ≡ t → bytes_eq word (codes "NAME") ≡ false → bytes_eq word (codes "OBJSENSE") ≡ false
        → bytes_eq word (codes "ROWS") ≡ false → IsNamed word
    by4 true h a b c = known word (codes "COLUMNS") (record { place = refl; word = λ _. refl }) h
    by4 false h a b c = by5 (bytes_eq word (codes "RHS")) refl a b c h

    by3 : (t : Bool) → bytes_eq word (codes "ROWS") ≡ t → bytes_eq word (codes "NAME") ≡ false → bytes_eq word (codes "OBJSENSE") ≡ false → IsNamed word
    by3 true h a b = known word (codes "ROWS") (record { place = refl; word = λ _. refl }) h
    by3 false h a b = by4 (bytes_eq word (codes "COLUMNS")) refl a b h

    by2 : (t : Bool) → bytes_eq word (codes "OBJSENSE") ≡ t → bytes_eq word (codes "NAME") ≡ false → IsNamed word
    by2 true h a = known word (codes "OBJSENSE") (record { place = refl; word = λ _. refl }) h
    by2 false h a = by3 (bytes_eq word (codes "ROWS")) refl a h

    by1 : (t : Bool) → bytes_eq word (codes "NAME") ≡ t → IsNamed word
    by1 true h = known word (codes "NAME") (record { place = refl; word = λ _. refl }) h
    by1 false h = by2 (bytes_eq word (codes "OBJSENSE")) refl h
