-- The fault of a header, check by check.
use Rattle.std.proofs.Common.{◌≡◌, ℕ, true, false, ◌&&◌, List, [], ◌∷◌, length, refl, Option, Some, None}
use Rattle.mps_reader.proofs.PairFaultFacts.{last-one}
use Rattle.std.specs.Prelude.{nat_lt, is_none, codes, bytes_eq, if◌then◌else◌, position, option_map, not}
use Rattle.auction_terms.specs.LineFields.{LineFields}
use Rattle.program_rows.specs.MpsSections.{Sections}
use Rattle.program_rows.specs.MpsProgram.{is_one_of, first_free, columns_named}
use Rattle.program_rows.specs.MpsFaults.{place_of, sense_fault, header_fault, is_binary, sections_left_out}
use Rattle.program_rows.specs.declared.mps_fault_kind.MpsFaultKind.{MpsFaultKind}
use Rattle.program_rows.specs.declared.mps_fault_kind.MpsFaultKind.TheVariants.{Section, Fields, NoObjective, NotBinary}

pub header-place : (before : Sections) (word : List ℕ) (more : LineFields) → is_one_of word sections_left_out ≡ false
    → nat_lt (place_of before.section) (place_of word) ≡ false → header_fault before word more ≡ Some Section
header-place before word more a b = rw (a, b) refl

pub header-more : (before : Sections) (word : List ℕ) (more : LineFields) → is_one_of word sections_left_out ≡ false
    → nat_lt (place_of before.section) (place_of word) ≡ true
    → (is_one_of word (codes "ROWS" ∷ codes "COLUMNS" ∷ codes "RHS" ∷ codes "BOUNDS" ∷ []) && nat_lt 0 (length more)) ≡ true
    → header_fault before word more ≡ Some Fields
header-more before word more a b m = rw (a, b, m) refl

abbrev pub word_sense : List ℕ → LineFields → Option MpsFaultKind
word_sense word more = if bytes_eq word (codes "OBJSENSE") && nat_lt 0 (length more) then sense_fault more else None

pub header-rest : (before : Sections) (word : List ℕ) (more : LineFields) → is_one_of word sections_left_out ≡ false
    → nat_lt (place_of before.section) (place_of word) ≡ true
    → (is_one_of word (codes "ROWS" ∷ codes "COLUMNS" ∷ codes "RHS" ∷ codes "BOUNDS" ∷ []) && nat_lt 0 (length more)) ≡ false → word_sense word more ≡ None
    → (is_one_of word (codes "COLUMNS" ∷ codes "RHS" ∷ codes "BOUNDS" ∷ codes "ENDATA" ∷ []) && is_none (first_free before.rows)) ≡ false
    → header_fault before word more ≡ (if bytes_eq word (codes "ENDATA") then option_map NotBinary
    (position (λ column. not (is_binary before column)) (columns_named before.columns)) else None)
header-rest before word more a b m s l =
    rw (a, b, m, s, l) (last-one (if bytes_eq word (codes "ENDATA") then option_map NotBinary
    (position (λ column. not (is_binary before column)) (columns_named before.columns)) else None))

pub header-lacks : (before : Sections) (word : List ℕ) (more : LineFields) → is_one_of word sections_left_out ≡ false
    → nat_lt (place_of before.section) (place_of word) ≡ true
    → (is_one_of word (codes "ROWS" ∷ codes "COLUMNS" ∷ codes "RHS" ∷ codes "BOUNDS" ∷ []) && nat_lt 0 (length more)) ≡ false → word_sense word more ≡ None
    → (is_one_of word (codes "COLUMNS" ∷ codes "RHS" ∷ codes "BOUNDS" ∷ codes "ENDATA" ∷ []) && is_none (first_free before.rows)) ≡ true
    → header_fault before word more ≡ Some NoObjective
header-lacks before word more a b m s l = rw (a, b, m, s, l) refl
