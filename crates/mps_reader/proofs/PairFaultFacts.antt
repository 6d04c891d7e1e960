-- The checks of the pairs of a line, one after the other.
use Rattle.std.proofs.Common.{◌≡◌, ℕ, Bool, true, false, not, ◌||◌, List, [], ◌∷◌, refl, sym, ◌∙◌, Option, Some, None}
use Rattle.std.specs.Prelude.{◌&&◌, bytes_eq, is_none, if◌then◌else◌, pos}
use Rattle.std.specs.List.{list_any}
use Rattle.std.specs.Option.{option_map_or, option_or}
use Rattle.std.specs.Ordering.{int_eq}
use Rattle.program_rows.specs.MpsProgram.{value}
use Rattle.auction_terms.specs.LineFields.{LineFields}
use Rattle.program_rows.specs.MpsFaults.{earliest_fault, number_fault, is_declared, pairs_fault}
use Rattle.program_rows.specs.declared.mps_fault_kind.MpsFaultKind.{MpsFaultKind}
use Rattle.program_rows.specs.declared.mps_fault_kind.MpsFaultKind.TheVariants.{UnknownRow, EntryRepeated, ObjectiveConstant}
use Rattle.auction_terms.specs.Decimals.{number as token_number}
use Rattle.std.specs.Bool.{then_some as when}

-- that of one check alone
pub last-one : (o : Option MpsFaultKind) → earliest_fault (o ∷ []) ≡ o
last-one None = refl
last-one (Some kind) = refl

-- what the checks of a pair find, whose row is known or not and repeated or not, with one check more
abbrev pub pair_checks : Bool → Bool → List ℕ → Option MpsFaultKind → Option MpsFaultKind
pair_checks known repeated number own =
    earliest_fault (when (not known) UnknownRow ∷ when repeated EntryRepeated ∷ number_fault (token_number number) ∷ own ∷ [])

-- what the checks of a pair find, if they find nothing goes to those of the next
goes-on : (known repeated : Bool) (number own more fault : Option MpsFaultKind)
    → earliest_fault (when (not known) UnknownRow ∷ when repeated EntryRepeated ∷ number ∷ own ∷ []) ≡ fault
    → earliest_fault (when (not known) UnknownRow ∷ when repeated EntryRepeated ∷ number ∷ own ∷ more ∷ []) ≡ (if is_none fault then more else fault)
goes-on true false None None None fault h = rw (sym h) refl
goes-on _ _ _ _ _ fault h = rw (sym h) refl

-- whether a pair names the row
abbrev pub has_row : List (List ℕ × List ℕ) → List ℕ → Bool
has_row earlier n = list_any (λ other. bytes_eq n other.0) earlier

abbrev pub constant_check : Option (List ℕ) → List ℕ → List ℕ → Option MpsFaultKind
constant_check objective row number = when (option_map_or (bytes_eq row) objective false && not (int_eq (value number) (pos 0))) ObjectiveConstant

pub begins : (lines : List LineFields) (objective : Option (List ℕ)) (earlier ps : List (List ℕ × List ℕ)) (row number : List ℕ)
    (more : List (List ℕ × List ℕ)) (known : Bool) (fault : Option MpsFaultKind)
    → ps ≡ (row, number) ∷ more → is_declared lines row ≡ known
    → pair_checks known (has_row earlier row) number (constant_check objective row number) ≡ fault
    → pairs_fault lines objective earlier ps ≡ (if is_none fault then pairs_fault lines objective ((row, number) ∷ earlier) more else fault)
begins lines objective earlier ps row number more known fault e d h =
    rw (e, d) (goes-on known (has_row earlier row) (number_fault (token_number number)) (constant_check objective row number)
    (pairs_fault lines objective ((row, number) ∷ earlier) more) fault h)

if-none : (fault : Option MpsFaultKind) → (if is_none fault then None else fault) ≡ fault
if-none None = refl
if-none (Some kind) = refl

-- the fault of the second of two pairs, if the first has none
pub second : (lines : List LineFields) (objective : Option (List ℕ)) (earlier ps : List (List ℕ × List ℕ))
    (row number row2 number2 : List ℕ) (known known2 : Bool)
    → ps ≡ (row, number) ∷ (row2, number2) ∷ [] → is_declared lines row ≡ known → is_declared lines row2 ≡ known2
    → pair_checks known (has_row earlier row) number (constant_check objective row number) ≡ None
    → pairs_fault lines objective earlier ps ≡ pair_checks known2 (bytes_eq row2 row || has_row earlier row2) number2 (constant_check objective row2 number2)
second lines objective earlier ps row number row2 number2 known known2 e d d2 h =
    begins lines objective earlier ps row number ((row2, number2) ∷ []) known None e d h
    ∙ begins lines objective ((row, number) ∷ earlier) ((row2, number2) ∷ []) row2 number2 [] known2
    (pair_checks known2 (bytes_eq row2 row || has_row earlier row2) number2 (constant_check objective row2 number2)) refl d2 refl ∙ if-none _

-- a pair that is taken repeats no earlier one
pub not-repeated : (known r : Bool) (more : Option MpsFaultKind)
    → option_or (when (not known) UnknownRow) (option_or (when r EntryRepeated) more) ≡ None → r ≡ false
not-repeated true false checks h = refl
not-repeated _ _ checks h = absurd cc
