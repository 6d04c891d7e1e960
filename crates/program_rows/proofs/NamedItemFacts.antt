-- Items of a list that are found by their names, and tests of all items.
use Rattle.std.proofs.Common.{◌≡◌, ℕ, zero, suc, ◌≤◌, Bool, true, false, nat_lt, lt-ltb, List, [], ◌∷◌, Option, Some, None}
use Rattle.std.proofs.Common.{length, map, slice_get, refl, sym, ap, ◌∙◌, arith, pos}
use Rattle.std.specs.Prelude.{bytes_eq, find, position}
use Rattle.std.specs.Option.{option_map_or}
use Rattle.std.specs.List.{AllByRecursion, IsDistinct, list_all, position_or_len}
use Rattle.std.proofs.lemmas.Bool.{and_parts, false_from_ne_true, cond-true, cond-false, le-ltb}
use Rattle.std.proofs.lemmas.List.Folds.{find_at}
use Rattle.std.proofs.lemmas.List.Sums.{passes_at_first}
use Rattle.std.proofs.lemmas.Option.{get_or_from_slice_get, slice_get_within}
use Rattle.std.proofs.lemmas.Slice.Eq.{bytes_eq-Decides}
use denote.Enum.Bare.{sameb}
use Rattle.program_rows.specs.contracts.column.Bounds.{the_type as the_bounds}
use Rattle.program_rows.specs.contracts.row.RowKind.{the_type as the_kinds}
use Rattle.program_rows.specs.declared.row.RowKind.{RowKind}
use Rattle.program_rows.specs.declared.row.RowKind.TheVariants.{AtMost, AtLeast, Equal}
use Rattle.program_rows.specs.declared.column.Bounds.{Bounds}
use Rattle.program_rows.specs.declared.column.Bounds.TheVariants.{ZeroOrOne, Zero, One}
use Rattle.program_rows.specs.Program.{TableRow, TableColumn}
use Rattle.program_rows.specs.Points.{coefficient_at}
use Rattle.program_rows.specs.Same.{row_named, coefficient_in}
use Rattle.program_rows.specs.inside.Comparing.{same_kind, same_bounds}
use Rattle.program_rows.specs.ProgramNames.{row_name}
use Rattle.program_rows.proofs.EachFacts.{at_place}

-- ---------- tests ----------

pub kinds_equal : (a b : RowKind) → same_kind a b ≡ true → a ≡ b
kinds_equal AtMost AtMost h = refl
kinds_equal AtLeast AtLeast h = refl
kinds_equal Equal Equal h = refl
kinds_equal a b h = cc

pub kind_itself : (a : RowKind) → same_kind a a ≡ true
kind_itself AtMost = refl
kind_itself AtLeast = refl
kind_itself Equal = refl

pub bounds_equal : (a b : Bounds) → same_bounds a b ≡ true → a ≡ b
bounds_equal ZeroOrOne ZeroOrOne h = refl
bounds_equal Zero Zero h = refl
bounds_equal One One h = refl
bounds_equal a b h = cc

pub bounds_itself : (a : Bounds) → same_bounds a a ≡ true
bounds_itself ZeroOrOne = refl
bounds_itself Zero = refl
bounds_itself One = refl

-- the derived tests of the code answer the same
pub kind_test : (a b : RowKind) → sameb the_kinds a b ≡ same_kind a b
kind_test AtMost AtMost = refl
kind_test AtMost AtLeast = refl
kind_test AtMost Equal = refl
kind_test AtLeast AtMost = refl
kind_test AtLeast AtLeast = refl
kind_test AtLeast Equal = refl
kind_test Equal AtMost = refl
kind_test Equal AtLeast = refl
kind_test Equal Equal = refl

pub bounds_test : (a b : Bounds) → sameb the_bounds a b ≡ same_bounds a b
bounds_test ZeroOrOne ZeroOrOne = refl
bounds_test ZeroOrOne Zero = refl
bounds_test ZeroOrOne One = refl
bounds_test Zero ZeroOrOne = refl
bounds_test Zero Zero = refl
bounds_test Zero One = refl
bounds_test One ZeroOrOne = refl
bounds_test One Zero = refl
bounds_test One One = refl

-- ---------- lists ----------

pub all_true : {X : Type 0} (test : X → Bool) (xs : List X) → list_all test xs ≡ true → AllByRecursion (λ x. test x ≡ true) xs
all_true test [] h = tt
all_true test (x ∷ xs) h = let both = and_parts (test x) (list_all test xs) h in (both.0, all_true test xs both.1)

pub all_pass : {X : Type 0} (test : X → Bool) (xs : List X) → AllByRecursion (λ x. test x ≡ true) xs → list_all test xs ≡ true
all_pass test [] h = refl
all_pass test (x ∷ xs) h = rw (h.0, all_pass test xs h.1) refl

pub found_passes : {X : Type 0} (test : X → Bool) (xs : List X) (x : X) → find test xs ≡ Some x → test x ≡ true
found_passes test xs x e =
    let at = sym (find_at test xs) ∙ e in
    let k = position_or_len test xs in
    ap test (sym (get_or_from_slice_get xs k x x at)) ∙ passes_at_first test xs x (slice_get_within xs k x at)

pub found_in : {X : Type 0} (P : X → Type 0) (test : X → Bool) (xs : List X) (x : X) → AllByRecursion P xs → find test xs ≡ Some x → P x
found_in P test xs x h e = at_place P xs (position_or_len test xs) x h (sym (find_at test xs) ∙ e)

pub stands : {X : Type 0} (f : X → Bool) (o : Option X) → option_map_or f o false ≡ true → (x : X) × (o ≡ Some x) × (f x ≡ true)
stands f None h = cc
stands f (Some x) h = (x, refl, h)

pub bytes_flip : (xs ys : List ℕ) → bytes_eq xs ys ≡ false → bytes_eq ys xs ≡ false
bytes_flip xs ys h = false_from_ne_true (bytes_eq ys xs) (λ t. let same = (bytes_eq-Decides xs ys).1 (sym ((bytes_eq-Decides ys xs).0 t)) in cc)

pub rows_equal : (r s : TableRow) → r.name ≡ s.name → r.kind ≡ s.kind → r.right_side ≡ s.right_side → r ≡ s
rows_equal r s name kind side = λ i. record { name = name i; kind = kind i; right_side = side i }

-- an item is found by its own name if names differ
module _ {X : Type 0} (name_of : X → List ℕ) where
  pub after : (x : X) (xs ys : List X) → AllByRecursion (λ n. bytes_eq (name_of x) n ≡ false) (map name_of ys)
      → AllByRecursion (λ y. find (λ z. bytes_eq (name_of y) (name_of z)) xs ≡ Some y) ys
      → AllByRecursion (λ y. find (λ z. bytes_eq (name_of y) (name_of z)) (x ∷ xs) ≡ Some y) ys
  after x xs [] d h = tt
  after x xs (y ∷ ys) d h =
      let apart : bytes_eq (name_of y) (name_of x) ≡ false = bytes_flip (name_of x) (name_of y) d.0 in
      (rw apart h.0, after x xs ys d.1 h.1)

  pub own : (xs : List X) → IsDistinct bytes_eq (map name_of xs) → AllByRecursion (λ x. find (λ y. bytes_eq (name_of x) (name_of y)) xs ≡ Some x) xs
  unfolding IsDistinct
  own [] d = tt
  own (x ∷ xs) d =
      let here : bytes_eq (name_of x) (name_of x) ≡ true = (bytes_eq-Decides (name_of x) (name_of x)).1 refl in
      (rw here refl, after x xs xs d.0 (own xs d.1))

-- ---------- places by name ----------

abbrev pub is_row : List ℕ → TableRow → Bool
is_row name r = bytes_eq name r.name

-- the row of a name and its place, or that there is none
pub record Place (rows : List TableRow) (name : List ℕ) (place : ℕ) (r : TableRow) : Type 0 where
  pub at : position (is_row name) rows ≡ Some place
  pub there : slice_get rows place ≡ Some r
  pub found : row_named rows name ≡ Some r

pub beyond : (rows : List TableRow) (n : ℕ) → slice_get rows n ≡ None → length rows ≤ n
beyond [] n e = omega arith
beyond (x ∷ rows) zero e = cc
beyond (x ∷ rows) (suc n) e = let l = beyond rows n e in omega arith

pub place_by : (rows : List TableRow) (name : List ℕ) (r : TableRow) → row_named rows name ≡ Some r → Place rows name (position_or_len (is_row name) rows) r
place_by rows name r e =
    let n = position_or_len (is_row name) rows in
    let there : slice_get rows n ≡ Some r = sym (find_at (is_row name) rows) ∙ e in
    let inside : nat_lt n (length rows) ≡ true = lt-ltb n (length rows) (slice_get_within rows n r there) in
    record { at = cond-true (nat_lt n (length rows)) (Some n) None inside; there = there; found = e }

pub no_place : (rows : List TableRow) (name : List ℕ) → row_named rows name ≡ None → position (is_row name) rows ≡ None
no_place rows name e =
    let n = position_or_len (is_row name) rows in
    let there : slice_get rows n ≡ None = sym (find_at (is_row name) rows) ∙ e in
    cond-false (nat_lt n (length rows)) (Some n) None (le-ltb n (length rows) (beyond rows n there))

pub name_there : (rows : List TableRow) (name : List ℕ) (place : ℕ) (r : TableRow) → Place rows name place r → row_name rows place ≡ name
name_there rows name place r h =
    let same : name ≡ r.name = (bytes_eq-Decides name r.name).0 (found_passes (is_row name) rows r h.found) in
    ap (λ (o : Option TableRow). option_map_or (λ r. r.name) o []) h.there ∙ sym same

pub in_row : (rows : List TableRow) (name : List ℕ) (place : ℕ) (r : TableRow) (c : TableColumn) → Place rows name place r
    → coefficient_in rows c name ≡ coefficient_at place c
in_row rows name place r c h = ap (λ (o : Option ℕ). option_map_or (λ (k : ℕ). coefficient_at k c) o (pos 0)) h.at

pub in_no_row : (rows : List TableRow) (name : List ℕ) (c : TableColumn) → row_named rows name ≡ None → coefficient_in rows c name ≡ pos 0
in_no_row rows name c e = ap (λ (o : Option ℕ). option_map_or (λ (k : ℕ). coefficient_at k c) o (pos 0)) (no_place rows name e)
