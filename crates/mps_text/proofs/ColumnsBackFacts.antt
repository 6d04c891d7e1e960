-- What the lines of COLUMNS say of the columns.
use Rattle.std.proofs.Common.{◌≡◌, ℕ, Bool, true, false, cond, not, ◌&&◌, List, [], ◌∷◌, ◌++◌, map, refl, sym, ap, subst, ◌∙◌, append_assoc, Option, Some, None}
use Rattle.std.specs.Prelude.{⊤, bytes_eq, filter, find, flat_map, drop, if◌then◌else◌}
use Rattle.std.proofs.lemmas.List.{append-nil}
use Rattle.std.specs.List.{list_any, AllByRecursion, IsDistinct}
use Rattle.std.proofs.lemmas.Slice.Eq.{bytes_eq-Decides}
use Rattle.auction_terms.specs.LineFields.{LineFields, field}
use Rattle.program_rows.specs.MpsProgram.{is_marker, is_column, columns_named, column_lines, pairs}
use Rattle.program_rows.specs.MpsFaults.{is_integer_open, stands_in_integers}
use Rattle.program_rows.proofs.NamedItemFacts.{bytes_flip}
use Rattle.mps_text.proofs.ColumnPhaseFacts.{ArePlain, Pair, pair_fields, same-name}
use Rattle.mps_text.proofs.PushedFacts.{push, push-append}

-- a column by its name and its pairs
abbrev pub Listed : Type 0
Listed = List ℕ × List Pair

abbrev pub plain_lines : List Listed → List LineFields
plain_lines cs = flat_map (λ c. map (pair_fields c.0) c.1) cs

abbrev plain_line : LineFields → Bool
plain_line fields = not (is_marker fields)

-- ---- the lines that are no markers

keeps-pairs : (name : List ℕ) (pairs : List Pair) (before : List LineFields) → ArePlain pairs
    → filter plain_line (push (map (pair_fields name) pairs) before) ≡ push (map (pair_fields name) pairs) (filter plain_line before)
keeps-pairs name [] before h = refl
keeps-pairs name (pair ∷ pairs) before h = keeps-pairs name pairs (pair_fields name pair ∷ before) h.1 ∙ rw h.0 refl

pub keeps-lines : (cs : List Listed) (before : List LineFields) → AllByRecursion (λ c. ArePlain c.1) cs
    → filter plain_line (push (plain_lines cs) before) ≡ push (plain_lines cs) (filter plain_line before)
keeps-lines [] before h = refl
keeps-lines (c ∷ cs) before h =
    let chunk = map (pair_fields c.0) c.1 in
    rw (
      push-append chunk (plain_lines cs) before,
      push-append chunk (plain_lines cs) (filter plain_line before),
      keeps-lines cs (push chunk
          before) h.1,
      keeps-pairs c.0 c.1 before h.0,
    ) refl

-- ---- names

-- the first fields, each once, in the order of the text
abbrev pub each_once : List LineFields → List (List ℕ)
each_once [] = []
each_once (fields ∷ before) = if list_any (λ other. bytes_eq (field 0 fields) (field 0 other)) before then each_once before else each_once
    before ++ field 0 fields ∷ []

pub named-once : (lines : List LineFields) → columns_named lines ≡ each_once (column_lines lines)
named-once [] = refl
named-once (f ∷ lines) = by (is_marker f) refl (is_column lines (field 0 f)) refl (named-once lines)
  where
    by : (m : Bool) → is_marker f ≡ m → (b : Bool) → is_column lines (field 0 f) ≡ b → columns_named lines ≡ each_once (column_lines lines)
        → columns_named (f ∷ lines) ≡ each_once (column_lines (f ∷ lines))
    by true m b e more = rw m more
    by false m true e more = rw (m, e) more
    by false m false e more = rw (m, e) (ap (λ (ns : List (List ℕ)). ns ++ field 0 f ∷ []) more)

-- the names of others aren't this one
abbrev pub Differs : List ℕ → List Listed → Type 0
Differs name cs = AllByRecursion (λ c. bytes_eq c.0 name ≡ false) cs

once-more : (name : List ℕ) (pairs : List Pair) (before : List LineFields) → list_any (λ other. bytes_eq name (field 0 other)) before ≡ true
    → each_once (push (map (pair_fields name) pairs) before) ≡ each_once before
once-more name [] before h = refl
once-more name (pair ∷ pairs) before h = once-more name pairs (pair_fields name pair ∷ before) (rw (same-name name) refl) ∙ rw h refl

once-first : (name : List ℕ) (pair : Pair) (pairs : List Pair) (before : List LineFields)
    → list_any (λ other. bytes_eq name (field 0 other)) before ≡ false
    → each_once (push (map (pair_fields name) (pair ∷ pairs)) before) ≡ each_once before ++ name ∷ []
once-first name pair pairs before h = once-more name pairs (pair_fields name pair ∷ before) (rw (same-name name) refl) ∙ rw h refl

not-named : (name other : List ℕ) (pairs : List Pair) (before : List LineFields) → bytes_eq name other ≡ false
    → list_any (λ f. bytes_eq name (field 0 f)) before ≡ false
    → list_any (λ f. bytes_eq name (field 0 f)) (push (map (pair_fields other) pairs) before) ≡ false
not-named name other [] before d h = h
not-named name other (pair ∷ pairs) before d h = not-named name other pairs (pair_fields other pair ∷ before) d (rw (d, h) refl)

abbrev pub AreUnnamed : List LineFields → List Listed → Type 0
AreUnnamed before cs = AllByRecursion (λ c. list_any (λ f. bytes_eq c.0 (field 0 f)) before ≡ false) cs

still_unnamed : (name : List ℕ) (pairs : List Pair) (before : List LineFields) (cs : List Listed)
    → AllByRecursion (λ other. bytes_eq name other ≡ false) (map (λ c. c.0) cs) → AreUnnamed before cs
    → AreUnnamed (push (map (pair_fields name) pairs) before) cs
still_unnamed name pairs before [] d h = tt
still_unnamed name pairs before (c ∷ cs) d h = (not-named c.0 name pairs before (bytes_flip name c.0 d.0) h.0, still_unnamed name pairs before cs d.1 h.1)

-- a column has at least the pair of its cost
abbrev pub IsFilled : List Pair → Type 0
IsFilled [] = ⊥
IsFilled (pair ∷ pairs) = ⊤

once-column : (name : List ℕ) (pairs : List Pair) (before : List LineFields) → IsFilled pairs
    → list_any (λ other. bytes_eq name (field 0 other)) before ≡ false
    → each_once (push (map (pair_fields name) pairs) before) ≡ each_once before ++ name ∷ []
once-column name [] before f h = absurd f
once-column name (pair ∷ pairs) before f h = once-first name pair pairs before h

pub names-once : (cs : List Listed) (before : List LineFields) → IsDistinct bytes_eq (map (λ c. c.0) cs)
    → AllByRecursion (λ c. IsFilled c.1) cs → AreUnnamed before cs
    → each_once (push (plain_lines cs) before) ≡ each_once before ++ map (λ c. c.0) cs
unfolding IsDistinct
names-once [] before d f h = sym (append-nil (each_once before))
names-once (c ∷ cs) before d f h =
    let chunk = map (pair_fields c.0) c.1 in
    rw (
      push-append chunk (plain_lines cs) before,
      names-once cs (push chunk before) d.1 f.1 (still_unnamed c.0 c.1 before cs d.0
          h.1),
      once-column c.0 c.1 before f.0 h.0,
    ) (append_assoc (each_once before) (c.0 ∷ []) (map (λ q. q.0) cs))

-- ---- the number of a column and a row

-- the pair of a row
abbrev pub look : List ℕ → List Pair → Option Pair
look row pairs = find (λ pair. bytes_eq row pair.0) pairs

-- the pairs that lines give a column
abbrev pub pairs_in : List LineFields → List ℕ → List Pair
pairs_in before name = flat_map (λ fields. pairs (drop 1 fields)) (filter (λ fields. bytes_eq name (field 0 fields)) before)

other-column : (name other : List ℕ) (ps : List Pair) (before : List LineFields) → bytes_eq name other ≡ false
    → pairs_in (push (map (pair_fields other) ps) before) name ≡ pairs_in before name
other-column name other [] before d = refl
other-column name other (pair ∷ ps) before d = other-column name other ps (pair_fields other pair ∷ before) d ∙ rw d refl

own-column : (name : List ℕ) (ps : List Pair) (before : List LineFields)
    → pairs_in (push (map (pair_fields name) ps) before) name ≡ push ps (pairs_in before name)
own-column name [] before = refl
own-column name (pair ∷ ps) before = own-column name ps (pair_fields name pair ∷ before) ∙ rw (same-name name) refl

-- no line before is of these columns
abbrev pub AreUnlisted : List LineFields → List Listed → Type 0
AreUnlisted before cs = AllByRecursion (λ c. pairs_in before c.0 ≡ []) cs

still_unlisted : (name : List ℕ) (ps : List Pair) (before : List LineFields) (cs : List Listed)
    → AllByRecursion (λ other. bytes_eq name other ≡ false) (map (λ c. c.0) cs) → AreUnlisted before cs
    → AreUnlisted (push (map (pair_fields name) ps) before) cs
still_unlisted name ps before [] d h = tt
still_unlisted name ps before (c ∷ cs) d h = (other-column c.0 name ps before (bytes_flip name c.0 d.0) ∙ h.0, still_unlisted name ps before cs d.1 h.1)

other-columns : (name : List ℕ) (cs : List Listed) (before : List LineFields)
    → AllByRecursion (λ other. bytes_eq name other ≡ false) (map (λ c. c.0) cs)
    → pairs_in (push (plain_lines cs) before) name ≡ pairs_in before name
other-columns name [] before d = refl
other-columns name (c ∷ cs) before d =
    rw (push-append (map (pair_fields c.0) c.1) (plain_lines cs) before)
    (other-columns name cs (push (map (pair_fields c.0) c.1) before) d.1 ∙ other-column name c.0 c.1 before d.0)

-- the pairs of a column come back, the last one first
pub pairs-found : (cs : List Listed) (before : List LineFields) → IsDistinct bytes_eq (map (λ c. c.0) cs) → AreUnlisted before cs
    → AllByRecursion (λ c. pairs_in (push (plain_lines cs) before) c.0 ≡ push c.1 []) cs
unfolding IsDistinct
pairs-found [] before d h = tt
pairs-found (c ∷ cs) before d h =
    let chunk = map (pair_fields c.0) c.1 in
    subst (λ (w : List LineFields). AllByRecursion (λ q. pairs_in w q.0 ≡ push q.1 []) (c ∷ cs)) (sym (push-append chunk (plain_lines cs) before)) (
      other-columns c.0 cs (push chunk before) d.0 ∙ own-column c.0 c.1 before ∙ ap (push c.1) h.0,
      pairs-found cs (push chunk before) d.1 (still_unlisted c.0 c.1 before cs d.0 h.1),
    )

other-rows : (row : List ℕ) (ps before : List Pair) → AllByRecursion (λ q. bytes_eq row q ≡ false) (map (λ pair. pair.0) ps)
    → look row (push ps before) ≡ look row before
other-rows row [] before d = refl
other-rows row (pair ∷ ps) before d = other-rows row ps (pair ∷ before) d.1 ∙ rw (d.0) refl

-- if no two rows are the same, a pair is found from either end
pub looked : (row : List ℕ) (ps before : List Pair) → IsDistinct bytes_eq (map (λ pair. pair.0) ps) → look row before ≡ None
    → look row (push ps before) ≡ look row ps
unfolding IsDistinct
looked row [] before d h = h
looked row (pair ∷ ps) before d h = by (bytes_eq row pair.0) refl (looked row ps (pair ∷ before) d.1)
  where
    by : (b : Bool) → bytes_eq row pair.0 ≡ b → (look row (pair ∷ before) ≡ None → look row (push ps (pair ∷ before)) ≡ look row ps)
        → look row (push ps (pair ∷ before)) ≡ cond b (Some pair) (look row ps)
    by true e more =
        let same : row ≡ pair.0 = (bytes_eq-Decides row pair.0).0 e in
        rw same (other-rows pair.0 ps (pair ∷ before) d.0 ∙ rw (same-name pair.0) refl)
    by false e more = more (rw e h)

-- ---- integers

open-pairs : (name : List ℕ) (pairs : List Pair) (before : List LineFields) → ArePlain pairs
    → is_integer_open (push (map (pair_fields name) pairs) before) ≡ is_integer_open before
open-pairs name [] before h = refl
open-pairs name (pair ∷ pairs) before h = open-pairs name pairs (pair_fields name pair ∷ before) h.1 ∙ rw h.0 refl

pub open-lines : (cs : List Listed) (before : List LineFields) → AllByRecursion (λ c. ArePlain c.1) cs
    → is_integer_open (push (plain_lines cs) before) ≡ is_integer_open before
open-lines [] before h = refl
open-lines (c ∷ cs) before h =
    let chunk = map (pair_fields c.0) c.1 in
    rw (push-append chunk (plain_lines cs) before) (open-lines cs (push chunk before) h.1 ∙ open-pairs c.0 c.1 before h.0)

stands-other : (name other : List ℕ) (pairs : List Pair) (before : List LineFields) → bytes_eq name other ≡ false
    → stands_in_integers name (push (map (pair_fields other) pairs) before) ≡ stands_in_integers name before
stands-other name other [] before d = refl
stands-other name other (pair ∷ pairs) before d = stands-other name other pairs (pair_fields other pair ∷ before) d ∙ stands-skip
  where
    stands-skip : stands_in_integers name (pair_fields other pair ∷ before) ≡ stands_in_integers name before
    stands-skip = elim (is_marker (pair_fields other pair)) as (λ b. cond (not b && bytes_eq name other) (is_integer_open before)
        (stands_in_integers name before) ≡ stands_in_integers name before) [
          | true ↦ refl
          | false ↦ rw d refl
        ]

stands-others : (name : List ℕ) (cs : List Listed) (before : List LineFields)
    → AllByRecursion (λ other. bytes_eq name other ≡ false) (map (λ c. c.0) cs)
    → stands_in_integers name (push (plain_lines cs) before) ≡ stands_in_integers name before
stands-others name [] before d = refl
stands-others name (c ∷ cs) before d =
    let chunk = map (pair_fields c.0) c.1 in
    rw (push-append chunk (plain_lines cs) before) (stands-others name cs (push chunk before) d.1 ∙ stands-other name c.0 c.1 before d.0)

stands-more : (name : List ℕ) (pairs : List Pair) (before : List LineFields) → ArePlain pairs → is_integer_open before ≡ true
    → stands_in_integers name before ≡ true → stands_in_integers name (push (map (pair_fields name) pairs) before) ≡ true
stands-more name [] before h o s = s
stands-more name (pair ∷ pairs) before h o s = stands-more name pairs (pair_fields name pair ∷ before) h.1 (rw h.0 o) (rw (h.0, same-name name) o)

stands-own : (name : List ℕ) (pairs : List Pair) (before : List LineFields) → IsFilled pairs → ArePlain pairs
    → is_integer_open before ≡ true → stands_in_integers name (push (map (pair_fields name) pairs) before) ≡ true
stands-own name [] before f h o = absurd f
stands-own name (pair ∷ pairs) before f h o = stands-more name pairs (pair_fields name pair ∷ before) h.1 (rw h.0 o) (rw (h.0, same-name name) o)

pub all-stand : (cs : List Listed) (before : List LineFields) → IsDistinct bytes_eq (map (λ c. c.0) cs)
    → AllByRecursion (λ c. IsFilled c.1) cs → AllByRecursion (λ c. ArePlain c.1) cs → is_integer_open before ≡ true
    → AllByRecursion (λ c. stands_in_integers c.0 (push (plain_lines cs) before) ≡ true) cs
unfolding IsDistinct
all-stand [] before d f h o = tt
all-stand (c ∷ cs) before d f h o =
    let chunk = map (pair_fields c.0) c.1 in
    subst (λ (w : List LineFields). AllByRecursion (λ q. stands_in_integers q.0 w ≡ true) (c ∷ cs)) (sym (push-append chunk (plain_lines cs) before)) (
      stands-others c.0 cs (push chunk before) d.0 ∙ stands-own c.0 c.1 before f.0 h.0 o,
      all-stand cs (push chunk before) d.1 f.1 h.1 (open-pairs c.0 c.1 before h.0 ∙ o),
    )
