-- Bounds are those of the lines so far.
use Rattle.std.proofs.Common.{◌≡◌, ℕ, zero, suc, Bool, true, false, not, ◌||◌, ◌&&◌, List, [], ◌∷◌, length, map, refl, sym}
use Rattle.std.proofs.Common.{ap, subst, ◌∙◌, Option, Some, None, pos, ◌+◌, ◌<◌, drop, get_or, arith}
use Rattle.program_rows.proofs.NamedItemFacts.{bytes_flip}
use Rattle.std.specs.Prelude.{◌==◌, slice_get, bytes_eq, codes, nat_le, if◌then◌else◌}
use denote.Ref.{Bor}
use Rattle.auction_terms.specs.Lines.{bytes_of}
use Rattle.std.specs.List.{list_any, slice_set, AllByRecursion, IsDistinct}
use Rattle.auction_terms.specs.LineFields.{LineFields, field}
use Rattle.program_rows.specs.MpsProgram.{is_one_of, value, is_binary_bound, columns_named, bound_pair, is_column}
use Rattle.program_rows.specs.MpsFaults.{bound_fault, earliest_fault, stands_in_integers}
use Rattle.program_rows.specs.declared.mps_fault_kind.MpsFaultKind.{MpsFaultKind}
use Rattle.program_rows.specs.declared.mps_fault_kind.MpsFaultKind.TheVariants.{BoundType, Fields, UnknownColumn}
use Rattle.mps_reader.specs.inside.Rows.{names_of}
use Rattle.mps_reader.specs.inside.Tracking.{ColumnsTell, state_values, parsed_values, bounded_values}
use Rattle.mps_reader.specs.declared.tables.ColumnState.{ColumnState}
use Rattle.mps_reader.specs.declared.tables.ColumnTable.{ColumnTable}
use Rattle.mps_reader.proofs.NameFacts.{same_name, any-names, length-bytes}
use Rattle.mps_reader.proofs.RowStepFacts.{no_name, field-at}
use Rattle.mps_reader.proofs.PairFacts.{all-at}
use Rattle.mps_reader.proofs.LineFacts.{columns-any}
use Rattle.mps_reader.specs.inside.Reading.{bit_fault}
use Rattle.std.specs.Bool.{then_some as when}

-- ---- fields after others

first-after : (k : ℕ) (f : LineFields) → field 0 (drop k f) ≡ field k f
first-after (suc k) (x ∷ f) = first-after k f
first-after _ _ = refl

next-after : (k : ℕ) (f : LineFields) → field 1 (drop k f) ≡ field (suc k) f
next-after (suc k) (x ∷ f) = next-after k f
next-after _ _ = refl

second-after : (k : ℕ) (f : LineFields) → field 1 (drop k f) ≡ field (k + 1) f
second-after k f = let next : suc k ≡ k + 1 = omega arith in next-after k f ∙ ap (λ (n : ℕ). field n f) next

-- ---- faults

abbrev type_ok : LineFields → Bool
type_ok f = is_one_of (field 0 f) (codes "UP" ∷ codes "LO" ∷ codes "FX" ∷ codes "BV" ∷ [])

abbrev count_ok : LineFields → Bool
count_ok f = if is_binary_bound f then nat_le 2 (length f) && nat_le (length f) 4 else nat_le 3 (length f) && nat_le (length f) 4

-- the checks of the type and the number of fields
abbrev pub type_fault : LineFields → Option MpsFaultKind
type_fault f = earliest_fault (when (not (is_one_of (field 0 f) (codes "UP" ∷ codes "LO" ∷ codes "FX" ∷ codes "BV" ∷ []))) BoundType
    ∷ when (not (if is_binary_bound f then nat_le 2 (length f) && nat_le (length f) 4 else nat_le 3 (length f) && nat_le (length f) 4)) Fields ∷ [])

early : (a b : Bool) (more : List (Option MpsFaultKind)) (kind : MpsFaultKind)
    → earliest_fault (when (not a) BoundType ∷ when (not b) Fields ∷ []) ≡ Some kind
    → earliest_fault (when (not a) BoundType ∷ when (not b) Fields ∷ more) ≡ Some kind
early true true more kind h = absurd cc
early _ _ more kind h = h

rest : (a b : Bool) (more : List (Option MpsFaultKind)) → earliest_fault (when (not a) BoundType ∷ when (not b) Fields ∷ []) ≡ None
    → earliest_fault (when (not a) BoundType ∷ when (not b) Fields ∷ more) ≡ earliest_fault more
rest true true more h = refl
rest _ _ more h = absurd cc

abbrev after : List LineFields → LineFields → List (Option MpsFaultKind)
after lines f =
    when (not (is_column lines (field 0 (bound_pair f)))) UnknownColumn ∷ (if is_binary_bound f then None else bit_fault (field 1 (bound_pair f))) ∷ []

pub type-refused : (lines : List LineFields) (f : LineFields) (kind : MpsFaultKind) → type_fault f ≡ Some kind → bound_fault lines f ≡ Some kind
type-refused lines f kind h = early (type_ok f) (count_ok f) (after lines f) kind h

pub type-taken : (lines : List LineFields) (f : LineFields) (known binary : Bool) (fault : Option MpsFaultKind) → type_fault f ≡ None
    → is_column lines (field 0 (bound_pair f)) ≡ known → is_binary_bound f ≡ binary
    → earliest_fault (when (not known) UnknownColumn ∷ (if binary then None else bit_fault (field 1 (bound_pair f))) ∷ []) ≡ fault → bound_fault lines f ≡ fault
type-taken lines f known binary fault h k is e =
    let kept = subst (λ b. earliest_fault (when (not known) UnknownColumn ∷ (if b then None else bit_fault (field 1 (bound_pair f))) ∷ []) ≡ fault)
    (sym is) e in
    let all = subst (λ b. earliest_fault (when (not b) UnknownColumn ∷ (if is_binary_bound f then None else bit_fault (field 1 (bound_pair f))) ∷ [])
    ≡ fault) (sym k) kept in
    rest (type_ok f) (count_ok f) (after lines f) h ∙ all

-- ---- the column and the number of a bound, at the places at which the code looks for them

place-is : (fs : List (Bor (List ℕ))) (binary : Bool) (at : ℕ) → binary ≡ is_binary_bound (bytes_of fs)
    → at ≡ (if length fs == (if binary then 2 else 3) then 1 else 2)
    → (if length (bytes_of fs) == (if is_binary_bound (bytes_of fs) then 2 else 3) then 1 else 2) ≡ at
place-is fs binary at is e = rw (length-bytes fs, sym is) (sym e)

pub column-at : (fs : List (Bor (List ℕ))) (binary : Bool) (at : ℕ) → binary ≡ is_binary_bound (bytes_of fs)
    → at ≡ (if length fs == (if binary then 2 else 3) then 1 else 2) → at < length fs
    → field 0 (bound_pair (bytes_of fs)) ≡ (get_or fs at no_name).now
column-at fs binary at is e within = first-after _ (bytes_of fs) ∙ ap (λ n. field n (bytes_of fs)) (place-is fs binary at is e) ∙ field-at fs at within

pub number-at : (fs : List (Bor (List ℕ))) (binary : Bool) (at : ℕ) → binary ≡ is_binary_bound (bytes_of fs)
    → at ≡ (if length fs == (if binary then 2 else 3) then 1 else 2) → at + 1 < length fs
    → field 1 (bound_pair (bytes_of fs)) ≡ (get_or fs (at + 1) no_name).now
number-at fs binary at is e within =
    second-after _ (bytes_of fs) ∙ ap (λ n. field (n + 1) (bytes_of fs)) (place-is fs binary at is e) ∙ field-at fs (at + 1) within

-- a name of a column is a column of the lines
pub known-is : (lines : List LineFields) (keys : List (Bor (List ℕ))) (word name : List ℕ) (b : Bool) → bytes_of keys ≡ columns_named lines
    → word ≡ name → b ≡ list_any (λ k. bytes_eq name k.now) keys → is_column lines word ≡ b
known-is lines keys word name b h same found =
    sym (ap (list_any (bytes_eq word)) h ∙ columns-any word lines) ∙ ap (λ n. list_any (bytes_eq n) (bytes_of keys)) same ∙ sym (any-names name keys)
    ∙ sym found

-- ---- values

pub and-false : (a : Bool) → (a && false) ≡ false
and-false true = refl
and-false false = refl

or-true : (a b : Bool) → (a || (true || b)) ≡ true
or-true true b = refl
or-true false b = refl

values-other : (f : LineFields) (lines bounds : List LineFields) (n : List ℕ) → bytes_eq n (field 0 (bound_pair f)) ≡ false
    → parsed_values lines (f ∷ bounds) n ≡ parsed_values lines bounds n
values-other f lines bounds n h =
    let low : (is_one_of (field 0 f) (codes "LO" ∷ codes "FX" ∷ codes "BV" ∷ []) && bytes_eq n (field 0 (bound_pair f))) ≡ false =
    ap (λ b. is_one_of (field 0 f) (codes "LO" ∷ codes "FX" ∷ codes "BV" ∷ []) && b) h ∙ and-false _ in
    let high : (is_one_of (field 0 f) (codes "UP" ∷ codes "FX" ∷ codes "BV" ∷ []) && bytes_eq n (field 0 (bound_pair f))) ≡ false =
    ap (λ b. is_one_of (field 0 f) (codes "UP" ∷ codes "FX" ∷ codes "BV" ∷ []) && b) h ∙ and-false _ in
    let binary : (is_binary_bound f && bytes_eq n (field 0 (bound_pair f))) ≡ false = ap (λ b. is_binary_bound f && b) h ∙ and-false _ in
    rw (low, high, binary) refl

pub values-binary : (f : LineFields) (lines bounds : List LineFields) (n : List ℕ) → bytes_eq n (field 0 (bound_pair f)) ≡ true
    → field 0 f ≡ codes "BV" → parsed_values lines (f ∷ bounds) n ≡ (true, pos 0, Some (pos 1))
values-binary f lines bounds n h e =
    let is : is_binary_bound f ≡ true = rw e refl in
    rw (h, e, is) (ap (λ b. (b, pos 0, Some (pos 1))) (or-true (stands_in_integers n lines)
    (list_any (λ x. is_binary_bound x && bytes_eq n (field 0 (bound_pair x))) bounds)))

pub values-of : (f : LineFields) (lines bounds : List LineFields) (n : List ℕ) → bytes_eq n (field 0 (bound_pair f)) ≡ true
    → is_one_of (field 0 f) (codes "UP" ∷ codes "LO" ∷ codes "FX" ∷ []) ≡ true
    → parsed_values lines (f ∷ bounds) n ≡ bounded_values (field 0 f) (value (field 1 (bound_pair f))) (parsed_values lines bounds n)
values-of f lines bounds n h one =
    by (bytes_eq (field 0 f) (codes "UP")) (bytes_eq (field 0 f) (codes "LO")) (bytes_eq (field 0 f) (codes "FX")) refl refl refl one
  where
    by : (u l x : Bool) → bytes_eq (field 0 f) (codes "UP") ≡ u → bytes_eq (field 0 f) (codes "LO") ≡ l → bytes_eq (field 0 f) (codes "FX") ≡ x
        → (u || (l || (x || false))) ≡ true
        → parsed_values lines (f ∷ bounds) n ≡ bounded_values (field 0 f) (value (field 1 (bound_pair f))) (parsed_values lines bounds n)
    by true l x up lo fx one = let word = same_name (field 0 f) (codes "UP") up in let no : is_binary_bound f ≡ false = rw word refl in rw (h, word, no) refl
    by false true x up lo fx one = let word = same_name (field 0 f) (codes "LO") lo in let no : is_binary_bound f ≡ false = rw word refl in
        rw (h, word, no) refl
    by false false true up lo fx one = let word = same_name (field 0 f) (codes "FX") fx in let no : is_binary_bound f ≡ false = rw word refl in
        rw (h, word, no) refl
    by false false false up lo fx one = absurd cc

others-parsed : (f : LineFields) (lines bounds : List LineFields) (ns : List (List ℕ))
    → AllByRecursion (λ n. bytes_eq (field 0 (bound_pair f)) n ≡ false) ns
    → map (parsed_values lines bounds) ns ≡ map (parsed_values lines (f ∷ bounds)) ns
others-parsed f lines bounds [] h = refl
others-parsed f lines bounds (n ∷ ns) h =
    ap (λ v. v ∷ map (parsed_values lines bounds) ns) (sym (values-other f lines bounds n (bytes_flip (field 0 (bound_pair f)) n h.0)))
    ∙ ap (λ vs. parsed_values lines (f ∷ bounds) n ∷ vs) (others-parsed f lines bounds ns h.1)

pub set-parsed : (f : LineFields) (lines bounds : List LineFields) (states : List ColumnState) (ns : List (List ℕ)) (i : ℕ) (s : ColumnState)
    → IsDistinct bytes_eq ns → slice_get ns i ≡ Some (field 0 (bound_pair f))
    → map state_values states ≡ map (parsed_values lines bounds) ns
    → state_values s ≡ parsed_values lines (f ∷ bounds) (field 0 (bound_pair f))
    → map state_values (slice_set states i s) ≡ map (parsed_values lines (f ∷ bounds)) ns
unfolding IsDistinct
set-parsed f lines bounds states [] i s d e h is = absurd cc
set-parsed f lines bounds [] (n ∷ ns) i s d e h is = absurd cc
set-parsed f lines bounds (x ∷ states) (n ∷ ns) zero s d e h is =
    let same : n ≡ field 0 (bound_pair f) = cc in
    let tail : map state_values states ≡ map (parsed_values lines bounds) ns = cc in
    ap (λ v. v ∷ map state_values states) (is ∙ ap (parsed_values lines (f ∷ bounds)) (sym same))
    ∙ ap (λ vs. parsed_values lines (f ∷ bounds) n ∷ vs) (tail ∙ others-parsed f lines bounds ns
    (subst (λ m. AllByRecursion (λ y. bytes_eq m y ≡ false) ns) same d.0))
set-parsed f lines bounds (x ∷ states) (n ∷ ns) (suc i) s d e h is =
    let head : state_values x ≡ parsed_values lines bounds n = cc in
    let tail : map state_values states ≡ map (parsed_values lines bounds) ns = cc in
    ap (λ v. v ∷ map state_values (slice_set states i s)) (head ∙ sym
    (values-other f lines bounds n (all-at (λ y. bytes_eq n y ≡ false) ns i (field 0 (bound_pair f)) e d.0)))
    ∙ ap (λ vs. parsed_values lines (f ∷ bounds) n ∷ vs) (set-parsed f lines bounds states ns i s d.1 e tail is)

pub parsed-at : (lines bounds : List LineFields) (states : List ColumnState) (ns : List (List ℕ)) (i : ℕ) (s : ColumnState) (n : List ℕ)
    → slice_get states i ≡ Some s → slice_get ns i ≡ Some n → map state_values states ≡ map (parsed_values lines bounds) ns
    → state_values s ≡ parsed_values lines bounds n
parsed-at lines bounds (x ∷ states) (m ∷ ns) zero s n a b h =
    let head : state_values x ≡ parsed_values lines bounds m = cc in
    let one : x ≡ s = cc in
    let two : m ≡ n = cc in
    ap state_values (sym one) ∙ head ∙ ap (parsed_values lines bounds) two
parsed-at lines bounds (x ∷ states) (m ∷ ns) (suc i) s n a b h =
    let tail : map state_values states ≡ map (parsed_values lines bounds) ns = cc in parsed-at lines bounds states ns i s n a b tail
parsed-at lines bounds _ _ i s n a b h = absurd cc

pub bound-tells : (f : LineFields) (o : Option (List ℕ)) (rows : List (List ℕ)) (lines bounds : List LineFields) (old new : ColumnTable)
    (i : ℕ) (s : ColumnState)
    → new ≡ record old { states = new.states } → new.states.items ≡ slice_set old.states.items i s
    → IsDistinct bytes_eq (names_of old.names) → slice_get (names_of old.names) i ≡ Some (field 0 (bound_pair f))
    → state_values s ≡ parsed_values lines (f ∷ bounds) (field 0 (bound_pair f)) → ColumnsTell o rows lines bounds old
    → ColumnsTell o rows lines (f ∷ bounds) new
bound-tells f o rows lines bounds old new i s same set distinct at is h =
    let parsed = set-parsed f lines bounds old.states.items (names_of old.names) i s distinct at
    (h.states ∙ ap (map (parsed_values lines bounds)) (sym h.names)) is in
    subst (λ c. ColumnsTell o rows lines (f ∷ bounds) c) (sym same) (record {
      names = h.names;
      begun = h.begun;
      states = ap (map state_values) set ∙ parsed ∙ ap (map (parsed_values lines (f ∷ bounds))) h.names;
      done = h.done;
      opened = h.opened;
      closed = h.closed;
    })
