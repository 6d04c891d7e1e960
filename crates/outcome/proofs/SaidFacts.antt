-- What the lines say of each column, line by line.
use Rattle.std.proofs.Common.{◌≡◌, ℕ, zero, suc, Bool, true, false, not, cond, ◌&&◌, ◌||◌, List, [], ◌∷◌, ◌++◌, Option}
use Rattle.std.proofs.Common.{Some, None, Ok, Err, Result, length, map, slice_get, is_some, get_or, refl, sym, ap, ap₂, ◌∙◌}
use Rattle.std.specs.Prelude.{bytes_eq, position, unwrap_or, replicate}
use Rattle.std.specs.List.{AllByRecursion, IsDistinct, list_any}
use Rattle.std.proofs.Math.ListN.{set}
use Rattle.std.proofs.Math.Bool.{or-false}
use Rattle.std.proofs.lemmas.Bool.{both_ways, cond_both, false_from_ne_true, or_parts}
use Rattle.std.proofs.lemmas.List.Folds.{list_any-append, list_any_at}
use Rattle.std.proofs.lemmas.List.Quantifiers.{position-Some}
use Rattle.std.proofs.lemmas.Map.Keys.{IsDistinct-head, IsDistinct-tail}
use Rattle.std.proofs.lemmas.Option.{slice_get-get_or, slice_get-map, slice_get_within, get_or_from_slice_get}
use Rattle.std.proofs.lemmas.Slice.Eq.{bytes_eq-Decides}
use denote.Ref.{Bor}
use Rattle.auction_terms.specs.FirstFault.{first_failed}
use Rattle.auction_terms.specs.LineFields.{field, fields, is_skipped}
use Rattle.outcome.specs.SolutionValues.{is_near}
use Rattle.outcome.specs.inside.SolutionValues.{token_value, value_fault}
use Rattle.outcome.specs.declared.solution_values.ValueFault.{ValueFault}
use Rattle.program_rows.specs.declared.solution_fault.SolutionFault.{SolutionFault}
use Rattle.program_rows.specs.declared.solution_fault.SolutionFault.TheVariants as fault
use Rattle.auction_terms.specs.Stages.{unless}
use Rattle.outcome.specs.Solution.{names_column, is_one}
use Rattle.auction_terms.specs.Lines.{bytes_of}
use Rattle.outcome.specs.inside.Reading.{pair_checks, said_of, said_by}
use Rattle.outcome.proofs.NearFacts.{value_checks, value_is}
use Rattle.outcome.proofs.PointFacts.{none_passes}

-- ---- one more line

or_left : (a b : Bool) → b ≡ false → (a || (b || false)) ≡ a
or_left a b h = rw h (or-false a)

or_right : (a b : Bool) → a ≡ false → (a || (b || false)) ≡ b
or_right a b h = rw h (or-false b)

abbrev sets : List ℕ → List ℕ → Bool
sets column line = names_column column line && is_near 1 (field 1 (fields line))

pub none_one : (text : List (List ℕ)) (column : List ℕ) → list_any (names_column column) text ≡ false → is_one text column ≡ false
none_one [] column h = refl
none_one (line ∷ text) column h =
    let parts = or_parts (names_column column line) (list_any (names_column column) text) h in
    let first : sets column line ≡ false = ap (λ b. b && is_near 1 (field 1 (fields line))) parts.0 in
    ap₂ (λ a b. a || b) first (none_one text column parts.1)

-- a line says nothing of a column that it doesn't name
unsaid : (text : List (List ℕ)) (line column : List ℕ) → names_column column line ≡ false → said_of (text ++ line ∷ []) column ≡ said_of text column
unsaid text line column h =
    let sets_not : sets column line ≡ false = ap (λ b. b && is_near 1 (field 1 (fields line))) h in
    ap₂ (λ (a b : Bool). cond a (Some b) None)
    (list_any-append (names_column column) text (line ∷ []) ∙ or_left (list_any (names_column column) text) (names_column column line) h)
    (list_any-append (sets column) text (line ∷ []) ∙ or_left (list_any (sets column) text) (sets column line) sets_not)

-- the first line that names a column says its value
said_now : (text : List (List ℕ)) (line column : List ℕ) (v : Bool) → names_column column line ≡ true
    → list_any (names_column column) text ≡ false → is_near 1 (field 1 (fields line)) ≡ v → said_of (text ++ line ∷ []) column ≡ Some v
said_now text line column v h none is =
    let sets_it : sets column line ≡ v = rw (h, is) refl in
    ap₂ (λ (a b : Bool). cond a (Some b) None)
    (list_any-append (names_column column) text (line ∷ []) ∙ or_right (list_any (names_column column) text) (names_column column line) none ∙ h)
    (list_any-append (sets column) text (line ∷ []) ∙ or_right (list_any (sets column) text) (sets column line) (none_one text column none) ∙ sets_it)

flipped : (x y : List ℕ) → bytes_eq x y ≡ false → bytes_eq y x ≡ false
flipped x y h = false_from_ne_true _ (λ e. both_ways _ h ((bytes_eq-Decides x y).1 (sym ((bytes_eq-Decides y x).0 e))))

-- the line names this column alone
module _ (text : List (List ℕ)) (line name : List ℕ) (v : Bool) (only : (column : List ℕ) → names_column column line ≡ bytes_eq column name) where
  others : (columns : List (List ℕ)) → AllByRecursion (λ c. bytes_eq name c ≡ false) columns → said_by columns text ≡ said_by columns (text ++ line ∷ [])
  others [] h = refl
  others (c ∷ columns) h = ap₂ (λ (x : Option Bool) (xs : List (Option Bool)). x ∷ xs)
      (sym (unsaid text line c (only c ∙ flipped name c h.0))) (others columns h.1)

  differs_at : (c : List ℕ) (columns : List (List ℕ)) (i : ℕ) → AllByRecursion (λ y. bytes_eq c y ≡ false) columns
      → slice_get columns i ≡ Some name → bytes_eq c name ≡ false
  differs_at c [] i h e = cc e
  differs_at c (d ∷ columns) zero h e = let same : d ≡ name = cc in rw (← same) h.0
  differs_at c (d ∷ columns) (suc i) h e = differs_at c columns i h.1 e

  pub said_set : (columns : List (List ℕ)) (i : ℕ) → IsDistinct bytes_eq columns → slice_get columns i ≡ Some name
      → list_any (names_column name) text ≡ false → is_near 1 (field 1 (fields line)) ≡ v
      → set (said_by columns text) i (Some v) ≡ said_by columns (text ++ line ∷ [])
  said_set [] i d e none is = cc e
  said_set (c ∷ columns) zero d e none is =
      let same : c ≡ name = cc in
      let here : names_column name line ≡ true = only name ∙ (bytes_eq-Decides name name).1 refl in
      let rest : AllByRecursion (λ y. bytes_eq name y ≡ false) columns = rw same at (IsDistinct-head bytes_eq c columns d) in
      ap₂ (λ (x : Option Bool) (xs : List (Option Bool)). x ∷ xs) (sym (rw same (said_now text line name v here none is))) (others columns rest)
  said_set (c ∷ columns) (suc i) d e none is =
      ap₂ (λ (x : Option Bool) (xs : List (Option Bool)). x ∷ xs) (sym
      (unsaid text line c (only c ∙ differs_at c columns i (IsDistinct-head bytes_eq c columns d) e)))
      (said_set columns i (IsDistinct-tail bytes_eq c columns d) e none is)

-- what two fields name
pub names_only : (line name token : List ℕ) → is_skipped line ≡ false → fields line ≡ name ∷ token ∷ [] → (column : List ℕ)
    → names_column column line ≡ bytes_eq column name
names_only line name token full two column = ap₂ (λ (s : Bool) (fs : List (List ℕ)). not s && bytes_eq column (unwrap_or (slice_get fs 0) [])) full two

pub value_of_pair : (line name token : List ℕ) → fields line ≡ name ∷ token ∷ [] → field 1 (fields line) ≡ token
value_of_pair line name token two = ap (λ (fs : List (List ℕ)). unwrap_or (slice_get fs 1) []) two

-- ---- the place of a name

pub found : (keys : List (Bor (List ℕ))) (name : List ℕ) (i : ℕ) → position (λ k. bytes_eq name k.now) keys ≡ Some i → slice_get (bytes_of keys) i ≡ Some name
found keys name i h =
    let none : Bor (List ℕ) = record { ref_ptr = (0, 0); now = [] } in
    let at = position-Some (λ (k : Bor (List ℕ)). bytes_eq name k.now) keys i none h in
    slice_get-map (λ (k : Bor (List ℕ)). k.now) keys i ∙ rw (slice_get-get_or keys i none at.0)
    (ap Some (sym ((bytes_eq-Decides name (get_or keys i none).now).0 at.1)))

pub is_known : (keys : List (Bor (List ℕ))) (name : List ℕ) (i : ℕ) → position (λ k. bytes_eq name k.now) keys ≡ Some i
    → list_any (bytes_eq name) (bytes_of keys) ≡ true
is_known keys name i h =
    let at = found keys name i h in
    list_any_at (bytes_eq name) (bytes_of keys) i name (slice_get_within (bytes_of keys) i name at)
    (rw (get_or_from_slice_get (bytes_of keys) i name name at) ((bytes_eq-Decides name name).1 refl))

none_among : (name : List ℕ) (keys : List (Bor (List ℕ))) → AllByRecursion (λ k. bytes_eq name k.now ≡ false) keys
    → list_any (bytes_eq name) (bytes_of keys) ≡ false
none_among name [] h = refl
none_among name (k ∷ keys) h = ap₂ (λ a b. a || b) h.0 (none_among name keys h.1)

is_unknown : (keys : List (Bor (List ℕ))) (name : List ℕ) → position (λ k. bytes_eq name k.now) keys ≡ None → list_any (bytes_eq name) (bytes_of keys) ≡ false
is_unknown keys name h = none_among name keys (none_passes (λ k. bytes_eq name k.now) keys h)

-- ---- what a name and a value mean

is_said : (text : List (List ℕ)) (name : List ℕ) → is_some (said_of text name) ≡ list_any (names_column name) text
is_said text name = cond_both (list_any (names_column name) text) (Some (is_one text name)) None
    (λ (o : Option Bool). is_some o ≡ list_any (names_column name) text) sym sym

module _ (keys : List (Bor (List ℕ))) (before : List (List ℕ)) (place : ℕ) (name token : List ℕ) where
  abbrev fault_is : Option SolutionFault
  fault_is = first_failed (pair_checks (bytes_of keys) before place name token)

  abbrev answer_is : Result (Unit {0}) SolutionFault
  answer_is = unless fault_is (Ok tt)

  pub unknown : None ≡ position (λ k. bytes_eq name k.now) keys → Err (fault.UnknownColumn place) ≡ answer_is
  unknown h = rw (is_unknown keys name (sym h)) refl

  -- what is said of the column at a place
  said_at : (said : List (Option Bool)) (i : ℕ) → said ≡ said_by (bytes_of keys) before → Some i ≡ position (λ k. bytes_eq name k.now) keys
      → get_or said i None ≡ said_of before name
  said_at said i is h = get_or_from_slice_get said i (said_of before name) None
      (rw (is, slice_get-map (said_of before) (bytes_of keys) i, found keys name i (sym h)) refl)

  pub repeated : (said : List (Option Bool)) (i : ℕ) → said ≡ said_by (bytes_of keys) before
      → Some i ≡ position (λ k. bytes_eq name k.now) keys → is_some (get_or said i None) ≡ true
      → Err (fault.RepeatedColumn place) ≡ answer_is
  repeated said i is h some =
      let before_it : list_any (names_column name) before ≡ true =
      sym (is_said before name) ∙ sym (ap (λ (o : Option Bool). is_some o) (said_at said i is h)) ∙ some in
      rw (is_known keys name i (sym h), before_it) refl

  is_new : (said : List (Option Bool)) (i : ℕ) → said ≡ said_by (bytes_of keys) before → Some i ≡ position (λ k. bytes_eq name k.now) keys
      → is_some (get_or said i None) ≡ false → list_any (names_column name) before ≡ false
  is_new said i is h none = sym (is_said before name) ∙ sym (ap (λ (o : Option Bool). is_some o) (said_at said i is h)) ∙ none

  by_value : (said : List (Option Bool)) (i : ℕ) → said ≡ said_by (bytes_of keys) before → Some i ≡ position (λ k. bytes_eq name k.now) keys
      → is_some (get_or said i None) ≡ false → fault_is ≡ value_fault place (token_value token)
  by_value said i is h none = rw (is_known keys name i (sym h), is_new said i is h none) (value_checks place token)

  pub valued : (said : List (Option Bool)) (i : ℕ) (v : Bool) → said ≡ said_by (bytes_of keys) before
      → Some i ≡ position (λ k. bytes_eq name k.now) keys → is_some (get_or said i None) ≡ false → Ok v ≡ token_value token
      → Ok tt ≡ answer_is
  valued said i v is h none value = ap (λ (f : Option SolutionFault). unless {A = Unit {0}} f (Ok tt))
      (sym (by_value said i is h none ∙ ap (value_fault place) (sym value)))

  pub not_valued : (said : List (Option Bool)) (i : ℕ) (wrong : ValueFault) (reported_it : SolutionFault)
      → said ≡ said_by (bytes_of keys) before → Some i ≡ position (λ k. bytes_eq name k.now) keys → is_some (get_or said i None) ≡ false
      → Err wrong ≡ token_value token → Some reported_it ≡ value_fault place (Err wrong) → Err reported_it ≡ answer_is
  not_valued said i wrong reported_it is h none value is_reported = ap (λ (f : Option SolutionFault). unless {A = Unit {0}} f (Ok tt))
      (is_reported ∙ sym (by_value said i is h none ∙ ap (value_fault place) (sym value)))

  -- the value of a column that wasn't named before is noted
  pub noted : (i : ℕ) (v : Bool) (said : List (Option Bool)) (line : List ℕ) → IsDistinct bytes_eq (bytes_of keys)
      → said ≡ said_by (bytes_of keys) before → is_skipped line ≡ false → fields line ≡ name ∷ token ∷ []
      → Some i ≡ position (λ k. bytes_eq name k.now) keys → is_some (get_or said i None) ≡ false → Ok v ≡ token_value token
      → set said i (Some v) ≡ said_by (bytes_of keys) (before ++ line ∷ [])
  noted i v said line distinct is full two h none value =
      rw is (said_set before line name v (names_only line name token full two) (bytes_of keys) i distinct (found keys name i (sym h))
      (is_new said i is h none) (ap (is_near 1) (value_of_pair line name token two) ∙ value_is token v (sym value)))

-- ---- the beginning and the end

pub nothing_said : (columns : List (List ℕ)) (n : ℕ) → n ≡ length columns → replicate n None ≡ said_by columns []
nothing_said [] n e = rw e refl
nothing_said (c ∷ columns) n e = rw e (ap (λ (xs : List (Option Bool)). None ∷ xs) (nothing_said columns (length columns) refl))

said_value : (text : List (List ℕ)) (column : List ℕ) → unwrap_or (said_of text column) false ≡ is_one text column
said_value text column =
    cond_both (list_any (names_column column) text) (Some (is_one text column)) None
    (λ (o : Option Bool). unwrap_or o false ≡ is_one text column) (λ h. refl) (λ h. sym (none_one text column h))

pub read_off : (columns text : List (List ℕ)) → map (λ s. unwrap_or s false) (said_by columns text) ≡ map (is_one text) columns
read_off [] text = refl
read_off (c ∷ columns) text = ap₂ (λ (b : Bool) (bs : List Bool). b ∷ bs) (said_value text c) (read_off columns text)
