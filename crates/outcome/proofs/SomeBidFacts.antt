-- A solution that is taken against the program of some of the kept bids is taken against that of all.
use Rattle.std.proofs.Common.{◌≡◌, ℕ, ◌+◌, Bool, true, false, not, ◌||◌, ◌==◌, List, [], ◌∷◌, ◌++◌, Option, None, Ok}
use Rattle.std.proofs.Common.{length, map, refl, sym, ap, ap₂, subst, ◌∙◌, arith}
use Rattle.std.specs.Prelude.{bytes_eq, nat_lt, position}
use Rattle.std.specs.List.{AllByRecursion, enumerate_from, list_any, position_or_len, range_with_len, zip}
use Rattle.std.specs.Option.{option_map, option_or}
use Rattle.std.proofs.lemmas.Bool.{and_parts, both_ways, false_from_ne_true, true_from_ne_false}
use Rattle.std.proofs.lemmas.Bool.Decides.{nat_tests}
use Rattle.std.proofs.lemmas.Simd.{map-map}
use Rattle.std.proofs.lemmas.Slice.Eq.{bytes_eq-Decides}
use Rattle.auction_terms.specs.Allocations.{Book}
use Rattle.auction_terms.specs.FirstFault.{first_fault, first_failed}
use Rattle.auction_terms.specs.Keeping.{Offer, kept_of}
use Rattle.auction_terms.specs.Limits.{IsBook}
use Rattle.auction_terms.specs.Lines.{lines_of}
use Rattle.auction_terms.specs.Packages.{Lots}
use Rattle.auction_terms.specs.declared.bids.Choice.{Choice}
use Rattle.auction_terms.specs.declared.limits.TheConstants.{MOST_BIDDERS}
use Rattle.auction_terms.proofs.LimitFacts.{kept_are_offers}
use Rattle.auction_terms.proofs.OfferFacts.{all_agree}
use Rattle.program_rows.specs.Faithful.{back}
use Rattle.auction_terms.specs.LineFields.{field, fields, is_skipped}
use Rattle.program_rows.specs.Points.{allows, meets, row_sum, AreAllowed, IsPoint}
use Rattle.program_rows.specs.Program.{Table, TableColumn}
use Rattle.program_rows.specs.ProgramNames.{column_names}
use Rattle.program_rows.specs.Rows.{program_of}
use Rattle.program_rows.specs.Spelling.{bid_name}
use Rattle.program_rows.proofs.FaithfulFacts.{IsNumbered, numbered}
use Rattle.program_rows.proofs.FewerBidFacts.{IsSilent, named_of, names_among, point_of_all, same_back, unnamed}
use Rattle.outcome.specs.Coming.{SomeBidsSuffice}
use Rattle.outcome.specs.inside.Reading.{pair_checks}
use Rattle.outcome.specs.inside.Winning.{by_bidder}
use Rattle.outcome.specs.Solution.{is_one, names_column, point_fault, solution, solution_line_fault}
use Rattle.program_rows.specs.declared.solution_fault.SolutionFault.TheVariants as fault
use Rattle.outcome.specs.declared.limits.TheConstants.{SOLUTION_LIMIT}
use Rattle.outcome.proofs.PointFacts.{both_none, solutions_are_points, parts_hold}
use Rattle.outcome.proofs.SaidFacts.{none_one}

-- ---- lines without a fault, by the names of columns

module _ (few all : List (List ℕ)) (among : (name : List ℕ) → list_any (bytes_eq name) few ≡ true → list_any (bytes_eq name) all ≡ true) where
  pair_known : (before : List (List ℕ)) (place : ℕ) (name token : List ℕ) → first_failed (pair_checks few before place name token) ≡ None
      → list_any (bytes_eq name) few ≡ true
  pair_known before place name token h = true_from_ne_false (list_any (bytes_eq name) few) (λ e. let f = rw e at h in cc f)

  pair_fine : (before : List (List ℕ)) (place : ℕ) (name token : List ℕ) → first_failed (pair_checks few before place name token) ≡ None
      → first_failed (pair_checks all before place name token) ≡ None
  pair_fine before place name token h =
      let known = pair_known before place name token h in
      rw (among name known) (rw known at h)

  two_fields : (before : List (List ℕ)) (line : List ℕ)
      → first_failed ((length (fields line) == 2, fault.Fields (length before + 1)) ∷ pair_checks few before (length before + 1)
      (field 0 (fields line)) (field 1 (fields line))) ≡ None → ((length (fields line) == 2)
      ≡ true) × (first_failed (pair_checks few before (length before + 1) (field 0 (fields line)) (field 1 (fields line))) ≡ None)
  two_fields before line h =
      let two = true_from_ne_false (length (fields line) == 2) (λ e. let f = rw e at h in cc f) in
      (two, rw two at h)

  line_fine : (before : List (List ℕ)) (line : List ℕ) → solution_line_fault few before line ≡ None → solution_line_fault all before line ≡ None
  line_fine before line h = by (is_skipped line) refl
    where
      by : (b : Bool) → is_skipped line ≡ b → solution_line_fault all before line ≡ None
      by true e = rw e refl
      by false e =
          let two = two_fields before line (rw e at h) in
          rw (e, two.0) (pair_fine before (length before + 1) (field 0 (fields line)) (field 1 (fields line)) two.1)

  lines_fine : (before lines : List (List ℕ)) → first_fault (solution_line_fault few) before lines ≡ None
      → first_fault (solution_line_fault all) before lines ≡ None
  unfolding first_fault
  lines_fine before [] h = refl
  lines_fine before (line ∷ lines) h =
      let both = both_none _ _ h in
      ap₂ option_or (line_fine before line both.0) (lines_fine (before ++ line ∷ []) lines both.1)

  -- a line without a fault names no other column
  line_names_none : (before : List (List ℕ)) (line column : List ℕ) → solution_line_fault few before line ≡ None
      → list_any (bytes_eq column) few ≡ false → names_column column line ≡ false
  line_names_none before line column h other = false_from_ne_true (names_column column line) (λ names.
      let parts = and_parts (not (is_skipped line)) (bytes_eq column (field 0 (fields line))) names in
      let same : column ≡ field 0 (fields line) = (bytes_eq-Decides column (field 0 (fields line))).0 parts.1 in
      let full : is_skipped line ≡ false = false_from_ne_true (is_skipped line) (λ skipped. both_ways (not (is_skipped line)) (ap not skipped) parts.0) in
      let two = two_fields before line (rw full at h) in
      let known = pair_known before (length before + 1) (field 0 (fields line)) (field 1 (fields line)) two.1 in
      both_ways (list_any (bytes_eq column) few) other (ap (λ (name : List ℕ). list_any (bytes_eq name) few) same ∙ known))

  lines_name_none : (column : List ℕ) (before lines : List (List ℕ)) → list_any (bytes_eq column) few ≡ false
      → first_fault (solution_line_fault few) before lines ≡ None → list_any (names_column column) lines ≡ false
  unfolding first_fault
  lines_name_none column before [] other h = refl
  lines_name_none column before (line ∷ lines) other h =
      let both = both_none _ _ h in
      ap₂ (λ (x y : Bool). x || y) (line_names_none before line column both.0 other) (lines_name_none column (before ++ line ∷ []) lines other both.1)

-- ---- a point has no fault

each_allowed : (columns : List TableColumn) (values : List Bool) → AreAllowed columns values
    → AllByRecursion (λ e. allows e.0.bounds e.1 ≡ true) (zip columns values)
each_allowed [] [] h = tt
each_allowed [] (v ∷ values) h = absurd h
each_allowed (c ∷ columns) [] h = absurd h
each_allowed (c ∷ columns) (v ∷ values) h = (h.0, each_allowed columns values h.1)

module _ {X : Type 0} (test : X → Bool) where
  all_passed : (xs : List X) → AllByRecursion (λ x. test x ≡ true) xs → position_or_len (λ x. not (test x)) xs ≡ length xs
  all_passed [] h = refl
  all_passed (x ∷ xs) h = let rest = all_passed xs h.1 in rw h.0 (omega arith)

  no_position : (xs : List X) → AllByRecursion (λ x. test x ≡ true) xs → position (λ x. not (test x)) xs ≡ None
  no_position xs h =
      let end = all_passed xs h in
      let past : nat_lt (position_or_len (λ x. not (test x)) xs) (length xs) ≡ false = grind (arith, nat_tests) in
      rw past refl

fine_point : (p : Table) (values : List Bool) → IsPoint p values → point_fault p values ≡ None
fine_point p values point =
    ap₂ (λ (bound row : Option ℕ). option_or (option_map fault.BoundBroken bound) (option_map fault.RowBroken row))
    (no_position (λ e. allows e.0.bounds e.1) (zip p.columns values) (each_allowed p.columns values point.allowed))
    (no_position (λ r. meets r.1.kind (row_sum p values r.0) r.1.right_side) (enumerate_from 0 p.rows) point.met)

-- ---- what is described

values_by_name : (p : Table) (lines : List (List ℕ)) → map (is_one lines) (column_names p) ≡ map (λ c. is_one lines c.name) p.columns
values_by_name p lines = map-map (is_one lines) (λ (c : TableColumn). c.name) p.columns

-- what an accepted text describes
taken : (p : Table) (text : List ℕ) (values : List Bool) → solution p text ≡ Ok values
    → (nat_lt SOLUTION_LIMIT (length text) ≡ false) × (first_fault (solution_line_fault (column_names p)) [] (lines_of text) ≡ None)
    × (map (is_one (lines_of text)) (column_names p) ≡ values)
unfolding solution
taken p text values e =
    let short = false_from_ne_true (nat_lt SOLUTION_LIMIT (length text)) (λ t. let f = rw t at e in cc f) in
    let parsed = parts_hold p (first_fault (solution_line_fault (column_names p)) [] (lines_of text))
    (map (is_one (lines_of text)) (column_names p)) values (rw short at e) in
    (short, parsed.0, parsed.2)

tells : (p : Table) (text : List ℕ) → nat_lt SOLUTION_LIMIT (length text) ≡ false
    → first_fault (solution_line_fault (column_names p)) [] (lines_of text) ≡ None
    → point_fault p (map (is_one (lines_of text)) (column_names p)) ≡ None
    → solution p text ≡ Ok (map (is_one (lines_of text)) (column_names p))
unfolding solution
tells p text short fine point = rw (short, fine, point) refl

module _ (lots : Lots) (book : Book) (group : ℕ → Bool) (is_among : ℕ → ℕ → Bool) (text : List ℕ) (values : List Bool) (within : IsBook lots book)
    (parsed : solution (program_of lots (named_of lots is_among (kept_of lots book group))) text ≡ Ok values) where
  abbrev kept : List Offer
  kept = kept_of lots book group

  abbrev some : Table
  some = program_of lots (named_of lots is_among kept)

  abbrev whole : Table
  whole = program_of lots kept

  abbrev value : List ℕ → Bool
  value name = is_one (lines_of text) name

  in_range : AllByRecursion IsNumbered kept
  in_range = numbered lots kept (kept_are_offers lots book group within)

  line_faults : first_fault (solution_line_fault (column_names some)) [] (lines_of text) ≡ None
  line_faults = (taken some text values parsed).1

  silent : AllByRecursion (IsSilent lots is_among value) kept
  silent = all_agree IsNumbered (IsSilent lots is_among value) kept (λ o mine other.
      let name = bid_name o.bidder o.number in
      none_one (lines_of text) name (lines_name_none (column_names some) (column_names whole) (names_among lots is_among kept) name []
      (lines_of text) (unnamed lots is_among kept o.bidder o.number in_range mine other) line_faults)) in_range

  values_are : values ≡ map (λ c. value c.name) some.columns
  values_are = sym (taken some text values parsed).2 ∙ values_by_name some (lines_of text)

  abbrev pub all_values : List Bool
  all_values = map (is_one (lines_of text)) (column_names whole)

  whole_point : IsPoint whole all_values
  whole_point =
      rw (values_by_name whole (lines_of text)) (point_of_all lots is_among value kept silent
      (subst (IsPoint some) values_are (solutions_are_points some text values parsed)))

  pub parsed_whole : solution whole text ≡ Ok all_values
  parsed_whole = tells whole text (taken some text values parsed).0
      (lines_fine (column_names some) (column_names whole) (names_among lots is_among kept) [] (lines_of text) line_faults)
      (fine_point whole all_values whole_point)

  pub whole_back : back whole.columns all_values ≡ back some.columns values
  whole_back = ap (back whole.columns) (values_by_name whole (lines_of text)) ∙ same_back lots is_among value kept in_range silent
      ∙ ap (back some.columns) (sym values_are)

pub some_bids_suffice : SomeBidsSuffice
some_bids_suffice lots book group is_among solved values within parsed = record {
  others = all_values lots book group is_among solved values within parsed;
  parsed = parsed_whole lots book group is_among solved values within parsed;
  same_allocation = ap (λ (choices : List Choice). by_bidder (range_with_len 1 MOST_BIDDERS) choices)
      (whole_back lots book group is_among solved values within parsed);
}
