-- What a solution describes is a point.
use Rattle.std.proofs.Common.{◌≡◌, Bool, true, false, not, List, [], ◌∷◌, Option, Some, None, Ok, refl, sym, subst, arith, length, map}
use Rattle.std.specs.Prelude.{position, nat_lt}
use Rattle.std.specs.List.{AllByRecursion, enumerate_from, position_or_len, zip}
use Rattle.std.specs.Option.{option_map, option_or}
use Rattle.std.proofs.lemmas.Bool.{false_from_ne_true, ltb-false, not-false}
use Rattle.std.proofs.lemmas.List.{length-map}
use Rattle.std.proofs.lemmas.List.Elements.{recursion_from_All}
use Rattle.std.proofs.lemmas.List.Sums.{fails_before_first}
use Rattle.std.proofs.lemmas.Simd.{map-map}
use Rattle.auction_terms.proofs.OfferFacts.{all_agree}
use Rattle.auction_terms.specs.FirstFault.{first_fault}
use Rattle.program_rows.specs.Program.{Table, TableColumn}
use Rattle.program_rows.specs.Points.{allows, meets, row_sum, broken_row, AreAllowed, IsPoint}
use Rattle.auction_terms.specs.Lines.{lines_of}
use Rattle.outcome.specs.declared.limits.TheConstants.{SOLUTION_LIMIT}
use Rattle.program_rows.specs.declared.solution_fault.SolutionFault.{SolutionFault}
use Rattle.program_rows.specs.declared.solution_fault.SolutionFault.TheVariants as fault
use Rattle.auction_terms.specs.Stages.{and_then, unless}
use Rattle.program_rows.specs.ProgramNames.{column_names}
use Rattle.outcome.specs.Solution.{solution, point_fault, is_one, solution_line_fault}
use Rattle.outcome.specs.Coming.{SolutionsArePoints}

pub both_none : {F : Type 0} (a b : Option F) → option_or a b ≡ None → (a ≡ None) × (b ≡ None)
both_none None b e = (refl, e)
both_none (Some f) b e = cc e

-- if none passes, each fails
pub none_passes : {X : Type 0} (test : X → Bool) (xs : List X) → position test xs ≡ None → AllByRecursion (λ x. test x ≡ false) xs
none_passes test xs e =
    let past = ltb-false _ _ (false_from_ne_true (nat_lt (position_or_len test xs) (length xs)) (λ t. let f = rw t at e in cc f)) in
    recursion_from_All (λ x. test x ≡ false) xs (λ k d less. fails_before_first test xs k d (omega arith))

parsed_ok : (f : Option SolutionFault) (mine values : List Bool) → unless f (Ok mine) ≡ Ok values → (f ≡ None) × (mine ≡ values)
parsed_ok None mine values e = (refl, cc e)
parsed_ok (Some x) mine values e = cc e

-- what is described if no line has a fault, and the point has none
pub parts_hold : (p : Table) (f : Option SolutionFault) (mine values : List Bool)
    → and_then (unless f (Ok mine)) (λ vs. unless (point_fault p vs) (Ok vs)) ≡ Ok values
    → (f ≡ None) × (point_fault p mine ≡ None) × (mine ≡ values)
parts_hold p None mine values e = let rest = parsed_ok (point_fault p mine) mine values e in (refl, rest.0, rest.1)
parts_hold p (Some x) mine values e = cc e

map_none : {X Y : Type 0} (f : X → Y) (o : Option X) → option_map f o ≡ None → o ≡ None
map_none f None e = refl
map_none f (Some x) e = cc e

allowed : (columns : List TableColumn) (values : List Bool) → length columns ≡ length values
    → AllByRecursion (λ e. not (allows e.0.bounds e.1) ≡ false) (zip columns values) → AreAllowed columns values
allowed [] [] e h = tt
allowed [] (v ∷ values) e h = absurd (omega arith)
allowed (c ∷ columns) [] e h = absurd (omega arith)
allowed (c ∷ columns) (v ∷ values) e h = (not-false _ h.0, allowed columns values (omega arith) h.1)

is_point : (p : Table) (value : TableColumn → Bool) → point_fault p (map value p.columns) ≡ None → IsPoint p (map value p.columns)
is_point p value e =
    let values = map value p.columns in
    let both = both_none (option_map fault.BoundBroken (position (λ e. not (allows e.0.bounds e.1)) (zip p.columns values)))
    (option_map fault.RowBroken (broken_row p values)) e in
    let rows = none_passes (λ r. not (meets r.1.kind (row_sum p values r.0) r.1.right_side)) (enumerate_from 0 p.rows) (map_none fault.RowBroken _ both.1) in
    record {
      allowed = allowed p.columns values (sym (length-map p.columns value))
          (none_passes (λ e. not (allows e.0.bounds e.1)) (zip p.columns values) (map_none fault.BoundBroken _ both.0));
      met = all_agree (λ r. not (meets r.1.kind (row_sum p values r.0) r.1.right_side) ≡ false)
          (λ r. meets r.1.kind (row_sum p values r.0) r.1.right_side ≡ true) (enumerate_from 0 p.rows) (λ r. not-false _) rows;
    }

pub solutions_are_points : SolutionsArePoints
unfolding solution
solutions_are_points p text values e =
    let short = false_from_ne_true (nat_lt SOLUTION_LIMIT (length text)) (λ t. let f = rw t at e in cc f) in
    let parsed = parts_hold p (first_fault (solution_line_fault (column_names p)) [] (lines_of text))
    (map (is_one (lines_of text)) (column_names p)) values (rw short at e) in
    let same : map (is_one (lines_of text)) (column_names p) ≡ map (λ c. is_one (lines_of text) c.name) p.columns =
    map-map (is_one (lines_of text)) (λ (c : TableColumn). c.name) p.columns in
    subst (IsPoint p) parsed.2 (rw same (is_point p (λ c. is_one (lines_of text) c.name) (rw same at parsed.1)))
