-- What a point of a program wins.
use Rattle.std.proofs.Common.{◌≡◌, ◌∙◌, ◌≤◌, ℕ, Bool, false, List, [], ◌∷◌, Option, None, Some, length, refl, ap, sym}
use Rattle.std.proofs.Common.{subst, zero, suc, arith, not, is_some, slice_get, slice_index_or, IfOk, OnErr, Result, Ok}
use Rattle.std.proofs.Common.{Err}
use Rattle.std.specs.Option.{option_map, option_map_or}
use Rattle.std.specs.List.{range_with_len}
use Rattle.std.proofs.lemmas.Bool.{and_parts}
use Rattle.auction_terms.specs.declared.bids.Choice.{Choice}
use Rattle.auction_terms.specs.declared.limits.TheConstants.{MOST_BIDDERS}
use Rattle.auction_terms.specs.Allocations.{Book, IsFeasible, bid_of}
use Rattle.auction_terms.specs.Packages.{Lots}
use Rattle.program_rows.specs.Points.{AreAllowed}
use Rattle.program_rows.specs.Program.{TableColumn, Table}
use Rattle.auction_terms.specs.Groups.{has}
use Rattle.auction_terms.specs.Limits.{IsBook}
use Rattle.auction_terms.specs.Terms.{lots_in}
use Rattle.bid_desk.specs.Closing.{Closing, book_of}
use Rattle.group_compiler.specs.Compiled.{program_among, program_without}
use Rattle.presolve.specs.Flags.{has_choice}
use Rattle.program_rows.specs.Faithful.{back}
use Rattle.outcome.proofs.BackFacts.{solutions_come_back}
use Rattle.outcome.proofs.SomeBidFacts.{all_values, whole_back, parsed_whole}
use Rattle.outcome.specs.Coming.{ComesBack}
use Rattle.outcome.specs.Solution.{solution}
use Rattle.outcome.specs.PointAllocation.{IsMap, allocation_of}
use Rattle.outcome.specs.inside.Winning.{by_bidder}
use Rattle.program_rows.specs.declared.solution_fault.SolutionFault.{SolutionFault}
use Rattle.auction_terms.specs.Stages.{refused_as}
use Rattle.answers.specs.SolutionWinners.{solution_refused, winners_by}
use Rattle.auction_input.proofs.StageFacts.{next}

-- there is a value for each column
pub allowed-length : (columns : List TableColumn) (values : List Bool) → AreAllowed columns values → length values ≡ length columns
allowed-length [] [] allowed = refl
allowed-length [] (v ∷ values) allowed = absurd allowed
allowed-length (c ∷ columns) [] allowed = absurd allowed
allowed-length (c ∷ columns) (v ∷ values) allowed = ap suc (allowed-length columns values allowed.1)

-- what is feasible without a group is feasible with nobody left out
pub feasible-for_all : (lots : Lots) (book : Book) (group : ℕ → Bool) (a : List Choice) → IsFeasible lots book group a → IsFeasible lots book (λ b. false) a
feasible-for_all lots book group a feasible = record {
  one_bid_each = feasible.one_bid_each;
  eligible = λ k d small. (and_parts (not (group (slice_index_or a k d).bidder)) (is_some (bid_of book (slice_index_or a k d)))
      (feasible.eligible k d small)).1;
  fit = feasible.fit;
}

-- what follows of the value of a result
pub if-ok-weaker : {T E : Type 0} (P Q : T → Type 0) (r : Result T E) → ((x : T) → P x → Q x) → IfOk r P → IfOk r Q
if-ok-weaker P Q (Ok x) weaker holds = weaker x holds
if-ok-weaker P Q (Err e) weaker holds = tt

-- what holds holds at an error too
pub on-err-of : {T E P : Type 0} (r : Result T E) → P → OnErr r P
on-err-of (Ok x) holds = tt
on-err-of (Err e) holds = holds

-- what a point of the program wins
pub won-by : (p : Table) (number : ℕ) (text : List ℕ) (point : List Bool) (a : List Choice) → Ok point ≡ solution p text
    → a ≡ allocation_of p point → winners_by p number text ≡ Ok a
won-by p number text point a tells is =
    next _ _ _ _ (ap (λ (r : Result (List Bool) SolutionFault). refused_as (solution_refused p number) r) (sym tells))
    (ap (λ (won : List Choice). Ok won) (sym is))

-- the name at a place, where there is one
pub name-at : {X : Type 0} (name : X → List ℕ) (found : Option X) (bytes : List ℕ) → option_map name found ≡ Some bytes → bytes ≡ option_map_or name found []
name-at name (Some x) bytes is = cc
name-at name None bytes is = absurd (cc)

-- the name at a place where there is none
pub no-name : {X : Type 0} (name : X → List ℕ) (xs : List X) (k : ℕ) → length xs ≤ k → option_map_or name (slice_get xs k) [] ≡ []
no-name name [] k least = refl
no-name name (x ∷ xs) zero least = absurd (omega arith)
no-name name (x ∷ xs) (suc k) least = no-name name xs k (omega arith)

-- what a solution wins that is taken against the program of kept bids among choices
module _ (book : Closing) (group : List ℕ) (choices : List Choice) (text : List ℕ) (p : Table) (values : List Bool)
    (within : IsBook (lots_in book.rules) (book_of book))
    (is : p ≡ program_among book group choices) (tells : Ok values ≡ solution p text) where
  abbrev lots : Lots
  lots = lots_in book.rules

  parsed : solution (program_among book group choices) text ≡ Ok values
  parsed = sym (tells ∙ ap (λ (q : Table). solution q text) is)

  abbrev others : List Bool
  others = all_values lots (book_of book) (has group) (has_choice choices) text values within parsed

  whole-parsed : solution (program_without book group) text ≡ Ok others
  whole-parsed = parsed_whole lots (book_of book) (has group) (has_choice choices) text values within parsed

  same-back : back (program_without book group).columns others ≡ back (program_among book group choices).columns values
  same-back = whole_back lots (book_of book) (has group) (has_choice choices) text values within parsed

  same-allocation : allocation_of (program_without book group) others ≡ allocation_of (program_among book group choices) values
  same-allocation = ap (λ (bids : List Choice). by_bidder (range_with_len 1 MOST_BIDDERS) bids) same-back

  back-again : ComesBack lots (book_of book) (has group) (program_without book group) others
  back-again = solutions_come_back lots (book_of book) (has group) text others within whole-parsed

  pub is-map-by-some : IsMap (back p.columns values)
  is-map-by-some = rw is (subst IsMap same-back back-again.map)

  pub feasible-by-some : IsFeasible lots (book_of book) (has group) (allocation_of p values)
  feasible-by-some = rw is (subst (IsFeasible lots (book_of book) (has group)) same-allocation back-again.feasible)

  pub won-by-some : (number : ℕ) → winners_by (program_without book group) number text ≡ Ok (allocation_of p values)
  won-by-some number = rw is (won-by (program_without book group) number text others _ (sym whole-parsed) (sym same-allocation))
