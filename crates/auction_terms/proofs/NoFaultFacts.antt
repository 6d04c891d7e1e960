-- A text of groups has no fault exactly if it has the lines that are accepted.
use Rattle.std.proofs.Common.{◌≡◌, ◌≢◌, ◌≤◌, ◌+◌, ◌∷◌, ◌++◌, Bool, true, false, ℕ, List, [], ap, append_assoc, append-nil, arith, length, refl}
use Rattle.std.proofs.lemmas.Bool.{ne_eqb}
use Rattle.std.proofs.lemmas.Bool.Decides.{nat_tests}
use Rattle.std.proofs.lemmas.Grind.{common_steps}
use Rattle.std.specs.Prelude.{◌↔◌, ◌==◌, None, not}
use Rattle.std.specs.List.{list_any}
use Rattle.std.specs.Str.{bytes_eq}
use Rattle.auction_terms.proofs.AcceptedFacts.{both-none, or_else-none}
use Rattle.auction_terms.proofs.FirstFaultFacts.{empty-cons}
use Rattle.auction_terms.proofs.JudgeFacts.{failed-none, none-failed}
use Rattle.auction_terms.specs.AcceptedGroups.{AreGroupLines, Each, IsGroupLine, IsNewName}
use Rattle.auction_terms.specs.AllFaults.{all_faults}
use Rattle.auction_terms.specs.FirstFault.{first_failed}
use Rattle.auction_terms.specs.GroupNames.{names_in}
use Rattle.auction_terms.specs.GroupsText.{group_faults, line_checks, line_faults, name_checks, name_faults, names_faults, room_checks}
use Rattle.auction_terms.specs.Judged.{fault_of}
use Rattle.auction_terms.specs.Lines.{lines_of}
use Rattle.auction_terms.specs.declared.limits.TheConstants.{MOST_GROUPS}
use Rattle.auction_terms.specs.declared.rules.Bidder.{Bidder}

-- ---------- of any list ----------

module _ {R F : Type 0} (faults_of : ℕ → List R → R → List F) where
  -- where a list has no fault, no item has one
  pub none-each : (n : ℕ) (accepted items : List R) → all_faults faults_of n accepted items ≡ []
      → Each (λ before item. faults_of (n + length before) (accepted ++ before) item ≡ []) items
  unfolding all_faults
  none-each n accepted [] none before item after is = absurd (empty-cons before item after is)
  none-each n accepted (x ∷ xs) none [] item after is =
      let both = both-none (faults_of n accepted x) _ none in
      let same : x ≡ item = cc is in
      let at : n + 0 ≡ n = omega arith in
      rw (at, append-nil accepted, ← same) both.0
  none-each n accepted (x ∷ xs) none (y ∷ before) item after is =
      let both = both-none (faults_of n accepted x) _ none in
      let first = both.0 in
      let rest : all_faults faults_of (n + 1) (accepted ++ x ∷ []) xs ≡ [] = rw first at both.1 in
      let same : x ≡ y = cc is in
      let others : xs ≡ before ++ item ∷ after = cc is in
      let later = none-each (n + 1) (accepted ++ x ∷ []) xs rest before item after others in
      let at : n + length (y ∷ before) ≡ n + 1 + length before = omega arith in
      rw (at, ← same, ← append_assoc accepted (x ∷ []) before) later

  -- and the other way round
  pub each-none : (n : ℕ) (accepted items : List R) → Each (λ before item. faults_of (n + length before) (accepted ++ before) item ≡ []) items
      → all_faults faults_of n accepted items ≡ []
  unfolding all_faults
  each-none n accepted [] each = refl
  each-none n accepted (x ∷ xs) each =
      let at : n + 0 ≡ n = omega arith in
      let here = each [] x xs refl in
      let first : faults_of n accepted x ≡ [] = rw (at, append-nil accepted) at here in
      let rest : all_faults faults_of (n + 1) (accepted ++ x ∷ []) xs ≡ [] = each-none (n + 1) (accepted ++ x ∷ []) xs
      (λ before item after is. let later = each (x ∷ before) item after (ap (λ ys. x ∷ ys) is) in
      let next : n + 1 + length before ≡ n + length (x ∷ before) = omega arith in
      rw (next, append_assoc accepted (x ∷ []) before) later) in
      rw first rest

-- ---------- of groups ----------

two-pass : {F : Type 0} (a b : Bool) (f g : F) → first_failed ((a, f) ∷ (not b, g) ∷ []) ≡ None → (a ≡ true) × (b ≡ false)
two-pass true false f g none = (refl, refl)
two-pass true true f g none = cc none
two-pass false b f g none = cc none

name-passes : (bidders : List Bidder) (place number : ℕ) (before : List (List ℕ)) (name : List ℕ) → name_faults bidders place number before name ≡ []
    → IsNewName bidders before name
name-passes bidders place number before name none =
    two-pass (list_any (λ bidder. bytes_eq bidder.name name) bidders) (list_any (λ other. bytes_eq other name) before) _ _
    (none-failed (name_checks bidders place number before name) none)

new-passes : (bidders : List Bidder) (place number : ℕ) (before : List (List ℕ)) (name : List ℕ) → IsNewName bidders before name
    → name_faults bidders place number before name ≡ []
new-passes bidders place number before name new = failed-none (name_checks bidders place number before name) (rw (new.0, new.1) refl)

some-bytes : (place : ℕ) (line : List ℕ) → first_failed (line_checks place line) ≡ None → line ≢ []
some-bytes place [] none is = cc none
some-bytes place (b ∷ line) none is = cc is

bytes-some : (place : ℕ) (line : List ℕ) → line ≢ [] → first_failed (line_checks place line) ≡ None
bytes-some place [] some = absurd (some refl)
bytes-some place (b ∷ line) some =
    let test : (length (b ∷ line) == 0) ≡ false = ne_eqb _ _ (λ e. omega (arith, e)) in
    rw test refl

line-passes : (bidders : List Bidder) (place : ℕ) (line : List ℕ) → line_faults bidders place line ≡ [] → (place ≤ MOST_GROUPS) × IsGroupLine bidders line
line-passes bidders place line none =
    let both = both-none (names_faults bidders place line) (fault_of (room_checks place)) none in
    let front = or_else-none (fault_of (line_checks place line)) (all_faults (name_faults bidders place) 1 [] (names_in line)) both.0 in
    let room = none-failed (room_checks place) both.1 in (
      grind (arith, common_steps, nat_tests, room),
      (
        some-bytes place line (none-failed (line_checks place line) front.0),
        λ before name after is. name-passes bidders place (1 + length before) before name
            (none-each (name_faults bidders place) 1 [] (names_in line) front.1 before name after is),
      ),
    )

passes-line : (bidders : List Bidder) (place : ℕ) (line : List ℕ) → place ≤ MOST_GROUPS → IsGroupLine bidders line → line_faults bidders place line ≡ []
passes-line bidders place line few is =
    let some : fault_of (line_checks place line) ≡ [] = failed-none (line_checks place line) (bytes-some place line is.0) in
    let names : all_faults (name_faults bidders place) 1 [] (names_in line) ≡ [] = each-none (name_faults bidders place) 1 [] (names_in line)
    (λ before name after at. new-passes bidders place (1 + length before) before name (is.1 before name after at)) in
    let passes : first_failed (room_checks place) ≡ None = grind (arith, common_steps, nat_tests, few) in
    let room : fault_of (room_checks place) ≡ [] = failed-none (room_checks place) passes in
    rw (some, names, room) refl

pub none-lines : (bidders : List Bidder) (text : List ℕ) → group_faults bidders text ≡ [] ↔ AreGroupLines bidders text
none-lines bidders text = (forth, back)
  where
    forth : group_faults bidders text ≡ [] → AreGroupLines bidders text
    forth none before line after is =
        let passes = line-passes bidders (1 + length before) line
        (none-each (λ place before line. line_faults bidders place line) 1 [] (lines_of text) none before line after is) in
        (let few = passes.0 in omega arith, passes.1)

    back : AreGroupLines bidders text → group_faults bidders text ≡ []
    back lines = each-none (λ place before line. line_faults bidders place line) 1 [] (lines_of text)
        (λ before line after is. let line_is = lines before line after is in
        let few = line_is.0 in
        passes-line bidders (1 + length before) line (omega arith) line_is.1)
