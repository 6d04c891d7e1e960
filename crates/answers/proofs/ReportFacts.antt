-- What the solutions of all groups win, one by one and in turn.
use Rattle.std.proofs.Common.{◌≡◌, ◌<◌, ◌≤◌, ◌+◌, ◌++◌, ◌∷◌, ◌∙◌, ℕ, zero, suc, List, [], None, Option, Some, Result, Ok}
use Rattle.std.proofs.Common.{ap, ap₂, arith, drop, length, length-append, refl, slice_index_or, subst, sym, ◌-◌, IfErr}
use Rattle.std.proofs.Common.{IfOk, IfSome}
use Rattle.std.specs.List.{AllZip, range_with_len, zip}
use Rattle.std.proofs.lemmas.List.{drop_all, drop_more}
use Rattle.std.proofs.lemmas.Slice.Zip.{get_or-zip, length-zip}
use Rattle.auction_terms.specs.declared.bids.Choice.{Choice}
use Rattle.group_compiler.specs.Compiled.{Compiling, program_without}
use Rattle.auction_terms.specs.Lines.{bytes_of}
use Rattle.bid_desk.specs.Sale.{sale_of}
use Rattle.auction_input.specs.Refused.{Refuses}
use Rattle.auction_input.specs.declared.refusal.Refusal.{Refusal}
use Rattle.auction_input.proofs.InputTextFacts.{Text}
use Rattle.auction_input.proofs.StageFacts.{IsLeft, each-count, left-first, left-more, left-none, left-refused}
use Rattle.answers.specs.SolutionWinners.{winners_by}
use Rattle.answers.specs.inside.SolutionWinners.{IsParsedAnswer, winners, winners_at, parsed_winners}

abbrev Answer : Type 0
Answer = Result (List Choice) Refusal

abbrev Item : Type 0
Item = List ℕ × List ℕ

abbrev pub IsMade : Compiling → List (List ℕ) → ℕ → Option (List Choice) → Type 0
IsMade c texts n found = IfSome found (λ a. winners_at (sale_of c.book) c.groups texts n ≡ Ok a)

-- what was made of the numbers from a on
abbrev pub MadeFrom : Compiling → List (List ℕ) → ℕ → ℕ → List (Option (List Choice)) → Type 0
MadeFrom c texts a count made = AllZip (IsMade c texts) (range_with_len a count) made

-- the next number, and those after it
pub made-next : (c : Compiling) (texts : List (List ℕ)) (a count : ℕ) (found : Option (List Choice)) (rest : List (Option (List Choice)))
    → MadeFrom c texts a count (found ∷ rest)
    → (0 < count) × IsMade c texts a found × MadeFrom c texts (a + 1) (count - 1) rest
made-next c texts a zero found rest each = absurd each
made-next c texts a (suc count) found rest each =
    let less : count ≡ suc count - 1 = omega arith in
    (omega arith, each.0, subst (λ (n : ℕ). MadeFrom c texts (a + 1) n rest) less each.1)

-- no number is left where nothing is
pub made-all : (c : Compiling) (texts : List (List ℕ)) (a count : ℕ) (rest : List (Option (List Choice))) → length rest ≡ 0
    → MadeFrom c texts a count rest → count ≡ 0
made-all c texts a zero rest none each = refl
made-all c texts a (suc count) [] none each = absurd each
made-all c texts a (suc count) (found ∷ rest) none each = absurd (omega arith)

-- these allocations are won by the first solutions, and the others are left
abbrev pub IsLeftFrom : Compiling → List (List ℕ) → List (List Choice) → Type 0
IsLeftFrom c texts all = IsLeft (winners (sale_of c.book)) (length all + 1) (zip c.groups texts) all (drop (length all) (zip c.groups texts))

module _ (c : Compiling) (texts : List (List ℕ)) (same : length texts ≡ length c.groups) where
  abbrev items : List Item
  items = zip c.groups texts

  pub left-first-of : IsLeftFrom c texts []
  left-first-of = left-first (winners (sale_of c.book)) items

  next-item : (k : ℕ) → k < length c.groups → drop k items ≡ (slice_index_or c.groups k [], slice_index_or texts k []) ∷ drop (k + 1) items
  next-item k within =
      let size = length-zip c.groups texts in
      drop_more items k ([], []) (omega arith) ∙ ap (λ (item : Item). item ∷ drop (k + 1) items) (get_or-zip c.groups texts k ([], []) within (omega arith))

  pub left-at : (all : List (List Choice)) → length all < length c.groups → IsLeftFrom c texts all
      → IsLeft (winners (sale_of c.book)) (length all + 1) items all
      ((slice_index_or c.groups (length all) [], slice_index_or texts (length all) []) ∷ drop (length all + 1) items)
  left-at all within left = subst (IsLeft (winners (sale_of c.book)) (length all + 1) items all) (next-item (length all) within) left

  pub left-on : (all : List (List Choice)) (a : List Choice) → length all < length c.groups → IsLeftFrom c texts all
      → winners_at (sale_of c.book) c.groups texts (length all) ≡ Ok a → IsLeftFrom c texts (all ++ a ∷ [])
  left-on all a within left tells =
      let count : length all + 1 ≡ length (all ++ a ∷ []) = (let size = length-append all (a ∷ []) in omega arith) in
      subst (λ (n : ℕ). IsLeft (winners (sale_of c.book)) (n + 1) items (all ++ a ∷ []) (drop n items)) count
      (left-more (winners (sale_of c.book)) (length all + 1) items all _ _ a (left-at all within left) tells)

  pub left-ends : (all : List (List Choice)) (r : Refusal) → length all < length c.groups → IsLeftFrom c texts all
      → Refuses (winners_at (sale_of c.book) c.groups texts (length all)) r → Refuses (parsed_winners c texts) r
  left-ends all r within left refuses = left-refused (winners (sale_of c.book)) (length all + 1) items all _ _ r (left-at all within left) refuses

  pub left-whole : (all : List (List Choice)) → length c.groups ≤ length all → IsLeftFrom c texts all → parsed_winners c texts ≡ Ok all
  left-whole all every left =
      let size = length-zip c.groups texts in
      left-none (winners (sale_of c.book)) (length all + 1) items all
      (subst (IsLeft (winners (sale_of c.book)) (length all + 1) items all) (drop_all (length all) items (omega arith)) left)

  pub as-many : (all : List (List Choice)) → parsed_winners c texts ≡ Ok all → length all ≡ length c.groups
  as-many all parsed = (let size = length-zip c.groups texts in let count = each-count (winners (sale_of c.book)) 1 items all parsed in omega arith)

pub text-at : (solutions : List Text) (n : ℕ) (text : Text) → n < length solutions → text ≡ slice_index_or solutions n text
    → text.now ≡ slice_index_or (bytes_of solutions) n []
text-at [] n text below is = absurd (omega arith)
text-at (s ∷ solutions) zero text below is = ap (λ (t : Text). t.now) is
text-at (s ∷ solutions) (suc n) text below is = text-at solutions n text (omega arith) is

-- what a group's program and solution describe
pub parsed-by : (c : Compiling) (texts : List (List ℕ)) (n : ℕ) (group text : List ℕ) (answer : Answer)
    → group ≡ slice_index_or c.groups (n + 1 - 1) [] → text ≡ slice_index_or texts n []
    → IfOk answer (λ a. winners_by (program_without c.book group) (n + 1) text ≡ Ok a)
    → IfErr answer (Refuses (winners_by (program_without c.book group) (n + 1) text))
    → IsParsedAnswer (winners_at (sale_of c.book) c.groups texts n) answer
parsed-by c texts n group text answer is at won refused =
    let place : n + 1 - 1 ≡ n = omega arith in
    let same : winners_by (program_without c.book group) (n + 1) text
    ≡ winners_by (program_without c.book (slice_index_or c.groups n [])) (n + 1) (slice_index_or texts n []) =
    ap₂ (λ (g t : List ℕ). winners_by (program_without c.book g) (n + 1) t) (is ∙ ap (λ (k : ℕ). slice_index_or c.groups k []) place) at in (
      subst (λ (parsed : Result (List Choice) Refusal). IfOk answer
          (λ a. parsed ≡ Ok a)) same won,
      subst (λ (parsed : Result (List Choice) Refusal). IfErr answer (Refuses parsed)) same refused,
    )

-- the same of an allocation that is won whatever the number of the solution is
pub made-by : (c : Compiling) (texts : List (List ℕ)) (n : ℕ) (group text : List ℕ) (found : Option (List Choice))
    → group ≡ slice_index_or c.groups (n + 1 - 1) [] → text ≡ slice_index_or texts n []
    → IfSome found (λ a. (number : ℕ) → winners_by (program_without c.book group) number text ≡ Ok a) → IsMade c texts n found
made-by c texts n group text None is at won = tt
made-by c texts n group text (Some a) is at won =
    let place : n + 1 - 1 ≡ n = omega arith in
    ap₂ (λ (g t : List ℕ). winners_by (program_without c.book g) (n + 1) t) (sym (is ∙ ap (λ (k : ℕ). slice_index_or c.groups k []) place))
    (sym at) ∙ won (n + 1)
