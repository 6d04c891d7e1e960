-- What the loop over the names of a line keeps.
use Rattle.std.proofs.Common.{length-append, Bor, Bool, true, false, suc, drop, length, slice_index_or, arith, ◌+◌, ◌++◌, ◌∙◌, ◌<◌, ◌≤◌}
use Rattle.std.proofs.Common.{append_assoc, add-one, ◌≡◌, ◌∷◌, ◌||◌, ℕ, List, [], map, sym, refl, ap}
use Rattle.std.specs.Prelude.{filter, if◌then◌else◌, nat_le, All, AllPairs, None}
use Rattle.std.proofs.lemmas.List.Elements.{All-cons, All-push}
use Rattle.std.proofs.lemmas.Grind.{common_steps}
use Rattle.std.proofs.lemmas.Bool.Decides.{nat_tests}
use Rattle.std.proofs.lemmas.List.Kept.{AllPairs-cons}
use Rattle.auction_terms.specs.Groups.{IsGroup}
use Rattle.std.proofs.Math.Seq.{drop-cons}
use Rattle.std.specs.List.{enumerate_from, list_any}
use Rattle.std.specs.Str.{bytes_eq}
use Rattle.auction_terms.proofs.AcceptedFacts.{both-none}
use Rattle.auction_terms.proofs.JudgeFacts.{none-failed}
use Rattle.auction_terms.specs.AllFaults.{accepted_with}
use Rattle.auction_terms.specs.FirstFault.{first_failed}
use Rattle.auction_terms.specs.GroupsText.{group_of, line_faults, names_faults, room_checks}
use Rattle.auction_terms.specs.Judged.{Fault, fault_of}
use Rattle.auction_terms.specs.declared.groups_text.GroupFault.{GroupFault}
use Rattle.auction_terms.specs.inside.GroupsText.{numbers_from}
use Rattle.auction_terms.specs.declared.rules.Bidder.{Bidder}
use Rattle.auction_terms.specs.declared.limits.TheConstants.{MOST_BIDDERS, MOST_GROUPS}

list_any-map : {X Y : Type 0} (f : X → Y) (p : Y → Bool) (xs : List X) → list_any p (map f xs) ≡ list_any (λ x. p (f x)) xs
list_any-map f p [] = refl
list_any-map f p (x ∷ xs) = ap (λ b. p (f x) || b) (list_any-map f p xs)

-- references to names, and the names
pub any_name-is : (name : List ℕ) (names : List (Bor (List ℕ)))
    → list_any (λ other. bytes_eq other name) (map (λ other. other.now) names) ≡ list_any (λ other. bytes_eq other.now name) names
any_name-is name names = list_any-map (λ (other : Bor (List ℕ)). other.now) (λ other. bytes_eq other name) names

-- the numbers of named bidders, at the first of them
numbers-next : (n : ℕ) (bidder : Bidder) (more : List Bidder) (names : List (List ℕ))
    → numbers_from n (bidder ∷ more) names ≡ (if list_any (λ name. bytes_eq name bidder.name) names then n ∷ numbers_from (n + 1) more names
    else numbers_from (n + 1) more names)
numbers-next n bidder more names = by (list_any (λ name. bytes_eq name bidder.name) names)
    (filter (λ (b : ℕ × Bidder). list_any (λ name. bytes_eq name b.1.name) names) (enumerate_from (n + 1) more))
  where
    by : (b : Bool) (rest : List (ℕ × Bidder))
        → map (λ (b : ℕ × Bidder). b.0) (if b then (n, bidder) ∷ rest else rest)
        ≡ (if b then n ∷ map (λ (b : ℕ × Bidder). b.0) rest else map (λ (b : ℕ × Bidder). b.0) rest)
    by true rest = refl
    by false rest = refl

-- the numbers found so far, and those still to find, at the next bidder
pub numbers-more : (items : List ℕ) (place : ℕ) (bidders : List Bidder) (names : List (List ℕ)) (all : List ℕ) (bidder : Bidder) (found : Bool)
    → place < length bidders → bidder ≡ slice_index_or bidders place bidder → list_any (λ name. bytes_eq name bidder.name) names ≡ found
    → items ++ numbers_from (place + 1) (drop place bidders) names ≡ all
    → (if found then items ++ (place + 1) ∷ [] else items) ++ numbers_from (place + 1 + 1) (drop (place + 1) bidders) names ≡ all
numbers-more items place bidders names all bidder found small at test so_far =
    let next : drop place bidders ≡ bidder ∷ drop (place + 1) bidders =
    rw (add-one place) (drop-cons bidders place bidder small ∙ ap (λ b. b ∷ drop (suc place) bidders) (sym at)) in
    let parsed = rw (next, numbers-next (place + 1) bidder (drop (place + 1) bidders) names, test) at so_far in
    by found parsed
  where
    by : (b : Bool) → items ++ (if b then (place + 1) ∷ numbers_from (place + 1 + 1) (drop (place + 1) bidders) names else numbers_from
        (place + 1 + 1) (drop (place + 1) bidders) names) ≡ all
        → (if b then items ++ (place + 1) ∷ [] else items) ++ numbers_from (place + 1 + 1) (drop (place + 1) bidders) names ≡ all
    by true e = append_assoc items ((place + 1) ∷ []) _ ∙ e
    by false e = e

-- numbers from n on, below a bound
numbers-within : (n : ℕ) (bidders : List Bidder) (names : List (List ℕ)) → All (λ x. (n ≤ x) × (x < n + length bidders)) (numbers_from n bidders names)
numbers-within n [] names = λ k d small. absurd (omega arith)
numbers-within n (bidder ∷ more) names = rw (numbers-next n bidder more names)
    (by (list_any (λ name. bytes_eq name bidder.name) names) (λ k d small.
    (let h = numbers-within (n + 1) more names k d small in (omega arith, omega arith))))
  where
    by : (b : Bool) → All (λ x. (n ≤ x) × (x < n + length (bidder ∷ more))) (numbers_from (n + 1) more names)
        → All (λ x. (n ≤ x) × (x < n + length (bidder ∷ more))) (if b then n ∷ numbers_from (n + 1) more names else numbers_from (n + 1) more names)
    by true h = All-cons (λ x. (n ≤ x) × (x < n + length (bidder ∷ more))) n (numbers_from (n + 1) more names) (omega arith, omega arith) h
    by false h = h

numbers-rise : (n : ℕ) (bidders : List Bidder) (names : List (List ℕ)) → AllPairs (λ a b. a < b) (numbers_from n bidders names)
numbers-rise n [] names = λ i j d less small. absurd (omega arith)
numbers-rise n (bidder ∷ more) names =
    rw (numbers-next n bidder more names) (by (list_any (λ name. bytes_eq name bidder.name) names) (numbers-rise (n + 1) more names))
  where
    above : All (λ x. n < x) (numbers_from (n + 1) more names)
    above k d small = let h = numbers-within (n + 1) more names k d small in omega arith

    by : (b : Bool) → AllPairs (λ a b. a < b) (numbers_from (n + 1) more names)
        → AllPairs (λ a b. a < b) (if b then n ∷ numbers_from (n + 1) more names else numbers_from (n + 1) more names)
    by true h = AllPairs-cons (λ a b. a < b) n (numbers_from (n + 1) more names) above h
    by false h = h

-- the numbers of named bidders are a group
pub numbers-IsGroup : (bidders : List Bidder) (names : List (List ℕ)) → length bidders ≤ MOST_BIDDERS → IsGroup (numbers_from 1 bidders names)
numbers-IsGroup bidders names few = record {
  each = λ k d small. (let h = numbers-within 1 bidders names k d small in record { some = h.0; few = omega arith });
  rising = numbers-rise 1 bidders names;
}

-- where no name has a fault all are accepted
pub accepted-more : {R F : Type 0} (so_far own : List F) (accepted ahead rest all : List R) (item : R) → (so_far ≡ [] → accepted ++ ahead ≡ all)
    → ahead ≡ item ∷ rest → so_far ++ own ≡ [] → accepted_with own accepted item ++ rest ≡ all
accepted-more so_far own accepted ahead rest all item before next none =
    let both = both-none so_far own none in
    let whole = rw next at (before both.0) in
    rw both.1 (append_assoc accepted (item ∷ []) rest ∙ whole)

-- ---------- the groups of a text ----------

-- the groups so far, with one more where there is room for it
abbrev pub with-room : ℕ → List (List ℕ) → List ℕ → List (List ℕ)
with-room place groups group = if nat_le place MOST_GROUPS then groups ++ group ∷ [] else groups

room-left : (place : ℕ) → first_failed (room_checks place) ≡ None → nat_le place MOST_GROUPS ≡ true
room-left place none = grind (arith, common_steps, nat_tests, none)

-- where no line has a fault each gives its group
pub groups-more : (bidders : List Bidder) (place : ℕ) (so_far : List (Fault GroupFault)) (groups : List (List ℕ)) (group line : List ℕ)
    (ahead rest all : List (List ℕ)) → (so_far ≡ [] → groups ++ map (group_of bidders) ahead ≡ all) → ahead ≡ line ∷ rest
    → (line_faults bidders place line ≡ [] → group ≡ group_of bidders line) → so_far ++ line_faults bidders place line ≡ []
    → with-room place groups group ++ map (group_of bidders) rest ≡ all
groups-more bidders place so_far groups group line ahead rest all before next is none =
    let both = both-none so_far (line_faults bidders place line) none in
    let last = both-none (names_faults bidders place line) (fault_of (room_checks place)) both.1 in
    let room = room-left place (none-failed (room_checks place) last.1) in
    let whole = rw next at (before both.0) in
    rw (room, is both.1) (append_assoc groups (group_of bidders line ∷ []) (map (group_of bidders) rest) ∙ whole)

-- there are no more than there may be
pub groups-within : (place : ℕ) (groups : List (List ℕ)) (group : List ℕ) → length groups ≤ MOST_GROUPS → length groups + 1 ≤ place
    → All IsGroup groups → IsGroup group
    → (length (with-room place groups group) ≤ MOST_GROUPS) × (length (with-room place groups group) ≤ place) × All IsGroup (with-room place groups group)
groups-within place groups group few low each is = by (nat_le place MOST_GROUPS) refl
  where
    by : (b : Bool) → nat_le place MOST_GROUPS ≡ b → (length (if b then groups ++ group ∷ [] else groups) ≤ MOST_GROUPS)
        × (length (if b then groups ++ group ∷ [] else groups) ≤ place) × All IsGroup (if b then groups ++ group ∷ [] else groups)
    by true room =
        let n = length-append groups (group ∷ []) in
        let within : place ≤ MOST_GROUPS = grind (arith, common_steps, nat_tests, room) in
        (omega arith, omega arith, All-push IsGroup groups group each is)
    by false room = (few, omega arith, each)
