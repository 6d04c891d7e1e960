-- All faults of groups are those of their lines, and of a line those of its names.
use Rattle.std.proofs.Common.{◌≡◌, ◌≤◌, ℕ, List, [], arith, refl}
use Rattle.std.specs.Prelude.{None}
use Rattle.auction_terms.proofs.AcceptedFacts.{all-alike, are-of-items, both-none, fail-alike, or_else-none}
use Rattle.auction_terms.proofs.JudgeFacts.{failed-none, none-failed}
use Rattle.auction_terms.specs.Accepted.{AreOfItems, StaysFaultless}
use Rattle.auction_terms.specs.AllFaults.{all_faults}
use Rattle.auction_terms.specs.FirstFault.{first_failed}
use Rattle.auction_terms.specs.GroupNames.{names_in}
use Rattle.auction_terms.specs.GroupsText.{line_checks, line_faults, name_checks, name_faults, names_faults, room_checks}
use Rattle.auction_terms.specs.Judged.{fault_of}
use Rattle.auction_terms.specs.declared.rules.Bidder.{Bidder}

-- the tests of a name don't look at the line's place or the name's number
name-alike : (bidders : List Bidder) (m n k l : ℕ) (before : List (List ℕ)) (name : List ℕ) → name_faults bidders m k before name ≡ []
    → name_faults bidders n l before name ≡ []
name-alike bidders m n k l before name none = failed-none (name_checks bidders n l before name)
    (fail-alike (name_checks bidders m k before name) (name_checks bidders n l before name) refl (none-failed (name_checks bidders m k before name) none))

pub names-are-of-items : (bidders : List Bidder) (place : ℕ) → AreOfItems (name_faults bidders place)
names-are-of-items bidders place = are-of-items (name_faults bidders place) (λ m n before name low. name-alike bidders place place n m before name)

-- an earlier line is within the limit where a later one is
room : (m n : ℕ) → m ≤ n → first_failed (room_checks n) ≡ None → first_failed (room_checks m) ≡ None
room m n low none = grind (arith, low, none)

line-stays : (bidders : List Bidder) → StaysFaultless (λ place before line. line_faults bidders place line)
line-stays bidders m n before line low none =
    let both = both-none (names_faults bidders n line) (fault_of (room_checks n)) none in
    let front = or_else-none (fault_of (line_checks n line)) (all_faults (name_faults bidders n) 1 [] (names_in line)) both.0 in
    let some : fault_of (line_checks m line) ≡ [] = failed-none (line_checks m line)
    (fail-alike (line_checks n line) (line_checks m line) refl (none-failed (line_checks n line) front.0)) in
    let names : all_faults (name_faults bidders m) 1 [] (names_in line) ≡ [] =
    all-alike (name_faults bidders n) (name_faults bidders m) (λ k. name-alike bidders n m k k) 1 [] (names_in line) front.1 in
    let few : fault_of (room_checks m) ≡ [] =
    failed-none (room_checks m) (room m n low (none-failed (room_checks n) both.1)) in
    rw (some, names, few) refl

pub lines-are-of-items : (bidders : List Bidder) → AreOfItems (λ place before line. line_faults bidders place line)
lines-are-of-items bidders = are-of-items (λ place before line. line_faults bidders place line) (line-stays bidders)
