-- The bidder of a name.
use Rattle.std.proofs.Common.{◌≡◌, ◌+◌, ◌-◌, ◌∙◌, ℕ, true, List, [], Option, Some, None, get_or, refl, ap, subst, arith}
use Rattle.std.proofs.lemmas.Bool.{le-leb}
use Rattle.std.proofs.lemmas.List.Quantifiers.{position-Some}
use Rattle.std.proofs.lemmas.Option.{slice_get-get_or}
use Rattle.std.proofs.lemmas.Slice.Eq.{bytes_eq-Decides}
use Rattle.std.specs.List.{position}
use Rattle.std.specs.Option.{option_map_or}
use Rattle.std.specs.Prelude.{codes, if◌then◌else◌, nat_le, option_map, slice_get}
use Rattle.std.specs.Str.{bytes_eq}
use Rattle.auction_terms.specs.Terms.{Terms}
use Rattle.auction_terms.specs.declared.rules.Bidder.{Bidder}
use Rattle.desk_book.specs.Calls.{bidder_called}
use Rattle.desk_book.specs.Entries.{name_word}

nobody : Bidder
nobody = record { name = []; eligibility = 0; sessions = 0 }

named_at : (bidders : List Bidder) (name : List ℕ) (o : Option ℕ) (b : ℕ) → position (λ (bidder : Bidder). bytes_eq bidder.name name) bidders ≡ o
    → option_map (λ place. place + 1) o ≡ Some b
    → option_map_or (λ (x : Bidder). x.name) (if nat_le 1 b then slice_get bidders (b - 1) else None) (codes "-") ≡ name
named_at bidders name None b at is = absurd cc
named_at bidders name (Some p) b at is =
    let found = position-Some (λ (bidder : Bidder). bytes_eq bidder.name name) bidders p nobody at in
    let count : p + 1 ≡ b = cc in
    let some : nat_le 1 (p + 1) ≡ true = le-leb 1 (p + 1) (omega arith) in
    let place : p + 1 - 1 ≡ p = omega arith in
    let there : slice_get bidders p ≡ Some (get_or bidders p nobody) = slice_get-get_or bidders p nobody found.0 in
    subst (λ (n : ℕ). option_map_or (λ (x : Bidder). x.name) (if nat_le 1 n then slice_get bidders (n - 1) else None) (codes "-") ≡ name) count
    (rw (some, place, there) ((bytes_eq-Decides (get_or bidders p nobody).name name).0 found.1))

-- a bidder of some name has this name
pub name_called : (rules : Terms) (name : List ℕ) (b : ℕ) → bidder_called rules name ≡ Some b → name_word rules b ≡ name
name_called rules name b is = named_at rules.bidders name (position (λ (bidder : Bidder). bytes_eq bidder.name name) rules.bidders) b refl is

-- and is the bidder of it
pub called_again : (rules : Terms) (name : List ℕ) (b : ℕ) → bidder_called rules name ≡ Some b → bidder_called rules (name_word rules b) ≡ Some b
called_again rules name b is = ap (bidder_called rules) (name_called rules name b is) ∙ is
