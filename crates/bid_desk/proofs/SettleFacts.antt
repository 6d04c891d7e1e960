-- A caller's own list against the history.
use Rattle.std.proofs.Common.{◌≡◌, ◌≢◌, ℕ, ◌+◌, ◌-◌, ◌≤◌, List, [], ◌∷◌, ◌++◌, true, false, cond, map, length, take, refl}
use Rattle.std.proofs.Common.{sym, ap, ◌∙◌, subst, arith, append-nil, length-append}
use Rattle.std.specs.Prelude.{filter, slice_get, slice_index_or, All, ◌==◌, Some}
use Rattle.std.proofs.lemmas.List.{map-append, take_more, take_at, length-take-le, get_or_at}
use Rattle.std.proofs.lemmas.Option.{slice_get_within, get_or_from_slice_get, slice_get-get_or}
use Rattle.std.proofs.lemmas.List.Elements.{filter-append}
use Rattle.bid_book.specs.declared.call.Caller.{Caller}
use Rattle.bid_book.specs.declared.records.Entry.{Entry}
use Rattle.bid_book.specs.History.{is_same_caller, own_pairs}
use Rattle.bid_desk.specs.Holding.{SessionOwn, IsEntryOf, IsCallerOf}
use Rattle.bid_desk.specs.Settlement.{IsFirstDifference, AgreesAt, OwnIs}
use Rattle.bid_forms.specs.Offers.{Offers}
use Rattle.auction_terms.specs.Terms.{Terms}
use Rattle.bid_desk.specs.Sessions.{IsSessionOf}
use Rattle.std.proofs.lemmas.Bool.{and_from, eq-eqb}

module _ {X : Type 0} where
  slice_get_at : (p : List X) (x : X) (q : List X) (n : ℕ) → length p ≡ n → slice_get (p ++ x ∷ q) n ≡ Some x
  slice_get_at p x q n l = slice_get-get_or (p ++ x ∷ q) n x (omega (arith, length-append p (x ∷ q))) ∙ ap Some (get_or_at p x q x n l)

  pub take_next : (ys : List X) (n : ℕ) (x : X) → slice_get ys n ≡ Some x → take (n + 1) ys ≡ take n ys ++ x ∷ []
  take_next ys n x at = take_more ys n x (slice_get_within ys n x at) ∙ ap (λ y. take n ys ++ y ∷ []) (get_or_from_slice_get ys n x x at)

  -- the lists agree up to a place, and one has another item there
  pub first_here : (xs ys : List X) (n : ℕ) (x : X) (rest : List X) → xs ≡ take n ys ++ x ∷ rest → n ≤ length ys → slice_get ys n ≢ Some x
      → IsFirstDifference xs ys (n + 1)
  first_here xs ys n x rest is l other =
      let back : n + 1 - 1 ≡ n = omega arith in
      let long : length (take n ys) ≡ n = length-take-le n ys l in
      let here = ap (λ w. slice_get w n) is ∙ slice_get_at (take n ys) x rest n long in
      record {
        least = omega arith;
        same = subst (λ m. take m xs ≡ take m ys) (sym back) (ap (take n) is ∙ take_at (take n ys) (x ∷ rest) n long);
        differs = subst (λ m. slice_get xs m ≢ slice_get ys m) (sym back) (λ e. other (sym e ∙ here));
      }

module _ {F : Type 0} (c : Caller) where
  pub own_pairs-append : (h k : List (Entry F)) → own_pairs (h ++ k) c ≡ own_pairs h c ++ own_pairs k c
  unfolding own_pairs
  own_pairs-append h k =
      ap (map (λ (e : Entry F). (e.call, e.reply))) (filter-append (λ (e : Entry F). is_same_caller c e.caller) h k)
      ∙ map-append (λ (e : Entry F). (e.call, e.reply)) (filter (λ (e : Entry F). is_same_caller c e.caller) h)
      (filter (λ (e : Entry F). is_same_caller c e.caller) k)

  own_pairs-cons : (e : Entry F) (k : List (Entry F)) → is_same_caller c e.caller ≡ true → own_pairs (e ∷ k) c ≡ (e.call, e.reply) ∷ own_pairs k c
  unfolding own_pairs
  own_pairs-cons e k is = rw is refl

  pub own_pairs_more : (h : List (Entry F)) (i : ℕ) (e : Entry F) → slice_get h i ≡ Some e → is_same_caller c e.caller ≡ true
      → own_pairs (take (i + 1) h) c ≡ own_pairs (take i h) c ++ (e.call, e.reply) ∷ []
  unfolding own_pairs
  own_pairs_more h i e at is = ap (λ w. own_pairs w c) (take_next h i e at) ∙ own_pairs-append (take i h) (e ∷ [])
      ∙ ap (λ w. own_pairs (take i h) c ++ w) (own_pairs-cons e [] is)

  pub own_pairs_other : (h : List (Entry F)) (i : ℕ) (e : Entry F) → slice_get h i ≡ Some e → is_same_caller c e.caller ≡ false
      → own_pairs (take (i + 1) h) c ≡ own_pairs (take i h) c
  unfolding own_pairs
  own_pairs_other h i e at is = ap (λ w. own_pairs w c) (take_next h i e at) ∙ own_pairs-append (take i h) (e ∷ [])
      ∙ ap (λ t. own_pairs (take i h) c ++ map (λ (x : Entry F). (x.call, x.reply)) (cond t (e ∷ []) [])) is
      ∙ append-nil (own_pairs (take i h) c)

-- a list agrees with the history if it agrees under the name of each of its sessions
pub own_from_agrees : (t : Terms) (history : List (Entry Offers)) (sessions : List SessionOwn)
    → All (λ (x : SessionOwn). IsSessionOf t x.bidder x.session) sessions
    → ((b s : ℕ) → IsSessionOf t b s → AgreesAt history sessions b s) → All (OwnIs history) sessions
own_from_agrees t history sessions known agrees k d l =
    let x : SessionOwn = slice_index_or sessions k d in
    agrees x.bidder x.session (known k d l) k d l (and_from (x.bidder == x.bidder) (x.session == x.session) (eq-eqb x.bidder x.bidder refl)
    (eq-eqb x.session x.session refl))

pub callers_from_entries : (t : Terms) (history : List (Entry Offers)) → All (IsEntryOf t) history → All (λ (e : Entry Offers). IsCallerOf t e.caller) history
callers_from_entries t history entries k d l = (entries k d l).caller
