-- Laws of the first of a form's bids that dominates another.
use Rattle.std.proofs.Common.{◌≡◌, subst, ◌+◌, ◌<◌, ◌||◌, ℕ, Bool, true, false, cond, nat_lt, List, [], ◌∷◌, Option, None}
use Rattle.std.proofs.Common.{Some, length, map, slice_index_or, arith, refl, sym, ap, ap₂, ◌∙◌, lt-ltb, le-ltb}
use Rattle.std.specs.Prelude.{All, IfSome, int_le, option_map, pos, unwrap_or}
use Rattle.std.specs.List.{AllByRecursion, list_any, position_from, position_or_len}
use Rattle.std.specs.Option.{is_some, option_or}
use Rattle.std.proofs.lemmas.Iterator.Adapters.{position_from-zero}
use Rattle.std.proofs.lemmas.List.{get_or-map, length-map}
use Rattle.std.proofs.lemmas.Option.{none-some}
use Rattle.std.proofs.lemmas.List.Elements.{recursion_from_All}
use Rattle.std.proofs.lemmas.List.Sums.{position_or_len_is}
use Rattle.auction_terms.specs.declared.bids.Bid.{Bid}
use Rattle.auction_terms.specs.Packages.{Lots}
use Rattle.auction_terms.specs.Domination.{dominates}
use Rattle.presolve.specs.Reasons.{below_worth, dominated, over_cap, over_supply, why_left_out}
use Rattle.presolve.specs.declared.order.SizedBid.{SizedBid}
use Rattle.presolve.specs.declared.reason.Reason.{Reason}
use Rattle.presolve.specs.declared.reason.Reason.TheVariants as reason
use Rattle.presolve.specs.inside.Sizes.{AreNumbered, TellsItsNet, TellsItsSize, beats}
use Rattle.presolve.proofs.FlagFacts.{beats_dominates}

-- a place where the test passes, and none before it where it does, is the first one; no place, where it passes at none
pub first-is : {X : Type 0} (test : X → Bool) (xs : List X) (d : X) (found : Option ℕ)
    → IfSome found (λ place. (place < length xs) × ((e : X) → test (slice_index_or xs place e) ≡ true))
    → ((i : ℕ) → i < length xs → i < unwrap_or found (length xs) → test (slice_index_or xs i d) ≡ false) → found ≡ position_from test 0 xs
first-is {X} test xs d None passes fails =
    let end : position_or_len test xs ≡ length xs =
    position_or_len_is test xs (length xs) d (omega arith) (λ k small. fails k small small) (λ small. absurd (omega arith)) in
    let pick : ℕ → Option ℕ = λ n. cond (nat_lt n (length xs)) (Some n) None in
    sym (ap (λ (b : Bool). cond b (Some (length xs)) None) (le-ltb (length xs) (length xs) (omega arith))) ∙ ap pick (sym end) ∙ position_from-zero test xs
first-is {X} test xs d (Some place) passes fails =
    let here : position_or_len test xs ≡ place = position_or_len_is test xs place d (omega (arith, passes.0))
    (λ k small. fails k (omega (arith, passes.0, small)) small) (λ small. passes.1 d) in
    let pick : ℕ → Option ℕ = λ n. cond (nat_lt n (length xs)) (Some n) None in
    sym (ap (λ (b : Bool). cond b (Some place) None) (lt-ltb place (length xs) passes.0)) ∙ ap pick (sym here) ∙ position_from-zero test xs

-- there is a first one just where there is any
pub some-first : {X : Type 0} (test : X → Bool) (n : ℕ) (xs : List X) → is_some (position_from test n xs) ≡ list_any test xs
some-first test n [] = refl
some-first test n (x ∷ xs) = by (test x) (position_from test (n + 1) xs) ∙ ap (λ (b : Bool). test x || b) (some-first test (n + 1) xs)
  where
    by : (b : Bool) (rest : Option ℕ) → is_some (cond b (Some n) rest) ≡ (b || is_some rest)
    by true rest = refl
    by false rest = refl

-- the first place, counted from one more
first-later : {X : Type 0} (test : X → Bool) (n : ℕ) (xs : List X) → position_from test (n + 1) xs ≡ option_map (λ k. k + 1) (position_from test n xs)
first-later test n [] = refl
first-later test n (x ∷ xs) =
    ap (λ (rest : Option ℕ). cond (test x) (Some (n + 1)) rest) (first-later test (n + 1) xs) ∙ by (test x) (position_from test (n + 1) xs)
  where
    by : (b : Bool) (rest : Option ℕ) → cond b (Some (n + 1)) (option_map (λ k. k + 1) rest) ≡ option_map (λ k. k + 1) (cond b (Some n) rest)
    by true rest = refl
    by false rest = refl

-- the first bid that beats another is the first that dominates it
first-beats : (lots : Lots) (x : SizedBid) (n : ℕ) (rivals : List SizedBid) → TellsItsSize x → TellsItsNet lots x
    → AllByRecursion TellsItsSize rivals → AllByRecursion (TellsItsNet lots) rivals
    → position_from (beats x) n rivals ≡ position_from (λ (y : Bid). dominates lots y x.bid.now) n (map (λ (s : SizedBid). s.bid.now) rivals)
first-beats lots x n [] reported mine sizes nets = refl
first-beats lots x n (s ∷ rivals) reported mine sizes nets =
    ap₂ (λ (b : Bool) (rest : Option ℕ). cond b (Some n) rest) (beats_dominates lots x s reported sizes.0 mine nets.0)
    (first-beats lots x (n + 1) rivals reported mine sizes.1 nets.1)

-- by its number
pub first-dominates : (lots : Lots) (form : List Bid) (rivals : List SizedBid) (x : SizedBid) → AreNumbered lots form rivals
    → TellsItsSize x → TellsItsNet lots x
    → position_from (λ (y : Bid). dominates lots y x.bid.now) 1 form ≡ option_map (λ place. place + 1) (position_from (beats x) 0 rivals)
first-dominates lots form rivals x are reported mine =
    first-later (λ (y : Bid). dominates lots y x.bid.now) 0 form
    ∙ ap (option_map (λ (place : ℕ). place + 1))
    (sym (first-beats lots x 0 rivals reported mine (recursion_from_All TellsItsSize rivals are.reported)
    (recursion_from_All (TellsItsNet lots) rivals are.nets) ∙ ap (position_from (λ (y : Bid). dominates lots y x.bid.now) 0) are.same))

-- a numbered bid is the bid of its form at that place
pub numbered-at : (lots : Lots) (form : List Bid) (rivals : List SizedBid) (place : ℕ) (x : SizedBid) (bid : Bid)
    → AreNumbered lots form rivals → place < length rivals → slice_index_or form place bid ≡ (slice_index_or rivals place x).bid.now
numbered-at lots form rivals place x bid are within =
    ap (λ (xs : List Bid). slice_index_or xs place bid) (sym are.same) ∙ get_or-map (λ (s : SizedBid). s.bid.now) rivals place x bid within

-- what holds of each bid of the form holds of each that is numbered
pub numbered-all : (P : Bid → Type 0) (lots : Lots) (form : List Bid) (rivals : List SizedBid) → AreNumbered lots form rivals → All P form
    → All (λ (s : SizedBid). P s.bid.now) rivals
numbered-all P lots form rivals are each k d within =
    let count : length form ≡ length rivals = ap (λ (xs : List Bid). length xs) (sym are.same) ∙ length-map rivals (λ (s : SizedBid). s.bid.now) in
    subst P (numbered-at lots form rivals k d d.bid.now are within) (each k d.bid.now (omega arith))

-- why a bid is in no program that fits, and whose net isn't below 0
pub why-first : (lots : Lots) (form : List Bid) (rivals : List SizedBid) (place : ℕ) (x : SizedBid) (bid : Bid)
    → AreNumbered lots form rivals → place < length rivals → x ≡ slice_index_or rivals place x
    → option_or (over_supply lots x.bid.now.package) (over_cap lots x.bid.now.package) ≡ None → int_le (pos 0) x.net ≡ true
    → option_map (λ first. reason.Dominated (first + 1)) (position_from (beats x) 0 rivals) ≡ why_left_out lots form (slice_index_or form place bid)
why-first lots form rivals place x bid are within is fits worth =
    let mine : TellsItsNet lots x = subst (TellsItsNet lots) (sym is) (are.nets place x within) in
    let reported : TellsItsSize x = subst TellsItsSize (sym is) (are.reported place x within) in
    let own : slice_index_or form place bid ≡ x.bid.now = numbered-at lots form rivals place x bid are within ∙ ap (λ (s : SizedBid). s.bid.now) (sym is) in
    let not_below : below_worth lots x.bid.now ≡ None = rw (sym mine, worth) refl in
    mapped (position_from (beats x) 0 rivals) ∙ ap (option_map (λ number. reason.Dominated number)) (sym (first-dominates lots form rivals x are reported mine))
    ∙ sym (rw (own, not_below) (in-turn (over_supply lots x.bid.now.package) (over_cap lots x.bid.now.package) (dominated lots form x.bid.now) fits))
  where
    mapped : (o : Option ℕ) → option_map (λ first. reason.Dominated (first + 1)) o
        ≡ option_map (λ number. reason.Dominated number) (option_map (λ first. first + 1) o)
    mapped None = refl
    mapped (Some n) = refl

    in-turn : (supply cap other : Option Reason) → option_or supply cap ≡ None → option_or supply (option_or cap (option_or None other)) ≡ other
    in-turn None None other e = refl
    in-turn None (Some r) other e = absurd (none-some r (sym e))
    in-turn (Some r) cap other e = absurd (none-some r (sym e))
