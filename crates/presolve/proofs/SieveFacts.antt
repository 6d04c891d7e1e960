-- Laws of the sieve: its levels mark every rival that beats the bid.
use Rattle.std.proofs.Common.{◌≡◌, ◌≢◌, ⊎_elim, ◌+◌, ◌-◌, ◌/◌, ◌%◌, ◌<◌, ◌≤◌, ℕ, ◌&&◌, Bool, true, false, nat_lt, List, []}
use Rattle.std.proofs.Common.{◌∷◌, ◌++◌, length, map, slice_index, slice_index_or, slice_set, arith, sym, ap, ◌∙◌, subst}
use Rattle.std.specs.Prelude.{All, AllPairs, int_le}
use Rattle.std.specs.List.Sorted.{IsNonDecreasing}
use Rattle.std.specs.Int.{bit_at}
use Rattle.std.proofs.lemmas.Bool.{and_parts, cases_Bool, cases_eq, cases_lt, false≢true, le-ltb}
use Rattle.std.proofs.lemmas.Nat.Bits.{bit_at-zero}
use Rattle.std.proofs.lemmas.List.{get_or-map, get_or-set_other, get_or-set_same, get_or_default, get_or_past, length-map}
use Rattle.std.proofs.lemmas.List.Elements.{All-push}
use Rattle.std.proofs.lemmas.List.Sorted.{IsNonDecreasingBy-push}
use Rattle.auction_terms.specs.Packages.{is_within}
use Rattle.auction_terms.proofs.PackageFacts.{within_at}
use Rattle.presolve.specs.declared.order.SizedBid.{SizedBid}
use Rattle.presolve.specs.declared.sieve.Level.{Level}
use Rattle.presolve.specs.declared.sieve.Sieve.{Sieve}
use Rattle.presolve.specs.inside.Sieves.{AreRanked, AreSieved, IsMarked, IsSieve, Sifts, shortfall}
use Rattle.presolve.specs.inside.Sizes.{beats}

-- what holds of each word before a place, and of the one that is set there
pub set_word : (P : ℕ → ℕ → Type 0) (words : List ℕ) (place v : ℕ) → place < length words
    → ((j : ℕ) → j < place → P j (slice_index words j)) → P place v → (j : ℕ) → j < place + 1
    → P j (slice_index (slice_set words place v) j)
set_word P words place v within before own j small =
    ⊎_elim
    (λ (earlier : j < place). subst (P j) (sym (get_or-set_other words place j v 0 (omega arith))) (before j earlier))
    (λ (here : place ≤ j).
    let at : place ≡ j = omega arith in
    subst (λ (n : ℕ). P n (slice_index (slice_set words place v) n)) at (subst (P place) (sym (get_or-set_same words place v 0 within)) own))
    (cases_lt j place)

-- a place stays marked where the word that is set has its bit, if the one before had
pub still_marked : (words : List ℕ) (w v i : ℕ) → w < length words → (bit_at (slice_index words w) (i % 64) ≡ 1 → bit_at v (i % 64) ≡ 1)
    → IsMarked words i → IsMarked (slice_set words w v) i
still_marked words w v i within keeps marked =
    ⊎_elim
    (λ (here : i / 64 ≡ w).
    ap (λ (n : ℕ). bit_at n (i % 64)) (ap (λ (n : ℕ). slice_index (slice_set words w v) n) here ∙ get_or-set_same words w v 0 within)
    ∙ keeps (ap (λ (n : ℕ). bit_at (slice_index words n) (i % 64)) (sym here) ∙ marked))
    (λ (apart : i / 64 ≢ w). ap (λ (n : ℕ). bit_at n (i % 64)) (get_or-set_other words w (i / 64) v 0 apart) ∙ marked)
    (cases_eq (i / 64) w)

-- a place stays marked on each level where the one that is set marks what the one before did
pub still_on : (levels : List Level) (r : ℕ) (d new : Level) → r < length levels
    → ((i : ℕ) → IsMarked (slice_index_or levels r d).words.items i → IsMarked new.words.items i) → (s i : ℕ)
    → IsMarked (slice_index_or levels s d).words.items i → IsMarked (slice_index_or (slice_set levels r new) s d).words.items i
still_on levels r d new within more s i marked =
    ⊎_elim
    (λ (here : s ≡ r).
    let own : slice_index_or (slice_set levels r new) s d ≡ new =
    ap (λ (n : ℕ). slice_index_or (slice_set levels r new) n d) here ∙ get_or-set_same levels r new d within in
    subst (λ (l : Level). IsMarked l.words.items i) (sym own) (more i (subst (λ (n : ℕ). IsMarked (slice_index_or levels n d).words.items i) here marked)))
    (λ (apart : s ≢ r). subst (λ (l : Level). IsMarked l.words.items i) (sym (get_or-set_other levels r s new d apart)) marked)
    (cases_eq s r)

-- ranks that rise from number to number
pub ranked_by : (numbers ranks by : List ℕ) → length ranks ≡ length numbers
    → ((k : ℕ) → k < length numbers → slice_index ranks k ≡ slice_index by (slice_index numbers k)) → All (λ n. n < length by) numbers
    → IsNonDecreasing by → AreRanked numbers ranks
ranked_by numbers ranks by count own within rising = record {
  count = count;
  rising = λ i k inside more less.
      let first = own i inside in
      let second = own k more in
      let up = rising (slice_index numbers i) (slice_index numbers k) 0 less (within k 0 more) in
      rw (first, second) up;
}

-- the next rank of a list that rises, none above the one before
pub next_rank : (ranks : List ℕ) (last next : ℕ) → last ≤ next → IsNonDecreasing ranks → All (λ r. r ≤ last) ranks
    → IsNonDecreasing (ranks ++ next ∷ []) × All (λ r. r ≤ next) (ranks ++ next ∷ [])
next_rank ranks last next up rising below = (
  IsNonDecreasingBy-push (λ (r : ℕ). r) ranks next rising (λ d inside. let b = below (length ranks - 1) d (omega arith) in omega arith),
  All-push (λ r. r ≤ next) ranks next (λ k d inside. (let b = below k d inside in omega arith)) (omega arith),
)

-- a rival that beats a bid has at most its quantity of a category
pub fewer_at : (place : ℕ) (x s : SizedBid) → beats x s ≡ true → slice_index s.bid.now.package place ≤ slice_index x.bid.now.package place
fewer_at place x s b = within_at s.bid.now.package x.bid.now.package place (and_parts (int_le x.net s.net) _ (and_parts (nat_lt s.size x.size) _ b).1).1

-- and its net stays no further below the greatest number
pub no_shorter : (x s : SizedBid) → beats x s ≡ true → shortfall s.net ≤ shortfall x.net
no_shorter x s b = let up = (and_parts (int_le x.net s.net) _ (and_parts (nat_lt s.size x.size) _ b).1).0 in grind arith

-- levels of such numbers sift
pub is_sieve : (rivals : List SizedBid) (numbers : List ℕ) (number : SizedBid → ℕ) (sieve : Sieve)
    → ((x s : SizedBid) → beats x s ≡ true → number s ≤ number x) → numbers ≡ map number rivals → AreSieved numbers sieve
    → IsSieve rivals sieve
is_sieve rivals numbers number sieve lower same made =
    let count : length numbers ≡ length rivals = ap (λ (xs : List ℕ). length xs) same ∙ length-map rivals number in
    let ranks = made.ranked.count in
    record {
      places = λ k inside.
          let ranked : k < length sieve.ranks.items = omega arith in
          let level = made.levels.within k 0 ranked in
          record {
            ranked = ranked;
            level = level;
          };
      long = λ r d inside. (let long = made.levels.long r d inside in omega arith);
      sifts = λ k d e inside i f within b.
          let its : slice_index numbers i ≡ number (slice_index_or rivals i f) =
          ap (λ (xs : List ℕ). slice_index xs i) same ∙ get_or-map number rivals i f 0 within in
          let mine : slice_index numbers k ≡ number (slice_index_or rivals k d) =
          ap (λ (xs : List ℕ). slice_index xs k) same ∙ get_or-map number rivals k d 0 inside in
          let less = lower (slice_index_or rivals k d) (slice_index_or rivals i f) b in
          let up = made.ranked.rising i k (omega arith) (omega arith) (omega arith) in
          made.levels.marks i (slice_index sieve.ranks.items k) e (omega arith) (made.levels.within k 0 (omega arith)) up;
    }

-- a rival that isn't smaller doesn't beat the bid
none_after : (x : SizedBid) (rivals : List SizedBid) (place i : ℕ) (d : SizedBid) → AllPairs (λ (s t : SizedBid). s.size ≤ t.size) rivals
    → x ≡ slice_index_or rivals place x → place ≤ i → i < length rivals → beats x (slice_index_or rivals i d) ≡ false
none_after x rivals place i d rising is after within =
    let s : SizedBid = slice_index_or rivals i d in
    let mine : x ≡ slice_index_or rivals place d = is ∙ get_or_default rivals place x d (omega arith) in
    let up : x.size ≤ s.size = ⊎_elim
    (λ (later : place < i). subst (λ (y : SizedBid). y.size ≤ s.size) (sym mine) (rising place i d later within))
    (λ (here : i ≤ place). let at : place ≡ i = omega arith in let same : x ≡ s = mine ∙ ap (λ (n : ℕ). slice_index_or rivals n d) at in
    let size : x.size ≡ s.size = ap (λ (y : SizedBid). y.size) same in omega arith)
    (cases_lt place i) in
    ap (λ (smaller : Bool). smaller && (int_le x.net s.net && is_within s.bid.now.package x.bid.now.package)) (le-ltb s.size x.size up)

-- a rival that beats the bid stands before it
pub stands_before : (x : SizedBid) (rivals : List SizedBid) (place i : ℕ) (d : SizedBid)
    → AllPairs (λ (s t : SizedBid). s.size ≤ t.size) rivals → x ≡ slice_index_or rivals place x → i < length rivals
    → beats x (slice_index_or rivals i d) ≡ true → i < place
stands_before x rivals place i d rising is within b =
    ⊎_elim
    (λ (before : i < place). before)
    (λ (after : place ≤ i). absurd (false≢true (sym (none_after x rivals place i d rising is after within) ∙ b)))
    (cases_lt i place)

-- words of 0 mark no place
pub none_marked : (words : List ℕ) (i : ℕ) → All (λ word. word ≡ 0) words → IsMarked words i → ⊥
none_marked words i zeros marked =
    let zero : slice_index words (i / 64) ≡ 0 = ⊎_elim
    (λ (within : i / 64 < length words). zeros (i / 64) 0 within)
    (λ (past : length words ≤ i / 64). get_or_past words (i / 64) 0 past)
    (cases_lt (i / 64) (length words)) in
    let no_bit : bit_at (slice_index words (i / 64)) (i % 64) ≡ 0 = ap (λ (n : ℕ). bit_at n (i % 64)) zero ∙ bit_at-zero (i % 64) in
    omega arith

-- where words sift, a rival beats the bid only if they mark it
pub only_marked : (x : SizedBid) (rivals : List SizedBid) (words : List ℕ) (i : ℕ) (d : SizedBid) → Sifts rivals x words → i < length rivals
    → (IsMarked words i → beats x (slice_index_or rivals i d) ≡ false) → beats x (slice_index_or rivals i d) ≡ false
only_marked x rivals words i d sifting within unbeaten = ⊎_elim
    (λ (yes : beats x (slice_index_or rivals i d) ≡ true). unbeaten (sifting i d within yes))
    (λ (no : beats x (slice_index_or rivals i d) ≡ false). no)
    (cases_Bool (beats x (slice_index_or rivals i d)))

-- a bid doesn't beat itself
pub none_itself : (x : SizedBid) (rivals : List SizedBid) (place i : ℕ) (d : SizedBid) → x ≡ slice_index_or rivals place x
    → i < length rivals → beats x (slice_index_or rivals i d) ≡ true → i ≢ place
none_itself x rivals place i d is within beaten = λ (same : i ≡ place).
    let at : slice_index_or rivals i d ≡ x = ap (λ (n : ℕ). slice_index_or rivals n d) same ∙ get_or_default rivals place d x (omega arith) ∙ sym is in
    absurd (false≢true (sym (ap (λ (smaller : Bool). smaller && (int_le x.net x.net && is_within x.bid.now.package x.bid.now.package))
    (le-ltb x.size x.size (omega arith))) ∙ subst (λ (s : SizedBid). beats x s ≡ true) at beaten))
