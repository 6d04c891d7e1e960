-- What is built is the program of the offers.
use Rattle.std.proofs.Common.{◌≡◌, ℕ, zero, suc, ◌+◌, ◌<◌, ◌≤◌, Bool, true, false, ◌==◌, nat_eq, cond, List, [], ◌∷◌, ◌++◌}
use Rattle.std.proofs.Common.{Some, map, drop, length, slice_get, sym, refl, ap, ap₂, ◌∙◌, subst, arith, append_assoc}
use Rattle.std.proofs.Common.{eqb-true, eq-eqb, ne_eqb, ℤ, pos}
use Rattle.std.specs.Prelude.{⊤, All, codes, slice_index_or}
use Rattle.std.specs.List.{AllByRecursion, range_with_len, dedup, dedup_from}
use Rattle.std.proofs.lemmas.Bool.{cond-true, cond-false}
use Rattle.std.proofs.lemmas.List.{append-nil, drop_more, drop_all, length-map}
use Rattle.std.proofs.lemmas.List.Elements.{All-from_recursion}
use Rattle.std.proofs.lemmas.Option.{same_Some}
use Rattle.auction_terms.specs.declared.bids.KeptBid.{KeptBid}
use Rattle.auction_terms.specs.declared.rules.Category as declared
use Rattle.auction_terms.specs.declared.limits.TheConstants.{MOST_BIDDERS}
use Rattle.auction_terms.specs.Bids.{AreKept}
use Rattle.auction_terms.specs.Packages.{Lots}
use Rattle.auction_terms.specs.Terms.{Terms, lots_in}
use Rattle.auction_terms.specs.inside.Terms.{cap_of}
use Rattle.auction_terms.specs.Offers.{offer_of, offers}
use Rattle.auction_terms.specs.Keeping.{Offer}
use Rattle.auction_terms.specs.Limits.{AreOffers}
use Rattle.program_rows.specs.declared.subject.Subject.{Subject}
use Rattle.program_rows.specs.declared.subject.Subject.TheVariants.{Bidder, Category, Pool}
use Rattle.program_rows.specs.Parts.{IsProgram}
use Rattle.program_rows.specs.Legal.{IsLegalProgram}
use Rattle.program_rows.specs.Program.{Table, TableRow, TableColumn}
use Rattle.program_rows.specs.Rows.{bidder_subjects, subjects, weight, row_of, entries_from, column_of, worth_column, program_of}
use Rattle.program_rows.specs.inside.Building.{IsThere, built_column}
use Rattle.program_rows.proofs.EachFacts.{at_place, item_at}
use Rattle.program_rows.proofs.LegalFacts.{Rises, all_dedup, all_there, bidders_few, bidders_never_fall, dedup_rises}

abbrev pub bidders : List Offer → List ℕ
bidders offers = map (λ (o : Offer). o.bidder) offers

-- ---------- the bidders ----------

-- each bidder that differs from the one before it; the first comes after `last`
abbrev pub next_bidders : ℕ → List Offer → List ℕ
next_bidders last [] = []
next_bidders last (o ∷ offers) = cond (o.bidder == last) (next_bidders last offers) (o.bidder ∷ next_bidders o.bidder offers)

same_next : (k x : ℕ) (xs : List ℕ) (offers : List Offer) (b : Bool) → (x == k) ≡ b → xs ≡ bidders offers
    → dedup_from nat_eq k xs ≡ k ∷ next_bidders k offers → dedup_from nat_eq x xs ≡ x ∷ next_bidders x offers
    → cond b (dedup_from nat_eq k xs) (k ∷ dedup_from nat_eq x xs) ≡ k ∷ cond b (next_bidders k offers) (x ∷ next_bidders x offers)
same_next k x xs offers true e same h g = h
same_next k x xs offers false e same h g = ap (λ (ys : List ℕ). k ∷ ys) g

pub from_last : (k : ℕ) (offers : List Offer) → dedup_from nat_eq k (bidders offers) ≡ k ∷ next_bidders k offers
from_last k [] = refl
from_last k (o ∷ offers) = same_next k o.bidder (bidders offers) offers (o.bidder == k) refl refl (from_last k offers) (from_last o.bidder offers)

pub bidders_are : (kept : List KeptBid) → AreKept kept → map Bidder (next_bidders 0 (offers kept)) ≡ bidder_subjects (offers kept)
bidders_are [] h = refl
bidders_are (k ∷ ks) h =
    let some = (h.each zero k (omega arith)).some_bidder in
    ap (λ (bs : List ℕ). map Bidder bs)
    (cond-false (k.bidder == 0) (next_bidders 0 (offers ks)) (k.bidder ∷ next_bidders k.bidder (offers ks))
    (ne_eqb k.bidder 0 (λ e. omega arith)) ∙ sym (from_last k.bidder (offers ks)))

pub bidders_end : (ss whole : List Subject) (last i : ℕ) (kept : List KeptBid) → length kept ≤ i
    → ss ++ map Bidder (next_bidders last (offers (drop i kept))) ≡ whole → ss ≡ whole
bidders_end ss whole last i kept l h =
    sym (append-nil ss) ∙ sym (ap (λ (ks : List KeptBid). ss ++ map Bidder (next_bidders last (offers ks))) (drop_all i kept l)) ∙ h

-- ---------- the entries ----------

weightless : (lots : Lots) (b : ℕ) (o : Offer) → (o.bidder == b) ≡ false → (weight lots (Bidder b) o == 0) ≡ true
weightless lots b o e = ap (λ (n : ℕ). n == 0) (cond-false (o.bidder == b) 1 0 e)

none_there : (lots : Lots) (r n : ℕ) (bs : List ℕ) (rest : List Subject) (o : Offer) → n ≡ r + length bs
    → AllByRecursion (λ b. o.bidder < b) bs → entries_from lots r (map Bidder bs ++ rest) o ≡ entries_from lots n rest o
none_there lots r n [] rest o e h = ap (λ (m : ℕ). entries_from lots m rest o) (let t : r ≡ n = omega arith in t)
none_there lots r n (b ∷ bs) rest o e h =
    let less = h.0 in
    cond-true (weight lots (Bidder b) o == 0) (entries_from lots (r + 1) (map Bidder bs ++ rest) o)
    ((r, pos (weight lots (Bidder b) o)) ∷ entries_from lots (r + 1) (map Bidder bs ++ rest) o)
    (weightless lots b o (ne_eqb o.bidder b (λ t. omega arith)))
    ∙ none_there lots (r + 1) n bs rest o (omega arith) h.1

one_there : (lots : Lots) (r p n k : ℕ) (bs : List ℕ) (rest : List Subject) (o : Offer) → p ≡ r + k → n ≡ r + length bs → Rises bs
    → slice_get bs k ≡ Some o.bidder → entries_from lots r (map Bidder bs ++ rest) o ≡ (p, pos 1) ∷ entries_from lots n rest o
one_there lots r p n k [] rest o place e h at = cc
one_there lots r p n zero (b ∷ bs) rest o place e h at =
    let same : b ≡ o.bidder = cc in
    let one : weight lots (Bidder b) o ≡ 1 = cond-true (o.bidder == b) 1 0 (eq-eqb o.bidder b (sym same)) in
    let here : r ≡ p = omega arith in
    cond-false (weight lots (Bidder b) o == 0) (entries_from lots (r + 1) (map Bidder bs ++ rest) o)
    ((r, pos (weight lots (Bidder b) o)) ∷ entries_from lots (r + 1) (map Bidder bs ++ rest) o) (ap (λ (m : ℕ). m == 0) one)
    ∙ ap (λ (m : ℕ). (r, pos m) ∷ entries_from lots (r + 1) (map Bidder bs ++ rest) o) one
    ∙ ap (λ (m : ℕ). (m, pos 1) ∷ entries_from lots (r + 1) (map Bidder bs ++ rest) o) here
    ∙ ap (λ (es : List (ℕ × ℤ)). (p, pos 1) ∷ es) (none_there lots (r + 1) n bs rest o (omega arith)
    (subst (λ (m : ℕ). AllByRecursion (λ c. m < c) bs) same h.0))
one_there lots r p n (suc k) (b ∷ bs) rest o place e h at =
    let less : b < o.bidder = at_place (λ c. b < c) bs k o.bidder h.0 at in
    cond-true (weight lots (Bidder b) o == 0) (entries_from lots (r + 1) (map Bidder bs ++ rest) o)
    ((r, pos (weight lots (Bidder b) o)) ∷ entries_from lots (r + 1) (map Bidder bs ++ rest) o)
    (weightless lots b o (ne_eqb o.bidder b (λ t. omega arith)))
    ∙ one_there lots (r + 1) p n k bs rest o (omega arith) (omega arith) h.1 at

-- ---------- the columns ----------

get_dropped : (bs : List ℕ) (k b : ℕ) (rest : List ℕ) → drop k bs ≡ b ∷ rest → (slice_get bs k ≡ Some b) × (drop (k + 1) bs ≡ rest)
get_dropped [] zero b rest e = cc
get_dropped [] (suc k) b rest e = cc
get_dropped (c ∷ bs) zero b rest e = let x : c ≡ b = cc in let y : bs ≡ rest = cc in (ap (λ (m : ℕ). Some m) x, y)
get_dropped (c ∷ bs) (suc k) b rest e =
    let r = get_dropped bs k b rest e in
    (r.0, ap (λ (m : ℕ). drop m (c ∷ bs)) (let t : suc k + 1 ≡ suc (k + 1) = omega arith in t) ∙ r.1)

-- the bidder that has the row at a place, of the offers before these, and then those of these
abbrev pub Stands : List ℕ → ℕ → List Offer → Type 0
Stands bs place [] = ⊤
Stands bs place (o ∷ offers) = (last : ℕ) × (drop place bs ≡ last ∷ next_bidders last (o ∷ offers))

pub stands_first : (offers : List Offer) → Stands (dedup nat_eq (bidders offers)) 0 offers
stands_first [] = tt
stands_first (o ∷ offers) = (
  o.bidder,
  from_last o.bidder offers ∙ sym (ap (λ (bs : List ℕ). o.bidder ∷ bs)
      (cond-true (o.bidder == o.bidder) (next_bidders o.bidder offers) (o.bidder ∷ next_bidders o.bidder offers)
      (eq-eqb o.bidder o.bidder refl))),
)

pub stands_next : (bs : List ℕ) (place b : ℕ) (offers : List Offer) → drop place bs ≡ b ∷ next_bidders b offers → Stands bs place offers
stands_next bs place b [] h = tt
stands_next bs place b (o ∷ offers) h = (b, h)

found : (bs : List ℕ) (place next last : ℕ) (o : Offer) (offers : List Offer) (b : Bool) → (o.bidder == last) ≡ b
    → drop place bs ≡ last ∷ cond b (next_bidders last offers) (o.bidder ∷ next_bidders o.bidder offers)
    → next ≡ cond (cond b 1 0 == 0) (place + 1) place → drop next bs ≡ o.bidder ∷ next_bidders o.bidder offers
found bs place next last o offers true e at n =
    let same : o.bidder ≡ last = eqb-true o.bidder last e in
    ap (λ (p : ℕ). drop p bs) n ∙ at ∙ sym (ap (λ (l : ℕ). l ∷ next_bidders l offers) same)
found bs place next last o offers false e at n =
    ap (λ (p : ℕ). drop p bs) n ∙ (get_dropped bs place last (o.bidder ∷ next_bidders o.bidder offers) at).1

last_there : (bs : List ℕ) (rest : List Subject) (place last : ℕ) (others : List ℕ) → drop place bs ≡ last ∷ others
    → (place < length (map Bidder bs ++ rest)) × (slice_get (map Bidder bs ++ rest) place ≡ Some (Bidder last))
last_there [] rest zero last others e = cc
last_there [] rest (suc place) last others e = cc
last_there (b ∷ bs) rest zero last others e = let same : b ≡ last = cc in (omega arith, ap (λ (n : ℕ). Some (Bidder n)) same)
last_there (b ∷ bs) rest (suc place) last others e =
    let t = last_there bs rest place last others e in
    let within = t.0 in (omega arith, t.1)

pub at_most_next : (b : Bool) (place next i : ℕ) → next ≡ cond b (place + 1) place → place ≤ i → next ≤ i + 1
at_most_next true place next i e l = omega arith
at_most_next false place next i e l = omega arith

module _ (lots : Lots) (kept : List KeptBid) (ss : List Subject) (all : ss ≡ subjects lots (offers kept)) where
  abbrev bs : List ℕ
  bs = dedup nat_eq (bidders (offers kept))

  -- the bidder whose row is the last one before the next bid
  last_bidder : (place i : ℕ) → i < length kept → Stands bs place (offers (drop i kept))
      → (last : ℕ) × (place < length ss) × (slice_get ss place ≡ Some (Bidder last))
  last_bidder place i l stands =
      let front = item_at kept i l in
      let s : Stands bs place (offer_of front.0 ∷ offers (drop (i + 1) kept)) = subst (λ (ks : List KeptBid). Stands bs place (offers ks)) front.2 stands in
      let t = last_there bs (subjects lots []) place s.0 (next_bidders s.0 (offer_of front.0 ∷ offers (drop (i + 1) kept))) s.1 in
      (s.0, subst (λ (xs : List Subject). place < length xs) (sym all) t.0, subst (λ (xs : List Subject). slice_get xs place ≡ Some (Bidder s.0)) (sym all) t.1)

  pub last_within : (place i : ℕ) → i < length kept → Stands bs place (offers (drop i kept)) → place < length ss
  last_within place i l stands = (last_bidder place i l stands).1

  pub last_is_there : (place i : ℕ) (last : Subject) → i < length kept → Stands bs place (offers (drop i kept))
      → slice_get ss place ≡ Some last → IsThere lots last
  last_is_there place i last l stands at =
      let b = last_bidder place i l stands in
      subst (λ (s : Subject). IsThere lots s) (same_Some (Bidder b.0) last (sym b.2 ∙ at)) tt

  pub place_found : (place next i : ℕ) (k : KeptBid) (last : Subject) → i < length kept → k ≡ slice_index_or kept i k
      → Stands bs place (offers (drop i kept)) → slice_get ss place ≡ Some last
      → next ≡ cond (weight lots last (offer_of k) == 0) (place + 1) place → drop next bs ≡ k.bidder ∷ next_bidders k.bidder (offers (drop (i + 1) kept))
  place_found place next i k last l is stands at n =
      let front : drop i kept ≡ k ∷ drop (i + 1) kept = drop_more kept i k l ∙ ap (λ (x : KeptBid). x ∷ drop (i + 1) kept) (sym is) in
      let s : Stands bs place (offer_of k ∷ offers (drop (i + 1) kept)) = subst (λ (ks : List KeptBid). Stands bs place (offers ks)) front stands in
      let t = last_there bs (subjects lots []) place s.0 (next_bidders s.0 (offer_of k ∷ offers (drop (i + 1) kept))) s.1 in
      let same : last ≡ Bidder s.0 = same_Some last (Bidder s.0) (sym at ∙ ap (λ (xs : List Subject). slice_get xs place) all ∙ t.1) in
      found bs place next s.0 (offer_of k) (offers (drop (i + 1) kept)) (k.bidder == s.0) refl s.1
      (n ∙ ap (λ (t : Subject). cond (weight lots t (offer_of k) == 0) (place + 1) place) same)

  pub column_is : (next first : ℕ) (o : Offer) (others : List ℕ) → AreOffers lots (offers kept)
      → first ≡ length (bidder_subjects (offers kept)) → drop next bs ≡ o.bidder ∷ others
      → built_column lots first next o ≡ column_of lots ss o
  column_is next first o others h count at =
      let rises = dedup_rises (bidders (offers kept)) (bidders_never_fall lots (offers kept) h) in
      let n : first ≡ length bs = count ∙ length-map bs Bidder in
      let rest = subjects lots [] in
      let entries : (next, pos 1) ∷ entries_from lots first rest o ≡ entries_from lots 0 ss o =
      ap (λ (k : ℕ). (next, pos 1) ∷ entries_from lots k rest o) n
      ∙ sym (one_there lots 0 next (length bs) next bs rest o (omega arith) (omega arith) rises (get_dropped bs next o.bidder others at).0)
      ∙ sym (ap (λ (xs : List Subject). entries_from lots 0 xs o) all) in
      ap (λ (es : List (ℕ × ℤ)). record (column_of lots [] o) { entries = es }) entries

  pub column_step : (columns more whole : List TableColumn) (i next first : ℕ) (k : KeptBid) (others : List ℕ)
      → AreOffers lots (offers kept) → first ≡ length (bidder_subjects (offers kept)) → i < length kept → k ≡ slice_index_or kept i k
      → drop next bs ≡ k.bidder ∷ others → columns ++ map (column_of lots ss) (offers (drop i kept)) ≡ whole
      → more ≡ columns ++ built_column lots first next (offer_of k) ∷ []
      → more ++ map (column_of lots ss) (offers (drop (i + 1) kept)) ≡ whole
  column_step columns more whole i next first k others h count l is at so e =
      let front : drop i kept ≡ k ∷ drop (i + 1) kept = drop_more kept i k l ∙ ap (λ (x : KeptBid). x ∷ drop (i + 1) kept) (sym is) in
      let rest : List TableColumn = map (column_of lots ss) (offers (drop (i + 1) kept)) in
      ap (λ (cs : List TableColumn). cs ++ rest) e
      ∙ append_assoc columns (built_column lots first next (offer_of k) ∷ []) rest
      ∙ ap (λ (c : TableColumn). columns ++ c ∷ rest) (column_is next first (offer_of k) others h count at)
      ∙ sym (ap (λ (ks : List KeptBid). columns ++ map (column_of lots ss) (offers ks)) front) ∙ so

-- ---------- the whole ----------

-- the bidders, the categories and the pools
pub listed : (t : Terms) (offers : List Offer) (first more all : List Subject) (n m : ℕ) → first ≡ bidder_subjects offers
    → more ≡ first ++ map Category (range_with_len 0 n) → all ≡ more ++ map Pool (range_with_len 0 m)
    → n ≡ length t.categories → m ≡ length t.pools → all ≡ subjects (lots_in t) offers
listed t offers first more all n m f c p categories pools =
    let count : n ≡ length (lots_in t).supply = categories ∙ sym (length-map t.categories (λ (category : declared.Category). category.supply)) in
    let caps : m ≡ length (lots_in t).pools = pools ∙ sym (length-map t.pools cap_of) in
    p ∙ ap (λ (ss : List Subject). ss ++ map Pool (range_with_len 0 m)) c
    ∙ append_assoc first (map Category (range_with_len 0 n)) (map Pool (range_with_len 0 m))
    ∙ ap (λ (ss : List Subject). ss ++ (map Category (range_with_len 0 n) ++ map Pool (range_with_len 0 m))) f
    ∙ ap₂ (λ (k l : ℕ). bidder_subjects offers ++ (map Category (range_with_len 0 k) ++ map Pool (range_with_len 0 l))) count caps

-- few bidders
few_after : (low : ℕ) (bs : List ℕ) → low ≤ MOST_BIDDERS → AllByRecursion (λ b. low < b) bs → AllByRecursion (λ b. b ≤ MOST_BIDDERS) bs
    → Rises bs → length bs + low ≤ MOST_BIDDERS
few_after low [] l a h r = omega arith
few_after low (b ∷ bs) l a h r = let rest = few_after b bs h.0 r.0 h.1 r.1 in let first = a.0 in omega arith

few : (bs : List ℕ) → AllByRecursion (λ b. b ≤ MOST_BIDDERS) bs → Rises bs → length bs ≤ MOST_BIDDERS + 1
few [] h r = omega arith
few (b ∷ bs) h r = let rest = few_after b bs h.0 r.0 h.1 r.1 in omega arith

pub few_bidders : (lots : Lots) (offers : List Offer) → AreOffers lots offers → length (bidder_subjects offers) ≤ MOST_BIDDERS + 1
few_bidders lots offers h =
    let same = length-map (dedup nat_eq (bidders offers)) Bidder in
    let l = few (dedup nat_eq (bidders offers)) (all_dedup (λ b. b ≤ MOST_BIDDERS) (bidders offers) (bidders_few lots offers h))
    (dedup_rises (bidders offers) (bidders_never_fall lots offers h)) in
    omega arith

pub each_there : (lots : Lots) (offers : List Offer) (all : List Subject) → all ≡ subjects lots offers → All (IsThere lots) all
each_there lots offers all e = subst (λ (ss : List Subject). All (IsThere lots) ss) (sym e)
    (All-from_recursion (IsThere lots) (subjects lots offers) (all_there lots offers))

pub is_built : (lots : Lots) (offers : List Offer) (objective : List ℕ) (ss : List Subject) (rows : List TableRow)
    (columns : List TableColumn) → objective ≡ codes "OBJ" → ss ≡ subjects lots offers
    → rows ≡ map (row_of lots) ss → columns ≡ map (column_of lots ss) offers ++ worth_column lots
    → record { objective = objective; rows = rows; columns = columns } ≡ program_of lots offers
is_built lots offers objective ss rows columns o s r c =
    ap (λ (name : List ℕ). record { objective = name; rows = rows; columns = columns }) o
    ∙ ap₂ (λ (rs : List TableRow) (cs : List TableColumn). record { objective = codes "OBJ"; rows = rs; columns = cs })
    (r ∙ ap (λ (xs : List Subject). map (row_of lots) xs) s)
    (c ∙ ap (λ (xs : List Subject). map (column_of lots xs) offers ++ worth_column lots) s)

pub is_legal : (p q : Table) → p ≡ q → IsLegalProgram q → IsProgram p
is_legal p q e h = subst (λ (t : Table). IsProgram t) (sym e) h.program
