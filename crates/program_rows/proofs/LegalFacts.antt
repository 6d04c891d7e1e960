-- A program that is built is legal: names that differ and can be printed, entries in row order, small numbers.
use Rattle.std.proofs.Common.{◌≡◌, ◌≢◌, ℕ, zero, suc, ◌+◌, ◌^◌, ◌<◌, ◌≤◌, Bool, true, false, ◌==◌, nat_eq, cond, List, []}
use Rattle.std.proofs.Common.{◌∷◌, ◌++◌, slice_index, length, map, refl, ap, subst, arith, ⊎_elim, eq-eqb, le_refl, ◌*◌}
use Rattle.std.proofs.Common.{slice_index_or, ℤ, pos, negsuc, neg_ℤ, ◌-ℤ◌, ◌≤ℤ◌, nat_abs}
use Rattle.std.specs.Prelude.{bytes_eq, codes, decimal}
use Rattle.std.specs.List.{AllByRecursion, IsDistinct, range_with_len, dedup, dedup_from}
use Rattle.std.specs.Str.Parse.{AllDigits}
use Rattle.std.proofs.lemmas.Bool.{both_ways, cases_lt, cond_both, false_from_ne_true}
use Rattle.std.proofs.lemmas.List.{append-nil, length-map}
use Rattle.std.proofs.lemmas.List.Elements.{All-from_recursion, recursion_from_All}
use Rattle.std.proofs.lemmas.List.Filters.{All-dedup}
use Rattle.std.proofs.lemmas.Slice.Eq.{bytes_eq-Decides}
use Rattle.std.proofs.lemmas.Str.Parse.{digit_from_value}
use Rattle.std.proofs.lemmas.Fmt.{decimal_is_IsNumeral, decimal_injective}
use Rattle.std.proofs.lemmas.Int.{ints}
use Rattle.std.proofs.Math.Nat.{mul-suc}
use Rattle.std.proofs.lemmas.Nat.{mul-le}
use Rattle.auction_terms.specs.declared.limits.TheConstants.{GREATEST_AMOUNT, GREATEST_QUANTITY, GREATEST_VALUE}
use Rattle.auction_terms.specs.declared.limits.TheConstants.{GREATEST_WEIGHT, MOST_BIDDERS, MOST_CATEGORIES, MOST_POOLS}
use Rattle.auction_terms.specs.Packages.{Lots, WeightedCap, pool_at, weighed, worth, worth_of_all}
use Rattle.auction_terms.specs.Domination.{net}
use Rattle.auction_terms.specs.Keeping.{Offer}
use Rattle.auction_terms.specs.Limits.{IsLots, IsWeightedCap, IsOffer, IsBefore, AreOffers}
use Rattle.auction_terms.proofs.OfferFacts.{all_agree, all_append}
use Rattle.program_rows.specs.Program.{TableRow, TableColumn}
use Rattle.program_rows.specs.Parts.{IsName, AreEntries}
use Rattle.program_rows.specs.Spelling.{bid_name}
use Rattle.program_rows.specs.declared.subject.Subject.{Subject}
use Rattle.program_rows.specs.declared.subject.Subject.TheVariants.{Bidder, Category, Pool}
use Rattle.program_rows.specs.Rows.{weight, subjects, row_of, entries_from, column_of, worth_column}
use Rattle.program_rows.specs.inside.Building.{IsThere}
use Rattle.program_rows.specs.Legal.{IsSmall, IsSmallColumn, BuiltIsLegal}
use Rattle.program_rows.proofs.EachFacts.{each, each_map, in_range}
use Rattle.program_rows.proofs.SpellingFacts.{bid_name-injective}
use Rattle.program_rows.specs.declared.column.Bounds.TheVariants.{One}

-- what holds of the bidders, of each category and of each pool holds of each subject
pub each_subject : (P : Subject → Type 0) (lots : Lots) (bs : List ℕ) → AllByRecursion (λ b. P (Bidder b)) bs
    → ((c : ℕ) → c < length lots.supply → P (Category c)) → ((p : ℕ) → p < length lots.pools → P (Pool p))
    → AllByRecursion P (map Bidder bs ++ subjects lots [])
each_subject P lots bs b c p =
    all_append P (map Bidder bs) (subjects lots []) (each_map P Bidder bs b)
    (all_append P (map Category (range_with_len 0 (length lots.supply))) (map Pool (range_with_len 0 (length lots.pools)))
    (each_map P Category (range_with_len 0 (length lots.supply)) (in_range (λ k. P (Category k)) 0 (length lots.supply) (λ k l m. c k (omega arith))))
    (each_map P Pool (range_with_len 0 (length lots.pools)) (in_range (λ k. P (Pool k)) 0 (length lots.pools) (λ k l m. p k (omega arith)))))

-- ---------- names ----------

abbrev IsPrintable : ℕ → Type 0
IsPrintable b = (33 ≤ b) × (b ≤ 126)

printable_digits : (ds : List ℕ) → AllDigits 10 ds → AllByRecursion IsPrintable ds
printable_digits [] h = tt
printable_digits (d ∷ ds) h = let in_range = digit_from_value d h.0 in ((omega arith, omega arith), printable_digits ds h.1)

printable : (n : ℕ) → n < 2 ^ 64 → AllByRecursion IsPrintable (decimal n)
printable n small = printable_digits (decimal n) (decimal_is_IsNumeral n small).0.1

differ : (xs ys : List ℕ) → xs ≢ ys → bytes_eq xs ys ≡ false
differ xs ys h = false_from_ne_true (bytes_eq xs ys) (λ t. h ((bytes_eq-Decides xs ys).0 t))

-- ---------- the rows ----------

abbrev IsNamable : Subject → Type 0
IsNamable (Bidder b) = b ≤ MOST_BIDDERS
IsNamable (Category c) = c < MOST_CATEGORIES
IsNamable (Pool p) = p < MOST_POOLS

subject_named : (lots : Lots) (s : Subject) → IsNamable s → IsName (row_of lots s).name
subject_named lots (Bidder b) h = (omega arith, ((omega arith, omega arith), printable b (omega arith)))
subject_named lots (Category c) h = (omega arith, ((omega arith, omega arith), printable (c + 1) (omega arith)))
subject_named lots (Pool p) h = (omega arith, ((omega arith, omega arith), printable (p + 1) (omega arith)))

abbrev IsEarlier : Subject → Subject → Type 0
IsEarlier (Bidder b) (Bidder c) = b < c
IsEarlier (Category c) (Category d) = c < d
IsEarlier (Pool p) (Pool q) = p < q
IsEarlier (Bidder b) s = Unit {0}
IsEarlier (Category c) (Pool p) = Unit {0}
IsEarlier s t = ⊥

abbrev AreEarlier : List Subject → Type 0
AreEarlier [] = Unit {0}
AreEarlier (s ∷ ss) = AllByRecursion (IsEarlier s) ss × AreEarlier ss

numbers_differ : (letter n m : ℕ) → n < 2 ^ 64 → m < 2 ^ 64 → n < m → bytes_eq (letter ∷ decimal n) (letter ∷ decimal m) ≡ false
numbers_differ letter n m h k l = differ (letter ∷ decimal n) (letter ∷ decimal m) (λ e.
    let tails : decimal n ≡ decimal m = cc in
    let same = decimal_injective n m h k tails in
    omega arith)

subjects_differ : (lots : Lots) (s t : Subject) → IsNamable s → IsNamable t → IsEarlier s t → bytes_eq (row_of lots s).name (row_of lots t).name ≡ false
subjects_differ lots (Bidder b) (Bidder c) h k l = numbers_differ 66 b c (omega arith) (omega arith) l
subjects_differ lots (Category c) (Category d) h k l = numbers_differ 67 (c + 1) (d + 1) (omega arith) (omega arith) (omega arith)
subjects_differ lots (Pool p) (Pool q) h k l = numbers_differ 80 (p + 1) (q + 1) (omega arith) (omega arith) (omega arith)
subjects_differ lots (Bidder b) (Category c) h k l = refl
subjects_differ lots (Bidder b) (Pool p) h k l = refl
subjects_differ lots (Category c) (Pool p) h k l = refl
subjects_differ lots s t h k l = absurd l

module _ (lots : Lots) where
  abbrev row_names : List Subject → List (List ℕ)
  row_names ss = map (λ (r : TableRow). r.name) (map (row_of lots) ss)

  each_name : (P : List ℕ → Type 0) (ss : List Subject) → AllByRecursion (λ s. P (row_of lots s).name) ss → AllByRecursion P (row_names ss)
  each_name P [] h = tt
  each_name P (s ∷ ss) h = (h.0, each_name P ss h.1)

  plain_name : (s : Subject) → (bytes_eq (codes "OBJ") (row_of lots s).name ≡ false) × (bytes_eq (row_of lots s).name (codes "'MARKER'") ≡ false)
  plain_name (Bidder b) = (refl, refl)
  plain_name (Category c) = (refl, refl)
  plain_name (Pool p) = (refl, refl)

  others_differ : (s : Subject) (ss : List Subject) → IsNamable s → AllByRecursion IsNamable ss → AllByRecursion (IsEarlier s) ss
      → AllByRecursion (λ name. bytes_eq (row_of lots s).name name ≡ false) (row_names ss)
  others_differ s [] h k l = tt
  others_differ s (t ∷ ss) h k l = (subjects_differ lots s t h k.0 l.0, others_differ s ss h k.1 l.1)

  rows_differ : (ss : List Subject) → AllByRecursion IsNamable ss → AreEarlier ss → IsDistinct bytes_eq (row_names ss)
  unfolding IsDistinct
  rows_differ [] h l = tt
  rows_differ (s ∷ ss) h l = (others_differ s ss h.0 h.1 l.0, rows_differ ss h.1 l.1)

  all_differ : (ss : List Subject) → AllByRecursion IsNamable ss → AreEarlier ss → IsDistinct bytes_eq (codes "OBJ" ∷ row_names ss)
  unfolding IsDistinct
  all_differ ss h l = (each_name (λ name. bytes_eq (codes "OBJ") name ≡ false) ss (each _ ss (λ s. (plain_name s).0)), rows_differ ss h l)

-- ---------- the bidders rise ----------

abbrev pub Rises : List ℕ → Type 0
Rises [] = Unit {0}
Rises (x ∷ xs) = AllByRecursion (λ y. x < y) xs × Rises xs

abbrev NeverFalls : List ℕ → Type 0
NeverFalls [] = Unit {0}
NeverFalls (x ∷ xs) = AllByRecursion (λ y. x ≤ y) xs × NeverFalls xs

-- after k
abbrev RisesFrom : ℕ → List ℕ → Type 0
RisesFrom k xs = Rises xs × AllByRecursion (λ y. k ≤ y) xs

next_number : (k x : ℕ) (xs ys : List ℕ) (b : Bool) → (x == k) ≡ b → k ≤ x → RisesFrom k xs → RisesFrom x ys → RisesFrom k (cond b xs (k ∷ ys))
next_number k x xs ys true e l h g = h
next_number k x xs ys false e l h g =
    let apart : k < x = ⊎_elim (λ less. less) (λ back. let same : x ≡ k = omega arith in absurd (both_ways (x == k) e (eq-eqb x k same))) (cases_lt k x) in (
      (all_agree (λ y. x ≤ y) (λ y. k < y) ys (λ y r. omega arith) g.1, g.0),
      (le_refl k, all_agree (λ y. x ≤ y) (λ y. k ≤ y) ys (λ y r. omega arith) g.1),
    )

dedup_from_rises : (k : ℕ) (xs : List ℕ) → AllByRecursion (λ y. k ≤ y) xs → NeverFalls xs → RisesFrom k (dedup_from nat_eq k xs)
dedup_from_rises k [] a h = ((tt, tt), (le_refl k, tt))
dedup_from_rises k (x ∷ xs) a h = next_number k x (dedup_from nat_eq k xs) (dedup_from nat_eq x xs) (x == k) refl a.0
    (dedup_from_rises k xs a.1 h.1) (dedup_from_rises x xs h.0 h.1)

pub dedup_rises : (xs : List ℕ) → NeverFalls xs → Rises (dedup nat_eq xs)
dedup_rises [] h = tt
dedup_rises (x ∷ xs) h = (dedup_from_rises x xs h.0 h.1).0

pub all_dedup : (P : ℕ → Type 0) (xs : List ℕ) → AllByRecursion P xs → AllByRecursion P (dedup nat_eq xs)
all_dedup P xs h = recursion_from_All P (dedup nat_eq xs) (All-dedup nat_eq P xs (All-from_recursion P xs h))

-- subjects of one kind, in the order of their numbers, and others after them
rising_earlier : (kind : ℕ → Subject) (xs : List ℕ) (rest : List Subject) → ((i j : ℕ) → i < j → IsEarlier (kind i) (kind j))
    → ((i : ℕ) → AllByRecursion (IsEarlier (kind i)) rest) → Rises xs → AreEarlier rest → AreEarlier (map kind xs ++ rest)
rising_earlier kind [] rest h k rises r = r
rising_earlier kind (x ∷ xs) rest h k rises r = (
  all_append (IsEarlier (kind x)) (map kind xs) rest (each_map (IsEarlier (kind x)) kind xs
      (all_agree (λ y. x < y) (λ y. IsEarlier (kind x) (kind y)) xs (h x) rises.0)) (k x),
  rising_earlier kind xs rest h k rises.1 r,
)

range_rises : (a n : ℕ) → Rises (range_with_len a n)
range_rises a zero = tt
range_rises a (suc n) = (in_range (λ y. a < y) (a + 1) n (λ k l m. omega arith), range_rises (a + 1) n)

module _ (lots : Lots) where
  pub bidders_never_fall : (offers : List Offer) → AreOffers lots offers → NeverFalls (map (λ (o : Offer). o.bidder) offers)
  bidders_never_fall [] h = tt
  bidders_never_fall (o ∷ offers) h = (
    each_map (λ y. o.bidder ≤ y) (λ (later : Offer). later.bidder) offers
        (all_agree (IsBefore o) (λ (later : Offer). o.bidder ≤ later.bidder) offers
        (λ later before. ⊎_elim (λ l. omega arith) (λ s. let e = s.0 in omega arith) before) h.1),
    bidders_never_fall offers h.2,
  )

  pub bidders_few : (offers : List Offer) → AreOffers lots offers → AllByRecursion (λ b. b ≤ MOST_BIDDERS) (map (λ (o : Offer). o.bidder) offers)
  bidders_few [] h = tt
  bidders_few (o ∷ offers) h = (h.0.bidder_to, bidders_few offers h.2)

  all_namable : (offers : List Offer) → IsLots lots → AreOffers lots offers → AllByRecursion IsNamable (subjects lots offers)
  all_namable offers l h = each_subject IsNamable lots (dedup nat_eq (map (λ (o : Offer). o.bidder) offers))
      (all_dedup (λ b. b ≤ MOST_BIDDERS) (map (λ (o : Offer). o.bidder) offers) (bidders_few offers h))
      (λ c m. let few = l.categories in omega arith) (λ p m. let few = l.few_pools in omega arith)

  all_earlier : (offers : List Offer) → AreOffers lots offers → AreEarlier (subjects lots offers)
  all_earlier offers h =
      let pools = range_with_len 0 (length lots.pools) in
      rising_earlier Bidder (dedup nat_eq (map (λ (o : Offer). o.bidder) offers)) (subjects lots []) (λ i j l. l)
      (λ b. each_subject (IsEarlier (Bidder b)) lots [] tt (λ c l. tt) (λ p l. tt))
      (dedup_rises (map (λ (o : Offer). o.bidder) offers) (bidders_never_fall offers h))
      (rising_earlier Category (range_with_len 0 (length lots.supply)) (map Pool pools) (λ i j l. l)
      (λ c. each_map (IsEarlier (Category c)) Pool pools (each _ pools (λ p. tt))) (range_rises 0 (length lots.supply))
      (subst AreEarlier (append-nil (map Pool pools)) (rising_earlier Pool pools [] (λ i j l. l) (λ p. tt) (range_rises 0 (length lots.pools)) tt)))

-- each subject is about a category or pool that there is
pub all_there : (lots : Lots) (offers : List Offer) → AllByRecursion (IsThere lots) (subjects lots offers)
all_there lots offers = each_subject (IsThere lots) lots (dedup nat_eq (map (λ (o : Offer). o.bidder) offers)) (each _ _ (λ b. tt)) (λ c l. l) (λ p l. l)

-- ---------- the columns ----------

bid_named : (b j : ℕ) → b < 2 ^ 64 → j < 2 ^ 64 → IsName (bid_name b j)
bid_named b j hb hj = (
  omega arith,
  (
    (omega arith, omega arith),
    all_append IsPrintable (decimal b) (95 ∷ decimal j) (printable b
        hb) ((omega arith, omega arith), printable j hj),
  ),
)

-- the column of what all lots are worth
abbrev pub last_column : Lots → TableColumn
last_column lots = record { name = codes "K"; bounds = One; cost = neg_ℤ (pos (worth_of_all lots)); entries = [] }

module _ (lots : Lots) (rows : List Subject) where
  each_column : (P : TableColumn → Type 0) (offers : List Offer) → AreOffers lots offers
      → ((o : Offer) → IsOffer lots o → P (column_of lots rows o)) → P (last_column lots)
      → AllByRecursion P (map (column_of lots rows) offers ++ worth_column lots)
  each_column P [] h f l = cond_both (worth_of_all lots == 0) [] (last_column lots ∷ []) (AllByRecursion P) (λ e. tt) (λ e. (l, tt))
  each_column P (o ∷ offers) h f l = (f o h.0, each_column P offers h.2 f l)

  abbrev column_names : List Offer → List (List ℕ)
  column_names offers = map (λ (c : TableColumn). c.name) (map (column_of lots rows) offers ++ worth_column lots)

  small_bidder : (o : Offer) → IsOffer lots o → o.bidder < 2 ^ 64
  small_bidder o h = let l = h.bidder_to in omega arith

  small_number : (o : Offer) → IsOffer lots o → o.number < 2 ^ 64
  small_number o h = let l = h.number_to in omega arith

  columns_named : (offers : List Offer) → AreOffers lots offers → AllByRecursion IsName (column_names offers)
  columns_named offers h = each_map IsName (λ (c : TableColumn). c.name) (map (column_of lots rows) offers ++ worth_column lots)
      (each_column (λ c. IsName c.name) offers h (λ o k. bid_named o.bidder o.number (small_bidder o k) (small_number o k))
      (omega arith, ((omega arith, omega arith), tt)))

  offers_differ : (o p : Offer) → IsOffer lots o → IsOffer lots p → IsBefore o p → bytes_eq (bid_name o.bidder o.number) (bid_name p.bidder p.number) ≡ false
  offers_differ o p h k before = differ (bid_name o.bidder o.number) (bid_name p.bidder p.number) (λ e.
      let same = bid_name-injective o.bidder o.number p.bidder p.number (small_bidder o h) (small_number o h) (small_bidder p k) (small_number p k) e in
      let b = same.0 in
      let j = same.1 in
      ⊎_elim (λ l. omega arith) (λ s. let l = s.1 in omega arith) before)

  later_differ : (o : Offer) (offers : List Offer) → IsOffer lots o → AreOffers lots offers → AllByRecursion (IsBefore o) offers
      → AllByRecursion (λ name. bytes_eq (bid_name o.bidder o.number) name ≡ false) (column_names offers)
  later_differ o [] h k before = cond_both (worth_of_all lots == 0) [] (last_column lots ∷ [])
      (λ cs. AllByRecursion (λ name. bytes_eq (bid_name o.bidder o.number) name ≡ false) (map (λ c. c.name) cs)) (λ e. tt) (λ e. (refl, tt))
  later_differ o (p ∷ offers) h k before = (offers_differ o p h k.0 before.0, later_differ o offers h k.2 before.1)

  columns_differ : (offers : List Offer) → AreOffers lots offers → IsDistinct bytes_eq (column_names offers)
  unfolding IsDistinct
  columns_differ [] h = cond_both (worth_of_all lots == 0) [] (last_column lots ∷ []) (λ cs. IsDistinct bytes_eq (map (λ c. c.name) cs))
      (λ e. tt) (λ e. (tt, tt))
  columns_differ (o ∷ offers) h = (later_differ o offers h.0 h.2 h.1, columns_differ offers h.2)

-- ---------- the entries ----------

abbrev AreEntriesFrom : ℕ → ℕ → List (ℕ × ℤ) → Type 0
AreEntriesFrom n r es = AreEntries n es × AllByRecursion (λ e. r ≤ e.0) es

not_none : (w : ℕ) → (w == 0) ≡ false → pos w ≢ pos 0
not_none w e same = both_ways (w == 0) e (eq-eqb w 0 (ap nat_abs same))

next_entry : (n r w : ℕ) (es : List (ℕ × ℤ)) (b : Bool) → (w == 0) ≡ b → r < n → AreEntriesFrom n (r + 1) es → AreEntriesFrom n r (cond b es ((r, pos w) ∷ es))
next_entry n r w es true e l h = (h.0, all_agree (λ (e : ℕ × ℤ). r + 1 ≤ e.0) (λ (e : ℕ × ℤ). r ≤ e.0) es (λ e m. omega arith) h.1)
next_entry n r w es false e l h = (
  (l, not_none w e, all_agree (λ (e : ℕ × ℤ). r + 1 ≤ e.0) (λ (e : ℕ × ℤ). r < e.0) es (λ e m. omega arith) h.1, h.0),
  (le_refl r, all_agree (λ (e : ℕ × ℤ). r + 1 ≤ e.0) (λ (e : ℕ × ℤ). r ≤ e.0) es (λ e m. omega arith) h.1),
)

entries_are : (lots : Lots) (n r : ℕ) (ss : List Subject) (o : Offer) → r + length ss ≤ n → AreEntriesFrom n r (entries_from lots r ss o)
entries_are lots n r [] o l = (tt, tt)
entries_are lots n r (s ∷ ss) o l = next_entry n r (weight lots s o) (entries_from lots (r + 1) ss o) (weight lots s o == 0) refl
    (omega arith) (entries_are lots n (r + 1) ss o (omega arith))

-- ---------- the numbers ----------

at_most_at : (n : ℕ) (xs : List ℕ) (k : ℕ) → AllByRecursion (λ x. x ≤ n) xs → slice_index xs k ≤ n
at_most_at n [] k h = omega arith
at_most_at n (x ∷ xs) zero h = h.0
at_most_at n (x ∷ xs) (suc k) h = at_most_at n xs k h.1

at_most_one : (b : Bool) → cond b 1 0 ≤ 1
at_most_one true = omega arith
at_most_one false = omega arith

pool_small : (pools : List WeightedCap) (p : ℕ) → AllByRecursion IsWeightedCap pools → IsWeightedCap (slice_index_or pools p (record { cap = 0; weights = [] }))
pool_small [] p h = record { cap = omega arith; weights = tt }
pool_small (pool ∷ pools) zero h = h.0
pool_small (pool ∷ pools) (suc p) h = pool_small pools p h.1

-- quantities of at most 10,000, each weighed by at most so much
weighed_small : (most : ℕ) (w q : List ℕ) → AllByRecursion (λ n. n ≤ most) w → AllByRecursion (λ n. n ≤ GREATEST_QUANTITY) q
    → weighed w q ≤ (most * 10000) * length q
weighed_small most [] q h k = omega arith
weighed_small most (n ∷ w) [] h k = omega arith
weighed_small most (n ∷ w) (x ∷ q) h k =
    let m : n * x ≤ most * 10000 = mul-le n x most 10000 h.0 k.0 in
    let r = weighed_small most w q h.1 k.1 in
    omega (arith, mul-suc (most * 10000) (length q))

is_small : (z : ℤ) → neg_ℤ (pos (10 ^ 18)) ≤ℤ z → z ≤ℤ pos (10 ^ 18) → IsSmall z
is_small (pos n) low high = omega (arith, ints)
is_small (negsuc n) low high = omega (arith, ints)

small_difference : (a w : ℕ) → a ≤ GREATEST_AMOUNT → w ≤ 10 ^ 18 → IsSmall (neg_ℤ (pos a -ℤ pos w))
small_difference a w h k = is_small (neg_ℤ (pos a -ℤ pos w)) (omega (arith, ints)) (omega (arith, ints))

small_negated : (w : ℕ) → w ≤ 10 ^ 18 → IsSmall (neg_ℤ (pos w))
small_negated w k = is_small (neg_ℤ (pos w)) (omega (arith, ints)) (omega (arith, ints))

module _ (lots : Lots) where
  small_most : (s : Subject) → IsLots lots → IsSmall (row_of lots s).right_side
  small_most (Bidder b) l = omega arith
  small_most (Category c) l = let m = at_most_at GREATEST_QUANTITY lots.supply c l.supplies in omega arith
  small_most (Pool p) l = let m = (pool_small lots.pools p l.pools).cap in omega arith

  small_weight : (s : Subject) (o : Offer) → IsLots lots → IsOffer lots o → weight lots s o ≤ 10 ^ 18
  small_weight (Bidder b) o l h = let m = at_most_one (o.bidder == b) in omega arith
  small_weight (Category c) o l h = let m = at_most_at GREATEST_QUANTITY o.bid.package c h.bid.quantities in omega arith
  small_weight (Pool p) o l h =
      let m = weighed_small GREATEST_WEIGHT (pool_at lots p).weights o.bid.package (pool_small lots.pools p l.pools).weights h.bid.quantities in
      omega arith

  small_entries : (r : ℕ) (ss : List Subject) (o : Offer) → IsLots lots → IsOffer lots o
      → AllByRecursion (λ (e : ℕ × ℤ). IsSmall e.1) (entries_from lots r ss o)
  small_entries r [] o l h = tt
  small_entries r (s ∷ ss) o l h =
      let rest = small_entries (r + 1) ss o l h in
      cond_both (weight lots s o == 0) (entries_from lots (r + 1) ss o) ((r, pos (weight lots s o)) ∷ entries_from lots (r + 1) ss o)
      (AllByRecursion (λ (e : ℕ × ℤ). IsSmall e.1)) (λ e. rest) (λ e. (small_weight s o l h, rest))

  -- no cost is below -10^18
  small_cost : (o : Offer) → IsLots lots → IsOffer lots o → IsSmall (neg_ℤ (net lots o.bid))
  small_cost o l h =
      let m = weighed_small GREATEST_VALUE lots.values o.bid.package l.values h.bid.quantities in
      small_difference o.bid.amount (worth lots o.bid.package) h.bid.amount (omega arith)

  pub worth_limit : IsLots lots → worth_of_all lots ≤ 32 * 10 ^ 16
  worth_limit l = let m = weighed_small GREATEST_VALUE lots.values lots.supply l.values l.supplies in let few = l.categories in omega arith

pub built_is_legal : BuiltIsLegal
built_is_legal lots offers l h =
    let ss = subjects lots offers in
    let few = all_namable lots offers l h in
    let order = all_earlier lots offers h in record {
      program = record {
        row_names = (
          (omega arith, ((omega arith, omega arith), ((omega arith, omega arith), ((omega arith, omega arith), tt)))),
          each_name
              lots IsName ss (all_agree IsNamable (λ s. IsName (row_of lots s).name) ss (subject_named lots) few),
        );
        rows_differ = all_differ lots ss few order;
        column_names = columns_named lots ss offers h;
        columns_differ = columns_differ lots ss offers h;
        entries = each_column lots ss (λ c. AreEntries (length (map (row_of lots) ss)) c.entries) offers h
            (λ o k. (entries_are lots (length (map (row_of lots) ss)) 0 ss o (let e = length-map ss (row_of lots) in omega arith)).0) tt;
      };
      writable = record {
        right_sides = each_map (λ (r : TableRow). IsSmall r.right_side) (row_of lots) ss (each _ ss (λ s. small_most lots s l));
        numbers = each_column lots ss IsSmallColumn offers h (λ o k. (small_cost lots o l k, small_entries lots 0 ss o l k))
            (small_negated (worth_of_all lots) (let m = worth_limit lots l in omega arith), tt);
        no_marker = (refl, each_name lots (λ name. bytes_eq name (codes "'MARKER'") ≡ false) ss (each _ ss (λ s. (plain_name lots s).1)));
      };
    }
