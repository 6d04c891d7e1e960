-- What is left of a program of offers without a group is the program of the other offers.
use Rattle.std.proofs.Common.{◌≡◌, ℕ, suc, ◌+◌, ◌<◌, ◌≤◌, Bool, true, false, ◌==◌, nat_eq, cond, List, [], ◌∷◌, ◌++◌}
use Rattle.std.proofs.Common.{Option, Some, None, map, length, slice_index, slice_index_or, refl, sym, ap, ap₂, ◌∙◌, subst}
use Rattle.std.proofs.Common.{arith, eqb-true, eq-eqb, ne_eqb, ℤ, pos, ⊎_elim}
use Rattle.std.specs.Prelude.{⊤, not, codes, filter}
use Rattle.std.specs.List.{AllByRecursion, range_with_len, dedup}
use Rattle.std.proofs.lemmas.Bool.{both_ways, cond-true, cond-false, cond_both}
use Rattle.std.proofs.lemmas.List.{length-map}
use Rattle.auction_terms.specs.Keeping.{Offer}
use Rattle.auction_terms.specs.Limits.{AreOffers, IsBefore}
use Rattle.auction_terms.specs.Packages.{Lots, worth_of_all}
use Rattle.auction_terms.proofs.LimitFacts.{offers_left}
use Rattle.program_rows.specs.Program.{TableRow, TableColumn}
use Rattle.program_rows.specs.Rows.{bidder_subjects, column_of, entries_from, program_of, row_of, subjects, weight, worth_column}
use Rattle.program_rows.specs.Parts.{IsProgram}
use Rattle.program_rows.specs.Selections.{SelectionIsProgram, Shared, column_at, is_out, numbers_left, owner_of}
use Rattle.program_rows.specs.Selections.{places_left, renumbered, row_at, selection_without, shared_of}
use Rattle.program_rows.specs.inside.Sharing.{IsShared}
use Rattle.program_rows.specs.declared.subject.Subject.{Subject}
use Rattle.program_rows.specs.declared.subject.Subject.TheVariants.{Bidder, Category, Pool}
use Rattle.program_rows.proofs.BuiltFacts.{bidders, from_last, next_bidders}
use Rattle.program_rows.proofs.LegalFacts.{built_is_legal, last_column}

-- ---------- what stays of a list ----------

module _ (group : ℕ → Bool) where
  -- the items whose owner is not out
  abbrev staying : {X : Type 0} → List (Option ℕ) → List X → List X
  staying (o ∷ owners) (x ∷ xs) = cond (is_out group o) (staying owners xs) (x ∷ staying owners xs)
  staying _ _ = []

  -- the items at the places that are left are those that stay
  gathered : {X Y : Type 0} (f : X → Y) (at : ℕ → Y) (d : X) (n : ℕ) (owners : List (Option ℕ)) (xs : List X) → length owners ≡ length xs
      → ((k : ℕ) → k < length xs → at (n + k) ≡ f (slice_index_or xs k d)) → map at (places_left group n owners) ≡ map f (staying owners xs)
  gathered f at d n [] xs e h = refl
  gathered f at d n (o ∷ owners) [] e h = absurd (omega arith)
  gathered f at d n (o ∷ owners) (x ∷ xs) e h =
      let here : at n ≡ f x = ap at (let t : n ≡ n + 0 = omega arith in t) ∙ h 0 (omega arith) in
      by (is_out group o) here (gathered f at d (n + 1) owners xs (omega arith)
      (λ k l. ap at (let t : n + 1 + k ≡ n + suc k = omega arith in t) ∙ h (suc k) (omega arith)))
    where
      by : (out : Bool) → at n ≡ f x → map at (places_left group (n + 1) owners) ≡ map f (staying owners xs)
          → map at (cond out (places_left group (n + 1) owners) (n ∷ places_left group (n + 1) owners))
          ≡ map f (cond out (staying owners xs) (x ∷ staying owners xs))
      by true here rest = rest
      by false here rest = ap₂ (λ y ys. y ∷ ys) here rest

  -- places are within what they are of
  pub places_within : (n limit : ℕ) (owners : List (Option ℕ)) → n + length owners ≤ limit → AllByRecursion (λ i. i < limit) (places_left group n owners)
  places_within n limit [] l = tt
  places_within n limit (o ∷ owners) l =
      let rest = places_within (n + 1) limit owners (omega arith) in
      cond_both (is_out group o) (places_left group (n + 1) owners) (n ∷ places_left group (n + 1) owners) (AllByRecursion (λ i. i < limit))
      (λ e. rest) (λ e. (omega arith, rest))

  -- ---------- bidders ----------

  abbrev others : List Offer → List Offer
  others offers = filter (λ o. not (group o.bidder)) offers

  abbrev stays : Subject → Bool
  stays s = not (is_out group (owner_of s))

  abbrev StartsFrom : ℕ → List Offer → Type 0
  StartsFrom k [] = ⊤
  StartsFrom k (o ∷ offers) = k ≤ o.bidder

  starts : (o : Offer) (offers : List Offer) → AllByRecursion (IsBefore o) offers → StartsFrom o.bidder offers
  starts o [] h = tt
  starts o (p ∷ offers) h = ⊎_elim (λ (l : o.bidder < p.bidder). let t : o.bidder ≤ p.bidder = omega arith in t)
      (λ same. let e : o.bidder ≡ p.bidder = same.0 in let t : o.bidder ≤ p.bidder = omega arith in t) h.0

  -- the bidders that differ from the one before, without those that are out
  next_others : (lots : Lots) (j k : ℕ) (offers : List Offer) → AreOffers lots offers → StartsFrom k offers → j ≤ k → (group k ≡ false → j ≡ k)
      → filter (λ b. not (group b)) (next_bidders k offers) ≡ next_bidders j (others offers)
  next_others lots j k [] h low l same = refl
  next_others lots j k (o ∷ offers) h low l same =
      by (o.bidder == k) (group o.bidder) refl refl (λ j' k' e l' same'. next_others lots j' k' offers h.2
      (subst (λ (n : ℕ). StartsFrom n offers) (sym e) (starts o offers h.1)) l' same')
    where
      bidders_after : ℕ → List ℕ
      bidders_after k' = filter (λ b. not (group b)) (next_bidders k' offers)

      by : (again out : Bool) → (o.bidder == k) ≡ again → group o.bidder ≡ out
          → ((j' k' : ℕ) → k' ≡ o.bidder → j' ≤ k' → (group k' ≡ false → j' ≡ k') → bidders_after k' ≡ next_bidders j' (others offers))
          → filter (λ b. not (group b)) (cond again (next_bidders k offers) (o.bidder ∷ next_bidders o.bidder offers))
          ≡ next_bidders j (cond (not out) (o ∷ others offers) (others offers))
      by true true e g rest = rest j k (sym (eqb-true o.bidder k e)) l same
      by true false e g rest =
          let is : o.bidder ≡ k = eqb-true o.bidder k e in
          let first : j ≡ k = same (sym (ap group is) ∙ g) in
          rest j k (sym is) l same
          ∙ sym (cond-true (o.bidder == j) (next_bidders j (others offers)) (o.bidder ∷ next_bidders o.bidder (others offers))
          (eq-eqb o.bidder j (is ∙ sym first)))
      by false true e g rest =
          let out : not (group o.bidder) ≡ false = ap not g in
          cond-false (not (group o.bidder)) (o.bidder ∷ bidders_after o.bidder) (bidders_after o.bidder) out
          ∙ rest j o.bidder refl (omega (arith, l, low)) (λ f. absurd (both_ways (group o.bidder) f g))
      by false false e g rest =
          let stay : not (group o.bidder) ≡ true = ap not g in
          let apart : (o.bidder == j) ≡ false =
          ne_eqb o.bidder j (λ t. let at : o.bidder ≡ k = omega (arith, t, l, low) in both_ways (o.bidder == k) e
          (eq-eqb o.bidder k at)) in
          cond-true (not (group o.bidder)) (o.bidder ∷ bidders_after o.bidder) (bidders_after o.bidder) stay
          ∙ ap (λ (bs : List ℕ). o.bidder ∷ bs) (rest o.bidder o.bidder refl (omega arith) (λ f. refl))
          ∙ sym (cond-false (o.bidder == j) (next_bidders j (others offers)) (o.bidder ∷ next_bidders o.bidder (others offers)) apart)

  -- bidders of the others
  bidders_of_others : (offers : List Offer) → bidders (others offers) ≡ filter (λ b. not (group b)) (bidders offers)
  bidders_of_others [] = refl
  bidders_of_others (o ∷ offers) = by (not (group o.bidder)) (bidders_of_others offers)
    where
      by : (b : Bool) → bidders (others offers) ≡ filter (λ n. not (group n)) (bidders offers)
          → bidders (cond b (o ∷ others offers) (others offers))
          ≡ cond b (o.bidder ∷ filter (λ n. not (group n)) (bidders offers)) (filter (λ n. not (group n)) (bidders offers))
      by true rest = ap (λ (bs : List ℕ). o.bidder ∷ bs) rest
      by false rest = rest

  each_once : (lots : Lots) (offers : List Offer) → AreOffers lots offers → dedup nat_eq (bidders offers) ≡ next_bidders 0 offers
  each_once lots [] h = refl
  each_once lots (o ∷ offers) h =
      let some = h.0.bidder_from in
      from_last o.bidder offers ∙ sym (cond-false (o.bidder == 0) (next_bidders 0 offers) (o.bidder ∷ next_bidders o.bidder offers)
      (ne_eqb o.bidder 0 (λ e. omega arith)))

  others_once : (lots : Lots) (offers : List Offer) → AreOffers lots offers
      → filter (λ b. not (group b)) (dedup nat_eq (bidders offers)) ≡ dedup nat_eq (bidders (others offers))
  others_once lots offers h =
      ap (λ (bs : List ℕ). filter (λ b. not (group b)) bs) (each_once lots offers h)
      ∙ next_others lots 0 0 offers h (from_0 offers) (omega arith) (λ e. refl)
      ∙ sym (each_once lots (others offers) (offers_left lots (λ o. not (group o.bidder)) offers h))
    where
      from_0 : (os : List Offer) → StartsFrom 0 os
      from_0 [] = tt
      from_0 (o ∷ os) = omega arith

  -- ---------- what has a row ----------

  stay_of : {X : Type 0} (kind : X → Subject) (q : X → Bool) (xs : List X) → ((x : X) → stays (kind x) ≡ q x)
      → filter stays (map kind xs) ≡ map kind (filter q xs)
  stay_of kind q [] h = refl
  stay_of kind q (x ∷ xs) h = by (stays (kind x)) (q x) (h x) (stay_of kind q xs h)
    where
      by : (b c : Bool) → b ≡ c → filter stays (map kind xs) ≡ map kind (filter q xs)
          → cond b (kind x ∷ filter stays (map kind xs)) (filter stays (map kind xs)) ≡ map kind (cond c (x ∷ filter q xs) (filter q xs))
      by true true e rest = ap (λ (ss : List Subject). kind x ∷ ss) rest
      by false false e rest = rest
      by true false e rest = absurd cc
      by false true e rest = absurd cc

  all_stay : {X : Type 0} (xs : List X) → filter (λ x. true) xs ≡ xs
  all_stay [] = refl
  all_stay (x ∷ xs) = ap (λ ys. x ∷ ys) (all_stay xs)

  stay_together : (xs ys : List Subject) → filter stays (xs ++ ys) ≡ filter stays xs ++ filter stays ys
  stay_together [] ys = refl
  stay_together (x ∷ xs) ys = by (stays x) (stay_together xs ys)
    where
      by : (b : Bool) → filter stays (xs ++ ys) ≡ filter stays xs ++ filter stays ys
          → cond b (x ∷ filter stays (xs ++ ys)) (filter stays (xs ++ ys))
          ≡ cond b (x ∷ filter stays xs) (filter stays xs) ++ filter stays ys
      by true rest = ap (λ (ss : List Subject). x ∷ ss) rest
      by false rest = rest

  subjects_left : (lots : Lots) (offers : List Offer) → AreOffers lots offers → filter stays (subjects lots offers) ≡ subjects lots (others offers)
  subjects_left lots offers h =
      let categories : List Subject = map Category (range_with_len 0 (length lots.supply)) in
      let pools : List Subject = map Pool (range_with_len 0 (length lots.pools)) in
      stay_together (bidder_subjects offers) (categories ++ pools)
      ∙ ap₂ (λ (ss ts : List Subject). ss ++ ts)
      (stay_of Bidder (λ b. not (group b)) (dedup nat_eq (bidders offers)) (λ b. refl) ∙ ap (λ (bs : List ℕ). map Bidder bs) (others_once lots offers h))
      (stay_together categories pools
      ∙ ap₂ (λ (ss ts : List Subject). ss ++ ts)
      (stay_of Category (λ c. true) (range_with_len 0 (length lots.supply)) (λ c. refl) ∙ ap (λ (cs : List ℕ). map Category cs)
      (all_stay (range_with_len 0 (length lots.supply))))
      (stay_of Pool (λ p. true) (range_with_len 0 (length lots.pools)) (λ p. refl) ∙ ap (λ (ps : List ℕ). map Pool ps)
      (all_stay (range_with_len 0 (length lots.pools)))))

  rows_left : (lots : Lots) (ss : List Subject)
      → map (λ (r : TableRow). r) (staying (map owner_of ss) (map (row_of lots) ss)) ≡ map (row_of lots) (filter stays ss)
  rows_left lots [] = refl
  rows_left lots (s ∷ ss) = by (is_out group (owner_of s)) (rows_left lots ss)
    where
      rest : List TableRow
      rest = staying (map owner_of ss) (map (row_of lots) ss)

      by : (out : Bool) → map (λ (r : TableRow). r) rest ≡ map (row_of lots) (filter stays ss)
          → map (λ (r : TableRow). r) (cond out rest (row_of lots s ∷ rest)) ≡ map (row_of lots) (cond (not out) (s ∷ filter stays ss) (filter stays ss))
      by true more = more
      by false more = ap (λ (rs : List TableRow). row_of lots s ∷ rs) more

  -- ---------- entries ----------

  -- an offer of a bidder that stays counts nothing in a row that is out
  out_weight : (lots : Lots) (o : Offer) (s : Subject) → group o.bidder ≡ false → is_out group (owner_of s) ≡ true → (weight lots s o == 0) ≡ true
  out_weight lots o (Bidder b) in_ out =
      ap (λ (n : ℕ). n == 0) (cond-false (o.bidder == b) 1 0 (ne_eqb o.bidder b (λ e. both_ways (group b) (sym (ap group e) ∙ in_) out)))
  out_weight lots o (Category c) in_ out = absurd cc
  out_weight lots o (Pool p) in_ out = absurd cc

  module _ (lots : Lots) (o : Offer) (in_ : group o.bidder ≡ false) where
    entries_left : (number_of : ℕ → ℕ) (n m : ℕ) (ss : List Subject)
        → ((k : ℕ) → k < length ss → number_of (n + k) ≡ slice_index (numbers_left group m (map owner_of ss)) k)
        → map (λ e. (number_of e.0, e.1)) (entries_from lots n ss o) ≡ entries_from lots m (filter stays ss) o
    entries_left number_of n m [] h = refl
    entries_left number_of n m (s ∷ ss) h =
        let here : number_of n ≡ m = ap number_of (let t : n ≡ n + 0 = omega arith in t) ∙ h 0 (omega arith) in
        by (is_out group (owner_of s)) refl here (λ k l. ap number_of (let t : n + 1 + k ≡ n + suc k = omega arith in t) ∙ h (suc k)
        (omega arith)) (λ m' h'. entries_left number_of (n + 1) m' ss h')
      where
        more : List (ℕ × ℤ)
        more = entries_from lots (n + 1) ss o

        with_weight : (b : Bool) → number_of n ≡ m → map (λ e. (number_of e.0, e.1)) more ≡ entries_from lots (m + 1) (filter stays ss) o
            → map (λ e. (number_of e.0, e.1)) (cond b more ((n, pos (weight lots s o)) ∷ more))
            ≡ cond b (entries_from lots (m + 1) (filter stays ss) o) ((m, pos (weight lots s o)) ∷ entries_from lots (m + 1) (filter stays ss) o)
        with_weight true here rest = rest
        with_weight false here rest = ap₂ (λ (k : ℕ) (es : List (ℕ × ℤ)). (k, pos (weight lots s o)) ∷ es) here rest

        by : (out : Bool) → is_out group (owner_of s) ≡ out → number_of n ≡ m
            → ((k : ℕ) → k < length ss → number_of (n + 1 + k) ≡ slice_index (numbers_left group (cond out m (m + 1)) (map owner_of ss)) k)
            → ((m' : ℕ) → ((k : ℕ) → k < length ss → number_of (n + 1 + k) ≡ slice_index (numbers_left group m' (map owner_of ss)) k) → map
            (λ e. (number_of e.0, e.1)) more ≡ entries_from lots m' (filter stays ss) o)
            → map (λ e. (number_of e.0, e.1)) (cond (weight lots s o == 0) more ((n, pos (weight lots s o)) ∷ more))
            ≡ entries_from lots m (cond (not out) (s ∷ filter stays ss) (filter stays ss)) o
        by true is here next rest =
            ap (λ (es : List (ℕ × ℤ)). map (λ e. (number_of e.0, e.1)) es)
            (cond-true (weight lots s o == 0) more ((n, pos (weight lots s o)) ∷ more) (out_weight lots o s in_ is))
            ∙ rest m next
        by false is here next rest = with_weight (weight lots s o == 0) here (rest (m + 1) next)

  -- ---------- columns ----------

  module _ (lots : Lots) (offers : List Offer) (h : AreOffers lots offers) where
    abbrev whole : List Subject
    whole = subjects lots offers

    abbrev left : List Subject
    left = subjects lots (others offers)

    abbrev numbers : List ℕ
    numbers = numbers_left group 0 (map owner_of whole)

    column_left : (o : Offer) → group o.bidder ≡ false → renumbered numbers (column_of lots whole o) ≡ column_of lots left o
    column_left o in_ =
        let entries = entries_left lots o in_ (λ k. slice_index numbers k) 0 0 whole
        (λ k l. ap (λ (i : ℕ). slice_index numbers i) (let t : 0 + k ≡ k = omega arith in t))
        ∙ ap (λ (ss : List Subject). entries_from lots 0 ss o) (subjects_left lots offers h) in
        ap (λ (es : List (ℕ × ℤ)). record (column_of lots whole o) { entries = es }) entries

    worth_left : map (renumbered numbers) (staying (map (λ (c : TableColumn). None) (worth_column lots)) (worth_column lots)) ≡ worth_column lots
    worth_left = cond_both (worth_of_all lots == 0) [] (last_column lots ∷ [])
        (λ (cs : List TableColumn). map (renumbered numbers) (staying (map (λ (c : TableColumn). None) cs) cs) ≡ cs) (λ e. refl) (λ e. refl)

    columns_left : (os : List Offer) → map (renumbered numbers) (staying
        (map (λ (o : Offer). Some o.bidder) os ++ map (λ (c : TableColumn). None) (worth_column lots))
        (map (column_of lots whole) os ++ worth_column lots))
        ≡ map (column_of lots left) (others os) ++ worth_column lots
    columns_left [] = worth_left
    columns_left (o ∷ os) = by (group o.bidder) refl (columns_left os)
      where
        rest : List TableColumn
        rest = staying (map (λ (p : Offer). Some p.bidder) os ++ map (λ (c : TableColumn). None) (worth_column lots))
            (map (column_of lots whole) os ++ worth_column lots)

        by : (out : Bool) → group o.bidder ≡ out → map (renumbered numbers) rest ≡ map (column_of lots left) (others os) ++ worth_column lots
            → map (renumbered numbers) (cond out rest (column_of lots whole o ∷ rest))
            ≡ map (column_of lots left) (cond (not out) (o ∷ others os) (others os)) ++ worth_column lots
        by true is more = more
        by false is more = ap₂ (λ (c : TableColumn) (cs : List TableColumn). c ∷ cs) (column_left o is) more

    as_many : length (map (λ (o : Offer). Some o.bidder) offers ++ map (λ (c : TableColumn). None) (worth_column lots))
        ≡ length (map (column_of lots whole) offers ++ worth_column lots)
    as_many = by offers
      where
        none : (cs : List TableColumn) → length (map (λ (c : TableColumn). (let n : Option ℕ = None in n)) cs) ≡ length cs
        none cs = length-map cs (λ (c : TableColumn). (let n : Option ℕ = None in n))

        by : (os : List Offer) → length (map (λ (o : Offer). Some o.bidder) os ++ map (λ (c : TableColumn). None) (worth_column lots))
            ≡ length (map (column_of lots whole) os ++ worth_column lots)
        by [] = none (worth_column lots)
        by (o ∷ os) = ap suc (by os)

pub selection_is_program : SelectionIsProgram
selection_is_program lots offers group h =
    let p = program_of lots offers in
    let ss = subjects lots offers in
    let s = shared_of lots offers in
    let rows = gathered group (λ (r : TableRow). r) (row_at p.rows) (row_at [] 0) 0 (map owner_of ss) p.rows
    (length-map ss owner_of ∙ sym (length-map ss (row_of lots)))
    (λ k l. ap (λ (i : ℕ). row_at p.rows i) (let t : 0 + k ≡ k = omega arith in t))
    ∙ rows_left group lots ss ∙ ap (λ (xs : List Subject). map (row_of lots) xs) (subjects_left group lots offers h) in
    let columns = gathered group (renumbered (numbers group lots offers h))
    (λ place. renumbered (numbers group lots offers h) (column_at p.columns place)) (column_at [] 0) 0 s.columns p.columns
    (as_many group lots offers h)
    (λ k l. ap (λ (i : ℕ). renumbered (numbers group lots offers h) (column_at p.columns i)) (let t : 0 + k ≡ k = omega arith in t))
    ∙ columns_left group lots offers h offers in
    ap₂ (λ (rs : List TableRow) (cs : List TableColumn). record { objective = codes "OBJ"; rows = rs; columns = cs }) rows columns

-- ---------- a shared program ----------

-- each row and each column has its owner or none
pub each_owned : (s : Shared) → IsShared s → (length s.rows ≡ length s.program.rows) × (length s.columns ≡ length s.program.columns)
each_owned s h =
    let ss = subjects h.lots h.offers in
    subst (λ (t : Shared). (length t.rows ≡ length t.program.rows) × (length t.columns ≡ length t.program.columns)) (sym h.is)
    (length-map ss owner_of ∙ sym (length-map ss (row_of h.lots)), as_many (λ b. false) h.lots h.offers h.each)

pub places_there : (s : Shared) (group : ℕ → Bool) → IsShared s
    → AllByRecursion (λ i. i < length s.program.rows) (places_left group 0 s.rows)
    × AllByRecursion (λ i. i < length s.program.columns) (places_left group 0 s.columns)
places_there s group h =
    let long = each_owned s h in (
      places_within group 0 (length s.program.rows) s.rows (omega (arith, long.0)),
      places_within group 0 (length
          s.program.columns) s.columns (omega (arith, long.1)),
    )

-- what is left is a program
pub selection_is_legal : (s : Shared) (group : ℕ → Bool) → IsShared s → IsProgram (selection_without s group)
selection_is_legal s group h =
    let others_of = filter (λ o. not (group o.bidder)) h.offers in
    subst IsProgram (sym (ap (λ (t : Shared). selection_without t group) h.is ∙ selection_is_program h.lots h.offers group h.each))
    (built_is_legal h.lots others_of h.within (offers_left h.lots (λ o. not (group o.bidder)) h.offers h.each)).program
