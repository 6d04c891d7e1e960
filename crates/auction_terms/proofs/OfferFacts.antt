-- Sums over the offers of a book: each of its bids stands there once.
use Rattle.std.proofs.Common.{◌≡◌, ◌≢◌, ℕ, zero, suc, ◌+◌, ◌≤◌, Bool, true, cond, List, [], ◌∷◌, ◌++◌, Some, slice_get}
use Rattle.std.proofs.Common.{slice_index_or, sym, refl, ap, ◌∙◌, subst, arith, le_refl}
use Rattle.std.specs.Prelude.{sum_by, filter}
use Rattle.std.specs.List.{AllByRecursion}
use Rattle.std.proofs.lemmas.Bool.{cond-true, cond-false, cond_both}
use Rattle.std.proofs.lemmas.List.Sums.{sum_by-cons, sum_by-append}
use Rattle.auction_terms.specs.declared.bids.Bid.{Bid}
use Rattle.auction_terms.specs.Allocations.{form_of, bid_at, bid_of}
use Rattle.auction_terms.specs.Keeping.{Offer, offers_of_form, offers_from}
use Rattle.auction_terms.specs.inside.Keeping.{choice_of}

module _ {X : Type 0} where
  pub sum_zero : (g : X → ℕ) (xs : List X) → ((x : X) → g x ≡ 0) → sum_by g xs ≡ 0
  sum_zero g [] h = refl
  sum_zero g (x ∷ xs) h = let s = sum_by-cons g x xs in let a = h x in let b = sum_zero g xs h in omega arith

  pub sum_agree : (g h : X → ℕ) (xs : List X) → AllByRecursion (λ x. g x ≡ h x) xs → sum_by g xs ≡ sum_by h xs
  sum_agree g h [] e = refl
  sum_agree g h (x ∷ xs) e = let s = sum_by-cons g x xs in let t = sum_by-cons h x xs in let a = e.0 in let b = sum_agree g h xs e.1 in omega arith

  pub sum_plus : (f g h : X → ℕ) (xs : List X) → ((x : X) → f x ≡ g x + h x) → sum_by f xs ≡ sum_by g xs + sum_by h xs
  sum_plus f g h [] e = refl
  sum_plus f g h (x ∷ xs) e = let s = sum_by-cons f x xs in let t =
      sum_by-cons g x xs in let u = sum_by-cons h x xs in let a = e x in let b = sum_plus f g h xs e in omega arith

  pub sum_filter : (g : X → ℕ) (q : X → Bool) (xs : List X) → sum_by g (filter q xs) ≡ sum_by (λ x. cond (q x) (g x) 0) xs
  sum_filter g q [] = refl
  sum_filter g q (x ∷ xs) =
      let s = sum_by-cons g x (filter q xs) in
      let t = sum_by-cons (λ y. cond (q y) (g y) 0) x xs in
      let r = sum_filter g q xs in
      cond_both (q x) (x ∷ filter q xs) (filter q xs) (λ (ys : List X). sum_by g ys ≡ sum_by (λ y. cond (q y) (g y) 0) (x ∷ xs))
      (λ e. let n = cond-true (q x) (g x) 0 e in omega arith)
      (λ e. let n = cond-false (q x) (g x) 0 e in omega arith)

  pub all_agree : (P : X → Type 0) (Q : X → Type 0) (xs : List X) → ((x : X) → P x → Q x) → AllByRecursion P xs → AllByRecursion Q xs
  all_agree P Q [] h a = tt
  all_agree P Q (x ∷ xs) h a = (h x a.0, all_agree P Q xs h a.1)

  pub all_append : (P : X → Type 0) (xs ys : List X) → AllByRecursion P xs → AllByRecursion P ys → AllByRecursion P (xs ++ ys)
  all_append P [] ys a b = b
  all_append P (x ∷ xs) ys a b = (a.0, all_append P xs ys a.1 b)

  pub all_filter : (P : X → Type 0) (q : X → Bool) (xs : List X) → AllByRecursion P xs → AllByRecursion (λ x. P x × (q x ≡ true)) (filter q xs)
  all_filter P q [] a = tt
  all_filter P q (x ∷ xs) a =
      let rest = all_filter P q xs a.1 in
      cond_both (q x) (x ∷ filter q xs) (filter q xs) (AllByRecursion (λ y. P y × (q y ≡ true))) (λ e. ((a.0, e), rest)) (λ e. rest)

module _ (G : Offer → ℕ) where
  zero_form : (b j : ℕ) (form : List Bid) → ((o : Offer) → o.bidder ≡ b → j ≤ o.number → G o ≡ 0) → sum_by G (offers_of_form b j form) ≡ 0
  zero_form b j [] h = refl
  zero_form b j (x ∷ form) h =
      let o : Offer = record { bidder = b; number = j; bid = x } in
      let s = sum_by-cons G o (offers_of_form b (j + 1) form) in
      let z = h o refl (le_refl j) in
      let r = zero_form b (j + 1) form (λ p e l. h p e (omega arith)) in
      omega arith

  zero_book : (b : ℕ) (book : List (List Bid)) → ((o : Offer) → b ≤ o.bidder → G o ≡ 0) → sum_by G (offers_from b book) ≡ 0
  zero_book b [] h = refl
  zero_book b (form ∷ book) h =
      let s = sum_by-append G (offers_of_form b 1 form) (offers_from (b + 1) book) in
      let z = zero_form b 1 form (λ o e l. h o (omega arith)) in
      let r = zero_book (b + 1) book (λ o l. h o (omega arith)) in
      omega arith

  -- only the i-th bid counts
  at_form : (b j n : ℕ) (form : List Bid) (i : ℕ) (x : Bid) → slice_get form i ≡ Some x → n ≡ j + i → ((o : Offer) → o.bidder ≡ b → o.number ≢ n → G o ≡ 0)
      → sum_by G (offers_of_form b j form) ≡ G record { bidder = b; number = n; bid = x }
  at_form b j n [] i x at e h = cc
  at_form b j n (y ∷ form) zero x at e h =
      let o : Offer = record { bidder = b; number = j; bid = y } in
      let s = sum_by-cons G o (offers_of_form b (j + 1) form) in
      let z = zero_form b (j + 1) form (λ p q l. h p q (λ t. omega arith)) in
      let same : y ≡ x = cc in
      let place : j ≡ n = omega arith in
      let here : G o ≡ G record { bidder = b; number = n; bid = x } = ap (λ (k : ℕ). G record { bidder = b; number = k; bid = y }) place
      ∙ ap (λ (w : Bid). G record { bidder = b; number = n; bid = w }) same in
      let m : ℕ = G record { bidder = b; number = n; bid = x } in
      let here' : G o ≡ m = here in
      let total : sum_by G (offers_of_form b j (y ∷ form)) ≡ m = omega arith in
      total
  at_form b j n (y ∷ form) (suc i) x at e h =
      let o : Offer = record { bidder = b; number = j; bid = y } in
      let s = sum_by-cons G o (offers_of_form b (j + 1) form) in
      let z = h o refl (λ t. omega arith) in
      let r = at_form b (j + 1) n form i x at (omega arith) h in
      let m : ℕ = G record { bidder = b; number = n; bid = x } in
      let r' : sum_by G (offers_of_form b (j + 1) form) ≡ m = r in
      let total : sum_by G (offers_of_form b j (y ∷ form)) ≡ m = omega arith in
      total

  -- only the bid j of the i-th form counts
  at_book : (b n : ℕ) (book : List (List Bid)) (i j : ℕ) (x : Bid) → bid_at (slice_index_or book i []) (suc j) ≡ Some x → n ≡ b + i
      → ((o : Offer) → (o.bidder ≡ n → o.number ≢ suc j) → G o ≡ 0)
      → sum_by G (offers_from b book) ≡ G record { bidder = n; number = suc j; bid = x }
  at_book b n [] i j x at e h = cc
  at_book b n (form ∷ book) zero j x at e h =
      let s = sum_by-append G (offers_of_form b 1 form) (offers_from (b + 1) book) in
      let here : b ≡ n = omega arith in
      let r = at_form b 1 (suc j) form j x at (omega arith) (λ o q ne. h o (λ t. ne)) in
      let z = zero_book (b + 1) book (λ o l. h o (λ t u. omega arith)) in
      let m : ℕ = G record { bidder = n; number = suc j; bid = x } in
      let r' : sum_by G (offers_of_form b 1 form) ≡ m = r ∙ ap (λ (k : ℕ). G record { bidder = k; number = suc j; bid = x }) here in
      let total : sum_by G (offers_from b (form ∷ book)) ≡ m = omega arith in
      total
  at_book b n (form ∷ book) (suc i) j x at e h =
      let s = sum_by-append G (offers_of_form b 1 form) (offers_from (b + 1) book) in
      let z = zero_form b 1 form (λ o q l. h o (λ t u. omega arith)) in
      let r = at_book (b + 1) n book i j x at (omega arith) h in
      let m : ℕ = G record { bidder = n; number = suc j; bid = x } in
      let r' : sum_by G (offers_from (b + 1) book) ≡ m = r in
      let total : sum_by G (offers_from b (form ∷ book)) ≡ m = omega arith in
      total

  pub at_choice : (book : List (List Bid)) (b j : ℕ) (x : Bid) → bid_at (form_of book b) j ≡ Some x → ((o : Offer) → (o.bidder ≡ b → o.number ≢ j) → G o ≡ 0)
      → sum_by G (offers_from 1 book) ≡ G record { bidder = b; number = j; bid = x }
  at_choice book zero zero x at h = cc
  at_choice book zero (suc j) x at h = cc
  at_choice book (suc i) zero x at h = cc
  at_choice book (suc i) (suc j) x at h = at_book 1 (suc i) book i j x at (omega arith) h

-- each offer is the bid of its number
stands_form : (whole form : List Bid) (b j : ℕ) → ((i n : ℕ) → n ≡ j + i → slice_get form i ≡ slice_get whole n)
    → AllByRecursion (λ (o : Offer). (o.bidder ≡ b) × (bid_at whole o.number ≡ Some o.bid)) (offers_of_form b (suc j) form)
stands_form whole [] b j h = tt
stands_form whole (x ∷ form) b j h = (
  (refl, sym (h 0 j (omega arith))),
  subst (λ (k : ℕ). AllByRecursion (λ (o : Offer). (o.bidder ≡ b) × (bid_at whole o.number ≡ Some o.bid)) (offers_of_form b k form))
      (let e : suc (suc j) ≡ suc j + 1 = omega arith in e)
      (stands_form whole form b (suc j) (λ i n e. h (suc i) n (omega arith))),
)

stands_from : (whole book : List (List Bid)) (k : ℕ) → ((i n : ℕ) → n ≡ k + i → slice_index_or book i [] ≡ slice_index_or whole n [])
    → AllByRecursion (λ (o : Offer). bid_of whole (choice_of o) ≡ Some o.bid) (offers_from (suc k) book)
stands_from whole [] k h = tt
stands_from whole (form ∷ book) k h =
    all_append _ (offers_of_form (suc k) 1 form) (offers_from (suc k + 1) book)
    (all_agree (λ (o : Offer). (o.bidder ≡ suc k) × (bid_at form o.number ≡ Some o.bid))
    (λ (o : Offer). bid_of whole (choice_of o) ≡ Some o.bid) (offers_of_form (suc k) 1 form)
    (λ o w. ap (λ (b : ℕ). bid_at (form_of whole b) o.number) w.0 ∙ ap (λ (f : List Bid). bid_at f o.number) (sym (h 0 k (omega arith))) ∙ w.1)
    (stands_form form form (suc k) 0 (λ i n e. ap (λ (m : ℕ). slice_get form m) (let t : i ≡ n = omega arith in t))))
    (subst (λ (m : ℕ). AllByRecursion (λ (o : Offer). bid_of whole (choice_of o) ≡ Some o.bid) (offers_from m book))
    (let e : suc (suc k) ≡ suc k + 1 = omega arith in e)
    (stands_from whole book (suc k) (λ i n e. h (suc i) n (omega arith))))

pub stands : (book : List (List Bid)) → AllByRecursion (λ (o : Offer). bid_of book (choice_of o) ≡ Some o.bid) (offers_from 1 book)
stands book = stands_from book book 0 (λ i n e. ap (λ (m : ℕ). slice_index_or book m []) (let t : i ≡ n = omega arith in t))
