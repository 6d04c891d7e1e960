-- The text of a group is joined from the pages of the bidders outside it, and that of the lots.
use Rattle.std.proofs.Common.{◌≡◌, ℕ, zero, suc, ◌+◌, ◌<◌, Bool, true, false, ◌==◌, nat_eq, cond, List, [], ◌∷◌, ◌++◌, map}
use Rattle.std.proofs.Common.{drop, length, sym, refl, ap, ap₂, ◌∙◌, subst, arith, ne_eqb, eq-eqb, append-nil}
use Rattle.std.specs.Prelude.{codes, flat_map, filter}
use Rattle.std.specs.List.{AllByRecursion, dedup, dedup_from}
use Rattle.std.proofs.lemmas.Bool.{cond-true, cond-false}
use Rattle.std.proofs.lemmas.List.{drop_all, map-append}
use Rattle.std.proofs.lemmas.List.Elements.{filter-append}
use Rattle.std.proofs.lemmas.Grind.{flat_map-append}
use Rattle.auction_terms.specs.declared.bids.Bid.{Bid}
use Rattle.auction_terms.specs.Packages.{Lots}
use Rattle.auction_terms.specs.Allocations.{Book, form_of}
use Rattle.auction_terms.specs.Keeping.{Offer, offers_of_form, offers_from, kept_of}
use Rattle.auction_terms.specs.inside.Keeping.{is_kept_offer}
use Rattle.auction_terms.specs.Limits.{AreOffers, IsBook}
use Rattle.auction_terms.proofs.LimitFacts.{kept_are_offers}
use Rattle.auction_terms.proofs.OfferFacts.{all_agree, all_append}
use Rattle.auction_terms.specs.Domination.{is_kept}
use Rattle.presolve.specs.Flags.{kept_in_form}
use Rattle.presolve.proofs.KeepFacts.{kept_outside, none_inside, next_form, offers_parted}
use Rattle.program_rows.specs.Program.{TableRow}
use Rattle.program_rows.specs.declared.subject.Subject.{Subject}
use Rattle.program_rows.specs.declared.subject.Subject.TheVariants.{Bidder}
use Rattle.program_rows.specs.Rows.{bidder_subjects, subjects, row_of, column_of, worth_column, program_of}
use Rattle.mps_text.specs.Bytes.{row_bytes, right_side_bytes, column_bytes, bound_bytes}
use Rattle.mps_text.specs.FaithfulText.{presolved_text}
use Rattle.group_compiler.specs.declared.section.Section.{Section}
use Rattle.group_compiler.specs.declared.section.Section.TheVariants.{Rows, Columns, RightSides, Bounds}
use Rattle.group_compiler.specs.Pages.{PageText, AllPages, section_lines, page_of_offers, page_of_lots, page_of_form, pages_from, pages_of, outside}
use Rattle.group_compiler.specs.Joining.{TextIsJoined, joined, section_text, group_text, pages_for}
use Rattle.group_compiler.proofs.SectionFacts.{text-sections}
use Rattle.group_compiler.proofs.BidLineFacts.{columns_are, bounds_are, own_lines, own_bound, worth_is}

-- ---------- form by form ----------

module _ (lots : Lots) (book : Book) (group : ℕ → Bool) where
  -- these are the forms of the book from bidder b on
  abbrev Stand : ℕ → Book → Type 0
  Stand b [] = Unit {0}
  Stand b (form ∷ rest) = (form_of book b ≡ form) × Stand (b + 1) rest

  stand : (i n : ℕ) → i + n ≡ length book → Stand (i + 1) (drop i book)
  stand i zero e = subst (Stand (i + 1)) (sym (drop_all i book (omega arith))) tt
  stand i (suc n) e = subst (Stand (i + 1)) (sym (next_form book i (omega arith))) (refl, stand (i + 1) n (omega arith))

  -- what is kept of these forms
  abbrev kept_forms : ℕ → Book → List Offer
  kept_forms b [] = []
  kept_forms b (form ∷ rest) = cond (group b) (kept_forms (b + 1) rest) (kept_in_form lots b form ++ kept_forms (b + 1) rest)

  own : (b : ℕ) (form : List Bid) (more : List Offer) (g : Bool) → group b ≡ g → form_of book b ≡ form
      → filter (is_kept_offer lots book group) (offers_of_form b 1 form) ++ more ≡ cond g more (kept_in_form lots b form ++ more)
  own b form more true e f = ap (λ (os : List Offer). os ++ more) (none_inside lots book group b 1 form e)
  own b form more false e f = ap (λ (os : List Offer). os ++ more) (sym (kept_outside lots book group b 1 form form e f))

  kept_is : (b : ℕ) (rest : Book) → Stand b rest → filter (is_kept_offer lots book group) (offers_from b rest) ≡ kept_forms b rest
  kept_is b [] s = refl
  kept_is b (form ∷ rest) s =
      filter-append (is_kept_offer lots book group) (offers_of_form b 1 form) (offers_from (b + 1) rest)
      ∙ ap (λ (os : List Offer). filter (is_kept_offer lots book group) (offers_of_form b 1 form) ++ os) (kept_is (b + 1) rest s.1)
      ∙ own b form (kept_forms (b + 1) rest) (group b) refl s.0

  kept_by_form : kept_of lots book group ≡ kept_forms 1 book
  kept_by_form = kept_is 1 book (stand 0 (length book) (omega arith))

-- ---------- the rows of bidders ----------

abbrev bidders : List Offer → List ℕ
bidders offers = map (λ (o : Offer). o.bidder) offers

-- a bidder, and those above it
dedup_front : (b : ℕ) (xs ys : List ℕ) → AllByRecursion (λ x. x ≡ b) xs → AllByRecursion (λ y. b < y) ys
    → dedup_from nat_eq b (xs ++ ys) ≡ dedup_from nat_eq b xs ++ dedup nat_eq ys
dedup_front b [] [] h k = refl
dedup_front b [] (y ∷ ys) h k = cond-false (y == b) (dedup_from nat_eq b ys) (b ∷ dedup_from nat_eq y ys) (ne_eqb y b (λ e. let l = k.0 in omega arith))
dedup_front b (x ∷ xs) ys h k =
    let same = eq-eqb x b h.0 in
    cond-true (x == b) (dedup_from nat_eq b (xs ++ ys)) (b ∷ dedup_from nat_eq x (xs ++ ys)) same
    ∙ dedup_front b xs ys h.1 k
    ∙ ap (λ (w : List ℕ). w ++ dedup nat_eq ys) (sym (cond-true (x == b) (dedup_from nat_eq b xs) (b ∷ dedup_from nat_eq x xs) same))

dedup_parts : (b : ℕ) (xs ys : List ℕ) → AllByRecursion (λ x. x ≡ b) xs → AllByRecursion (λ y. b < y) ys
    → dedup nat_eq (xs ++ ys) ≡ dedup nat_eq xs ++ dedup nat_eq ys
dedup_parts b [] ys h k = refl
dedup_parts b (x ∷ xs) ys h k =
    let e = h.0 in
    subst (λ (m : ℕ). dedup_from nat_eq m (xs ++ ys) ≡ dedup_from nat_eq m xs ++ dedup nat_eq ys) (sym e) (dedup_front b xs ys h.1 k)

-- what is kept of a form is its bidder's
of_bidder : (lots : Lots) (form : List Bid) (b j : ℕ) (rest : List Bid)
    → AllByRecursion (λ x. x ≡ b) (bidders (filter (λ o. is_kept lots form o.bid) (offers_of_form b j rest)))
of_bidder lots form b j [] = tt
of_bidder lots form b j (x ∷ rest) =
    by (is_kept lots form x) (filter (λ o. is_kept lots form o.bid) (offers_of_form b (j + 1) rest)) (of_bidder lots form b (j + 1) rest)
  where
    by : (keep : Bool) (more : List Offer) → AllByRecursion (λ y. y ≡ b) (bidders more)
        → AllByRecursion (λ y. y ≡ b) (bidders (cond keep (record { bidder = b; number = j; bid = x } ∷ more) more))
    by true more h = (refl, h)
    by false more h = h

module _ (lots : Lots) (book : Book) (group : ℕ → Bool) where
  above_pick : (c b : ℕ) (form : List Bid) (os : List Offer) (g : Bool) → c < b → AllByRecursion (λ y. c < y) (bidders os)
      → AllByRecursion (λ y. c < y) (bidders (cond g os (kept_in_form lots b form ++ os)))
  above_pick c b form os true l h = h
  above_pick c b form os false l h =
      subst (AllByRecursion (λ y. c < y)) (sym (map-append (λ (o : Offer). o.bidder) (kept_in_form lots b form) os))
      (all_append (λ y. c < y) (bidders (kept_in_form lots b form)) (bidders os)
      (all_agree (λ x. x ≡ b) (λ y. c < y) (bidders (kept_in_form lots b form)) (λ x e. omega arith) (of_bidder lots form b 1 form)) h)

  above : (c b : ℕ) (rest : Book) → c < b → AllByRecursion (λ y. c < y) (bidders (kept_forms lots book group b rest))
  above c b [] l = tt
  above c b (form ∷ rest) l = above_pick c b form (kept_forms lots book group (b + 1) rest) (group b) l (above c (b + 1) rest (omega arith))

-- ---------- page by page ----------

module _ (lots : Lots) where
  rows_parts : (bytes : TableRow → List ℕ) (b : ℕ) (xs ys : List Offer) → AllByRecursion (λ x. x ≡ b) (bidders xs) → AllByRecursion (λ y. b < y) (bidders ys)
      → flat_map bytes (map (row_of lots) (bidder_subjects (xs ++ ys)))
      ≡ flat_map bytes (map (row_of lots) (bidder_subjects xs)) ++ flat_map bytes (map (row_of lots) (bidder_subjects ys))
  rows_parts bytes b xs ys h k =
      ap (λ (ns : List ℕ). flat_map bytes (map (row_of lots) (map Bidder ns)))
      (ap (dedup nat_eq) (map-append (λ (o : Offer). o.bidder) xs ys) ∙ dedup_parts b (bidders xs) (bidders ys) h k)
      ∙ ap (λ (ss : List Subject). flat_map bytes (map (row_of lots) ss)) (map-append Bidder (dedup nat_eq (bidders xs)) (dedup nat_eq (bidders ys)))
      ∙ ap (flat_map bytes) (map-append (row_of lots) (bidder_subjects xs) (bidder_subjects ys))
      ∙ flat_map-append bytes (map (row_of lots) (bidder_subjects xs)) (map (row_of lots) (bidder_subjects ys))

  -- the lines of the offers of a bidder, and of those of bidders above it
  page_parts : (section : Section) (b : ℕ) (xs ys : List Offer) → AreOffers lots (xs ++ ys) → AllByRecursion (λ x. x ≡ b) (bidders xs)
      → AllByRecursion (λ y. b < y) (bidders ys)
      → section_lines section (page_of_offers lots (xs ++ ys))
      ≡ section_lines section (page_of_offers lots xs) ++ section_lines section (page_of_offers lots ys)
  page_parts Rows b xs ys are h k = rows_parts row_bytes b xs ys h k
  page_parts Columns b xs ys are h k =
      let both = offers_parted lots xs ys are in
      columns_are lots (xs ++ ys) are ∙ flat_map-append (own_lines lots) xs ys
      ∙ ap₂ (λ (v w : List ℕ). v ++ w) (sym (columns_are lots xs both.0)) (sym (columns_are lots ys both.1))
  page_parts RightSides b xs ys are h k = rows_parts right_side_bytes b xs ys h k
  page_parts Bounds b xs ys are h k =
      bounds_are lots (subjects lots (xs ++ ys)) (xs ++ ys) ∙ flat_map-append (own_bound lots) xs ys
      ∙ ap₂ (λ (v w : List ℕ). v ++ w) (sym (bounds_are lots (subjects lots xs) xs)) (sym (bounds_are lots (subjects lots ys) ys))

  no_offer : (section : Section) → section_lines section (page_of_offers lots []) ≡ []
  no_offer Rows = refl
  no_offer Columns = refl
  no_offer RightSides = refl
  no_offer Bounds = refl

  page_next : (section : Section) (b : ℕ) (form : List Bid) (os : List Offer) (pages : List PageText) (g : Bool)
      → AreOffers lots (cond g os (kept_in_form lots b form ++ os)) → AllByRecursion (λ y. b < y) (bidders os)
      → (AreOffers lots os → section_lines section (page_of_offers lots os) ≡ joined section pages)
      → section_lines section (page_of_offers lots (cond g os (kept_in_form lots b form ++ os)))
      ≡ joined section (cond g pages (page_of_form lots b form ∷ pages))
  page_next section b form os pages true are k h = h are
  page_next section b form os pages false are k h =
      page_parts section b (kept_in_form lots b form) os are (of_bidder lots form b 1 form) k
      ∙ ap (λ (w : List ℕ). section_lines section (page_of_form lots b form) ++ w) (h (offers_parted lots (kept_in_form lots b form) os are).1)

module _ (lots : Lots) (book : Book) (group : ℕ → Bool) where
  page_by_form : (section : Section) (b : ℕ) (rest : Book) → AreOffers lots (kept_forms lots book group b rest)
      → section_lines section (page_of_offers lots (kept_forms lots book group b rest)) ≡ joined section (outside group b (pages_from lots b rest))
  page_by_form section b [] are = no_offer lots section
  page_by_form section b (form ∷ rest) are =
      page_next lots section b form (kept_forms lots book group (b + 1) rest) (outside group (b + 1) (pages_from lots (b + 1) rest)) (group b) are
      (above lots book group b (b + 1) rest (omega arith)) (λ more. page_by_form section (b + 1) rest more)

  -- the lines of the kept bids, and those of the lots
  whole : IsBook lots book → (section : Section)
      → section_lines section (page_of_offers lots (kept_of lots book group)) ++ section_lines section (page_of_lots lots)
      ≡ joined section (pages_for group (pages_of lots book))
  whole limits section =
      let by_form = kept_by_form lots book group in
      let are = subst (AreOffers lots) by_form (kept_are_offers lots book group limits) in
      ap (λ (w : List ℕ). w ++ section_lines section (page_of_lots lots))
      (ap (λ (os : List Offer). section_lines section (page_of_offers lots os)) by_form ∙ page_by_form section 1 book are)
      ∙ ap (λ (w : List ℕ). joined section (outside group 1 (pages_from lots 1 book)) ++ w) (sym (append-nil (section_lines section (page_of_lots lots))))
      ∙ sym (flat_map-append (section_lines section) (outside group 1 (pages_from lots 1 book)) (page_of_lots lots ∷ []))

-- ---------- the whole ----------

rows_are : (lots : Lots) (bytes : TableRow → List ℕ) (offers : List Offer)
    → flat_map bytes (map (row_of lots) (subjects lots offers))
    ≡ flat_map bytes (map (row_of lots) (bidder_subjects offers)) ++ flat_map bytes (map (row_of lots) (subjects lots []))
rows_are lots bytes offers =
    ap (flat_map bytes) (map-append (row_of lots) (bidder_subjects offers) (subjects lots []))
    ∙ flat_map-append bytes (map (row_of lots) (bidder_subjects offers)) (map (row_of lots) (subjects lots []))

pub text_is_joined : TextIsJoined
text_is_joined lots book group limits =
    let kept = kept_of lots book group in
    let all = map (row_of lots) (subjects lots kept) in
    let own = map (column_of lots (subjects lots kept)) kept in
    let each = whole lots book group limits in
    let rows = rows_are lots row_bytes kept ∙ each Rows in
    let columns = flat_map-append (column_bytes (codes "OBJ") all) own (worth_column lots)
    ∙ ap (λ (w : List ℕ). flat_map (column_bytes (codes "OBJ") all) own ++ w) (worth_is lots all (map (row_of lots) (subjects lots []))) ∙ each Columns in
    let right_sides = rows_are lots right_side_bytes kept ∙ each RightSides in
    let bounds = flat_map-append bound_bytes own (worth_column lots) ∙ each Bounds in
    text-sections (program_of lots kept) refl
    ∙ (λ i. section_text Rows (rows i) ++ (section_text Columns (columns i) ++ (section_text RightSides (right_sides i) ++ section_text Bounds (bounds i))))

pub length_pages : (lots : Lots) (b : ℕ) (book : Book) → length (pages_from lots b book) ≡ length book
length_pages lots b [] = refl
length_pages lots b (form ∷ book) = ap (λ (n : ℕ). suc n) (length_pages lots (b + 1) book)

-- the text that is joined from the pages of the book
pub joined_is : (lots : Lots) (book : Book) (group : ℕ → Bool) (pages : AllPages) → IsBook lots book → pages ≡ pages_of lots book
    → group_text group pages ≡ presolved_text lots book group
joined_is lots book group pages limits p = ap (group_text group) p ∙ sym (text_is_joined lots book group limits)
