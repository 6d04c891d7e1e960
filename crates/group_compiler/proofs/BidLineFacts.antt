-- The lines of a bid's column depend on the bid, its bidder and its number alone.
use Rattle.std.proofs.Common.{◌≡◌, ℕ, zero, suc, ◌+◌, ◌<◌, ◌⊎◌, inl, inr, Bool, true, false, ◌==◌, nat_eq, cond, List, []}
use Rattle.std.proofs.Common.{◌∷◌, ◌++◌, map, length, sym, refl, ap, ap₂, ◌∙◌, subst, arith, ⊎_elim, eq-eqb, ne_eqb, ℤ, pos}
use Rattle.std.proofs.Common.{append_assoc, append-nil}
use Rattle.std.specs.Prelude.{codes, flat_map, decimal, neg_ℤ, Contains, slice_index_or}
use Rattle.std.specs.Fmt.{signed_decimal}
use Rattle.std.specs.List.{AllByRecursion, dedup}
use Rattle.std.proofs.lemmas.Grind.{flat_map-append}
use Rattle.std.proofs.lemmas.Bool.{cond_both}
use Rattle.std.proofs.lemmas.List.{length_push}
use Rattle.std.proofs.lemmas.List.Elements.{All-contains_itself, All-weaker, recursion_from_All}
use Rattle.std.proofs.lemmas.List.Folds.{flat_map-map}
use Rattle.std.proofs.lemmas.List.Kept.{Contains-dedup_nat}
use Rattle.auction_terms.specs.Packages.{Lots, worth_of_all}
use Rattle.auction_terms.specs.Keeping.{Offer}
use Rattle.auction_terms.specs.Limits.{AreOffers}
use Rattle.program_rows.specs.Program.{TableRow}
use Rattle.program_rows.specs.declared.subject.Subject.{Subject}
use Rattle.program_rows.specs.declared.subject.Subject.TheVariants.{Bidder}
use Rattle.program_rows.specs.Rows.{weight, subjects, row_of, entries_from, column_of, worth_column}
use Rattle.program_rows.specs.Spelling.{bid_name}
use Rattle.program_rows.specs.MpsLines.{Data}
use Rattle.program_rows.proofs.LegalFacts.{Rises, dedup_rises, bidders_never_fall}
use Rattle.mps_text.specs.Text.{written}
use Rattle.mps_text.specs.Bytes.{entry_bytes, cost_bytes, column_bytes, bound_bytes}
use Rattle.program_rows.specs.ProgramNames.{row_name}
use Rattle.program_rows.specs.declared.column.Bounds.TheVariants.{One}

abbrev name_of : Offer → List ℕ
name_of o = bid_name o.bidder o.number

-- how much of a column counts in a row
abbrev entry_line : List ℕ → List ℕ → ℕ → List ℕ
entry_line column row n = written (Data (column ∷ row ∷ signed_decimal (pos n) ∷ []))

-- ---------- entries are lines in the rows of their subjects ----------

module _ (lots : Lots) where
  abbrev weight_line : Offer → Subject → List ℕ
  weight_line o s = cond (weight lots s o == 0) [] (entry_line (name_of o) (row_of lots s).name (weight lots s o))

  name_there : (front : List Subject) (s : Subject) (rest : List Subject) (r : ℕ) → r ≡ length front
      → row_name (map (row_of lots) (front ++ s ∷ rest)) r ≡ (row_of lots s).name
  name_there [] s rest zero e = refl
  name_there [] s rest (suc r) e = absurd (omega arith)
  name_there (f ∷ front) s rest zero e = absurd (omega arith)
  name_there (f ∷ front) s rest (suc r) e = name_there front s rest r (omega arith)

  module _ (all : List Subject) (o : Offer) where
    abbrev entry_lines : List (ℕ × ℤ) → List ℕ
    entry_lines es = flat_map (entry_bytes (map (row_of lots) all) (name_of o)) es

    one_entry : (r n : ℕ) (row : List ℕ) (es : List (ℕ × ℤ)) (lines : List ℕ) (b : Bool) → row_name (map (row_of lots) all) r ≡ row → entry_lines es ≡ lines
        → entry_lines (cond b es ((r, pos n) ∷ es)) ≡ cond b [] (entry_line (name_of o) row n) ++ lines
    one_entry r n row es lines true e h = h
    one_entry r n row es lines false e h = ap₂ (λ (name rest : List ℕ). entry_line (name_of o) name n ++ rest) e h

    entries_are : (front : List Subject) (ss : List Subject) (r : ℕ) → all ≡ front ++ ss → r ≡ length front
        → entry_lines (entries_from lots r ss o) ≡ flat_map (weight_line o) ss
    entries_are front [] r e l = refl
    entries_are front (s ∷ ss) r e l =
        let named : row_name (map (row_of lots) all) r ≡ (row_of lots s).name =
        ap (λ (xs : List Subject). row_name (map (row_of lots) xs) r) e ∙ name_there front s ss r l in
        one_entry r (weight lots s o) (row_of lots s).name (entries_from lots (r + 1) ss o) (flat_map (weight_line o) ss) (weight lots s o == 0) named
        (entries_are (front ++ s ∷ []) ss (r + 1) (e ∙ sym (append_assoc front (s ∷ []) ss)) (let more = length_push front s in omega arith))

-- ---------- one line in the rows of bidders ----------

abbrev Has : ℕ → List ℕ → Type 0
Has b [] = ⊥
Has b (x ∷ xs) = (b ≡ x) ⊎ Has b xs

module _ (lots : Lots) where
  abbrev own_entry : Offer → ℕ → List ℕ
  own_entry o b = entry_line (name_of o) (66 ∷ decimal b) 1

  bidder_line : (o : Offer) (b : ℕ) (t : Bool) → (o.bidder == b) ≡ t → weight_line lots o (Bidder b) ≡ cond t (own_entry o b) []
  bidder_line o b true e = ap (λ (t : Bool). cond (cond t 1 0 == 0) [] (entry_line (name_of o) (66 ∷ decimal b) (cond t 1 0))) e
  bidder_line o b false e = ap (λ (t : Bool). cond (cond t 1 0 == 0) [] (entry_line (name_of o) (66 ∷ decimal b) (cond t 1 0))) e

  no_lines : (o : Offer) (bs : List ℕ) → AllByRecursion (λ b. o.bidder < b) bs → flat_map (weight_line lots o) (map Bidder bs) ≡ []
  no_lines o [] h = refl
  no_lines o (b ∷ bs) h =
      let less = h.0 in
      ap₂ (λ (line lines : List ℕ). line ++ lines) (bidder_line o b false (ne_eqb o.bidder b (λ t. omega arith))) (no_lines o bs h.1)

  later : (P : ℕ → Type 0) (b : ℕ) (bs : List ℕ) → AllByRecursion P bs → Has b bs → P b
  later P b [] h at = absurd at
  later P b (c ∷ bs) h at = ⊎_elim (λ e. subst P (sym e) h.0) (λ more. later P b bs h.1 more) at

  one_line : (o : Offer) (bs : List ℕ) → Rises bs → Has o.bidder bs → flat_map (weight_line lots o) (map Bidder bs) ≡ own_entry o o.bidder
  one_line o [] h at = absurd at
  one_line o (b ∷ bs) h at = ⊎_elim
      (λ e.
      ap₂ (λ (line lines : List ℕ). line ++ lines) (bidder_line o b true (eq-eqb o.bidder b e))
      (no_lines o bs (subst (λ (m : ℕ). AllByRecursion (λ c. m < c) bs) (sym e) h.0))
      ∙ append-nil (own_entry o b) ∙ ap (λ (m : ℕ). own_entry o m) (sym e))
      (λ more.
      let less : b < o.bidder = later (λ c. b < c) o.bidder bs h.0 more in
      ap₂ (λ (line lines : List ℕ). line ++ lines) (bidder_line o b false (ne_eqb o.bidder b (λ t. omega arith))) (one_line o bs h.1 more))
      at

-- a list that contains a number has it
has : (xs : List ℕ) (i b : ℕ) → i < length xs → slice_index_or xs i b ≡ b → Has b xs
has [] i b l e = absurd (omega arith)
has (x ∷ xs) zero b l e = inl (sym e)
has (x ∷ xs) (suc i) b l e = inr (has xs i b (omega arith) e)

-- ---------- columns ----------

abbrev bidders : List Offer → List ℕ
bidders offers = map (λ (o : Offer). o.bidder) offers

-- the lines of a bid's column, whatever rows there are
abbrev pub own_lines : Lots → Offer → List ℕ
own_lines lots o = cost_bytes (codes "OBJ") (column_of lots [] o) ++ (own_entry lots o o.bidder ++ flat_map (weight_line lots o) (subjects lots []))

module _ (lots : Lots) (bs : List ℕ) (rises : Rises bs) where
  abbrev rows_about : List Subject
  rows_about = map Bidder bs ++ subjects lots []

  one_column : (o : Offer) → Has o.bidder bs → column_bytes (codes "OBJ") (map (row_of lots) rows_about) (column_of lots rows_about o) ≡ own_lines lots o
  one_column o at =
      ap (λ (lines : List ℕ). cost_bytes (codes "OBJ") (column_of lots [] o) ++ lines)
      (entries_are lots rows_about o [] rows_about 0 refl refl
      ∙ flat_map-append (weight_line lots o) (map Bidder bs) (subjects lots [])
      ∙ ap (λ (xs : List ℕ). xs ++ flat_map (weight_line lots o) (subjects lots [])) (one_line lots o bs rises at))

  each_column : (offers : List Offer) → AllByRecursion (λ b. Has b bs) (bidders offers)
      → flat_map (column_bytes (codes "OBJ") (map (row_of lots) rows_about)) (map (column_of lots rows_about) offers) ≡ flat_map (own_lines lots) offers
  each_column [] at = refl
  each_column (o ∷ offers) at = ap₂ (λ (xs ys : List ℕ). xs ++ ys) (one_column o at.0) (each_column offers at.1)

pub columns_are : (lots : Lots) (offers : List Offer) → AreOffers lots offers
    → flat_map (column_bytes (codes "OBJ") (map (row_of lots) (subjects lots offers))) (map (column_of lots (subjects lots offers)) offers)
    ≡ flat_map (own_lines lots) offers
columns_are lots offers h =
    let bs = dedup nat_eq (bidders offers) in
    each_column lots bs (dedup_rises (bidders offers) (bidders_never_fall lots offers h)) offers (recursion_from_All (λ b. Has b bs) (bidders offers)
    (All-weaker (Contains (bidders offers)) (λ b. Has b bs) (λ b at. let there = Contains-dedup_nat (bidders offers) b at in has bs there.0
    b there.1 there.2) (bidders offers) (All-contains_itself (bidders offers))))

-- the line of a bid's bound
abbrev pub own_bound : Lots → Offer → List ℕ
own_bound lots o = bound_bytes (column_of lots [] o)

pub bounds_are : (lots : Lots) (rows : List Subject) (offers : List Offer)
    → flat_map bound_bytes (map (column_of lots rows) offers) ≡ flat_map (own_bound lots) offers
bounds_are lots rows offers = flat_map-map bound_bytes (column_of lots rows) offers

-- the lines of the column of all lots' worth, whatever rows there are
pub worth_is : (lots : Lots) (rows others : List TableRow)
    → flat_map (column_bytes (codes "OBJ") rows) (worth_column lots) ≡ flat_map (column_bytes (codes "OBJ") others) (worth_column lots)
worth_is lots rows others = cond_both (worth_of_all lots == 0) []
    (record { name = codes "K"; bounds = One; cost = neg_ℤ (pos (worth_of_all lots)); entries = [] } ∷ [])
    (λ cs. flat_map (column_bytes (codes "OBJ") rows) cs ≡ flat_map (column_bytes (codes "OBJ") others) cs) (λ e. refl) (λ e. refl)
