-- The first field of a line.
use Rattle.std.proofs.Common.{◌≡◌, ℕ, suc, ◌+◌, ◌<◌, ◌≤◌, Bool, true, false, cond, not, List, [], ◌∷◌, length, take, drop}
use Rattle.std.proofs.Common.{get_or, refl, sym, ap, ◌∙◌, arith, add-one, drop-cons, Some, None}
use Rattle.std.specs.Prelude.{◌==◌, nat_lt, position}
use Rattle.std.specs.List.{slice_split, position_or_len, onto_first, filter, list_all, AllByRecursion}
use Rattle.std.proofs.Math.Seq.{take-length}
use Rattle.std.proofs.lemmas.Bool.{ltb-true, ltb-false, lt-ltb, le-ltb, ne_eqb, and_parts}
use Rattle.std.proofs.lemmas.Bool.Decides.{nat_tests}
use Rattle.std.proofs.lemmas.Grind.{common_steps}
use Rattle.std.proofs.lemmas.List.{drop_all}
use Rattle.std.proofs.lemmas.List.Sums.{position_or_len_is, passes_at_first, prefix_len-le-length}
use Rattle.auction_terms.specs.LineFields.{fields, is_space}
use Rattle.auction_terms.proofs.FirstFieldFacts.{skipped, first_field}
use Rattle.program_rows.specs.Parts.{IsName}
use Rattle.mps_reader.specs.inside.Reading.{is_other, is_text_byte}

pub some-is : (b : Bool) (x i : ℕ) → Some i ≡ cond b (Some x) None → (b ≡ true) × (x ≡ i)
some-is true x i h = (refl, cc)
some-is false x i h = absurd cc

pub none-is : (b : Bool) (x : ℕ) → None ≡ cond b (Some x) None → b ≡ false
none-is true x h = absurd cc
none-is false x h = refl

nothing : fields [] ≡ []
unfolding fields
nothing = refl

pub no-field : (bs : List ℕ) → None ≡ position is_other bs → fields bs ≡ []
no-field bs h =
    let far = ltb-false _ _ (none-is (nat_lt (position_or_len is_other bs) (length bs)) (position_or_len is_other bs) h) in
    skipped bs ∙ ap fields (drop_all (position_or_len is_other bs) bs far) ∙ nothing

-- ---- the fields of a text are names

abbrev IsPrintable : ℕ → Type 0
IsPrintable b = (33 ≤ b) × (b ≤ 126)

printable : (b : ℕ) → is_text_byte b ≡ true → is_space b ≡ false → IsPrintable b
printable b h s = (grind (arith, common_steps, nat_tests, h, s), grind (arith, common_steps, nat_tests, h, s))

onto-printable : (b : ℕ) (ps : List (List ℕ)) → IsPrintable b → AllByRecursion (λ part. AllByRecursion IsPrintable part) ps
    → AllByRecursion (λ part. AllByRecursion IsPrintable part) (onto_first b ps)
onto-printable b [] h hs = ((h, tt), tt)
onto-printable b (p ∷ ps) h hs = ((h, hs.0), hs.1)

parts-printable : (bs : List ℕ) → list_all is_text_byte bs ≡ true → AllByRecursion (λ part. AllByRecursion IsPrintable part) (slice_split is_space bs)
parts-printable [] h = (tt, tt)
parts-printable (b ∷ bs) h =
    let both = and_parts (is_text_byte b) (list_all is_text_byte bs) h in
    by (is_space b) refl both.0 (parts-printable bs both.1)
  where
    by : (s : Bool) → is_space b ≡ s → is_text_byte b ≡ true → AllByRecursion (λ part. AllByRecursion IsPrintable part) (slice_split is_space bs)
        → AllByRecursion (λ part. AllByRecursion IsPrintable part) (cond s ([] ∷ slice_split is_space bs) (onto_first b (slice_split is_space bs)))
    by true e t more = (tt, more)
    by false e t more = onto-printable b (slice_split is_space bs) (printable b t e) more

filled-names : (ps : List (List ℕ)) → AllByRecursion (λ part. AllByRecursion IsPrintable part) ps
    → AllByRecursion IsName (filter (λ part. not (length part == 0)) ps)
filled-names [] h = tt
filled-names ([] ∷ ps) h = filled-names ps h.1
filled-names ((b ∷ part) ∷ ps) h =
    let test : (length (b ∷ part) == 0) ≡ false = ne_eqb (length (b ∷ part)) 0 (λ e. omega arith) in
    rw test ((omega arith, h.0), filled-names ps h.1)

take-all : (n : ℕ) (ps : List (List ℕ)) → AllByRecursion IsName ps → AllByRecursion IsName (take n ps)
take-all (suc n) (p ∷ ps) h = (h.0, take-all n ps h.1)
take-all _ _ h = tt

pub fields_names : (bs : List ℕ) → list_all is_text_byte bs ≡ true → AllByRecursion IsName (take 6 (fields bs))
unfolding fields
fields_names bs h =
    take-all 6 (filter (λ part. not (length part == 0)) (slice_split is_space bs)) (filled-names (slice_split is_space bs) (parts-printable bs h))

-- white space after a field is no part of the next
space-first : (b : ℕ) (bs : List ℕ) → is_space b ≡ true → fields (b ∷ bs) ≡ fields bs
unfolding fields
space-first b bs h = rw h refl

after-space : (text : List ℕ) (j : ℕ) → j < length text → is_space (get_or text j 0) ≡ true → fields (drop j text) ≡ fields (drop (j + 1) text)
after-space text j less space = ap fields parts ∙ space-first (get_or text j 0) (drop (j + 1) text) space
  where
    parts : drop j text ≡ get_or text j 0 ∷ drop (j + 1) text
    parts = rw (add-one, drop-cons text j 0) refl

pub field-found : (bs text rest : List ℕ) (i j : ℕ) → Some i ≡ position is_other bs → text ≡ drop i bs → Some j ≡ position is_space text
    → rest ≡ drop (j + 1) text → fields bs ≡ take j text ∷ fields rest
field-found bs text rest i j h t k r =
    let found = some-is (nat_lt (position_or_len is_other bs) (length bs)) (position_or_len is_other bs) i h in
    let ended = some-is (nat_lt (position_or_len is_space text) (length text)) (position_or_len is_space text) j k in
    let within : i < length bs = rw found.1 at (ltb-true _ _ found.0) in
    let less : j < length text = rw ended.1 at (ltb-true _ _ ended.0) in
    let space : is_space (get_or text j 0) ≡ true = rw ended.1 at (passes_at_first is_space text 0 (ltb-true _ _ ended.0)) in
    first_field bs text i j (sym found.1) within t (sym ended.1) (omega arith) ∙ ap (λ fs. take j text ∷ fs) (after-space text j less space
    ∙ ap fields (sym r))

pub field-at-end : (bs text rest : List ℕ) (i : ℕ) → Some i ≡ position is_other bs → text ≡ drop i bs → None ≡ position is_space text
    → rest ≡ drop (length text) text → fields bs ≡ text ∷ fields rest
field-at-end bs text rest i h t k r =
    let found = some-is (nat_lt (position_or_len is_other bs) (length bs)) (position_or_len is_other bs) i h in
    let far = ltb-false _ _ (none-is (nat_lt (position_or_len is_space text) (length text)) (position_or_len is_space text) k) in
    let end : length text ≡ position_or_len is_space text = omega (arith, prefix_len-le-length (λ b. not (is_space b)) text) in
    let within : i < length bs = rw found.1 at (ltb-true _ _ found.0) in
    first_field bs text i (length text) (sym found.1) within t end (omega arith) ∙ ap (λ fs. fs ∷ fields (drop (length text) text)) (take-length text)
    ∙ ap (λ fs. text ∷ fields fs) (sym r)

-- ---- the first byte that passes a test, by a loop

pub place_is : (p : ℕ → Bool) (bs : List ℕ) (i : ℕ) → i < length bs → ((k : ℕ) → k < i → p (get_or bs k 0) ≡ false)
    → p (get_or bs i 0) ≡ true → Some i ≡ position p bs
place_is p bs i within before here =
    let at : position_or_len p bs ≡ i = position_or_len_is p bs i 0 (omega arith) before (λ _. here) in
    rw (at, lt-ltb i (length bs) within) refl

pub no_place : (p : ℕ → Bool) (bs : List ℕ) (i : ℕ) → length bs ≤ i → ((k : ℕ) → k < i → p (get_or bs k 0) ≡ false) → None ≡ position p bs
no_place p bs i end before =
    let far : position_or_len p bs ≡ length bs =
    position_or_len_is p bs (length bs) 0 (omega arith) (λ k less. before k (omega arith)) (λ less. absurd (omega arith)) in
    rw (far, le-ltb (length bs) (length bs) (omega arith)) refl
