-- Whether the bytes of a line are those of a text, field by field.
use Rattle.std.proofs.Common.{◌≡◌, ℕ, suc, ◌+◌, ◌<◌, ◌≤◌, Bool, true, false, cond, ◌&&◌, List, [], ◌∷◌, length, take, drop}
use Rattle.std.proofs.Common.{get_or, add-one, drop-cons, refl, sym, ap, ◌∙◌, arith, Option, Some, None}
use Rattle.std.specs.Prelude.{◌==◌, nat_lt, position}
use Rattle.std.specs.List.{position_or_len, list_all}
use Rattle.std.proofs.lemmas.Bool.{ltb-true, ltb-false, le-ltb, ne_eqb}
use Rattle.std.proofs.lemmas.Bool.Decides.{nat_tests}
use Rattle.std.proofs.lemmas.Grind.{common_steps}
use Rattle.std.proofs.lemmas.List.{drop_all}
use Rattle.std.proofs.lemmas.List.Sums.{passes_at_first}
use Rattle.auction_terms.specs.LineFields.{fields, is_space}
use Rattle.mps_reader.specs.inside.Reading.{is_other, is_after, is_text_byte}
use Rattle.mps_reader.proofs.FieldFacts.{some-is, none-is, field-found, field-at-end}

-- before the first byte that passes the test p all are of a text
text-after : (p t : ℕ → Bool) → ((b : ℕ) → p b ≡ false → t b ≡ true) → (bs : List ℕ) → list_all t bs ≡ list_all t (drop (position_or_len p bs) bs)
text-after p t h [] = refl
text-after p t h (b ∷ bs) = by (p b) refl (text-after p t h bs)
  where
    by : (s : Bool) → p b ≡ s → list_all t bs ≡ list_all t (drop (position_or_len p bs) bs) → list_all t (b ∷ bs)
        ≡ list_all t (drop (position_or_len p (b ∷ bs)) (b ∷ bs))
    by false e more = let next : 1 + position_or_len p bs ≡ suc (position_or_len p bs) = omega arith in rw (e, next, h b e) more
    by true e more = rw e refl

space-text : (b : ℕ) → is_other b ≡ false → is_text_byte b ≡ true
space-text b h = grind (arith, common_steps, nat_tests, h)

inner-text : (b : ℕ) → is_after b ≡ false → is_text_byte b ≡ true
inner-text b h = grind (arith, common_steps, nat_tests, h)

inner-other : (b : ℕ) → is_after b ≡ false → is_space b ≡ false
inner-other b h = grind (arith, common_steps, nat_tests, h)

after-text : (b : ℕ) → is_after b ≡ true → is_space b ≡ false → is_text_byte b ≡ false
after-text b h s = grind (arith, common_steps, nat_tests, h, s)

is-space-text : (b : ℕ) → is_space b ≡ true → is_text_byte b ≡ true
is-space-text b s = grind (arith, common_steps, nat_tests, s)

-- white space that ends a field is the first
same-end : (bs : List ℕ) → is_space (get_or bs (position_or_len is_after bs) 0) ≡ true → position_or_len is_space bs ≡ position_or_len is_after bs
same-end [] h = refl
same-end (b ∷ bs) h = by (is_after b) refl (same-end bs) h
  where
    by : (s : Bool) → is_after b ≡ s → (is_space (get_or bs (position_or_len is_after bs) 0) ≡ true → position_or_len is_space bs
        ≡ position_or_len is_after bs) → is_space (get_or (b ∷ bs) (position_or_len is_after (b ∷ bs)) 0) ≡ true
        → position_or_len is_space (b ∷ bs) ≡ position_or_len is_after (b ∷ bs)
    by false e more at =
        let next : 1 + position_or_len is_after bs ≡ suc (position_or_len is_after bs) = omega arith in
        let here : is_space (get_or bs (position_or_len is_after bs) 0) ≡ true = rw (e, next) at at in
        rw (e, inner-other b e) (ap (λ (n : ℕ). 1 + n) (more here))
    by true e more at =
        let here : is_space b ≡ true = rw e at at in
        rw (e, here) refl

no-end : (bs : List ℕ) → length bs ≤ position_or_len is_after bs → length bs ≤ position_or_len is_space bs
no-end [] h = omega arith
no-end (b ∷ bs) h = by (is_after b) refl (no-end bs) h
  where
    by : (s : Bool) → is_after b ≡ s → (length bs ≤ position_or_len is_after bs → length bs ≤ position_or_len is_space bs)
        → length (b ∷ bs) ≤ position_or_len is_after (b ∷ bs) → length (b ∷ bs) ≤ position_or_len is_space (b ∷ bs)
    by false e more at =
        let here : suc (length bs) ≤ 1 + position_or_len is_after bs = rw e at at in
        let next = more (omega arith) in
        rw (inner-other b e) (omega arith)
    by true e more at =
        let here : suc (length bs) ≤ 0 = rw e at at in
        absurd (omega arith)

is-at : (p : ℕ → Bool) (bs : List ℕ) (i : ℕ) → Some i ≡ position p bs → (position_or_len p bs < length bs) × (position_or_len p bs ≡ i)
is-at p bs i h = let found = some-is (nat_lt (position_or_len p bs) (length bs)) (position_or_len p bs) i h in (ltb-true _ _ found.0, found.1)

is-far : (p : ℕ → Bool) (bs : List ℕ) → None ≡ position p bs → length bs ≤ position_or_len p bs
is-far p bs h = ltb-false _ _ (none-is (nat_lt (position_or_len p bs) (length bs)) (position_or_len p bs) h)

pub blank-text : (bs : List ℕ) → None ≡ position is_other bs → list_all is_text_byte bs ≡ true
blank-text bs h = text-after is_other is_text_byte space-text bs ∙ rw (drop_all (position_or_len is_other bs) bs (is-far is_other bs h)) refl

front-text : (bs text : List ℕ) (i : ℕ) → Some i ≡ position is_other bs → text ≡ drop i bs → list_all is_text_byte bs ≡ list_all is_text_byte text
front-text bs text i h t =
    text-after is_other is_text_byte space-text bs ∙ ap (λ (n : ℕ). list_all is_text_byte (drop n bs)) (is-at is_other bs i h).1
    ∙ ap (list_all is_text_byte) (sym t)

-- the end of a field: the byte there, and the rest
end-text : (text : List ℕ) (j : ℕ) → Some j ≡ position is_after text
    → list_all is_text_byte text ≡ (is_text_byte (get_or text j 0) && list_all is_text_byte (drop (j + 1) text))
end-text text j h =
    let found = is-at is_after text j h in
    let within : j < length text = rw found.1 at found.0 in
    let parts : drop j text ≡ get_or text j 0 ∷ drop (j + 1) text = rw (add-one, drop-cons text j 0) refl in
    text-after is_after is_text_byte inner-text text ∙ ap (λ (n : ℕ). list_all is_text_byte (drop n text)) found.1 ∙ ap (list_all is_text_byte) parts

is-end : (text : List ℕ) (j : ℕ) → Some j ≡ position is_after text → is_after (get_or text j 0) ≡ true
is-end text j h = let found = is-at is_after text j h in rw found.1 at (passes_at_first is_after text 0 found.0)

pub ended-text : (bs text rest : List ℕ) (i j : ℕ) → Some i ≡ position is_other bs → text ≡ drop i bs → Some j ≡ position is_after text
    → is_space (get_or text j 0) ≡ true → rest ≡ drop (j + 1) text → list_all is_text_byte bs ≡ list_all is_text_byte rest
ended-text bs text rest i j h t k s r =
    front-text bs text i h t ∙ end-text text j k ∙ rw (is-space-text (get_or text j 0) s) (ap (list_all is_text_byte) (sym r))

pub ended-field : (text : List ℕ) (j : ℕ) → Some j ≡ position is_after text → is_space (get_or text j 0) ≡ true → Some j ≡ position is_space text
ended-field text j k s =
    let found = is-at is_after text j k in
    k ∙ ap (λ (n : ℕ). cond (nat_lt n (length text)) (Some n) None) (sym (same-end text (rw (← found.1) at s)))

pub last-text : (bs text rest : List ℕ) (i : ℕ) → Some i ≡ position is_other bs → text ≡ drop i bs → None ≡ position is_after text
    → rest ≡ drop (length text) text → list_all is_text_byte bs ≡ list_all is_text_byte rest
last-text bs text rest i h t k r =
    front-text bs text i h t
    ∙ text-after is_after is_text_byte inner-text text
    ∙ ap (list_all is_text_byte) (drop_all (position_or_len is_after text) text (is-far is_after text k)
    ∙ sym (drop_all (length text) text (omega arith)) ∙ sym r)

pub last-field : (text : List ℕ) → None ≡ position is_after text → None ≡ position is_space text
last-field text k = rw (le-ltb _ _ (no-end text (is-far is_after text k))) refl

pub other-text : (bs text : List ℕ) (i j : ℕ) → Some i ≡ position is_other bs → text ≡ drop i bs → Some j ≡ position is_after text
    → is_space (get_or text j 0) ≡ false → list_all is_text_byte bs ≡ false
other-text bs text i j h t k s = front-text bs text i h t ∙ end-text text j k ∙ rw (after-text (get_or text j 0) (is-end text j k) s) refl

-- a line with another byte has a field
pub other-filled : (bs : List ℕ) → list_all is_text_byte bs ≡ false → (length (fields bs) == 0) ≡ false
other-filled bs h = by (position is_other bs) refl
  where
    filled : (first : List ℕ) (more : List (List ℕ)) → fields bs ≡ first ∷ more → (length (fields bs) == 0) ≡ false
    filled first more e = rw e (ne_eqb (suc (length more)) 0 (λ k. omega arith))

    begun : (i : ℕ) → Some i ≡ position is_other bs → (end : Option ℕ) → end ≡ position is_space (drop i bs) → (length (fields bs) == 0) ≡ false
    begun i e None k = filled (drop i bs) (fields (drop (length (drop i bs)) (drop i bs)))
        (field-at-end bs (drop i bs) (drop (length (drop i bs)) (drop i bs)) i e refl k refl)
    begun i e (Some j) k = filled (take j (drop i bs)) (fields (drop (j + 1) (drop i bs)))
        (field-found bs (drop i bs) (drop (j + 1) (drop i bs)) i j e refl k refl)

    by : (start : Option ℕ) → start ≡ position is_other bs → (length (fields bs) == 0) ≡ false
    by None e = let text = blank-text bs e in absurd cc
    by (Some i) e = begun i e (position is_space (drop i bs)) refl
