-- The pages outside a group, one by one.
use Rattle.std.proofs.Common.{◌≡◌, ℕ, zero, suc, ◌+◌, ◌<◌, Bool, true, false, cond, List, [], ◌∷◌, ◌++◌, take, length}
use Rattle.std.proofs.Common.{get_or, refl, sym, ap, ap₂, ◌∙◌, arith, append_assoc, append-nil}
use Rattle.group_compiler.specs.declared.section.Section.{Section}
use Rattle.group_compiler.specs.Pages.{PageText, section_lines, outside}
use Rattle.group_compiler.specs.Joining.{joined, has_any}

-- what a list holds, in two parts
has_none : (xs ys : List ℕ) → has_any xs ≡ false → has_any ys ≡ false → has_any (xs ++ ys) ≡ false
has_none [] ys h k = k
has_none (x ∷ xs) ys h k = cc

has_middle : (xs ys zs : List ℕ) → has_any ys ≡ true → has_any (xs ++ (ys ++ zs)) ≡ true
has_middle [] [] zs h = cc
has_middle [] (y ∷ ys) zs h = refl
has_middle (x ∷ xs) ys zs h = refl

module _ (section : Section) (group : ℕ → Bool) where
  -- what a page gives
  abbrev given : ℕ → PageText → List ℕ
  given b page = cond (group b) [] (section_lines section page)

  one_page : (page : PageText) (rest : List PageText) (g : Bool)
      → joined section (cond g rest (page ∷ rest)) ≡ cond g [] (section_lines section page) ++ joined section rest
  one_page page rest true = refl
  one_page page rest false = refl

  -- the first pages, and one more
  front_more : (b i : ℕ) (pages : List PageText) (page : PageText) → i < length pages → page ≡ get_or pages i page
      → joined section (outside group b (take i pages)) ++ given (b + i) page ≡ joined section (outside group b (take (suc i) pages))
  front_more b i [] page l e = absurd (omega arith)
  front_more b zero (p ∷ pages) page l e =
      ap₂ (λ (n : ℕ) (q : PageText). given n q) (let s : b + 0 ≡ b = omega arith in s) e ∙ sym (append-nil (given b p)) ∙ sym (one_page p [] (group b))
  front_more b (suc i) (p ∷ pages) page l e =
      ap (λ (w : List ℕ). w ++ given (b + suc i) page) (one_page p (outside group (b + 1) (take i pages)) (group b))
      ∙ append_assoc (given b p) (joined section (outside group (b + 1) (take i pages))) (given (b + suc i) page)
      ∙ ap (λ (n : ℕ). given b p ++ (joined section (outside group (b + 1) (take i pages)) ++ given n page)) (let s : b + suc i ≡ b + 1 + i = omega arith in s)
      ∙ ap (λ (w : List ℕ). given b p ++ w) (front_more (b + 1) i pages page (omega arith) e)
      ∙ sym (one_page p (outside group (b + 1) (take (suc i) pages)) (group b))

  -- all, with one of them in the middle
  with_page : (b i : ℕ) (pages : List PageText) (page : PageText) → i < length pages → page ≡ get_or pages i page
      → (rest : List ℕ) × (joined section (outside group b pages) ≡ joined section (outside group b (take i pages)) ++ (given (b + i) page ++ rest))
  with_page b i [] page l e = absurd (omega arith)
  with_page b zero (p ∷ pages) page l e = (
    joined section (outside group (b + 1) pages),
    one_page p (outside group (b + 1) pages) (group b) ∙ ap₂ (λ (n : ℕ) (q : PageText). given n q ++ joined section
        (outside group (b + 1) pages)) (let s : b ≡ b + 0 = omega arith in s) (sym e),
  )
  with_page b (suc i) (p ∷ pages) page l e =
      let more = with_page (b + 1) i pages page (omega arith) e in
      let front = joined section (outside group (b + 1) (take i pages)) in (
        more.0,
        one_page p (outside group (b + 1) pages) (group b)
            ∙ ap (λ (w : List ℕ). given b p ++ w) (more.1 ∙ ap (λ (n : ℕ). front ++ (given n page ++ more.0))
            (let s : b + 1 + i ≡ b + suc i = omega arith in s))
            ∙ sym (append_assoc (given b p) front (given (b + suc i) page ++ more.0))
            ∙ ap (λ (w : List ℕ). w ++ (given (b + suc i) page ++ more.0)) (sym (one_page p (outside group (b + 1) (take i pages)) (group b))),
      )

-- a page among all, given whether its bidder is in the group
module _ (section : Section) (group : ℕ → Bool) (at : ℕ) (pages : List PageText) (page : PageText) (is_out : Bool)
    (within : at < length pages) (is : page ≡ get_or pages at page) (member : is_out ≡ group (at + 1)) where
  here_given : cond is_out [] (section_lines section page) ≡ given section group (1 + at) page
  here_given = ap (λ t. cond t [] (section_lines section page)) (member ∙ ap group (let number : at + 1 ≡ 1 + at = omega arith in number))

  pub next_page : joined section (outside group 1 (take at pages)) ++ cond is_out [] (section_lines section page)
      ≡ joined section (outside group 1 (take (at + 1) pages))
  next_page =
      ap (λ (w : List ℕ). joined section (outside group 1 (take at pages)) ++ w) here_given ∙ front_more section group 1 at pages page within is
      ∙ ap (λ (n : ℕ). joined section (outside group 1 (take n pages))) (let after : suc at ≡ at + 1 = omega arith in after)

  pub some_lines : has_any (cond is_out [] (section_lines section page)) ≡ true → true ≡ has_any (joined section (outside group 1 pages))
  some_lines here =
      let split = with_page section group 1 at pages page within is in
      sym (ap has_any split.1 ∙ has_middle (joined section (outside group 1 (take at pages))) (given section group (1 + at) page) split.0
      (ap has_any (sym here_given) ∙ here))

  pub still_none : has_any (joined section (outside group 1 (take at pages))) ≡ false
      → has_any (cond is_out [] (section_lines section page)) ≡ false
      → has_any (joined section (outside group 1 (take (at + 1) pages))) ≡ false
  still_none none here = sym (ap has_any next_page) ∙ has_none (joined section (outside group 1 (take at pages)))
      (cond is_out [] (section_lines section page)) none here
