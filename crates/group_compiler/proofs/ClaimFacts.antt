-- Each kind of step keeps the rule of the counter.
use Rattle.std.proofs.Common.{◌≡◌, ℕ, zero, suc, ◌+◌, ◌-◌, ◌%◌, ◌^◌, ◌<◌, ◌≤◌, cond, ◌==◌, List, [], ◌∷◌, ◌++◌, length}
use Rattle.std.proofs.Common.{slice_index, slice_set, sym, refl, ap, ◌∙◌, arith, mod-eq_of_lt, length-append}
use Rattle.std.specs.Prelude.{sum_by}
use mathlib.Core.Option.{some, some-injective, some-ne-none}
use lib.ListN.{get_elem?}
use Rattle.std.proofs.lemmas.List.Sums.{sum_by-cons, sum_by_push, sum_by-append, count_by-le-length}
use Rattle.std.proofs.lemmas.Bool.Decides.{nat_tests}
use Rattle.atomic_table.specs.Table.{Me, Allows, Splits, Joins, keeps, Final, Seen}
use Rattle.group_compiler.specs.declared.steps.View.{View}
use Rattle.group_compiler.specs.declared.limits.TheConstants.{ALL_DRAWS, WORKER_DRAWS}
use Rattle.group_compiler.specs.inside.Claims.{view, IsCounted, IsDrawn, left_of, right_of, views_joined}
use Rattle.group_compiler.specs.Claims.{times_drawn, once_below, IsEachBelow}

-- a sum after a change of one view
sum_set : (f : View → ℕ) (views : List View) (id : ℕ) (v w : View) → get_elem? views id ≡ some v → sum_by f (slice_set views id w) + f v ≡ sum_by f views + f w
sum_set f [] id v w e = absurd (some-ne-none v (sym e))
sum_set f (u ∷ views) zero v w e =
    let s = sum_by-cons f w views in let t = sum_by-cons f u views in let k : f u ≡ f v = ap f (some-injective u v e) in omega arith
sum_set f (u ∷ views) (suc id) v w e =
    let s = sum_by-cons f u (slice_set views id w) in let t = sum_by-cons f u views in let r = sum_set f views id v w e in omega arith

one_set : (ws : List ℕ) (n : ℕ) → length ws ≡ 1 → (length (slice_set ws 0 n) ≡ 1) × (slice_index (slice_set ws 0 n) 0 ≡ n)
one_set [] n e = absurd (omega arith)
one_set (w ∷ ws) n e = (e, refl)

one_more : (x n : ℕ) → once_below x (n + 1) ≡ once_below x n + cond (n == x) 1 0
one_more x n = grind (arith, nat_tests)

pub draws : (slots id : ℕ) (me : Me ℕ View) → 0 < me.0.room → Allows IsCounted slots id me 0 (λ n. (n + 1) % 2 ^ 64) (IsDrawn me)
draws slots id me some_room s h size at fits =
    let n : ℕ = slice_index s.words 0 in
    let v : View = me.0 in
    let w : View = view (v.drawn ++ n ∷ []) (v.room - 1) in
    let r = sum_set (λ (u : View). u.room) s.views id v w at in
    let low : n < ALL_DRAWS = omega arith in
    let next : (n + 1) % 2 ^ 64 ≡ n + 1 = mod-eq_of_lt (omega arith) in
    let word = one_set s.words ((n + 1) % 2 ^ 64) h.one_word in
    let word' : slice_index (slice_set s.words 0 ((n + 1) % 2 ^ 64)) 0 ≡ n + 1 = word.1 ∙ next in (
      w,
      keeps,
      tt,
      record {
        one_word = word.0;
        each_once = λ x.
            let t = sum_set (λ (u : View). times_drawn x u.drawn) s.views id v w at in
            let p : times_drawn x (v.drawn ++ n ∷ []) ≡ times_drawn x v.drawn + cond (n == x) 1 0 = sum_by_push (λ (y : ℕ). cond (y == x) 1 0) v.drawn n in
            let o = h.each_once x in
            let m = one_more x n in
            let k : once_below x (slice_index (slice_set s.words 0 ((n + 1) % 2 ^ 64)) 0) ≡ once_below x (n + 1) = ap (once_below x) word' in
            omega arith;
        lengths =
            let t = sum_set (λ (u : View). length u.drawn) s.views id v w at in
            let p = length-append v.drawn (n ∷ []) in
            omega arith;
        rooms = omega arith;
      },
      record { view_is = refl; slots = refl; below = low },
    )

pub splits : (id : ℕ) (v : View) → WORKER_DRAWS ≤ v.room → Splits IsCounted id v (left_of v) (right_of v)
splits id v room s h at = record {
  one_word = h.one_word;
  each_once = λ x.
      let t = sum_set (λ (u : View). times_drawn x u.drawn) s.views id v (left_of v) at in
      let p = sum_by_push (λ (u : View). times_drawn x u.drawn) (slice_set s.views id (left_of v)) (right_of v) in
      let z : times_drawn x (right_of v).drawn ≡ 0 = refl in
      let o = h.each_once x in
      omega arith;
  lengths =
      let t = sum_set (λ (u : View). length u.drawn) s.views id v (left_of v) at in
      let p = sum_by_push (λ (u : View). length u.drawn) (slice_set s.views id (left_of v)) (right_of v) in
      omega arith;
  rooms =
      let t = sum_set (λ (u : View). u.room) s.views id v (left_of v) at in
      let p = sum_by_push (λ (u : View). u.room) (slice_set s.views id (left_of v)) (right_of v) in
      omega arith;
}

pub joins : (id : ℕ) (v : View) (other : ℕ) (w : View) → Joins IsCounted id v other w (views_joined v w) (view [] 0)
joins id v other w s h at differ there =
    let spent = view [] 0 in
    let views = slice_set s.views id (views_joined v w) in
    record {
      one_word = h.one_word;
      each_once = λ x.
          let t = sum_set (λ (u : View). times_drawn x u.drawn) s.views id v (views_joined v w) at in
          let p = sum_set (λ (u : View). times_drawn x u.drawn) views other w spent there in
          let q : times_drawn x (v.drawn ++ w.drawn) ≡ times_drawn x v.drawn + times_drawn x w.drawn =
          sum_by-append (λ (y : ℕ). cond (y == x) 1 0) v.drawn w.drawn in
          let z : times_drawn x spent.drawn ≡ 0 = refl in
          let o = h.each_once x in
          omega arith;
      lengths =
          let t = sum_set (λ (u : View). length u.drawn) s.views id v (views_joined v w) at in
          let p = sum_set (λ (u : View). length u.drawn) views other w spent there in
          let q = length-append v.drawn w.drawn in
          omega arith;
      rooms =
          let t = sum_set (λ (u : View). u.room) s.views id v (views_joined v w) at in
          let p = sum_set (λ (u : View). u.room) views other w spent there in
          omega arith;
    }

sum_below : (f g : View → ℕ) (views : List View) → ((v : View) → f v ≤ g v) → sum_by f views ≤ sum_by g views
sum_below f g [] h = omega arith
sum_below f g (v ∷ views) h =
    let s = sum_by-cons f v views in let t = sum_by-cons g v views in let a = h v in let r = sum_below f g views h in omega arith

first_is : (ws : List ℕ) (n : ℕ) → get_elem? ws 0 ≡ some n → slice_index ws 0 ≡ n
first_is [] n e = absurd (some-ne-none n (sym e))
first_is (w ∷ ws) n e = some-injective w n e

-- the claim that has every draw knows what all have drawn
pub closes : (id : ℕ) (v : View) (words xs : List ℕ) (word : ℕ) → v.room + length v.drawn ≡ ALL_DRAWS → Final (Seen IsCounted id v) words xs
    → get_elem? words 0 ≡ some word → IsEachBelow word v.drawn × (length v.drawn ≡ word)
closes id v words xs word whole f at =
    let s = f.0 in
    let h = f.1.0 in
    let here = f.1.1 in
    let spent = view [] 0 in
    let others = slice_set s.views id spent in
    let r = sum_set (λ (u : View). u.room) s.views id v spent here in
    let l = sum_set (λ (u : View). length u.drawn) s.views id v spent here in
    let found : slice_index s.words 0 ≡ word = first_is s.words word (ap (λ (ws : List ℕ). get_elem? ws 0) f.2 ∙ at) in (
      (λ x.
          let t = sum_set (λ (u : View). times_drawn x u.drawn) s.views id v spent here in
          let z : times_drawn x spent.drawn ≡ 0 = refl in
          let o = h.each_once x in
          let few = sum_below (λ (u : View). times_drawn x u.drawn) (λ (u : View). length u.drawn) others
          (λ u. count_by-le-length (λ (y : ℕ). y == x) u.drawn) in
          let k : once_below x (slice_index s.words 0) ≡ once_below x word = ap (once_below x) found in
          omega arith),
      omega arith,
    )
