-- Squares of differences, added up.
use Rattle.std.proofs.Common.{◌≡◌, ℕ, zero, suc, ◌+◌, ◌-◌, ◌*◌, ◌≤◌, List, [], ◌∷◌, ap, ◌∙◌, subst, arith, le_refl, ⊎_elim}
use Rattle.std.specs.Prelude.{sum_by}
use Rattle.std.specs.List.{AllByRecursion}
use Rattle.std.proofs.lemmas.Bool.{cases_lt}
use Rattle.std.proofs.lemmas.List.Sums.{sum_by-cons}
use Rattle.std.proofs.Math.Nat.{mul-le-mul_left, le_of_mul-le-mul_left}
use Rattle.prices.specs.Parts.{apart, square}

apart_up : (m d : ℕ) → apart m (m + d) ≡ d
apart_up m d = omega arith

apart_down : (m d : ℕ) → apart (m + d) m ≡ d
apart_down m d = omega arith

expand_up : (m d : ℕ) → d * d + 2 * (m * (m + d)) ≡ m * m + (m + d) * (m + d)
expand_up m d = omega arith

expand_down : (m d : ℕ) → d * d + 2 * ((m + d) * m) ≡ (m + d) * (m + d) + m * m
expand_down m d = omega arith

-- the square of a difference, and the product twice, are both squares
pub square_is : (m n : ℕ) → square (apart m n) + 2 * (m * n) ≡ m * m + n * n
square_is m n = ⊎_elim
    (λ h.
    let d : ℕ = n - m in
    let e : m + d ≡ n = omega arith in
    let s : square (apart m (m + d)) ≡ d * d = ap square (apart_up m d) in
    let t = expand_up m d in
    subst (λ (k : ℕ). square (apart m k) + 2 * (m * k) ≡ m * m + k * k) e (ap (λ (k : ℕ). k + 2 * (m * (m + d))) s ∙ t))
    (λ h.
    let d : ℕ = m - n in
    let e : n + d ≡ m = omega arith in
    let s : square (apart (n + d) n) ≡ d * d = ap square (apart_down n d) in
    let t = expand_down n d in
    subst (λ (k : ℕ). square (apart k n) + 2 * (k * n) ≡ k * k + n * n) e (ap (λ (k : ℕ). k + 2 * ((n + d) * n)) s ∙ t))
    (cases_lt m n)

by_equation : (f x y t g p d : ℕ) → f * y + d * p ≡ f * t + d * g → f * (x * y) + d * p * x ≡ f * (x * t) + d * (g * x)
by_equation f x y t g p d e =
    let scaled : x * (f * y + d * p) ≡ x * (f * t + d * g) = ap (λ (n : ℕ). x * n) e in
    omega arith

spread : (k m n : ℕ) → k * (m + n) ≡ k * m + k * n
spread k m n = omega arith

module _ {X : Type 0} where
  -- over a list
  pub square_sums : (f g : X → ℕ) (xs : List X)
      → sum_by (λ x. square (apart (f x) (g x))) xs + 2 * sum_by (λ x. f x * g x) xs ≡ sum_by (λ x. f x * f x) xs + sum_by (λ x. g x * g x) xs
  square_sums f g [] = omega arith
  square_sums f g (x ∷ xs) =
      let a = sum_by-cons (λ y. square (apart (f y) (g y))) x xs in
      let b = sum_by-cons (λ y. f y * g y) x xs in
      let c = sum_by-cons (λ y. f y * f y) x xs in
      let d = sum_by-cons (λ y. g y * g y) x xs in
      let here = square_is (f x) (g x) in
      let later = square_sums f g xs in
      omega arith

  -- an equation at each item, times a measure of the item, over a list
  pub equations : (x y t g : X → ℕ) (f p d : ℕ) (xs : List X) → AllByRecursion (λ c. f * y c + d * p ≡ f * t c + d * g c) xs
      → f * sum_by (λ c. x c * y c) xs + d * p * sum_by x xs ≡ f * sum_by (λ c. x c * t c) xs + d * sum_by (λ c. g c * x c) xs
  equations x y t g f p d [] h = omega arith
  equations x y t g f p d (c ∷ xs) h =
      let a = ap (λ (n : ℕ). f * n) (sum_by-cons (λ c. x c * y c) c xs) ∙ spread f (x c * y c) (sum_by (λ c. x c * y c) xs) in
      let b = ap (λ (n : ℕ). d * p * n) (sum_by-cons x c xs) ∙ spread (d * p) (x c) (sum_by x xs) in
      let s = ap (λ (n : ℕ). f * n) (sum_by-cons (λ c. x c * t c) c xs) ∙ spread f (x c * t c) (sum_by (λ c. x c * t c) xs) in
      let u = ap (λ (n : ℕ). d * n) (sum_by-cons (λ c. g c * x c) c xs) ∙ spread d (g c * x c) (sum_by (λ c. g c * x c) xs) in
      let here = by_equation f (x c) (y c) (t c) (g c) p d h.0 in
      let later = equations x y t g f p d xs h.1 in
      omega arith

  -- what is as near is the same
  pub nearer : (x y t g : X → ℕ) (f p d : ℕ) (xs : List X) → 1 ≤ f
      → AllByRecursion (λ c. f * y c + d * p ≡ f * t c + d * g c) xs
      → sum_by x xs ≤ sum_by y xs
      → sum_by (λ c. g c * y c) xs ≤ sum_by (λ c. g c * x c) xs
      → sum_by (λ c. square (apart (y c) (t c))) xs + sum_by (λ c. square (apart (x c) (y c))) xs ≤ sum_by (λ c. square (apart (x c) (t c))) xs
  nearer x y t g f p d xs one h less more =
      let xy : ℕ = sum_by (λ c. x c * y c) xs in
      let xt : ℕ = sum_by (λ c. x c * t c) xs in
      let yt : ℕ = sum_by (λ c. y c * t c) xs in
      let yy : ℕ = sum_by (λ c. y c * y c) xs in
      let of_x = equations x y t g f p d xs h in
      let of_y = equations y y t g f p d xs h in
      let sums : d * p * sum_by x xs ≤ d * p * sum_by y xs = mul-le-mul_left (d * p) less in
      let pulls : d * sum_by (λ c. g c * y c) xs ≤ d * sum_by (λ c. g c * x c) xs = mul-le-mul_left d more in
      let left : f * (xt + yy) ≡ f * xt + f * yy = spread f xt yy in
      let right : f * (xy + yt) ≡ f * xy + f * yt = spread f xy yt in
      let scaled : f * (xt + yy) ≤ f * (xy + yt) = omega arith in
      let all : xt + yy ≤ xy + yt = le_of_mul-le-mul_left scaled one in
      let a = square_sums y t xs in
      let b = square_sums x y xs in
      let c = square_sums x t xs in
      omega arith

square_zero : (n : ℕ) → square n ≤ 0 → n ≤ 0
square_zero zero h = le_refl 0
square_zero (suc n) h = omega arith

-- what is nowhere apart is the same
module _ {X : Type 0} where
  pub same_where_none_apart : (x y : X → ℕ) (xs : List X) → sum_by (λ c. square (apart (x c) (y c))) xs ≤ 0 → AllByRecursion (λ c. x c ≡ y c) xs
  same_where_none_apart x y [] h = tt
  same_where_none_apart x y (c ∷ xs) h =
      let s = sum_by-cons (λ c. square (apart (x c) (y c))) c xs in
      let none = square_zero (apart (x c) (y c)) (omega arith) in
      (omega arith, same_where_none_apart x y xs (omega arith))
