-- Sums of products, and what a winner pays by the weights of its groups.
use Rattle.std.proofs.Common.{◌≡◌, ℕ, ◌+◌, ◌*◌, Bool, true, false, cond, List, [], ◌∷◌, sym, ap, ◌∙◌, arith}
use Rattle.std.specs.Prelude.{sum_by}
use Rattle.std.proofs.lemmas.List.Sums.{sum_by-cons}
use Rattle.auction_terms.specs.declared.bids.Choice.{Choice}
use Rattle.auction_terms.specs.Groups.{has}
use Rattle.auction_terms.proofs.OfferFacts.{sum_agree}
use Rattle.program_rows.proofs.EachFacts.{each}
use Rattle.prices.specs.Weights.{Weighted, weight_on}

pub nothing : (k : ℕ) → k * 0 ≡ 0
nothing k = omega arith

pub spread : (k m n : ℕ) → k * (m + n) ≡ k * m + k * n
spread k m n = omega arith

pub mul_comm : (m n : ℕ) → m * n ≡ n * m
mul_comm m n = omega arith

-- a sum, each term times a number
pub times_sum : {X : Type 0} (k : ℕ) (f : X → ℕ) (xs : List X) → k * sum_by f xs ≡ sum_by (λ x. k * f x) xs
times_sum k f [] = omega arith
times_sum k f (x ∷ xs) =
    let s = sum_by-cons f x xs in
    let t = sum_by-cons (λ x. k * f x) x xs in
    let r = times_sum k f xs in
    let e : k * sum_by f (x ∷ xs) ≡ k * (f x + sum_by f xs) = ap (λ (n : ℕ). k * n) s in
    omega arith

module _ (other : ℕ → ℕ) (ws : List Weighted) where
  -- what a group's winners pay
  abbrev pub pays : List Choice → Weighted → ℕ
  pays first w = sum_by (λ c. cond (has w.group c.bidder) (other c.bidder) 0) first

  turned : (b : Bool) (w o : ℕ) → w * cond b o 0 ≡ o * cond b w 0
  turned true w o = mul_comm w o
  turned false w o = omega arith

  -- of one winner
  pub one_winner : (c : Choice) → sum_by (λ w. w.weight * cond (has w.group c.bidder) (other c.bidder) 0) ws ≡ other c.bidder * weight_on ws c.bidder
  one_winner c = sum_agree (λ w. w.weight * cond (has w.group c.bidder) (other c.bidder) 0)
      (λ w. other c.bidder * cond (has w.group c.bidder) w.weight 0) ws
      (each _ ws (λ w. turned (has w.group c.bidder) w.weight (other c.bidder)))
      ∙ sym (times_sum (other c.bidder) (λ w. cond (has w.group c.bidder) w.weight 0) ws)

  -- what the winners pay, each times its own weight
  abbrev pub own_pay : (ℕ → ℕ) → List Choice → ℕ
  own_pay own first = sum_by (λ c. own c.bidder * other c.bidder) first
