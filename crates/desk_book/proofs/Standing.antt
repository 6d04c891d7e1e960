-- The call that stands in bytes, as it was found.
use Rattle.std.proofs.Common.{◌≡◌, ◌∙◌, ℕ, List, length, ap, sym}
use Rattle.auction_terms.specs.Terms.{Terms}
use Rattle.desk_line.specs.declared.machine.Front.TheVariants as front
use Rattle.desk_book.specs.Calls.{Whole, call_at, front_of, meant, stands_as}
use Rattle.desk_book.specs.declared.calls.Call.{Call}
use Rattle.desk_book.specs.declared.calls.Found.{Found}
use Rattle.desk_book.specs.declared.calls.Found.TheVariants as found

module _ (rules : Terms) (bytes : List ℕ) (f : Found) (is : stands_as f ≡ call_at rules bytes) where
  -- it is the whole call, if the bytes are one
  pub stands : (c : Call) (n : ℕ) → f ≡ found.Whole c n → front.Whole (length bytes) ≡ front_of (call_at rules bytes)
      → call_at rules bytes ≡ Whole (meant c) (length bytes)
  stands c n at whole =
      let here : Whole (meant c) n ≡ call_at rules bytes = ap stands_as (sym at) ∙ is in
      let same : front.Whole n ≡ front.Whole (length bytes) = ap front_of here ∙ sym whole in
      let count : n ≡ length bytes = cc in
      sym here ∙ ap (Whole (meant c)) count

  pub not_short : f ≡ found.Short → front.Whole (length bytes) ≡ front_of (call_at rules bytes) → ⊥
  not_short at whole =
      let same : front.Whole (length bytes) ≡ front.Short = whole ∙ ap front_of (sym is) ∙ ap (λ (g : Found). front_of (stands_as g)) at in cc

  pub not_wrong : f ≡ found.Wrong → front.Whole (length bytes) ≡ front_of (call_at rules bytes) → ⊥
  not_wrong at whole =
      let same : front.Whole (length bytes) ≡ front.Wrong = whole ∙ ap front_of (sym is) ∙ ap (λ (g : Found). front_of (stands_as g)) at in cc
