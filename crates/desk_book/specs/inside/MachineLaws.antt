-- Why a desk keeps the laws of what answers the calls of a line.
use Rattle.std.proofs.Common.{◌≡◌, ◌+◌, ◌++◌, ◌∙◌, inl, inr, ℕ, List, [], length, take, ap, refl, sym, subst, arith}
use Rattle.auction_terms.specs.Terms.{Terms}
use Rattle.desk_line.specs.Fronts.{IsFrontWithin}
use Rattle.desk_line.specs.declared.machine.Front.{Front}
use Rattle.desk_line.specs.declared.machine.Front.TheVariants as front
use Rattle.desk_book.specs.Answers.{IsDeskAnswer, IsTold}
use Rattle.desk_book.specs.Calls.{Stands, Whole, Short, Wrong, call_at, front_of}
use Rattle.desk_book.specs.declared.calls.Call.{Call}
use Rattle.desk_book.specs.declared.desk.Desk.{Desk}
use Rattle.desk_book.specs.inside.CallLaws.{call-stays, call-within}

module _ (rules : Terms) (bytes : List ℕ) where
  stands_within : (s : Stands) → call_at rules bytes ≡ s → IsFrontWithin bytes (front_of s)
  stands_within (Whole call n) is = call-within rules bytes call n is
  stands_within Short is = tt
  stands_within Wrong is = tt

  pub front_within : (f : Front) → f ≡ front_of (call_at rules bytes) → IsFrontWithin bytes f
  front_within f is = subst (λ (g : Front). IsFrontWithin bytes g) (sym is) (stands_within (call_at rules bytes) refl)

  stands_whole : (more : List ℕ) (n : ℕ) (s : Stands) → call_at rules bytes ≡ s → front.Whole n ≡ front_of s
      → front.Whole n ≡ front_of (call_at rules (take n bytes ++ more))
  stands_whole more n (Whole call m) is same =
      let count : m ≡ n = cc in
      sym (ap front_of (call-stays rules bytes more call n (is ∙ ap (Whole call) count)))
  stands_whole more n Short is same = absurd cc
  stands_whole more n Wrong is same = absurd cc

  pub front_whole : (more : List ℕ) (n : ℕ) → front.Whole n ≡ front_of (call_at rules bytes)
      → front.Whole n ≡ front_of (call_at rules (take n bytes ++ more))
  front_whole more n is = stands_whole more n (call_at rules bytes) refl is

-- no bytes are the beginning of a call
pub front_nothing : (rules : Terms) → front.Short ≡ front_of (call_at rules [])
unfolding call_at
front_nothing rules = refl

module _ {J : Type 0} (faults : J → List ℕ → List ℕ → List ℕ) (m n : Desk J) (bytes reply entry : List ℕ) where
  same_extent : entry ≡ [] → n ≡ m → n.extent ≡ m.extent + length entry
  same_extent none same = ap (λ d. d.extent) same ∙ (let len : length entry ≡ 0 = ap length none in omega (arith, len))

  told_extent : (c : Call) → IsTold faults m c reply entry n → n.extent ≡ m.extent + length entry
  told_extent c (inl is) = same_extent is.0 is.1.same
  told_extent c (inr is) = is.recorded.extent

  pub extent_after : IsDeskAnswer faults m bytes reply entry n → n.extent ≡ m.extent + length entry
  extent_after is = told_extent is.call is.told

  told_rules : (c : Call) → IsTold faults m c reply entry n → n.rules ≡ m.rules
  told_rules c (inl is) = ap (λ d. d.rules) is.1.same
  told_rules c (inr is) = is.recorded.rules

  pub front_before : IsDeskAnswer faults m bytes reply entry n → (more : List ℕ) (f : Front) → f ≡ front_of (call_at n.rules more)
      → f ≡ front_of (call_at m.rules more)
  front_before is more f at = at ∙ ap (λ (r : Terms). front_of (call_at r more)) (told_rules is.call is.told)
