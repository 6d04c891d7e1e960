-- Copying the entries of a book, one by one.
use Rattle.std.proofs.Common.{◌≡◌, ◌<◌, ◌+◌, ◌++◌, ◌∷◌, ◌∙◌, [], ℕ, List, length, map, take, ap, sym, subst, arith}
use Rattle.std.specs.Prelude.{get_or, Some}
use Rattle.std.specs.declared.sync.Arc.{Arc}
use Rattle.std.proofs.lemmas.List.{length-map, get_or-map, take_more}
use Rattle.std.proofs.lemmas.Option.{slice_get-get_or}
use Rattle.bid_book.specs.declared.records.Entry.{Entry}
use Rattle.bid_book.specs.History.{IsLegalHistoryBy, IsRightAfterBy, entry_value}

module _ {X Z : Type 0} (stored : List (Entry (Arc X Z))) (history : List (Entry X)) (is : map entry_value stored ≡ history) (n : ℕ) (e : Entry (Arc X Z))
    (within : n < length stored) (at : e ≡ get_or stored n e) where
  in_history : n < length history
  in_history = let len = sym (ap length is) ∙ length-map stored entry_value in omega (arith, len, within)

  value_at : get_or history n (entry_value e) ≡ entry_value e
  value_at = ap (λ (xs : List (Entry X)). get_or xs n (entry_value e)) (sym is) ∙ get_or-map entry_value stored n e (entry_value e) within ∙ ap entry_value (sym at)

  pub right_next : (bidder_of : X → ℕ) → IsLegalHistoryBy bidder_of history → (fresh : List (Entry X)) → fresh ≡ take n history
      → IsRightAfterBy bidder_of fresh (entry_value e)
  right_next bidder_of legal fresh so_far =
      subst (λ (xs : List (Entry X)). IsRightAfterBy bidder_of xs (entry_value e)) (sym so_far)
      (legal.each n (entry_value e) (slice_get-get_or history n (entry_value e) in_history ∙ ap Some value_at))

  pub one_more : (fresh next : List (Entry X)) → fresh ≡ take n history → next ≡ fresh ++ entry_value e ∷ [] → next ≡ take (n + 1) history
  one_more fresh next so_far added =
      added ∙ ap (λ (xs : List (Entry X)). xs ++ entry_value e ∷ []) so_far
      ∙ ap (λ (x : Entry X). take n history ++ x ∷ []) (sym value_at) ∙ sym (take_more history n (entry_value e) in_history)
