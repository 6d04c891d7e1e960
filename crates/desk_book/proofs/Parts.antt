-- What an input has of one bidder after those before it.
use Rattle.std.proofs.Common.{◌≡◌, ◌+◌, ◌++◌, ◌∙◌, ℕ, List, Option, Some, None, suc, refl, ap, subst, arith}
use Rattle.std.specs.Prelude.{codes}
use Rattle.std.proofs.lemmas.List.{append_assoc}
use Rattle.bid_book.specs.History.{standing_of}
use Rattle.bid_book.specs.declared.records.Entry.{Entry}
use Rattle.bid_book.specs.declared.standing.Standing.{Standing}
use Rattle.desk_book.specs.declared.commitment.Commitment.{Commitment}
use Rattle.desk_book.specs.Settling.{AreOpened, IsPartAdded}

added : (o : Option (Standing Commitment)) (head before input new : List ℕ) → input ≡ head ++ before → IsPartAdded o input new
    → (parts : List ℕ) × IsPartAdded o before parts × (new ≡ head ++ parts)
added None head before input new is add = (before, refl, add ∙ is)
added (Some s) head before input new is add =
    let form : List ℕ = codes "%form\n" in (
      before ++ form ++ add.1,
      (add.0, add.1, add.2, refl),
      add.3 ∙ ap (λ (xs : List ℕ). xs ++ form ++ add.1) is ∙ ap (λ (xs : List ℕ). xs ++ add.1) (append_assoc head before form)
          ∙ append_assoc head (before ++ form) add.1,
    )

next_parts : (history : List (Entry Commitment)) (n : ℕ) (head input new : List ℕ)
    → ((parts : List ℕ) × AreOpened history n parts × (input ≡ head ++ parts))
    → IsPartAdded (standing_of history (suc n)) input new
    → (parts : List ℕ) × AreOpened history (suc n) parts × (new ≡ head ++ parts)
next_parts history n head input new so_far add =
    let next = added (standing_of history (suc n)) head so_far.0 input new so_far.2 add in
    (next.0, (so_far.0, so_far.1, next.1), next.2)

pub one_part_more : (history : List (Entry Commitment)) (n : ℕ) (head input new : List ℕ)
    → ((parts : List ℕ) × AreOpened history n parts × (input ≡ head ++ parts))
    → IsPartAdded (standing_of history (n + 1)) input new
    → (parts : List ℕ) × AreOpened history (n + 1) parts × (new ≡ head ++ parts)
one_part_more history n head input new so_far =
    let e : suc n ≡ n + 1 = omega arith in
    subst (λ (m : ℕ). IsPartAdded (standing_of history m) input new → (parts : List ℕ) × AreOpened history m parts × (new ≡ head ++ parts)) e
    (next_parts history n head input new so_far)
