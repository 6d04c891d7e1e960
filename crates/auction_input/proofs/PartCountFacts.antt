-- Tests of what a command wants.
use Rattle.std.proofs.Common.{◌≡◌, ◌<◌, ◌+◌, ◌++◌, ◌∷◌, ◌∙◌, ℕ, Bool, true, false, List, [], Option, None, Some, Ok, Err}
use Rattle.std.proofs.Common.{ap, drop, length, refl, slice_index_or, sym}
use Rattle.std.proofs.lemmas.List.{drop_more}
use Rattle.std.specs.Option.{option_or}
use Rattle.auction_input.specs.Auction.{Auction}
use Rattle.auction_input.specs.PartCounts.{numbers_of, refused_unless, unmet_refusal, wanted, wants}
use Rattle.auction_input.specs.declared.refusal.Refusal.{Refusal}
use Rattle.auction_input.specs.declared.part_counts.Unmet.{Unmet}
use Rattle.auction_terms.specs.FirstFault.{first_failed}
use Rattle.auction_terms.specs.Stages.{unless}
use Rattle.auction_input.specs.declared.request.Target.{Target}

-- tests after others
pub failed-after : (first second : List (Bool × Unmet))
    → first_failed (refused_unless (first ++ second)) ≡ option_or (first_failed (refused_unless first))
    (first_failed (refused_unless second))
failed-after [] second = refl
failed-after ((true, u) ∷ more) second = failed-after more second
failed-after ((false, u) ∷ more) second = refl

-- the test at a place, where none before it fails
module _ (tests : List (Bool × Unmet)) (n : ℕ) (test : Bool × Unmet) (is : test ≡ slice_index_or tests n test) (within : n < length tests)
    (so_far : first_failed (refused_unless tests) ≡ first_failed (refused_unless (drop n tests))) where
  ahead : drop n tests ≡ test ∷ drop (n + 1) tests
  ahead = drop_more tests n test within ∙ ap (λ (t : Bool × Unmet). t ∷ drop (n + 1) tests) (sym is)

  pub test-passed : test.0 ≡ true → first_failed (refused_unless tests) ≡ first_failed (refused_unless (drop (n + 1) tests))
  test-passed met = so_far ∙ rw (ahead, met) refl

  pub test-failed : test.0 ≡ false → first_failed (refused_unless tests) ≡ Some (unmet_refusal test.1)
  test-failed unmet = so_far ∙ rw (ahead, unmet) refl

-- an auction by the tests of what is wanted
module _ (command : Option Target) (auction : Auction) where
  pub wanted-met : first_failed (refused_unless (wants command (numbers_of auction))) ≡ None → wanted command auction ≡ Ok auction
  wanted-met none = ap (λ (o : Option Refusal). unless o (Ok auction)) none

  pub wanted-unmet : (r : Refusal) → first_failed (refused_unless (wants command (numbers_of auction))) ≡ Some r → wanted command auction ≡ Err r
  wanted-unmet r found = ap (λ (o : Option Refusal). unless o (Ok auction)) found
