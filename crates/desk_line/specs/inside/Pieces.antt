-- What is answered of a piece of an input.
use Rattle.std.specs.Prelude.{ℕ, List, ◌≡◌, ◌≤◌, ◌++◌, length, take}
use Rattle.desk_line.specs.Fronts.{Step, calls_in, replies_in, entries_in, state_after, AreSteps}
use Rattle.desk_line.specs.Served.{Batch, LineState, line_with}
use Rattle.desk_line.specs.declared.machine.Front.{Front}

-- what was answered of some bytes: the calls of these steps, at their front
pub record IsBatchAnswered {M : Type 0} (fronts : M → List ℕ → Front → Type 0) (answers : M → List ℕ → List ℕ → List ℕ → M → Type 0)
    (first now : M) (bytes told kept : List ℕ) (used count : ℕ) (steps : List (Step M)) : Type 0 where
  pub bytes_are : take used bytes ≡ calls_in steps
  pub steps_are : AreSteps fronts answers first steps
  pub told_is : told ≡ replies_in steps
  pub kept_is : kept ≡ entries_in steps
  pub state_is : now ≡ state_after first steps
  pub count_is : count ≡ length steps
  pub few : count ≤ used
  pub within : used ≤ length bytes

-- a piece of an input is taken: with what was left before it, it is the calls of this batch, and what is left now
pub record IsPieceTaken {M : Type 0} (fronts : M → List ℕ → Front → Type 0) (answers : M → List ℕ → List ℕ → List ℕ → M → Type 0) (begun : M → M)
    (extent : M → ℕ) (old now : LineState M) (bytes left : List ℕ) (batch : Batch M) : Type 0 where
  pub line_is : now ≡ line_with begun old batch
  pub bytes_are : bytes ≡ calls_in batch.steps ++ left
  pub steps_are : AreSteps fronts answers (begun old.state) batch.steps
  pub all_known : extent now.state ≡ now.extent
