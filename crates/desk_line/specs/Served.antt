-- What a line tells and keeps: its calls in batches, of each of which all is kept, or nothing.
use Rattle.std.specs.Prelude.{ℕ, List, [], ◌∷◌, ◌≡◌, ◌+◌, ◌++◌, Bool, Option, zero, suc, if◌then◌else◌, length, codes, ⊤}
use Rattle.std.specs.Io.KnownBytes.{append_known}
use Rattle.desk_line.specs.Fronts.{Step, calls_in, replies_in, entries_in, state_after, AreSteps}
use Rattle.desk_line.specs.declared.machine.Front.{Front}

-- what is told of each call of a batch that isn't kept
abbrev pub disk_full : List ℕ
disk_full = codes "- disk full\n"

-- that, so many times
abbrev pub disk_full_times : ℕ → List ℕ
disk_full_times zero = []
disk_full_times (suc n) = disk_full ++ disk_full_times n

-- calls that were taken together, and whether their entries are kept
pub record Batch (M : Type 0) : Type 0 where
  pub steps : List (Step M)
  pub is_kept : Bool

-- what a line has come to: the state of its machine, what is kept and what was told, where that is known, how many bytes are
-- kept, and how many writes failed
pub record LineState (M : Type 0) : Type 0 where
  pub state : M
  pub kept : Option (List ℕ)
  pub extent : ℕ
  pub told : Option (List ℕ)
  pub failures : ℕ

module _ {M : Type 0} where
  -- the bytes of the calls of batches
  abbrev pub calls_of : List (Batch M) → List ℕ
  calls_of [] = []
  calls_of (batch ∷ batches) = calls_in batch.steps ++ calls_of batches

  -- a batch more: each call is told its reply, and its entry is kept; or nothing of the batch is, where a write failed
  abbrev pub line_with : (M → M) → LineState M → Batch M → LineState M
  line_with begun line batch =
      if batch.is_kept then record {
        state = state_after (begun line.state) batch.steps;
        kept = append_known line.kept (entries_in batch.steps);
        extent = line.extent + length (entries_in batch.steps);
        told = append_known line.told (replies_in batch.steps);
        failures = line.failures;
      } else record {
        state = begun line.state;
        kept = line.kept;
        extent = line.extent;
        told = append_known line.told (disk_full_times (length batch.steps));
        failures = line.failures + 1;
      }

  -- all batches, in order
  abbrev pub line_after : (M → M) → LineState M → List (Batch M) → LineState M
  line_after begun line [] = line
  line_after begun line (batch ∷ batches) = line_after begun (line_with begun line batch) batches

module _ {M : Type 0} (fronts : M → List ℕ → Front → Type 0) (answers : M → List ℕ → List ℕ → List ℕ → M → Type 0) where
  -- the calls of each batch are answered as the state then may answer them
  abbrev pub AreBatches : (M → M) → LineState M → List (Batch M) → Type 0
  AreBatches begun line [] = ⊤
  AreBatches begun line (batch ∷ batches) =
      AreSteps fronts answers (begun line.state) batch.steps × AreBatches begun (line_with begun line batch) batches

-- what a line has come to is what these batches make of it
pub record IsServed {M : Type 0} (fronts : M → List ℕ → Front → Type 0) (answers : M → List ℕ → List ℕ → List ℕ → M → Type 0) (begun : M → M)
    (extent : M → ℕ) (first now : LineState M) (batches : List (Batch M)) : Type 0 where
  pub line_is : now ≡ line_after begun first batches
  pub batches_are : AreBatches fronts answers begun first batches
  pub all_known : extent now.state ≡ now.extent
