-- The counter from which workers draw group numbers: what each claim has drawn, and the rule of all claims together.
use Rattle.std.specs.Prelude.{◌≡◌, ℕ, ◌+◌, ◌-◌, ◌<◌, List, [], ◌∷◌, ◌++◌, length, slice_index, sum_by}
use Rattle.atomic_table.specs.Table.{State, Me}
use Rattle.group_compiler.specs.declared.steps.View.{View}
use Rattle.group_compiler.specs.declared.limits.TheConstants.{ALL_DRAWS, WORKER_DRAWS}
use Rattle.group_compiler.specs.Claims.{once_below, times_drawn}

-- the view of a claim with these numbers drawn and this many draws left
abbrev pub view : List ℕ → ℕ → View
view drawn room = record { drawn = drawn; room = room }

-- the claims together hold the numbers below the word, each once; and the word and the draws that are left add up to all draws
pub record IsCounted (s : State ℕ View) : Type 0 where
  pub one_word : length s.words ≡ 1
  pub each_once : (x : ℕ) → sum_by (λ (v : View). times_drawn x v.drawn) s.views ≡ once_below x (slice_index s.words 0)
  pub lengths : sum_by (λ (v : View). length v.drawn) s.views ≡ slice_index s.words 0
  pub rooms : slice_index s.words 0 + sum_by (λ (v : View). v.room) s.views ≡ ALL_DRAWS

-- the number found is appended, and one draw less is left
pub record IsDrawn (before : Me ℕ View) (found : ℕ) (after : Me ℕ View) : Type 0 where
  pub view_is : after.0 ≡ view (before.0.drawn ++ found ∷ []) (before.0.room - 1)
  pub slots : after.1 ≡ before.1
  pub below : found < ALL_DRAWS

-- a claim after another was split off: it keeps what it drew, and gives away the draws of one worker
abbrev pub left_of : View → View
left_of v = view v.drawn (v.room - WORKER_DRAWS)

-- the claim that is split off: it has drawn nothing yet, and has the draws of one worker
abbrev pub right_of : View → View
right_of v = view [] WORKER_DRAWS

-- two claims joined into one, which has what both drew and the draws that both had left
abbrev pub views_joined : View → View → View
views_joined v w = view (v.drawn ++ w.drawn) (v.room + w.room)
