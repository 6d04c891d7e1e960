-- What stands at the front of bytes, and what calls make of a state.
use Rattle.std.specs.Prelude.{ℕ, List, [], ◌∷◌, ◌≡◌, ◌<◌, ◌≤◌, ◌++◌, Bool, true, false, length, ⊤}
use Rattle.desk_line.specs.declared.machine.Front.{Front}
use Rattle.desk_line.specs.declared.machine.Front.TheVariants.{Whole, Short, Wrong}

-- a whole call has bytes, and no more than there are
abbrev pub IsFrontWithin : List ℕ → Front → Type 0
IsFrontWithin bytes (Whole n) = (0 < n) × (n ≤ length bytes)
IsFrontWithin bytes Short = ⊤
IsFrontWithin bytes Wrong = ⊤

-- what stands at the front of what is left of an input, by whether no call can begin so: no whole call in any case
abbrev pub front_left : Bool → Front
front_left true = Wrong
front_left false = Short

-- a call, what it is told, its entry, and the state after it
pub record Step (M : Type 0) : Type 0 where
  pub call : List ℕ
  pub reply : List ℕ
  pub entry : List ℕ
  pub next : M

module _ {M : Type 0} where
  -- the bytes of the calls
  abbrev pub calls_in : List (Step M) → List ℕ
  calls_in [] = []
  calls_in (s ∷ steps) = s.call ++ calls_in steps

  -- what they are told
  abbrev pub replies_in : List (Step M) → List ℕ
  replies_in [] = []
  replies_in (s ∷ steps) = s.reply ++ replies_in steps

  -- their entries
  abbrev pub entries_in : List (Step M) → List ℕ
  entries_in [] = []
  entries_in (s ∷ steps) = s.entry ++ entries_in steps

  -- the state after steps
  abbrev pub state_after : M → List (Step M) → M
  state_after m [] = m
  state_after m (s ∷ steps) = state_after s.next steps

  -- each of these is a whole call of the state before it, answered as that state may answer it
  abbrev pub AreSteps : (M → List ℕ → Front → Type 0) → (M → List ℕ → List ℕ → List ℕ → M → Type 0) → M → List (Step M) → Type 0
  AreSteps fronts answers m [] = ⊤
  AreSteps fronts answers m (s ∷ steps) =
      fronts m s.call (Whole (length s.call)) × answers m s.call s.reply s.entry s.next × AreSteps fronts answers s.next steps

  -- one state comes of another by some calls
  abbrev pub Follows : (M → List ℕ → Front → Type 0) → (M → List ℕ → List ℕ → List ℕ → M → Type 0) → M → M → Type 0
  Follows fronts answers m n = (steps : List (Step M)) × AreSteps fronts answers m steps × (n ≡ state_after m steps)
