-- What workers have drawn and made.
use Rattle.std.specs.Prelude.{◌≡◌, ℕ, ◌+◌, ◌<◌, ◌≤◌, ◌⊎◌, max, nat_lt, List, length, map, filter, All, Any}
use Rattle.atomic_table.specs.Seated.{TableId}
use Rattle.group_compiler.specs.declared.work.Work.{Work}
use Rattle.group_compiler.specs.Claimed.{IsOf}

-- more numbers were drawn than there are, or one of which nothing is made
abbrev pub IsFinished : ℕ → List ℕ → Type 0
IsFinished count numbers = (count < length numbers) ⊎ Any (λ n. count ≤ n) numbers

-- how many draws the claim had at first
abbrev pub draws : {T : Type 0} → Work T → ℕ
draws work = work.claim.room + length work.claim.drawn

-- of each number below the count that was drawn there is what it makes, each group whose number was drawn has come past the gate, and no more need be drawn
pub record IsWork {T : Type 0} (claims : TableId) (count groups : ℕ) (makes : ℕ → T → Type 0) (is_past : ℕ → Type 0) (work : Work T) : Type 0 where
  pub same : IsOf claims work.claim
  pub numbers : map (λ r. r.number) work.results.items ≡ filter (λ n. nat_lt n count) work.claim.drawn
  pub results : All (λ r. makes r.number r.made) work.results.items
  pub past : All (λ n. n < groups → is_past (n + 1)) work.claim.drawn
  pub finished : IsFinished (max count groups) work.claim.drawn
