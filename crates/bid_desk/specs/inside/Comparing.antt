-- How far the callers' own lists agree with a history.
use Rattle.std.specs.Prelude.{ℕ, ◌≡◌, ◌<◌, ◌≤◌, ⊤, List, length, take, slice_index_or}
use Rattle.bid_forms.specs.Offers.{Offers}
use Rattle.bid_book.specs.declared.call.Caller.TheVariants.{Chair}
use Rattle.bid_book.specs.declared.records.Entry.{Entry}
use Rattle.bid_book.specs.History.{own_pairs}
use Rattle.bid_desk.specs.declared.comparing.Comparison.{Comparison}
use Rattle.bid_desk.specs.declared.comparing.Comparison.TheVariants.{Agrees, Differs}
use Rattle.bid_desk.specs.declared.comparing.Comparisons.{Comparisons}
use Rattle.bid_desk.specs.Holding.{SessionOwn, ChairOwn, caller_of}
use Rattle.bid_desk.specs.Settlement.{IsFirstDifference}

-- a caller's pairs in the history are the first of its own, or first differ from them at a place
abbrev pub IsCompared : {X : Type 0} → List X → List X → Comparison → Type 0
IsCompared theirs own (Agrees pairs) = (pairs ≤ length own) × (theirs ≡ take pairs own)
IsCompared theirs own (Differs place) = IsFirstDifference theirs own place × (place ≤ length theirs)

-- a comparison has found at most this many pairs that agree, or a difference
abbrev pub IsWithin : ℕ → Comparison → Type 0
IsWithin len (Agrees pairs) = pairs ≤ len
IsWithin len (Differs place) = ⊤

-- how far the list of each session and of the chair agrees with a history
pub record AreCompared (history : List (Entry Offers)) (sessions : List SessionOwn) (chair : ChairOwn) (c : Comparisons) : Type 0 where
  pub size : length c.sessions.items ≡ length sessions
  pub each : (k : ℕ) (x : SessionOwn) (o : Comparison) → k < length sessions → slice_index_or sessions k x ≡ x → slice_index_or c.sessions.items k o ≡ o
      → IsCompared (own_pairs history (caller_of x)) x.pairs o
  pub chair_is : IsCompared (own_pairs history Chair) chair.pairs c.chair
