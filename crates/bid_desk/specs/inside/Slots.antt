-- The place of each session in a list of sessions.
use Rattle.std.specs.Prelude.{ℕ, ◌+◌, ◌-◌, ◌*◌, ◌≡◌, ◌≢◌, ◌<◌, ◌≤◌, List, length, take, slice_index_or, IsTrue}
use Rattle.auction_terms.specs.Terms.{Terms}
use Rattle.auction_terms.specs.declared.limits.TheConstants.{MOST_SESSIONS}
use Rattle.bid_desk.specs.declared.slots.Slot.{Slot}
use Rattle.bid_desk.specs.Holding.{SessionOwn}
use Rattle.bid_desk.specs.Sessions.{IsSessionOf}
use Rattle.bid_desk.specs.Settlement.{ComesBefore, is_named, times_session}

-- the place of a session's slot: each bidder has one for each session that it may have
abbrev pub slot_of : ℕ → ℕ → ℕ
slot_of b s = (b - 1) * MOST_SESSIONS + (s - 1)

-- the slot of a session that has not been met in the list
abbrev pub empty_slot : Slot
empty_slot = record { times = 0; place = 0 }

-- the slot of a bidder's session; an empty one if there is none
abbrev pub slot_at : List Slot → ℕ → ℕ → Slot
slot_at slots b s = slice_index_or slots (slot_of b s) empty_slot

-- how often each session is among the first n of a list, and its last place there
pub record AreSlots (t : Terms) (sessions : List SessionOwn) (n : ℕ) (slots : List Slot) : Type 0 where
  pub size : length slots ≡ length t.bidders * MOST_SESSIONS
  pub most : (b s : ℕ) → IsSessionOf t b s → s ≤ MOST_SESSIONS
  pub times_are : (b s : ℕ) → IsSessionOf t b s → (slot_at slots b s).times ≡ times_session b s (take n sessions)
  pub within : (b s : ℕ) → IsSessionOf t b s → 1 ≤ (slot_at slots b s).times → (slot_at slots b s).place < n
  pub named : (b s : ℕ) (d : SessionOwn) → IsSessionOf t b s → 1 ≤ (slot_at slots b s).times
      → IsTrue (is_named b s (slice_index_or sessions (slot_at slots b s).place d))
  pub known : (k : ℕ) (d : SessionOwn) → k < n → IsSessionOf t (slice_index_or sessions k d).bidder (slice_index_or sessions k d).session
  pub taken : (k : ℕ) (d : SessionOwn) → k < n → 1 ≤ (slot_at slots (slice_index_or sessions k d).bidder (slice_index_or sessions k d).session).times
  pub found : (k : ℕ) (d : SessionOwn) → k < n → (slot_at slots (slice_index_or sessions k d).bidder (slice_index_or sessions k d).session).times ≡ 1
      → (slot_at slots (slice_index_or sessions k d).bidder (slice_index_or sessions k d).session).place ≡ k

-- each session of the rules is there exactly once
abbrev pub AllOnce : Terms → List Slot → Type 0
AllOnce t slots = (b s : ℕ) → IsSessionOf t b s → (slot_at slots b s).times ≡ 1

-- the first session of the rules that does not
pub record IsFirstWrong (t : Terms) (slots : List Slot) (bidder session : ℕ) : Type 0 where
  pub known : IsSessionOf t bidder session
  pub wrong : (slot_at slots bidder session).times ≢ 1
  pub first : (b s : ℕ) → IsSessionOf t b s → ComesBefore b s bidder session → (slot_at slots b s).times ≡ 1
