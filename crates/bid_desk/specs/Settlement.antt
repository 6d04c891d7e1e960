-- When a stopped desk is settled.
use Rattle.std.specs.Prelude.{ℕ, ◌+◌, ◌-◌, ◌≡◌, ◌≢◌, ◌<◌, ◌≤◌, ◌⊎◌, ◌==◌, ◌&&◌, List, Bool, true, false, Option, take, slice_get, count_by, All, Any, IsTrue, ⊤}
use Rattle.bid_forms.specs.Offers.{Offers}
use Rattle.auction_terms.specs.Terms.{Terms}
use Rattle.bid_book.specs.declared.call.Caller.{Caller}
use Rattle.bid_book.specs.declared.call.Caller.TheVariants.{Session, Chair}
use Rattle.bid_book.specs.declared.records.Entry.{Entry}
use Rattle.bid_book.specs.History.{own_pairs, is_closed}
use Rattle.bid_desk.specs.declared.settle.Cause.{Cause}
use Rattle.bid_desk.specs.declared.settle.Cause.TheVariants.{StillOpen, Sessions, Differs, OutOfMemory}
use Rattle.bid_desk.specs.Holding.{SessionOwn, ChairOwn, IsCallerOf}
use Rattle.bid_desk.specs.Sessions.{IsSessionOf}

-- whether a session is the one of this bidder and this number
abbrev pub is_named : ℕ → ℕ → SessionOwn → Bool
is_named b s x = (x.bidder == b) && (x.session == s)

-- how often a session is in a list
abbrev pub times_session : ℕ → ℕ → List SessionOwn → ℕ
times_session b s sessions = count_by (is_named b s) sessions

-- the first place, from 1, at which two lists differ or one of them has ended
pub record IsFirstDifference {X : Type 0} (xs ys : List X) (place : ℕ) : Type 0 where
  pub least : 1 ≤ place
  pub same : take (place - 1) xs ≡ take (place - 1) ys
  pub differs : slice_get xs (place - 1) ≢ slice_get ys (place - 1)

-- a session's own pairs are those of the history
abbrev pub OwnIs : List (Entry Offers) → SessionOwn → Type 0
OwnIs history x = own_pairs history (Session x.bidder x.session) ≡ x.pairs

-- the bidder and session come before these, by bidder, then session
abbrev pub ComesBefore : ℕ → ℕ → ℕ → ℕ → Type 0
ComesBefore b s c t = (b < c) ⊎ ((b ≡ c) × (s < t))

-- the history is closed, each session of the rules is there once, and each caller made exactly its own calls
pub record IsSettled (t : Terms) (history : List (Entry Offers)) (chair : ChairOwn) (sessions : List SessionOwn) : Type 0 where
  pub closed : is_closed history ≡ true
  pub once : (b s : ℕ) → IsSessionOf t b s → times_session b s sessions ≡ 1
  pub own_is : All (OwnIs history) sessions
  pub chair_is : own_pairs history Chair ≡ chair.pairs
  pub callers : All (λ (e : Entry Offers). IsCallerOf t e.caller) history

-- the first session of the rules that isn't there exactly once
pub record IsFirstMissing (t : Terms) (sessions : List SessionOwn) (bidder session : ℕ) : Type 0 where
  pub known : IsSessionOf t bidder session
  pub missing : times_session bidder session sessions ≢ 1
  pub first : (b s : ℕ) → IsSessionOf t b s → ComesBefore b s bidder session → times_session b s sessions ≡ 1

-- at each place of the list that has this session, its own pairs are those of the history
abbrev pub AgreesAt : List (Entry Offers) → List SessionOwn → ℕ → ℕ → Type 0
AgreesAt history sessions b s = All (λ x. IsTrue (is_named b s x) → OwnIs history x) sessions

-- this session is in the list, and its own pairs first differ from the history's at this place
abbrev pub DiffersAt : List (Entry Offers) → List SessionOwn → ℕ → ℕ → ℕ → Type 0
DiffersAt history sessions b s place =
    Any (λ x. IsTrue (is_named b s x) × IsFirstDifference (own_pairs history (Session b s)) x.pairs place) sessions

-- the first session of the rules whose own pairs differ from the history's, and the first place
pub record IsFirstDiffering (t : Terms) (history : List (Entry Offers)) (sessions : List SessionOwn) (bidder session place : ℕ) : Type 0 where
  pub known : IsSessionOf t bidder session
  pub differs : DiffersAt history sessions bidder session place
  pub first : (b s : ℕ) → IsSessionOf t b s → ComesBefore b s bidder session → AgreesAt history sessions b s

-- each session of the rules is there exactly once
pub record StandOnce (t : Terms) (sessions : List SessionOwn) : Type 0 where
  pub each : (b s : ℕ) → IsSessionOf t b s → times_session b s sessions ≡ 1

-- the own pairs of each session of the rules are those of the history
pub record AgreeAll (t : Terms) (history : List (Entry Offers)) (sessions : List SessionOwn) : Type 0 where
  pub each : (b s : ℕ) → IsSessionOf t b s → AgreesAt history sessions b s

-- the first difference between the history and the callers' own lists: by bidder, then session, the chair last
abbrev pub IsFirstOfAll : Terms → List (Entry Offers) → ChairOwn → List SessionOwn → Caller → ℕ → Type 0
IsFirstOfAll t history chair sessions (Session b s) place = IsFirstDiffering t history sessions b s place
IsFirstOfAll t history chair sessions Chair place = AgreeAll t history sessions × IsFirstDifference (own_pairs history Chair) chair.pairs place

-- why a stopped desk is not settled; each cause only if those before it don't hold
abbrev pub IsCause : Terms → List (Entry Offers) → ChairOwn → List SessionOwn → Cause → Type 0
IsCause t history chair sessions StillOpen = is_closed history ≡ false
IsCause t history chair sessions (Sessions b s) = (is_closed history ≡ true) × IsFirstMissing t sessions b s
IsCause t history chair sessions (Differs caller place) = (is_closed history ≡ true) × StandOnce t sessions × IsFirstOfAll t history chair sessions caller place
IsCause t history chair sessions OutOfMemory = is_closed history ≡ true
