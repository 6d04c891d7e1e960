-- Which calls may be asked.
use Rattle.std.specs.Prelude.{ℕ, List, ◌≡◌, ◌<◌, ◌≤◌, ◌^◌, ⊤, Option, Some, None, length}
use Rattle.auction_terms.specs.Terms.{Terms}
use Rattle.auction_terms.specs.declared.limits.TheConstants.{MOST_BIDS, MOST_SESSIONS}
use Rattle.desk_book.specs.Calls.{bidder_called, digest_named}
use Rattle.desk_book.specs.Entries.{name_word}
use Rattle.desk_book.specs.declared.asked.Asked.{Asked}
use Rattle.desk_book.specs.declared.asked.Asked.TheVariants as asked
use Rattle.desk_book.specs.declared.calls.Who.{Who}
use Rattle.desk_book.specs.declared.limits.TheConstants.{SEALED_LIMIT}

-- who makes a call that may be asked: a bidder whose name the rules have
pub record IsMaker (rules : Terms) (who : Who) : Type 0 where
  pub bidder : bidder_called rules (name_word rules who.bidder) ≡ Some who.bidder
  pub session : who.session ≤ MOST_SESSIONS
  pub time : who.time < 10 ^ 18

-- the change that a call may be made over
abbrev pub IsOver : Option ℕ → Type 0
IsOver None = ⊤
IsOver (Some n) = n < 10 ^ 9

-- a form that may be handed in
pub record IsHandedIn (over : Option ℕ) (commit : List ℕ) (bids : ℕ) (sealed : List ℕ) : Type 0 where
  pub over_is : IsOver over
  pub commit_is : digest_named commit ≡ Some commit
  pub few_bids : bids ≤ MOST_BIDS
  pub few_bytes : length sealed ≤ SEALED_LIMIT

-- a call that may be asked under these rules
abbrev pub MayBeAsked : Terms → Asked → Type 0
MayBeAsked rules (asked.Submit who over commit bids sealed) = IsMaker rules who × IsHandedIn over commit bids sealed.now
MayBeAsked rules (asked.Withdraw who over) = IsMaker rules who × (over < 10 ^ 9)
MayBeAsked rules (asked.Show who) = IsMaker rules who
MayBeAsked rules (asked.Close time) = time < 10 ^ 18
