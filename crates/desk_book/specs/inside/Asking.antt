-- The call of an entry, by its words.
use Rattle.std.specs.Prelude.{ℕ, List, Option, Some, None, codes, decimal, length, if◌then◌else◌, nat_le}
use Rattle.std.specs.Str.{bytes_eq}
use Rattle.auction_terms.specs.Numbers.{number_of}
use Rattle.auction_terms.specs.Terms.{Terms}
use Rattle.auction_terms.specs.declared.limits.TheConstants.{MOST_BIDS, MOST_SESSIONS}
use Rattle.desk_book.specs.Calls.{bidder_called, change_named, digest_named, over_named}
use Rattle.desk_book.specs.Entries.{bids_with, change_over, commit_word, kind_word, name_word, sealed_of}
use Rattle.desk_book.specs.ReadEntries.{HeadParts}
use Rattle.desk_book.specs.Words.{number_or}
use Rattle.desk_book.specs.declared.asked.Asked.{Asked}
use Rattle.desk_book.specs.declared.asked.Asked.TheVariants as asked
use Rattle.desk_book.specs.declared.calls.Who.{Who}
use Rattle.desk_book.specs.inside.Then.{◌>>=◌}

-- a call with its sealed form at no place
abbrev pub plain : Asked → Asked
plain (asked.Submit who over commit bids sealed) = asked.Submit who over commit bids (record { ref_ptr = (0, 0); now = sealed.now })
plain (asked.Withdraw who over) = asked.Withdraw who over
plain (asked.Show who) = asked.Show who
plain (asked.Close time) = asked.Close time

module _ (rules : Terms) (h : HeadParts) where
  -- who makes it
  unfoldable pub who_of : Option Who
  who_of = do
    b ← bidder_called rules h.bidder
    s ← number_of h.session
    t ← if nat_le s MOST_SESSIONS then number_of h.time else None
    Some (record { bidder = b; session = s; time = t })

  -- the form that is handed in
  unfoldable pub submission_of : List ℕ → Option Asked
  submission_of sealed = do
    n ← number_of h.bids
    who ← if nat_le n MOST_BIDS then who_of else None
    o ← over_named h.over
    c ← digest_named h.commit
    Some (asked.Submit who o c n (record { ref_ptr = (0, 0); now = sealed }))

  unfoldable pub withdrawal_of : Option Asked
  withdrawal_of = do
    who ← who_of
    n ← change_named h.over
    Some (asked.Withdraw who n)

  unfoldable pub show_of : Option Asked
  show_of = do
    who ← who_of
    Some (asked.Show who)

  unfoldable pub close_of : Option Asked
  close_of = do
    t ← number_of h.time
    Some (asked.Close t)

  -- the call
  unfoldable pub call_of_entry : List ℕ → Option Asked
  call_of_entry sealed =
      if bytes_eq h.kind (codes "submit") then submission_of sealed
      else if bytes_eq h.kind (codes "withdraw") then withdrawal_of
      else if bytes_eq h.kind (codes "show") then show_of
      else if bytes_eq h.kind (codes "close") then close_of
      else None

-- the words of the head of an entry that is printed, with those of who makes the call
abbrev pub parts_with : ℕ → List ℕ → List ℕ → List ℕ → Asked → ℕ → HeadParts
parts_with n time bidder session a durable = record {
  entry = decimal n;
  time = time;
  bidder = bidder;
  session = session;
  kind = kind_word a;
  over = number_or (codes "-") (change_over a);
  commit = commit_word a;
  bids = decimal (bids_with a);
  sealed_len = length (sealed_of a);
  durable = decimal durable;
}

abbrev pub head_parts : Terms → ℕ → Asked → ℕ → HeadParts
head_parts rules n (asked.Submit who over commit bids sealed) durable =
    parts_with n (decimal who.time) (name_word rules who.bidder) (decimal who.session) (asked.Submit who over commit bids sealed) durable
head_parts rules n (asked.Withdraw who over) durable =
    parts_with n (decimal who.time) (name_word rules who.bidder) (decimal who.session) (asked.Withdraw who over) durable
head_parts rules n (asked.Show who) durable =
    parts_with n (decimal who.time) (name_word rules who.bidder) (decimal who.session) (asked.Show who) durable
head_parts rules n (asked.Close time) durable = parts_with n (decimal time) (codes "-") (codes "0") (asked.Close time) durable
