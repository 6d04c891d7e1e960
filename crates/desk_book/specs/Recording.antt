-- What is recorded of a call.
use Rattle.std.specs.Prelude.{ℕ, List, [], ◌∷◌, ◌≡◌, ◌<◌, ◌≤◌, ◌+◌, ◌-◌, ◌^◌, ◌++◌, ◌||◌, ⊤, Bool, true, Option, Some, None, IfSome, codes, length, nat_le, option_map}
use Rattle.std.specs.Str.{bytes_eq}
use Rattle.auction_terms.specs.Names.{is_name}
use Rattle.auction_terms.specs.Terms.{Terms}
use Rattle.auction_terms.specs.declared.limits.TheConstants.{MOST_BIDS}
use Rattle.bid_book.specs.History.{reply_due}
use Rattle.bid_book.specs.declared.call.Caller.{Caller}
use Rattle.bid_book.specs.declared.call.Caller.TheVariants as caller
use Rattle.bid_book.specs.declared.call.Call.{Call as BookCall}
use Rattle.bid_book.specs.declared.call.Call.TheVariants as book
use Rattle.bid_book.specs.declared.reply.Reply.{Reply}
use Rattle.bid_book.specs.declared.reply.Reply.TheVariants as reply
use Rattle.bid_book.specs.declared.standing.Standing.{Standing}
use Rattle.desk_book.specs.Asking.{MayBeAsked}
use Rattle.desk_book.specs.Entries.{answer_number, chain_after, entry_front, name_word, sealed_of, with_chain}
use Rattle.desk_book.specs.declared.answer.Answer.{Answer}
use Rattle.desk_book.specs.declared.answer.Answer.TheVariants as answer
use Rattle.desk_book.specs.declared.asked.Asked.{Asked}
use Rattle.desk_book.specs.declared.asked.Asked.TheVariants as asked
use Rattle.desk_book.specs.declared.calls.Call.{Call}
use Rattle.desk_book.specs.declared.calls.Call.TheVariants as call
use Rattle.desk_book.specs.declared.calls.Found.{Found}
use Rattle.desk_book.specs.declared.calls.Found.TheVariants as found
use Rattle.desk_book.specs.declared.commitment.Commitment.{Commitment}
use Rattle.desk_book.specs.declared.desk.Desk.{Desk}
use Rattle.desk_book.specs.declared.limits.TheConstants.{ENTRY_LEN, JOURNAL_LIMIT, LAST_ROOM}

-- who makes a call
abbrev pub made_by : Asked → Caller
made_by (asked.Submit who over commit bids sealed) = caller.Session who.bidder who.session
made_by (asked.Withdraw who over) = caller.Session who.bidder who.session
made_by (asked.Show who) = caller.Session who.bidder who.session
made_by (asked.Close time) = caller.Chair

-- the call that the book gets, as the entry of this number
abbrev pub book_call : ℕ → Asked → BookCall Commitment
book_call n (asked.Submit who over commit bids sealed) =
    book.Submit (record { bidder = who.bidder; bids = bids; entry = n; commit = commit }) over
book_call n (asked.Withdraw who over) = book.Withdraw over
book_call n (asked.Show who) = book.Show
book_call n (asked.Close time) = book.Close

-- what is recorded of a call whose form has so many bids
abbrev pub asked_by : Call → ℕ → Asked
asked_by (call.Submit s) bids = asked.Submit s.who s.over s.commit bids s.sealed
asked_by (call.Withdraw who over) bids = asked.Withdraw who over
asked_by (call.Show who) bids = asked.Show who
asked_by (call.Close time) bids = asked.Close time

-- a call whose form has no more bids than it may have may be asked
abbrev pub MayBeCalled : Terms → Call → Type 0
MayBeCalled rules c = (bids : ℕ) → bids ≤ MOST_BIDS → MayBeAsked rules (asked_by c bids)

-- of a whole call that was found, this holds
abbrev pub IfFound : Found → (Call → Type 0) → Type 0
IfFound (found.Whole call len) P = P call
IfFound found.Short P = ⊤
IfFound found.Wrong P = ⊤

-- the most bytes that a journal may have with the entry of a call
abbrev pub most_with : Asked → ℕ
most_with (asked.Submit who over commit bids sealed) = JOURNAL_LIMIT - LAST_ROOM
most_with (asked.Withdraw who over) = JOURNAL_LIMIT
most_with (asked.Show who) = JOURNAL_LIMIT - LAST_ROOM
most_with (asked.Close time) = JOURNAL_LIMIT

-- whether a journal of so many bytes has room for the entry of a call
abbrev pub has_room : ℕ → Asked → Bool
has_room extent a = nat_le (extent + length (sealed_of a) + ENTRY_LEN) (most_with a)

-- what the book answers, unless the caller has no call left
abbrev pub answer_in : Reply Commitment → Option Answer
answer_in (reply.Accepted n) = Some (answer.Accepted n)
answer_in (reply.Withdrawn n) = Some (answer.Withdrawn n)
answer_in (reply.Shown s) = Some (answer.Stands (option_map (λ (s : Standing Commitment). s.number) s))
answer_in (reply.Stale s) = Some (answer.Stale s)
answer_in (reply.Closed was_open) = Some answer.Closed
answer_in reply.RoundOver = Some answer.Over
answer_in reply.CallLimit = None

module _ {J : Type 0} (old : Desk J) (a : Asked) where
  -- the reply that the book owes
  abbrev pub reply_owed : Reply Commitment
  reply_owed = reply_due old.book (made_by a) (book_call (length old.book + 1) a)

  -- the answer of it
  abbrev pub answer_due : Option Answer
  answer_due = answer_in reply_owed

-- the name of a bidder, or a hyphen
abbrev pub is_maker_word : List ℕ → Bool
is_maker_word word = is_name word || bytes_eq word (codes "-")

-- the word for who makes a call is one
abbrev pub IsMakerNamed : Terms → Asked → Type 0
IsMakerNamed rules (asked.Submit who over commit bids sealed) = is_maker_word (name_word rules who.bidder) ≡ true
IsMakerNamed rules (asked.Withdraw who over) = is_maker_word (name_word rules who.bidder) ≡ true
IsMakerNamed rules (asked.Show who) = is_maker_word (name_word rules who.bidder) ≡ true
IsMakerNamed rules (asked.Close time) = ⊤

-- a call is recorded with the reply that it is due, and the journal is longer by its entry
pub record IsRecordedAs {J : Type 0} (old : Desk J) (a : Asked) (told : Answer) (text : List ℕ) (new : Desk J) : Type 0 where
  pub due : answer_due old a ≡ Some told
  pub may : MayBeAsked old.rules a
  pub named : IsMakerNamed old.rules a
  pub few : length old.book + 1 < 2 ^ 64
  pub number : IfSome (answer_number told) (λ n. n < 2 ^ 32)
  pub book : new.book ≡ old.book ++ record
      { caller = made_by a; call = book_call (length old.book + 1) a; reply = reply_owed old a } ∷ []
  pub text_is : text ≡ with_chain old.chain (entry_front old.rules (length old.book + 1) a told old.durable)
  pub chain : new.chain ≡ chain_after old.chain (entry_front old.rules (length old.book + 1) a told old.durable)
  pub extent : new.extent ≡ old.extent + length text
  pub durable : new.durable ≡ old.durable
  pub rules : new.rules ≡ old.rules
  pub rules_text : new.rules_text ≡ old.rules_text
  pub judge : new.judge ≡ old.judge
