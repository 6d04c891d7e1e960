-- The entries of a journal, as text.
use Rattle.std.specs.Prelude.{ℕ, List, [], ◌∷◌, ◌-◌, ◌++◌, Option, Some, None, codes, decimal, if◌then◌else◌, length, nat_le, slice_get}
use Rattle.std.specs.Option.{option_map_or}
use Rattle.auction_terms.specs.Terms.{Terms}
use Rattle.auction_terms.specs.declared.rules.Bidder.{Bidder}
use Rattle.desk_book.specs.Digests.{sha_digits}
use Rattle.desk_book.specs.Words.{number_or, spaced}
use Rattle.desk_book.specs.declared.answer.Answer.{Answer}
use Rattle.desk_book.specs.declared.answer.Answer.TheVariants as answer
use Rattle.desk_book.specs.declared.asked.Asked.{Asked}
use Rattle.desk_book.specs.declared.asked.Asked.TheVariants as asked
use Rattle.desk_book.specs.declared.calls.Who.{Who}

-- the name of a bidder
abbrev pub name_word : Terms → ℕ → List ℕ
name_word rules bidder = option_map_or (λ (b : Bidder). b.name) (if nat_le 1 bidder then slice_get rules.bidders (bidder - 1) else None) (codes "-")

-- who makes a call, and when
abbrev pub who_words : Terms → Who → List (List ℕ)
who_words rules who = decimal who.time ∷ name_word rules who.bidder ∷ decimal who.session ∷ []

-- who makes a call that may be recorded, and when; a close is nobody's
abbrev pub maker_words : Terms → Asked → List (List ℕ)
maker_words rules (asked.Submit who over commit bids sealed) = who_words rules who
maker_words rules (asked.Withdraw who over) = who_words rules who
maker_words rules (asked.Show who) = who_words rules who
maker_words rules (asked.Close time) = decimal time ∷ codes "-" ∷ codes "0" ∷ []

-- what it asks for
abbrev pub kind_word : Asked → List ℕ
kind_word (asked.Submit who over commit bids sealed) = codes "submit"
kind_word (asked.Withdraw who over) = codes "withdraw"
kind_word (asked.Show who) = codes "show"
kind_word (asked.Close time) = codes "close"

-- the change that it is made over
abbrev pub change_over : Asked → Option ℕ
change_over (asked.Submit who over commit bids sealed) = over
change_over (asked.Withdraw who over) = Some over
change_over (asked.Show who) = None
change_over (asked.Close time) = None

-- the commitment that it brings
abbrev pub commit_word : Asked → List ℕ
commit_word (asked.Submit who over commit bids sealed) = commit
commit_word (asked.Withdraw who over) = codes "-"
commit_word (asked.Show who) = codes "-"
commit_word (asked.Close time) = codes "-"

-- how many bids its form has
abbrev pub bids_with : Asked → ℕ
bids_with (asked.Submit who over commit bids sealed) = bids
bids_with (asked.Withdraw who over) = 0
bids_with (asked.Show who) = 0
bids_with (asked.Close time) = 0

-- what is asked
abbrev pub call_words : Asked → List (List ℕ)
call_words a = kind_word a ∷ number_or (codes "-") (change_over a) ∷ commit_word a ∷ decimal (bids_with a) ∷ []

-- the sealed form, where one is handed in
abbrev pub sealed_of : Asked → List ℕ
sealed_of (asked.Submit who over commit bids sealed) = sealed.now
sealed_of (asked.Withdraw who over) = []
sealed_of (asked.Show who) = []
sealed_of (asked.Close time) = []

-- what was done, in a word
abbrev pub answer_word : Answer → List ℕ
answer_word (answer.Accepted n) = codes "accepted"
answer_word (answer.Withdrawn n) = codes "withdrawn"
answer_word (answer.Stands n) = codes "stands"
answer_word (answer.Stale n) = codes "stale"
answer_word answer.Closed = codes "closed"
answer_word answer.Over = codes "over"

-- the number of the change that was made, or that stands
abbrev pub answer_number : Answer → Option ℕ
answer_number (answer.Accepted n) = Some n
answer_number (answer.Withdrawn n) = Some n
answer_number (answer.Stands n) = n
answer_number (answer.Stale n) = n
answer_number answer.Closed = None
answer_number answer.Over = None

-- the head line of an entry, when so many bytes of the journal are on the disk
abbrev pub entry_head : Terms → ℕ → Asked → ℕ → List ℕ
entry_head rules n a durable =
    codes "%call" ++ 32 ∷ decimal n ++ spaced (maker_words rules a) ++ spaced (call_words a) ++ 32 ∷ decimal (length (sealed_of a)) ++ 32 ∷ decimal durable ++ 10 ∷ []

-- what is behind the sealed form, up to the chain
abbrev pub entry_tail : Answer → List ℕ
entry_tail told = codes "\n%reply" ++ 32 ∷ answer_word told ++ 32 ∷ number_or (codes "-") (answer_number told) ++ 32 ∷ []

-- an entry up to its chain
abbrev pub entry_front : Terms → ℕ → Asked → Answer → ℕ → List ℕ
entry_front rules n a told durable = entry_head rules n a durable ++ sealed_of a ++ entry_tail told

-- the chain's end with an entry: the digest of the end before it and of what is before its own
abbrev pub chain_after : List ℕ → List ℕ → List ℕ
chain_after chain front = sha_digits (chain ++ front)

-- an entry with its chain
abbrev pub with_chain : List ℕ → List ℕ → List ℕ
with_chain chain front = front ++ chain_after chain front ++ 10 ∷ []
