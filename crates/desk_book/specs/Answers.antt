-- What a desk makes of calls.
use Rattle.std.specs.Prelude.{ℕ, List, [], ◌≡◌, ◌⊎◌, Option, Some, None, Result, Ok, Err, if◌then◌else◌, length}
use Rattle.desk_line.specs.declared.machine.Front.{Front}
use Rattle.desk_book.specs.Calls.{Whole, call_at, front_of, meant}
use Rattle.desk_book.specs.Judging.{judged}
use Rattle.desk_book.specs.Recording.{IsRecordedAs, answer_due, asked_by, has_room}
use Rattle.desk_book.specs.Replies.{taken_line, untaken_line}
use Rattle.desk_book.specs.declared.answer.Answer.{Answer}
use Rattle.desk_book.specs.declared.asked.Asked.{Asked}
use Rattle.desk_book.specs.declared.calls.Call.{Call}
use Rattle.desk_book.specs.declared.desk.Desk.{Desk}
use Rattle.desk_book.specs.declared.untaken.Untaken.{Untaken}
use Rattle.desk_book.specs.declared.untaken.Untaken.TheVariants as untaken

-- no call is left, if the book has no answer
abbrev pub limit_if : Option Answer → Option Untaken
limit_if None = Some untaken.CallLimit
limit_if (Some told) = None

module _ {J : Type 0} (m : Desk J) where
  -- why a call isn't recorded of which this may be: the journal has no room for it, or the bidder has no call left
  abbrev pub no_room : Asked → Option Untaken
  no_room a = if has_room m.extent a then limit_if (answer_due m a) else Some untaken.DiskFull

  abbrev pub untaken_as : Call → Result ℕ Untaken → Option Untaken
  untaken_as c (Ok bids) = no_room (asked_by c bids)
  untaken_as c (Err why) = Some why

  -- why nothing is recorded of a call, if nothing is
  abbrev pub untaken_of : Call → Option Untaken
  untaken_of c = untaken_as c (judged m c)

-- nothing is recorded of a call, and it is told why
pub record IsCallUntaken {J : Type 0} (faults : J → List ℕ → List ℕ → List ℕ) (m : Desk J) (c : Call) (line : List ℕ) (n : Desk J) : Type 0 where
  pub why : Untaken
  pub due : untaken_of m c ≡ Some why
  pub line_is : line ≡ untaken_line faults m c why
  pub same : n ≡ m

-- a call is recorded, and is told the answer
pub record IsCallTaken {J : Type 0} (m : Desk J) (c : Call) (line entry : List ℕ) (n : Desk J) : Type 0 where
  pub bids : ℕ
  pub told : Answer
  pub due : untaken_of m c ≡ None
  pub fit : judged m c ≡ Ok bids
  pub recorded : IsRecordedAs m (asked_by c bids) told entry n
  pub line_is : line ≡ taken_line (length n.book) c bids told n.chain

-- a call is answered: nothing is recorded of it, or it is recorded
abbrev pub IsTold : {J : Type 0} → (J → List ℕ → List ℕ → List ℕ) → Desk J → Call → List ℕ → List ℕ → Desk J → Type 0
IsTold faults m c line entry n = ((entry ≡ []) × IsCallUntaken faults m c line n) ⊎ IsCallTaken m c line entry n

-- what stands at the front of bytes
abbrev pub IsDeskFront : {J : Type 0} → Desk J → List ℕ → Front → Type 0
IsDeskFront m bytes f = f ≡ front_of (call_at m.rules bytes)

-- the whole call that stands in bytes is answered
pub record IsDeskAnswer {J : Type 0} (faults : J → List ℕ → List ℕ → List ℕ) (m : Desk J) (bytes reply entry : List ℕ) (n : Desk J) : Type 0 where
  pub call : Call
  pub stands : call_at m.rules bytes ≡ Whole (meant call) (length bytes)
  pub told : IsTold faults m call reply entry n

-- the state in which all that is in the journal is on the disk
abbrev pub all_durable : {J : Type 0} → Desk J → Desk J
all_durable m = record m { durable = m.extent }
