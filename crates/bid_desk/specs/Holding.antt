-- What is held under the lock, and what sessions and the chair keep of their own.
use Rattle.std.specs.Prelude.{ℕ, ◌+◌, ◌≡◌, List, [], ◌∷◌, ◌++◌, ⊤, All}
use Rattle.std.specs.declared.sync.Arc.{Arc}
use Rattle.auction_terms.specs.Terms.{Terms}
use Rattle.bid_forms.specs.Offers.{Offers, Meets}
use Rattle.bid_book.specs.declared.call.Caller.{Caller}
use Rattle.bid_book.specs.declared.call.Caller.TheVariants.{Session, Chair}
use Rattle.bid_book.specs.declared.call.Call.{Call}
use Rattle.bid_book.specs.declared.call.Call.TheVariants.{Submit}
use Rattle.bid_book.specs.declared.reply.Reply.{Reply}
use Rattle.bid_book.specs.declared.records.Entry.{Entry}
use Rattle.bid_book.specs.History.{call_value, reply_value}
use Rattle.bid_desk.specs.Sessions.{IsSessionOf}

-- a call and its reply, with the forms out of their shares
abbrev pub pair_value : {X Z : Type 0} → Call (Arc X Z) × Reply (Arc X Z) → Call X × Reply X
pair_value p = (call_value p.0, reply_value p.1)

-- a session: who it is, its calls with their replies, and its share of the count of entries
pub record SessionOwn : Type 0 where
  pub bidder : ℕ
  pub session : ℕ
  pub pairs : List (Call Offers × Reply Offers)
  pub share : ℕ

-- the chair: its calls with their replies, and its share of the count of entries
pub record ChairOwn : Type 0 where
  pub pairs : List (Call Offers × Reply Offers)
  pub share : ℕ

-- what is held: the history, and the count of its entries
pub record Holding : Type 0 where
  pub history : List (Entry Offers)
  pub count : ℕ

-- a session of the rules, or the chair
abbrev pub IsCallerOf : Terms → Caller → Type 0
IsCallerOf t (Session b s) = IsSessionOf t b s
IsCallerOf t Chair = ⊤

-- a submitted form meets the rules
abbrev pub CallMeets : Terms → Call Offers → Type 0
CallMeets t (Submit form over) = Meets t form
CallMeets t _ = ⊤

-- an entry of a desk with these rules
pub record IsEntryOf (t : Terms) (e : Entry Offers) : Type 0 where
  pub caller : IsCallerOf t e.caller
  pub form : CallMeets t e.call

-- an entry more is held, and its caller keeps the same pair: both lists and both counts grow by it
pub record IsRecorded (before after : Holding) (caller : Caller) (own own' : List (Call Offers × Reply Offers)) (share share' : ℕ)
    (call : Call Offers) (reply : Reply Offers) : Type 0 where
  pub history : after.history ≡ before.history ++ record { caller = caller; call = call; reply = reply } ∷ []
  pub count : after.count ≡ before.count + 1
  pub own_is : own' ≡ own ++ (call, reply) ∷ []
  pub share_is : share' ≡ share + 1

-- the caller that a session is: its bidder and its number
abbrev pub caller_of : SessionOwn → Caller
caller_of s = Session s.bidder s.session

-- a call of a session and its reply are recorded in the history, and in the session's own list
abbrev pub IsRecordedBy : Holding → Holding → SessionOwn → SessionOwn → Call Offers → Reply Offers → Type 0
IsRecordedBy before after session session' call reply =
    IsRecorded before after (caller_of session) session.pairs session'.pairs session.share session'.share call reply

-- a call of the chair and its reply are recorded in the history, and in the chair's own list
abbrev pub IsRecordedByChair : Holding → Holding → ChairOwn → ChairOwn → Call Offers → Reply Offers → Type 0
IsRecordedByChair before after chair chair' call reply = IsRecorded before after Chair chair.pairs chair'.pairs chair.share chair'.share call reply
