-- Which calls may be recorded, by the texts and commitments that they bring.
use Rattle.std.specs.Prelude.{ℕ, List, ◌==◌, ◌-◌, not, Bool, Option, Some, None, Result, Ok, Err, false, if◌then◌else◌, length, nat_le, slice_get}
use Rattle.std.specs.Option.{option_map_or}
use Rattle.std.specs.Str.{bytes_eq}
use Rattle.auction_terms.specs.Records.{records_of}
use Rattle.auction_terms.specs.Terms.{Terms}
use Rattle.auction_terms.specs.declared.limits.TheConstants.{TEXT_LIMIT}
use Rattle.bid_forms.specs.FormText.{form_of_records}
use Rattle.bid_forms.specs.Offers.{Offers}
use Rattle.bid_forms.specs.declared.form_text.FormFault.{FormFault}
use Rattle.bid_forms.specs.declared.form_text.FormFault.TheVariants.{TooLarge}
use Rattle.bid_book.specs.History.{is_closed, standing_of}
use Rattle.bid_book.specs.declared.records.Entry.{Entry}
use Rattle.bid_book.specs.declared.standing.Standing.{Standing}
use Rattle.desk_book.specs.Digests.{commit}
use Rattle.desk_book.specs.declared.calls.Call.{Call}
use Rattle.desk_book.specs.declared.calls.Call.TheVariants.{Submit, Withdraw, Show, Close}
use Rattle.desk_book.specs.declared.calls.Submission.{Submission}
use Rattle.desk_book.specs.declared.commitment.Commitment.{Commitment}
use Rattle.desk_book.specs.declared.desk.Desk.{Desk}
use Rattle.desk_book.specs.declared.untaken.Untaken.{Untaken}
use Rattle.desk_book.specs.declared.untaken.Untaken.TheVariants as untaken

-- the form that a text describes
abbrev pub form_read : Terms → List ℕ → Result Offers FormFault
form_read rules text = if nat_le (length text) TEXT_LIMIT then form_of_records rules (records_of text) else Err TooLarge

-- whether the last line of a text has its end
abbrev pub ends_line : List ℕ → Bool
ends_line text = option_map_or (λ b. b == 10) (slice_get text (length text - 1)) false

-- why nothing is recorded of a call after the close
abbrev pub over_for : Call → Untaken
over_for (Submit s) = untaken.RoundOver
over_for (Withdraw who over) = untaken.RoundOver
over_for (Show who) = untaken.RoundOver
over_for (Close time) = untaken.ClosedBefore

-- the number and the entry of what stands, if it has this commitment
abbrev pub with_commit : List ℕ → Option (Standing Commitment) → Option (ℕ × ℕ)
with_commit c None = None
with_commit c (Some standing) = if bytes_eq standing.form.commit c then Some (standing.number, standing.form.entry) else None

abbrev pub standing_with : List (Entry Commitment) → ℕ → List ℕ → Option (ℕ × ℕ)
standing_with history bidder c = with_commit c (standing_of history bidder)

-- so many bids, unless the form stands already
abbrev pub bids_unless : Option (ℕ × ℕ) → ℕ → Result ℕ Untaken
bids_unless None bids = Ok bids
bids_unless (Some standing) bids = Err (untaken.Again standing.0 standing.1)

module _ {J : Type 0} (m : Desk J) where
  -- how many bids a form has, or why nothing is recorded of it
  abbrev pub judged_form : Submission → Offers → Result ℕ Untaken
  judged_form s form =
      if not (ends_line s.text.now) then Err untaken.NoLineEnd
      else if not (form.bidder == s.who.bidder) then Err (untaken.OtherBidder form.bidder)
      else bids_unless (standing_with m.book form.bidder s.commit) (length form.bids)

  -- the same of a text
  abbrev pub judged_text : Submission → Result Offers FormFault → Result ℕ Untaken
  judged_text s (Ok form) = judged_form s form
  judged_text s (Err fault) = Err untaken.Refused

  -- the same of a text and a commitment
  abbrev pub judged_submission : Submission → Result ℕ Untaken
  judged_submission s =
      if bytes_eq (commit s.salt s.text.now) s.commit then judged_text s (form_read m.rules s.text.now) else Err untaken.BadCommit

  -- the same of a call while the round is open
  abbrev pub judged_open : Call → Result ℕ Untaken
  judged_open (Submit s) = judged_submission s
  judged_open (Withdraw who over) = Ok 0
  judged_open (Show who) = Ok 0
  judged_open (Close time) = Ok 0

  -- the same of a call
  abbrev pub judged : Call → Result ℕ Untaken
  judged c = if is_closed m.book then Err (over_for c) else judged_open c
