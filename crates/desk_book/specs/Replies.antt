-- The lines of replies.
use Rattle.std.specs.Prelude.{ℕ, List, [], ◌∷◌, ◌++◌, ◌==◌, codes, decimal, filter, length}
use Rattle.auction_terms.specs.Terms.{Terms}
use Rattle.desk_book.specs.Digests.{sha_digits}
use Rattle.desk_book.specs.Entries.{answer_word, name_word}
use Rattle.desk_book.specs.Words.{number_or, spaced}
use Rattle.desk_book.specs.declared.answer.Answer.{Answer}
use Rattle.desk_book.specs.declared.answer.Answer.TheVariants as answer
use Rattle.desk_book.specs.declared.calls.Call.{Call}
use Rattle.desk_book.specs.declared.calls.Call.TheVariants as call
use Rattle.desk_book.specs.declared.desk.Desk.{Desk}
use Rattle.desk_book.specs.declared.untaken.Untaken.{Untaken}
use Rattle.desk_book.specs.declared.untaken.Untaken.TheVariants as untaken

-- the number of the change, unless it is a close
abbrev pub change_words : Answer → List (List ℕ)
change_words (answer.Accepted n) = decimal n ∷ []
change_words (answer.Withdrawn n) = decimal n ∷ []
change_words (answer.Stands n) = number_or (codes "none") n ∷ []
change_words (answer.Stale n) = number_or (codes "none") n ∷ []
change_words answer.Closed = []
change_words answer.Over = []

-- of an accepted form, how many bids it has, and its digest
abbrev pub form_words : Call → ℕ → Answer → List (List ℕ)
form_words (call.Submit s) bids (answer.Accepted n) = decimal bids ∷ sha_digits s.text.now ∷ []
form_words _ bids _ = []

-- the line of a call that is recorded as the entry of this number
abbrev pub taken_line : ℕ → Call → ℕ → Answer → List ℕ → List ℕ
taken_line n c bids told chain =
    decimal n ++ 32 ∷ answer_word told ++ spaced (change_words told) ++ spaced (form_words c bids told) ++ 32 ∷ chain ++ 10 ∷ []

-- the text that a call hands in
abbrev pub text_in : Call → List ℕ
text_in (call.Submit s) = s.text.now
text_in (call.Withdraw who over) = []
text_in (call.Show who) = []
text_in (call.Close time) = []

-- how many lines these are
abbrev pub line_count : List ℕ → ℕ
line_count bytes = length (filter (λ b. b == 10) bytes)

-- the lines that tell the faults of a form, with their number before them
abbrev pub refused_line : List ℕ → List ℕ
refused_line lines = codes "- refused" ++ 32 ∷ decimal (line_count lines) ++ 10 ∷ lines

-- the line of a form that another bidder's name is in
abbrev pub other_line : Terms → ℕ → List ℕ
other_line rules bidder = codes "- other-bidder" ++ 32 ∷ name_word rules bidder ++ 10 ∷ []

-- the line of the form that stands already
abbrev pub again_line : ℕ → ℕ → List ℕ
again_line number entry = codes "- again" ++ 32 ∷ decimal number ++ 32 ∷ decimal entry ++ 10 ∷ []

-- the lines that tell why nothing is recorded of a call; the faults of a form are those that the judge tells of rules and text
abbrev pub untaken_line : {J : Type 0} → (J → List ℕ → List ℕ → List ℕ) → Desk J → Call → Untaken → List ℕ
untaken_line faults m c untaken.RoundOver = codes "- round over\n"
untaken_line faults m c untaken.ClosedBefore = codes "- closed before\n"
untaken_line faults m c untaken.BadCommit = codes "- bad-commit\n"
untaken_line faults m c untaken.Refused = refused_line (faults m.judge m.rules_text.items (text_in c))
untaken_line faults m c untaken.NoLineEnd = codes "- no line end\n"
untaken_line faults m c (untaken.OtherBidder bidder) = other_line m.rules bidder
untaken_line faults m c (untaken.Again number entry) = again_line number entry
untaken_line faults m c untaken.DiskFull = codes "- disk full\n"
untaken_line faults m c untaken.CallLimit = codes "- call limit\n"
