-- The forms of the input: by bidder, as the bidders' threads submit them, and as the closed book holds them.
use Rattle.std.specs.Prelude.{◌≡◌, ◌≢◌, ◌≤◌, ◌==◌, ℕ, List, [], Option, None, filter, length}
use Rattle.std.specs.List.{AllZip, last_or}
use Rattle.bid_book.specs.History.{own_pairs}
use Rattle.bid_book.specs.declared.call.Call.TheVariants.{Submit}
use Rattle.bid_book.specs.declared.call.Call.{Call}
use Rattle.bid_book.specs.declared.call.Caller.TheVariants.{Session}
use Rattle.bid_book.specs.declared.reply.Reply.TheVariants.{Accepted}
use Rattle.bid_book.specs.declared.reply.Reply.{Reply}
use Rattle.bid_desk.specs.Closing.{Closing, form_standing}
use Rattle.bid_desk.specs.Sessions.{IsSessionOf}
use Rattle.bid_forms.specs.Offers.{Offers}

-- the forms of a bidder among these, in order
abbrev pub forms_of : ℕ → List Offers → List Offers
forms_of bidder forms = filter (λ (form : Offers). form.bidder == bidder) forms

-- a form was submitted, over whatever number stood, and accepted
abbrev pub IsAccepted : Offers → Call Offers × Reply Offers → Type 0
IsAccepted form pair = (over : Option ℕ) × (number : ℕ) × (pair ≡ (Submit form over, Accepted number))

-- submissions of just these forms, in order, each accepted
abbrev pub AreAccepted : List Offers → List (Call Offers × Reply Offers) → Type 0
AreAccepted forms pairs = AllZip IsAccepted forms pairs

-- each bidder's first session submitted its forms in their order, and nothing else was called by any session; and so the last form of each bidder stands
pub record AreSubmitted (forms : List Offers) (book : Closing) : Type 0 where
  pub first : (b : ℕ) → IsSessionOf book.rules b 1 → AreAccepted (forms_of b forms) (own_pairs book.history (Session b 1))
  pub others : (b s : ℕ) → IsSessionOf book.rules b s → s ≢ 1 → own_pairs book.history (Session b s) ≡ []
  pub standing : (b : ℕ) → 1 ≤ b → b ≤ length book.rules.bidders → form_standing book.history b ≡ last_or None (forms_of b forms)
