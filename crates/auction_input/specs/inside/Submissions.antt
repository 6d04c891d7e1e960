-- The forms of the input: by bidder, as the bidders' threads submit them, and as the closed book holds them.
use Rattle.std.specs.Prelude.{◌≡◌, ◌≢◌, ◌∷◌, ◌++◌, ℕ, List, [], Result, Err, All, OnOk, map, slice_index_or, true}
use Rattle.std.specs.Arc.{arc_value}
use Rattle.std.specs.declared.alloc.Global.{Global}
use Rattle.std.specs.declared.sync.Arc.{Arc}
use Rattle.std.specs.declared.vec.Vec.{Vec}
use Rattle.auction_terms.specs.Terms.{Terms}
use Rattle.bid_desk.specs.Closing.{Closing}
use Rattle.bid_desk.specs.Holding.{SessionOwn}
use Rattle.bid_forms.specs.Offers.{Meets, Offers}
use Rattle.auction_input.specs.Submissions.{AreAccepted, AreSubmitted, forms_of}
use Rattle.auction_input.specs.declared.round.RoundFault.TheVariants.{WrongAnswer}
use Rattle.auction_input.specs.declared.round.RoundFault.{RoundFault}
use Rattle.bid_book.specs.declared.call.Call.TheVariants.{Close}
use Rattle.bid_book.specs.declared.call.Call.{Call}
use Rattle.bid_book.specs.declared.reply.Reply.TheVariants.{Closed}
use Rattle.bid_book.specs.declared.reply.Reply.{Reply}

-- a form of this bidder that meets the rules
pub record IsFormOf (t : Terms) (bidder : ℕ) (form : Offers) : Type 0 where
  pub bidder_is : form.bidder ≡ bidder
  pub meets : Meets t form

-- all of these forms are of this bidder and meet the rules
abbrev pub AreFormsOf : Terms → ℕ → List Offers → Type 0
AreFormsOf t bidder forms = All (IsFormOf t bidder) forms

-- the forms out of their shares
abbrev pub form_values : List (Arc Offers Global) → List Offers
form_values forms = map (λ (form : Arc Offers Global). arc_value form) forms

-- the forms of each bidder, as they are submitted
abbrev pub FormLists : Type 0
FormLists = List (Vec (Arc Offers Global) Global)

-- the forms in list b of these, out of their shares; where there is no list, none
abbrev pub forms_in : FormLists → ℕ → List Offers
forms_in lists b = slice_index_or (map (λ (list : Vec (Arc Offers Global) Global). form_values list.items) lists) b []

-- list b has the forms of bidder b among these, in order
abbrev pub AreByBidder : List Offers → FormLists → Type 0
AreByBidder forms lists = (b : ℕ) → forms_in lists b ≡ forms_of b forms

-- each list has grown by this form, if it is of its bidder
abbrev pub HaveOneMore : Offers → FormLists → FormLists → Type 0
HaveOneMore form lists lists' = (b : ℕ) → forms_in lists' b ≡ forms_in lists b ++ forms_of b (form ∷ [])

-- a session, and the forms that it is to submit
pub record JobOwn : Type 0 where
  pub session : SessionOwn
  pub forms : List Offers

-- a first session, with the forms in the list of its bidder
pub record IsFirstJob (lists : FormLists) (job : JobOwn) : Type 0 where
  pub first : job.session.session ≡ 1
  pub forms : job.forms ≡ forms_in lists job.session.bidder

-- what a job came to: its session submitted its forms, in order, each accepted, unless it ended in a fault; where that is a wrong answer,
-- the session's own calls show that not each was
pub record ComesTo (job : JobOwn) (session : SessionOwn) (ended : Result (Unit {0}) RoundFault) : Type 0 where
  pub bidder_is : session.bidder ≡ job.session.bidder
  pub session_is : session.session ≡ job.session.session
  pub accepted : OnOk ended (AreAccepted job.forms session.pairs)
  pub wrong : ended ≡ Err WrongAnswer → ¬ (AreAccepted job.forms session.pairs)

-- a session that made no call; if it is a first one, the list of its bidder is empty
pub record IsIdle (lists : FormLists) (session : SessionOwn) : Type 0 where
  pub fresh : session.pairs ≡ []
  pub none : session.session ≡ 1 → forms_in lists session.bidder ≡ []

-- a session's calls, if it is its bidder's first one: submissions of the bidder's forms, in order, each accepted; of any other session none
pub record HasSubmitted (forms : List Offers) (session : SessionOwn) : Type 0 where
  pub first : session.session ≡ 1 → AreAccepted (forms_of session.bidder forms) session.pairs
  pub other : session.session ≢ 1 → session.pairs ≡ []

-- sessions have submitted the forms that these lists have by bidder
abbrev pub HaveSubmitted : FormLists → List SessionOwn → Type 0
HaveSubmitted lists sessions = (forms : List Offers) → AreByBidder forms lists → All (HasSubmitted forms) sessions

-- the forms that these lists have by bidder are submitted in a closed book
abbrev pub HoldsLists : FormLists → Closing → Type 0
HoldsLists lists book = (forms : List Offers) → AreByBidder forms lists → AreSubmitted forms book

-- the chair has closed a round that was open
abbrev pub HasClosed : List (Call Offers × Reply Offers) → List (Call Offers × Reply Offers) → Type 0
HasClosed own own' = own' ≡ own ++ (Close, Closed true) ∷ []
