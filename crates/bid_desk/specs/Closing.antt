-- A settled round: its rules and its history, and the forms that it leaves standing.
use Rattle.std.specs.Prelude.{ℕ, ◌≡◌, true, List, [], Option, None, Some, length, map, All}
use Rattle.std.specs.Option.{option_map, option_map_or}
use Rattle.std.specs.List.{range_with_len}
use Rattle.auction_terms.specs.Terms.{AreTerms, Terms}
use Rattle.auction_terms.specs.declared.bids.Bid.{Bid}
use Rattle.bid_forms.specs.Offers.{Offers}
use Rattle.bid_book.specs.declared.records.Entry.{Entry}
use Rattle.bid_book.specs.declared.standing.Standing.{Standing}
use Rattle.bid_book.specs.History.{IsLegalHistory, is_closed, standing_of}
use Rattle.bid_desk.specs.Holding.{IsEntryOf}

-- a closed book: the rules and the settled history
pub record Closing : Type 0 where
  pub rules : Terms
  pub history : List (Entry Offers)

-- the closed book of these rules and this history
abbrev pub closing : Terms → List (Entry Offers) → Closing
closing rules history = record { rules = rules; history = history }

-- the bids of a form, and none if there is no form
abbrev pub bids_in : Option Offers → List Bid
bids_in form = option_map_or (λ (o : Offers). o.bids) form []

-- the form that a bidder leaves standing
abbrev pub form_standing : List (Entry Offers) → ℕ → Option Offers
form_standing history bidder = option_map (λ (s : Standing Offers). s.form) (standing_of history bidder)

-- the bids that each bidder of the rules leaves standing, in order of the bidders' numbers
abbrev pub book_of : Closing → List (List Bid)
book_of c = map (λ bidder. bids_in (form_standing c.history bidder)) (range_with_len 1 (length c.rules.bidders))

-- a history of these rules that has come to its end
pub record IsClosing (c : Closing) : Type 0 where
  pub terms : AreTerms c.rules
  pub legal : IsLegalHistory c.history
  pub closed : is_closed c.history ≡ true
  pub entries : All (IsEntryOf c.rules) c.history
