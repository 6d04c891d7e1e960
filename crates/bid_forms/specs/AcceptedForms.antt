-- A text of a form that is accepted, and the form that it describes: a header with a bidder's name and the names of the categories, and
-- after it at most as many records as there may be bids, each an amount and a quantity for each category that the rules allow together, of
-- which no record before has the same quantities.
use Rattle.std.specs.Prelude.{◌≡◌, ◌≢◌, ◌<◌, ◌+◌, ℕ, List, ◌∷◌, All, IsTrue, Some, length, map}
use Rattle.std.specs.List.{list_all}
use Rattle.auction_terms.specs.AcceptedGroups.{Each}
use Rattle.auction_terms.specs.Records.{Record}
use Rattle.auction_terms.specs.Terms.{Terms}
use Rattle.auction_terms.specs.declared.bids.Bid.{Bid}
use Rattle.auction_terms.specs.declared.limits.TheConstants.{MOST_BIDS}
use Rattle.bid_forms.specs.FormText.{is_number_text, named_bidder, parsed_bid}
use Rattle.bid_forms.specs.Offers.{Offers, eligibility_of, is_bid_under}

-- the header of a form of the bidder with this name
abbrev pub header_of : Terms → List ℕ → Record
header_of t name = name ∷ map (λ category. category.name) t.categories

-- a record that describes a bid, after these: numbers alone, whose bid the rules allow a bidder with this eligibility
pub record IsBidRecord (t : Terms) (eligibility : ℕ) (before : List Bid) (r : Record) : Type 0 where
  pub fields : length r ≡ length t.categories + 1
  pub numbers : IsTrue (list_all is_number_text r)
  pub allowed : IsTrue (is_bid_under t eligibility (parsed_bid r))
  pub new : All (λ bid. bid.package ≢ (parsed_bid r).package) before
  pub room : length before < MOST_BIDS

-- the records of a text describe this form
pub record Describe (t : Terms) (records : List Record) (form : Offers) : Type 0 where
  pub name : List ℕ
  pub entries : List Record
  pub records_are : records ≡ header_of t name ∷ entries
  pub bidder : named_bidder t name ≡ Some form.bidder
  pub bids : form.bids ≡ map parsed_bid entries
  pub each : Each (λ before r. IsBidRecord t (eligibility_of t form.bidder) (map parsed_bid before) r) entries
