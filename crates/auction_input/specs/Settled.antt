-- What an input leaves: an auction that is settled, or the first refusal.
use Rattle.std.specs.Prelude.{◌≡◌, ◌⊎◌, List, Ok}
use Rattle.auction_input.specs.Auction.{Auction, parsed_auction}
use Rattle.auction_terms.specs.Lines.{bytes_of}
use Rattle.auction_input.specs.Described.{HasForms}
use Rattle.auction_input.specs.Input.{Input}
use Rattle.auction_input.specs.Refused.{Refuses}
use Rattle.auction_input.specs.Submissions.{AreSubmitted}
use Rattle.auction_input.specs.declared.auction.Auction as declared
use Rattle.auction_input.specs.declared.refusal.Refusal.TheVariants as refusal
use Rattle.auction_input.specs.declared.refusal.Refusal.{Refusal}
use Rattle.auction_input.specs.Requests.{ReadsAuction}
use Rattle.auction_input.specs.declared.request.Request.{Request}
use Rattle.auction_input.specs.declared.round.RoundFault.TheVariants as round
use Rattle.bid_desk.specs.Closing.{Closing}
use Rattle.bid_forms.specs.Offers.{Offers}
use Rattle.bid_desk.specs.Sale.{sale_of}

-- what an auction that is settled holds
abbrev pub held : declared.Auction → Auction
held auction = record {
  rules = auction.book.rules;
  sale = sale_of auction.book;
  form_bidders = auction.form_bidders.items;
  groups =
      auction.groups;
  solutions = bytes_of auction.solutions.items;
  certificates = bytes_of auction.certificates.items;
  uniques = bytes_of
      auction.uniques.items;
  ties = bytes_of auction.ties.items;
  prices = bytes_of auction.prices.items;
  covers = bytes_of
      auction.covers.items;
  rule_texts = bytes_of auction.rule_texts.items;
}

-- the auction, if the request reads one, is accepted, and yet a wrong answer of the desk is reported: that it
-- gave one isn't said, since nothing is known of what a lock gives
abbrev pub IsUnsettled : Request → Input → Refusal → Type 0
IsUnsettled asked input r = ReadsAuction asked × (auction : Auction) × (parsed_auction asked input ≡ Ok auction) × (r ≡ refusal.Round round.WrongAnswer)

-- why an input leaves no settled auction
abbrev pub RefusesAuction : Request → Input → Refusal → Type 0
RefusesAuction asked input r = Refuses (parsed_auction asked input) r ⊎ IsUnsettled asked input r

-- a book holds the forms of an input, which were submitted in their order under its rules
pub record HoldsForms (input : Input) (book : Closing) : Type 0 where
  pub forms : List Offers
  pub forms_are : HasForms book.rules input forms
  pub submitted : AreSubmitted forms book
