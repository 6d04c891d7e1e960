-- The book that forms leave: of each bidder its last form.
use Rattle.std.specs.Prelude.{List, [], None, length, map}
use Rattle.std.specs.Option.{option_map_or}
use Rattle.std.specs.List.{last_or, range_with_len}
use Rattle.auction_input.specs.Submissions.{forms_of}
use Rattle.auction_terms.specs.Terms.{Terms, lots_in}
use Rattle.bid_forms.specs.Offers.{Offers}
use Rattle.bid_desk.specs.Sale.{Sale}

-- what is for sale, to whom, and what is bid: of each bidder, in order of the bidders' numbers, the bids in its last form
abbrev pub sale_left : Terms → List Offers → Sale
sale_left t forms = record {
  names = map (λ bidder. bidder.name) t.bidders;
  lots = lots_in t;
  book = map (λ bidder. option_map_or (λ (form : Offers). form.bids) (last_or None (forms_of bidder forms)) []) (range_with_len 1 (length t.bidders));
}
