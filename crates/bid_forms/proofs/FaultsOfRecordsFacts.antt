-- All faults of a form are those of its records.
use Rattle.std.proofs.Common.{ℕ, List, map, refl}
use Rattle.auction_terms.proofs.AcceptedFacts.{are-of-items}
use Rattle.auction_terms.specs.Accepted.{AreOfItems}
use Rattle.auction_terms.specs.Records.{Record}
use Rattle.auction_terms.specs.Terms.{Terms}
use Rattle.auction_terms.specs.declared.limits.TheConstants.{GREATEST_AMOUNT}
use Rattle.bid_forms.proofs.BidFacts.{bid-passes, passes-bid}
use Rattle.bid_forms.proofs.HeaderFacts.{header-passes, name-is}
use Rattle.bid_forms.specs.FaultsOfRecords.{FormFaultsAreOfRecords}
use Rattle.bid_forms.specs.FormText.{parsed_bid, record_faults}
use Rattle.bid_forms.specs.Offers.{eligibility_of}

-- whether a record has a fault doesn't hang on its number
pub records-are-of-items : (t : Terms) (eligibility : ℕ) → AreOfItems (record_faults t eligibility)
records-are-of-items t eligibility = are-of-items (record_faults t eligibility)
    (λ m n before r low none. passes-bid t eligibility m (map parsed_bid before) r (bid-passes t eligibility n (map parsed_bid before) r none))

pub of-records : (t : Terms) (name : List ℕ) (entries : List Record) → FormFaultsAreOfRecords t name entries
of-records t name entries =
    record {
      each = λ bidder f is. rw (header-passes t name, name-is t name, is) ((records-are-of-items t (eligibility_of t bidder)).each 2 entries f);
      none = λ bidder is. rw (header-passes t name, name-is t name, is) ((records-are-of-items t (eligibility_of t bidder)).none 2 entries);
      unknown = λ is. rw (header-passes t name, name-is t name, is, (records-are-of-items t GREATEST_AMOUNT).none 2 entries) refl;
    }
