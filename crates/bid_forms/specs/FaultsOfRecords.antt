-- What all faults of a text of a form are.
use Rattle.std.specs.Prelude.{◌≡◌, ◌↔◌, ℕ, List, [], ◌∷◌, None, Some, codes}
use Rattle.std.specs.List.{Contains}
use Rattle.auction_terms.specs.Accepted.{IsOfItem, accepted_of}
use Rattle.auction_terms.specs.Judged.{Fault, fault_at}
use Rattle.auction_terms.specs.Records.{Record}
use Rattle.auction_terms.specs.Terms.{Terms}
use Rattle.auction_terms.specs.declared.limits.TheConstants.{GREATEST_AMOUNT}
use Rattle.bid_forms.specs.AcceptedForms.{header_of}
use Rattle.bid_forms.specs.FormText.{form_faults, named_bidder, record_faults}
use Rattle.bid_forms.specs.Offers.{eligibility_of}
use Rattle.bid_forms.specs.declared.form_text.FormFault.{FormFault}
use Rattle.bid_forms.specs.declared.form_text.FormFault.TheVariants as fault

-- the records after a header, of a bidder with this eligibility, without those that have a fault
abbrev pub accepted_bids : Terms → ℕ → List Record → List Record
accepted_bids t eligibility entries = accepted_of (record_faults t eligibility) 2 [] entries

-- of a bidder's form each fault is a record's by the accepted ones before it, and the accepted ones alone have none. Of a form of an
-- unknown bidder the header's is left
pub record FormFaultsAreOfRecords (t : Terms) (name : List ℕ) (entries : List Record) : Type 0 where
  pub each : (bidder : ℕ) (f : Fault FormFault) → named_bidder t name ≡ Some bidder
      → Contains (form_faults t (header_of t name ∷ entries)) f ↔ IsOfItem (record_faults t (eligibility_of t bidder)) 2 entries f
  pub none : (bidder : ℕ) → named_bidder t name ≡ Some bidder
      → form_faults t (header_of t name ∷ accepted_bids t (eligibility_of t bidder) entries) ≡ []
  pub unknown : named_bidder t name ≡ None
      → form_faults t (header_of t name ∷ accepted_bids t GREATEST_AMOUNT entries)
      ≡ fault_at 1 name (fault.UnknownBidder 1) (codes "is no bidder's name") ∷ []
