-- What a reader of forms finds: an amount, where it is right; the bids of the records without a fault; and all faults, or, where one is
-- wanted, the first of them.
use Rattle.std.specs.Prelude.{◌≡◌, ◌≢◌, ◌≤◌, ◌++◌, ℕ, List, [], Option, None, Some, All as Each, IsTrue, if◌then◌else◌, is_none, length}
use Rattle.auction_terms.specs.FirstFault.{first_failed}
use Rattle.auction_terms.specs.Judged.{Fault, HoldsMore, fault_of}
use Rattle.auction_terms.specs.Records.{Record}
use Rattle.auction_terms.specs.RulesText.{field_number}
use Rattle.auction_terms.specs.Terms.{Terms}
use Rattle.auction_terms.specs.declared.bids.Bid.{Bid}
use Rattle.auction_terms.specs.declared.judge.All.{All}
use Rattle.auction_terms.specs.declared.limits.TheConstants.{MOST_BIDS}
use Rattle.bid_forms.specs.FormText.{amount_checks, reserve_checks}
use Rattle.bid_forms.specs.Offers.{PackagesDiffer, is_bid_under}
use Rattle.bid_forms.specs.declared.form_text.FormFault.{FormFault}

-- this is the amount of a record, where it has no fault
abbrev pub IsAmountOf : ℕ → ℕ → Record → Option ℕ → Type 0
IsAmountOf step place r None = first_failed (amount_checks step place r) ≢ None
IsAmountOf step place r (Some amount) = (first_failed (amount_checks step place r) ≡ None) × (amount ≡ field_number 1 r)

-- the fault of an amount that is right, and below the reserve of these lots
abbrev pub reserve_faults : Terms → ℕ → List ℕ → Record → List (Fault FormFault)
reserve_faults t place lots r = if is_none (first_failed (amount_checks t.step place r)) then fault_of (reserve_checks t.categories place lots r) else []

-- bids that a form of a bidder with this eligibility may have
pub record AreBids (t : Terms) (eligibility : ℕ) (bids : List Bid) : Type 0 where
  pub few : length bids ≤ MOST_BIDS
  pub each : Each (λ bid. IsTrue (is_bid_under t eligibility bid)) bids
  pub differ : PackagesDiffer bids

-- of these faults the first ones were found after those before, and the others were left only where one is wanted, and is kept now
pub record FindsEnough {F : Type 0} (old new : All F) (faults : List (Fault F)) : Type 0 where
  pub found : List (Fault F)
  pub left : List (Fault F)
  pub faults_are : faults ≡ found ++ left
  pub holds : HoldsMore old new found
  pub enough : left ≢ [] → (new.most ≡ 1) × (1 ≤ length new.kept.items)
