-- The call limit: each form is a recorded call of its bidder, and the first form for which its bidder has no call left is refused.
use Rattle.std.specs.Prelude.{◌≡◌, ◌+◌, ◌<◌, ℕ, List, [], Option, None, Some, if◌then◌else◌, length, nat_le, slice_index_or}
use Rattle.auction_input.specs.Submissions.{forms_of}
use Rattle.auction_input.specs.declared.call_limit.Calls.{Calls}
use Rattle.auction_terms.specs.declared.limits.TheConstants.{MOST_BIDDERS}
use Rattle.auction_terms.specs.FirstFault.{first_fault}
use Rattle.bid_book.specs.History.{call_limit}
use Rattle.bid_forms.specs.Offers.{Offers}

-- the number of a form for which its bidder has no call left, given the forms before it
abbrev pub one_too_many : List Offers → Offers → Option ℕ
one_too_many before form = if nat_le call_limit (length (forms_of form.bidder before)) then Some (length before + 1) else None

-- of these forms the first one without a call is known; and until there is one, how many forms each bidder has
pub record CountsCalls (calls : Calls) (forms : List Offers) : Type 0 where
  pub refused : calls.refused ≡ first_fault one_too_many [] forms
  pub long : length calls.counts ≡ MOST_BIDDERS + 1
  pub counts : calls.refused ≡ None → (b : ℕ) → b < MOST_BIDDERS + 1 → slice_index_or calls.counts b 0 ≡ length (forms_of b forms)
