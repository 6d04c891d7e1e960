-- The forms of an input with the bytes that they are read from, and which of them count: of each bidder its last one.
use Rattle.std.specs.Prelude.{◌≡◌, ◌≤◌, ◌+◌, ◌-◌, ◌<◌, ◌==◌, ℕ, List, [], Option, None, Some, Result, Ok, codes, filter, length, option_map, slice_index_or}
use Rattle.std.specs.List.{last_or, zip}
use Rattle.auction_input.specs.Auction.{Auction}
use Rattle.auction_input.specs.CallLimit.{one_too_many}
use Rattle.auction_input.specs.FormTexts.{in_one_text}
use Rattle.auction_input.specs.Input.{Input}
use Rattle.auction_input.specs.ParsedParts.{only_text, parsed_parts}
use Rattle.auction_input.specs.ParsedTexts.{form_in, parsed_form, parsed_terms}
use Rattle.auction_input.specs.Parts.{parts_named, text_numbers}
use Rattle.auction_input.specs.declared.last_forms.LastForm as held
use Rattle.auction_input.specs.declared.last_forms.LastForms.{LastForms}
use Rattle.auction_input.specs.declared.last_forms.FormParts as kept
use Rattle.auction_input.specs.declared.refusal.Refusal.TheVariants as refusal
use Rattle.auction_input.specs.declared.refusal.Refusal.{Refusal}
use Rattle.auction_input.specs.declared.request.Request.TheVariants.{Forms}
use Rattle.auction_terms.specs.FirstFault.{first_fault}
use Rattle.auction_terms.specs.Stages.{and_then, each_in_turn, refused_as, unless}
use Rattle.auction_terms.specs.Terms.{Terms}
use Rattle.auction_terms.specs.declared.bids.Bid.{Bid}
use Rattle.auction_terms.specs.declared.limits.TheConstants.{MOST_BIDDERS}
use Rattle.bid_forms.specs.Offers.{Offers}

-- the bytes of the part of rules, the rules, and each form with the bytes of its part, in the order of the input
pub record FormParts : Type 0 where
  pub bytes : List ℕ
  pub rules : Terms
  pub forms : List (Offers × List ℕ)

-- the rules and the forms of an input with their bytes, or the first refusal: for its parts, its rules, a form, a bidder's forms in several texts, or
-- the call limit
abbrev pub parsed_forms : Input → Result FormParts Refusal
parsed_forms input =
    and_then (parsed_parts Forms input) (λ parts.
    and_then (parsed_terms (only_text (parts_named (codes "%rules") parts))) (λ t.
    and_then (each_in_turn (parsed_form t) 1 (parts_named (codes "%form") parts)) (λ read.
    and_then (in_one_text input.last_wins t (text_numbers (codes "%form") parts) read) (λ forms.
    refused_as refusal.CallLimit (unless (first_fault one_too_many [] forms) (Ok (record {
      bytes = only_text (parts_named (codes "%rules") parts);
      rules = t;
      forms = zip forms (parts_named (codes "%form") parts);
    })))))))

-- the last form of a bidder, with its bytes
abbrev pub last_form : ℕ → List (Offers × List ℕ) → Option (Offers × List ℕ)
last_form bidder forms = last_or None (filter (λ (form : Offers × List ℕ). form.0.bidder == bidder) forms)

-- ---- the auction

-- of a bidder without a form there are no bids; else the bytes are read as a form of this bidder with just these bids
abbrev pub DescribesBids : Terms → ℕ → List Bid → Option (Offers × List ℕ) → Type 0
DescribesBids t bidder bids None = bids ≡ []
DescribesBids t bidder bids (Some form) = (form.0 ≡ record { bidder = bidder; bids = bids }) × (form_in t form.1 ≡ Ok (record { bidder = bidder; bids = bids }))

-- what is read is what an auction is of: the bytes of the rules describe its rules, and those of each bidder's last form the bids of its book
pub record IsOfAuction (read : FormParts) (auction : Auction) : Type 0 where
  pub rules : parsed_terms read.bytes ≡ Ok auction.rules
  pub same : read.rules ≡ auction.rules
  pub each : (b : ℕ) → 1 ≤ b → b ≤ length auction.rules.bidders
      → DescribesBids auction.rules b (slice_index_or auction.sale.book (b - 1) []) (last_form b read.forms)

-- ---- what is held of them

-- how many bids a form has, and its bytes
abbrev pub counted : Offers × List ℕ → ℕ × List ℕ
counted form = (length form.0.bids, form.1)

-- how many bids a form that is held has, and its bytes
abbrev pub counted_held : held.LastForm → ℕ × List ℕ
counted_held form = (form.bids, form.bytes.now)

-- the last form of each bidder among these is held
pub record HoldsLast (known : LastForms) (forms : List (Offers × List ℕ)) : Type 0 where
  pub long : length known.by_bidder ≡ MOST_BIDDERS + 1
  pub last : (b : ℕ) → b < MOST_BIDDERS + 1
      → option_map counted_held (slice_index_or known.by_bidder b None) ≡ option_map counted (last_form b forms)

-- the rules with their bytes, and the last forms, are those of an input
pub record HoldsParts (input : Input) (parts : kept.FormParts) : Type 0 where
  pub read : FormParts
  pub parsed : parsed_forms input ≡ Ok read
  pub bytes : parts.bytes.now ≡ read.bytes
  pub rules : parts.rules ≡ read.rules
  pub last : HoldsLast parts.last read.forms
