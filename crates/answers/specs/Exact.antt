-- What a command leaves, by what is reported: the whole output, or the first refusal.
use Rattle.std.specs.Prelude.{◌≡◌, ◌⊎◌, ℕ, List, [], Result, Ok, length, slice_index_or}
use Rattle.auction_input.specs.Input.{Input}
use Rattle.auction_input.specs.Auction.{Auction, parsed_auction}
use Rattle.auction_input.specs.Refused.{Refuses}
use Rattle.auction_input.specs.declared.refusal.Refusal.{Refusal}
use Rattle.auction_input.specs.Settled.{IsUnsettled}
use Rattle.auction_input.specs.declared.refusal.Refusal.TheVariants as refusal
use Rattle.auction_input.specs.declared.request.Objects.TheVariants as objects
use Rattle.auction_input.specs.declared.request.Request.TheVariants as request
use Rattle.auction_input.specs.declared.request.Request.{Request}
use Rattle.auction_terms.specs.declared.bids.Choice.{Choice}
use Rattle.byte_sinks.specs.Sinks.{GoesInPart, GoesWhole, Outlet}
use Rattle.byte_sinks.specs.declared.writer.WriteFault.TheVariants as write
use Rattle.answers.specs.Answer.{answer}
use Rattle.answers.specs.Certified.{IsTooWide, bounds_of, certified}
use Rattle.answers.specs.Claimed.{IsTooWideClaim, parsed_claims}
use Rattle.outcome.specs.Others.{Others}
use Rattle.answers.specs.Pricing.{IsTooWidePricing}
use Rattle.answers.specs.SolutionWinners.{winners_of_groups}

-- the output that is reported was written, and nothing else
abbrev pub Writes : Result (List ℕ) Refusal → Outlet → Outlet → Type 0
Writes parsed before after = (out : List ℕ) × (parsed ≡ Ok out) × GoesWhole before after out

-- how a command ends without its output: it is refused; or a put failed, after the first bytes of the output, as many as the refusal says
pub data Ends (parsed : Result (List ℕ) Refusal) (before after : Outlet) : Refusal → Type 0 where
  by_refusal : {r : Refusal} → Refuses parsed r → after ≡ before → Ends parsed before after r
  by_put : {written : ℕ} → (out : List ℕ) → parsed ≡ Ok out → GoesInPart before after out written
      → Ends parsed before after (refusal.Write (write.Sink written))

-- a text isn't judged, since one of its leaves has a size of 2^126 or more: a certificate of the groups, once the solutions are accepted; or, once
-- the certificates are, the text that is to show that there is no other award; or, once the claims on other awards are, the cover of prices
abbrev pub IsBeyondSums : Auction → Refusal → Type 0
IsBeyondSums auction r =
    (won : List (List Choice)) × (winners_of_groups auction ≡ Ok won)
    × (((length auction.certificates ≡ length auction.groups) × IsTooWide (bounds_of auction won) r) ⊎
    ((certified auction won ≡ Ok won) × (IsTooWideClaim auction (slice_index_or won 0 []) r ⊎
    ((others : Others) × (parsed_claims auction (slice_index_or won 0 []) ≡ Ok others) × IsTooWidePricing auction won r))))

-- `verify` alone adds up in 128 bits
abbrev pub MeetsLimit : Request → Input → Refusal → Type 0
MeetsLimit (request.Verify workers) input r = (auction : Auction) × (parsed_auction (request.Verify workers) input ≡ Ok auction) × IsBeyondSums auction r
MeetsLimit (request.VerifyWithForms workers) input r =
    (auction : Auction) × (parsed_auction (request.Verify workers) input ≡ Ok auction) × IsBeyondSums auction r
MeetsLimit (request.Objects (objects.Verify workers)) input r =
    (auction : Auction) × (parsed_auction (request.Verify workers) input ≡ Ok auction) × IsBeyondSums auction r
MeetsLimit asked input r = ⊥

-- why a request is refused, or its output cut short; what the input doesn't settle is a wrong answer of the desk, and the limit of sums
abbrev pub IsUnwritten : Request → Input → Outlet → Outlet → Refusal → Type 0
IsUnwritten asked input before after r =
    Ends (answer asked input) before after r ⊎ ((IsUnsettled asked input r ⊎ MeetsLimit asked input r) × (after ≡ before))
