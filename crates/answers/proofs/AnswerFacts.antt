-- What is answered to a request, by the auction that its input describes.
use Rattle.std.proofs.Common.{◌≡◌, ◌≢◌, ◌∙◌, ℕ, Result, Ok, Err, ap, inl, inr, refl, subst, sym, IfErr, OnOk}
use Rattle.auction_input.specs.Input.{Input}
use Rattle.answers.specs.Answer.{answer, output_of}
use Rattle.answers.specs.Exact.{Ends, IsUnwritten, MeetsLimit, Writes, by_refusal}
use Rattle.byte_sinks.specs.Sinks.{Outlet}
use Rattle.answers.specs.Sold.{HasSold, HasSoldTo}
use Rattle.answers.specs.Output.{IsBeyondLimit, IsWithoutOutput}
use Rattle.answers.specs.inside.ByAuction.{IsByAuction}
use Rattle.answers.proofs.FaithfulFacts.{faithful-without}
use Rattle.auction_input.specs.Auction.{Auction, parsed_auction}
use Rattle.auction_input.specs.Settled.{RefusesAuction}
use Rattle.auction_input.specs.Sold.{IsSold}
use Rattle.auction_input.specs.declared.refusal.Refusal.{Refusal}
use Rattle.auction_input.proofs.DescribedFacts.{described-auction}
use Rattle.auction_input.proofs.StageFacts.{refuses-as, stop}
use Rattle.auction_terms.specs.Stages.{and_then}
use Rattle.auction_input.specs.Requests.{ReadsAuction}
use Rattle.auction_input.specs.declared.request.Objects.{Objects}
use Rattle.auction_input.specs.declared.request.Request.{Request}
use Rattle.auction_input.specs.declared.request.Request.TheVariants as request

-- which requests are answered by the auction alone
pub of-auction : (asked : Request) → asked ≢ request.Check → asked ≢ request.Forms → ((workers : ℕ) → asked ≢ request.VerifyWithForms workers)
    → ((of : Objects) → asked ≢ request.Objects of) → IsByAuction asked
of-auction request.Check some settled bare worded = absurd (some refl)
of-auction request.Forms some settled bare worded = absurd (settled refl)
of-auction (request.VerifyWithForms workers) some settled bare worded = absurd (bare workers refl)
of-auction (request.Objects of) some settled bare worded = absurd (worded of refl)
of-auction request.Text some settled bare worded = tt
of-auction (request.Compile workers) some settled bare worded = tt
of-auction (request.Explain options) some settled bare worded = tt
of-auction (request.Map group) some settled bare worded = tt
of-auction (request.Report workers) some settled bare worded = tt
of-auction (request.Verify workers) some settled bare worded = tt

-- these read one
pub reads-auction : (asked : Request) → IsByAuction asked → ReadsAuction asked
reads-auction request.Check of = absurd of
reads-auction request.Forms of = absurd of
reads-auction (request.VerifyWithForms workers) of = absurd of
reads-auction (request.Objects objects) of = absurd of
reads-auction request.Text of = tt
reads-auction (request.Compile workers) of = tt
reads-auction (request.Explain options) of = tt
reads-auction (request.Map group) of = tt
reads-auction (request.Report workers) of = tt
reads-auction (request.Verify workers) of = tt

by-auction : (asked : Request) (input : Input) → IsByAuction asked → answer asked input ≡ and_then (parsed_auction asked input) (output_of asked)
by-auction request.Check input of = absurd of
by-auction request.Forms input of = absurd of
by-auction (request.VerifyWithForms workers) input of = absurd of
by-auction (request.Objects objects) input of = absurd of
by-auction request.Text input of = refl
by-auction (request.Compile workers) input of = refl
by-auction (request.Explain options) input of = refl
by-auction (request.Map group) input of = refl
by-auction (request.Report workers) input of = refl
by-auction (request.Verify workers) input of = refl

meets-limit : (asked : Request) (input : Input) (auction : Auction) (r : Refusal) → parsed_auction asked input ≡ Ok auction
    → IsBeyondLimit asked auction r → MeetsLimit asked input r
meets-limit (request.Verify workers) input auction r parsed beyond = (auction, parsed, beyond)
meets-limit asked input auction r parsed beyond = absurd beyond

-- the auction that was read, with texts that are faithful to it
pub has-sold-to : (asked : Request) (input : Input) (auction : Auction) → IsSold asked input auction → HasSoldTo asked input
has-sold-to asked input auction sold = (auction, sold, faithful-without asked input auction ((described-auction asked input auction).1 sold.described))

pub has-sold : (asked : Request) (input : Input) (auction : Auction) → IsByAuction asked → IsSold asked input auction → HasSold asked input
has-sold request.Check input auction of sold = absurd of
has-sold request.Forms input auction of sold = absurd of
has-sold (request.VerifyWithForms workers) input auction of sold = absurd of
has-sold (request.Objects objects) input auction of sold = absurd of
has-sold request.Text input auction of sold = has-sold-to request.Text input auction sold
has-sold (request.Compile workers) input auction of sold = has-sold-to (request.Compile workers) input auction sold
has-sold (request.Explain options) input auction of sold = has-sold-to (request.Explain options) input auction sold
has-sold (request.Map group) input auction of sold = has-sold-to (request.Map group) input auction sold
has-sold (request.Report workers) input auction of sold = has-sold-to (request.Report workers) input auction sold
has-sold (request.Verify workers) input auction of sold = has-sold-to (request.Verify workers) input auction sold

module _ (asked : Request) (input : Input) (of : IsByAuction asked) where
  -- the auction isn't there
  pub no-auction : (before : Outlet) (r : Refusal) → RefusesAuction asked input r → IsUnwritten asked input before before r
  no-auction before r (inl refused) =
      inl (by_refusal (refuses-as _ _ r (by-auction asked input of) (stop (parsed_auction asked input) (output_of asked) r refused)) refl)
  no-auction before r (inr unsettled) = inr (inl unsettled, refl)

  -- it is, and what is reported of it is what the input describes
  module _ (auction : Auction) (parsed : parsed_auction asked input ≡ Ok auction) where
    is-parsed : answer asked input ≡ output_of asked auction
    is-parsed = by-auction asked input of ∙ ap (λ (t : Result Auction Refusal). and_then t (output_of asked)) parsed

    pub written : {T E : Type 0} (result : Result T E) (before after : Outlet)
        → OnOk result (Writes (output_of asked auction) before after) → OnOk result (Writes (answer asked input) before after)
    written result before after writes = subst (λ x. OnOk result (Writes x before after)) (sym is-parsed) writes

    pub unwritten : {T : Type 0} (result : Result T Refusal) (before after : Outlet) → IfErr result (IsWithoutOutput asked auction before after)
        → IfErr result (IsUnwritten asked input before after)
    unwritten (Ok x) before after ends = tt
    unwritten (Err r) before after (inl ends) = inl (subst (λ x. Ends x before after r) (sym is-parsed) ends)
    unwritten (Err r) before after (inr (beyond, same)) = inr (inr (meets-limit asked input auction r parsed beyond), same)
