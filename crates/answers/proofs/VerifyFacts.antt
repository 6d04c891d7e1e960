-- Why an auction isn't verified.
use Rattle.std.proofs.Common.{◌≡◌, ℕ, List, Ok, length, refl, inl, inr, [], ◌⊎◌, slice_index_or}
use Rattle.auction_terms.specs.declared.bids.Choice.{Choice}
use Rattle.auction_input.specs.Auction.{Auction}
use Rattle.answers.specs.Certified.{IsTooWide, bounds_of, certified}
use Rattle.answers.specs.SolutionWinners.{winners_of_groups}
use Rattle.auction_input.specs.Refused.{Refuses}
use Rattle.auction_input.specs.declared.refusal.Refusal.{Refusal}
use Rattle.answers.specs.Claimed.{IsTooWideClaim, parsed_claims}
use Rattle.byte_sinks.specs.Sinks.{Outlet}
use Rattle.answers.specs.Output.{IsWithoutOutput}
use Rattle.answers.specs.inside.Proved.{IsUnproved}
use Rattle.answers.specs.Pricing.{IsTooWidePricing, parsed_pricing}
use Rattle.outcome.specs.Others.{Others}
use Rattle.answers.specs.Exact.{by_refusal}
use Rattle.auction_input.specs.declared.request.Request.TheVariants as request
use Rattle.auction_input.proofs.StageFacts.{after-ok, next, stop}

-- solutions that are taken, and a certificate that isn't
pub unshown : (auction : Auction) (won : List (List Choice)) (r : Refusal) → winners_of_groups auction ≡ Ok won
    → Refuses (certified auction won) r ⊎ ((length auction.certificates ≡ length auction.groups) × IsTooWide (bounds_of auction won) r)
    → IsUnproved auction r
unshown auction won r parsed (inl refused) = inl (stop _ _ r (after-ok _ won _ r parsed refused))
unshown auction won r parsed (inr (each, wide)) = inr (won, parsed, inl (each, wide))

-- solutions and certificates that are taken, and claims that aren't
pub unclaimed : (auction : Auction) (won : List (List Choice)) (r : Refusal)
    → winners_of_groups auction ≡ Ok won → certified auction won ≡ Ok won
    → Refuses (parsed_claims auction (slice_index_or won 0 [])) r ⊎ IsTooWideClaim auction (slice_index_or won 0 []) r
    → IsUnproved auction r
unclaimed auction won r parsed certifies (inl refused) = inl (after-ok _ won _ r (next _ won _ _ parsed certifies) (stop _ _ r refused))
unclaimed auction won r parsed certifies (inr wide) = inr (won, parsed, inr (certifies, inl wide))

-- solutions, certificates and claims that are taken, and prices that aren't
pub unpriced : (auction : Auction) (won : List (List Choice)) (others : Others) (r : Refusal)
    → winners_of_groups auction ≡ Ok won → certified auction won ≡ Ok won
    → parsed_claims auction (slice_index_or won 0 []) ≡ Ok others
    → Refuses (parsed_pricing auction won) r ⊎ IsTooWidePricing auction won r
    → IsUnproved auction r
unpriced auction won others r parsed certifies claims (inl refused) =
    inl (after-ok _ won _ r (next _ won _ _ parsed certifies) (after-ok _ others _ r claims (stop _ _ r refused)))
unpriced auction won others r parsed certifies claims (inr wide) = inr (won, parsed, inr (certifies, inr (others, claims, wide)))

-- then nothing is written
pub unproved : (workers : ℕ) (auction : Auction) (before : Outlet) (r : Refusal) → IsUnproved auction r
    → IsWithoutOutput (request.Verify workers) auction before before r
unproved workers auction before r (inl refused) = inl (by_refusal (stop _ _ r refused) refl)
unproved workers auction before r (inr beyond) = inr (beyond, refl)
