use Rattle.std.proofs.Common.{◌≡◌, ◌⊎◌, ◌<◌, [], List, None, arith, false, inl, inr, length, rules, slice_index_or, subst, sym}
use Rattle.std.proofs.lemmas.List.{length-map}
use Rattle.auction_input.proofs.InputTextFacts.{Text}
use Rattle.auction_input.specs.Auction.{Auction}
use Rattle.auction_input.specs.Refused.{Refuses}
use Rattle.auction_input.specs.Settled.{held}
use Rattle.auction_input.specs.declared.refusal.Refusal.{Refusal}
use Rattle.auction_terms.specs.Terms.{lots_in}
use Rattle.auction_terms.specs.declared.bids.Choice.{Choice}
use Rattle.auction_terms.specs.FirstFault.{first_failed}
use Rattle.bid_desk.specs.Closing.{book_of}
use Rattle.program_rows.specs.Faithful.{IsGreatest}
use Rattle.answers.specs.Pricing.{IsTooWidePriced, IsTooWidePricing, priced, pricing_counts, parsed_pricing}
use Rattle.answers.proofs.ClaimedFacts.{first-won, wins-first}
use Rattle.answers.proofs.PricingFacts.{counts-say, first-greatest, prices-refuse}
use Rattle.answers.proofs.pricing.pricing_of.Goals as goal

pub priced-requires-clause-best : goal.priced-requires-clause-best
priced-requires-clause-best c =
    let auction = c.args.auction.now in
    let starts = (wins-first (held auction) c.args.won.now c.requires.won).0 in
    subst (λ (first : List Choice). IsGreatest (lots_in auction.book.rules) (book_of auction.book) (λ b. false) first)
    (first-won (held auction) c.args.won.now c.index-won-0.result c.requires.won c.index-won-0.is)
    (first-greatest (lots_in auction.book.rules) (book_of auction.book) auction.groups c.args.won.now starts c.requires.without).1

-- a refusal of prices, of which there is one text
refusing : (auction : Auction) (won : List (List Choice)) (first : List Choice) (r : Refusal) → slice_index_or won 0 [] ≡ first
    → first_failed (pricing_counts auction) ≡ None → 0 < length auction.prices
    → Refuses (priced auction won first (slice_index_or auction.prices 0 []) (slice_index_or auction.covers 0 [])) r
    ⊎ IsTooWidePriced auction first r → Refuses (parsed_pricing auction won) r ⊎ IsTooWidePricing auction won r
refusing auction won first r is fine some (inl refused) = inl (prices-refuse auction won fine r some
    (subst (λ (a : List Choice). Refuses (priced auction won a (slice_index_or auction.prices 0 []) (slice_index_or auction.covers 0 [])) r)
    (sym is) refused))
refusing auction won first r is fine some (inr wide) =
    let few = (counts-say auction fine).0 in
    inr (fine, omega arith, subst (λ (a : List Choice). IsTooWidePriced auction a r) (sym is) wide)

pub returns-in-Err-clause-refuses : goal.returns-in-Err-clause-refuses
returns-in-Err-clause-refuses c =
    let auction = c.args.auction.now in
    let count = length-map auction.prices.items (λ (text : Text). text.now) in
    let some : 0 < length auction.prices.items = search rules in
    refusing (held auction) c.args.won.now c.index-won-0.result c.in-Err.refusal
    (first-won (held auction) c.args.won.now c.index-won-0.result c.requires.won c.index-won-0.is)
    c.in_ok-check_pricing_counts.ensures.fine (omega (arith, some, count)) c.in-Err.ensures.refuses
