-- What the winners pay: prices that a certificate shows to cover every group, and whether a rule shows that they are the prices of the rule.
use Rattle.std.specs.Prelude.{◌≡◌, ◌∷◌, ◌*◌, Bool, false, true, ℕ, List, [], Option, None, Some, Result, Ok, Err, length, nat_le, slice_index_or}
use Rattle.std.specs.Option.{option_map, option_or}
use Rattle.auction_input.specs.Auction.{Auction}
use Rattle.auction_input.specs.PartCounts.{numbers_of, pricing_wants, refused_unless}
use Rattle.auction_input.specs.declared.refusal.Refusal.TheVariants as refusal
use Rattle.auction_input.specs.declared.refusal.Refusal.{Refusal}
use Rattle.auction_terms.specs.Allocations.{amount_of, weighed_choice}
use Rattle.auction_terms.specs.Fractions.{in_parts}
use Rattle.auction_terms.specs.FirstFault.{first_failed}
use Rattle.auction_terms.specs.Stages.{and_then, refused_as, unless}
use Rattle.auction_terms.specs.Terms.{Terms}
use Rattle.auction_terms.specs.declared.bids.Choice.{Choice}
use Rattle.bid_desk.specs.Sale.{Sale, bidder_name}
use Rattle.outcome.specs.Pricing.{Priced, price_in}
use Rattle.auction_input.specs.PriceTexts.{Known, parsed_price_text, parsed_rule_lines, common_parts, price_given, prices_in_parts}
use Rattle.auction_input.specs.PriceTexts.{weights_of_bidders, weights_of_groups}
use Rattle.auction_input.specs.declared.price_reading.GivenPrice.{GivenPrice}
use Rattle.auction_input.specs.declared.rule_weights.Aim.{Aim}
use Rattle.auction_input.specs.declared.rule_weights.Aim.TheVariants as aim
use Rattle.auction_input.specs.declared.rule_weights.RuleLine.{RuleLine}
use Rattle.auction_input.specs.declared.rule_weights.RuleLine.TheVariants as line
use Rattle.auction_input.specs.declared.price_fault.PriceFault.TheVariants as fault
use Rattle.prices.specs.Alone.{costs_alone}
use Rattle.prices.specs.Prices.{reserves_in}
use Rattle.prices.specs.Raised.{IsLargeCoverAt, cover_fault}
use Rattle.prices.specs.Rule.{Rule, rule_fault}
use Rattle.prices.specs.Weights.{Weights, listed_weights}
use Rattle.prices.specs.declared.alone.AloneFault.{AloneFault}
use Rattle.prices.specs.declared.alone.AloneFault.TheVariants as alone
use Rattle.prices.specs.declared.rule.RuleFault.{RuleFault}
use Rattle.prices.specs.declared.rule.RuleFault.TheVariants as unshown
use Rattle.program_rows.specs.declared.certificate_fault.CertificateFaultKind.TheVariants as certificate
use Rattle.program_rows.specs.declared.certificate_fault.CertificateFaultKind.{CertificateFaultKind}

-- whom prices and a rule may name: the winners, and the groups by their numbers
abbrev pub known_by : Auction → List Choice → Known
known_by auction first = record { bidders = auction.rules.bidders; winners = first; groups = length auction.groups }

-- ---- the prices

-- prices in parts of a pound, bidder 1's first, and how many parts make one
pub record InParts : Type 0 where
  pub parts : ℕ
  pub prices : List ℕ

-- why what a winner is given is no price of it: it is given none, or one above its amount or below the reserve of its lots
abbrev pub price_fault : Terms → Sale → ℕ → Choice → Option GivenPrice → Option Refusal
price_fault rules sale parts c None = Some (refusal.MissingPrice (bidder_name sale.names c.bidder))
price_fault rules sale parts c (Some g) = first_failed (
    (nat_le (in_parts parts g.price) (parts * amount_of sale.book c), refusal.Prices (fault.AboveAmount g.place)) ∷
    (nat_le (parts * weighed_choice (reserves_in rules) sale.book c) (in_parts parts g.price), refusal.Prices (fault.BelowReserve g.place)) ∷ [])

-- all in the least parts of a pound in which the prices are whole
abbrev pub winner_fault : Terms → Sale → List GivenPrice → Choice → Option Refusal
winner_fault rules sale given c = price_fault rules sale (common_parts given) c (price_given given c.bidder)

-- the fault of the first winner that has one, in the order of the rules
abbrev pub winners_fault : Terms → Sale → List GivenPrice → List Choice → Option Refusal
winners_fault rules sale given [] = None
winners_fault rules sale given (c ∷ more) = option_or (winner_fault rules sale given c) (winners_fault rules sale given more)

-- the prices that lines give, in the least parts in which they are whole; a bidder that wins nothing has 0
abbrev pub in_parts_of : Auction → List GivenPrice → InParts
in_parts_of auction given = record { parts = common_parts given; prices = prices_in_parts (common_parts given) given (length auction.rules.bidders) }

-- the prices of a text
abbrev pub parsed_prices : Auction → List Choice → List ℕ → Result InParts Refusal
parsed_prices auction first text =
    and_then (refused_as refusal.Prices (parsed_price_text (known_by auction first) text)) (λ given.
    unless (winners_fault auction.rules auction.sale given first) (Ok (in_parts_of auction given)))

-- ---- the cover

-- the first fault of a certificate that is to show that they cover every group
abbrev pub fault_of_cover : Auction → List Choice → InParts → List ℕ → Option (ℕ × CertificateFaultKind)
fault_of_cover auction first p text = cover_fault auction.sale.lots auction.sale.book first p.parts (price_in p.prices) text

-- the certificate shows that, or has a first fault
abbrev pub covered : Auction → List Choice → InParts → List ℕ → Result (Unit {0}) Refusal
covered auction first p text =
    let refused : ℕ × CertificateFaultKind → Refusal = λ f. refusal.Cover (record { line = f.0; kind = f.1 }) in
    unless (option_map refused (fault_of_cover auction first p text)) (Ok tt)

-- it isn't judged, since the leaf at this line has a size of 2^126 or more
abbrev pub IsTooWideCover : Auction → List Choice → InParts → List ℕ → Refusal → Type 0
IsTooWideCover auction first p text r =
    (line : ℕ) × IsLargeCoverAt auction.sale.lots auction.sale.book first p.parts (price_in p.prices) text line
    × (r ≡ refusal.Cover (record { line = line; kind = certificate.TooLarge }))

-- ---- the rule

-- the weights that lines give for an aim, by its scale
abbrev pub weights_for : Auction → List (List Choice) → List RuleLine → Aim → ℕ → Weights
weights_for auction won given a scale = listed_weights auction.groups won scale
    (weights_of_groups a given (length auction.groups)) (weights_of_bidders a given (length auction.rules.bidders))

-- the rule that lines give, of which the first has the scales and the push
abbrev pub rule_of : Auction → List (List Choice) → List RuleLine → Result Rule Refusal
rule_of auction won [] = Err (refusal.Rule fault.NoScales)
rule_of auction won (line.Weighted w ∷ more) = Err (refusal.Rule fault.NoScales)
rule_of auction won (line.Scaled scales ∷ more) = Ok (record {
  least = weights_for auction won (line.Scaled scales ∷ more) aim.Least scales.least;
  nearest = weights_for auction won (line.Scaled scales ∷ more) aim.Nearest scales.nearest;
  push = scales.push;
})

-- the rule that a text describes, or why the text is refused
abbrev pub parsed_rule : Auction → List (List Choice) → List Choice → List ℕ → Result Rule Refusal
parsed_rule auction won first text = and_then (refused_as refusal.Rule (parsed_rule_lines (known_by auction first) text)) (rule_of auction won)

-- what is reported if what a winner costs alone isn't known
abbrev pub alone_refused : Sale → AloneFault → Refusal
alone_refused sale (alone.NotListed b) = refusal.NoGroupAlone (bidder_name sale.names b)
alone_refused sale alone.OutOfMemory = refusal.OutOfMemory

-- what each bidder costs alone, by the allocations of the groups
abbrev pub known_alone : Auction → List (List Choice) → List Choice → Result (List ℕ) Refusal
known_alone auction won first =
    refused_as (alone_refused auction.sale) (costs_alone (reserves_in auction.rules) auction.sale.lots auction.sale.book first auction.groups won)

-- what is reported if the rule doesn't show what it is to
abbrev pub unshown_refused : RuleFault → Refusal
unshown_refused unshown.NotLeast = refusal.Rule fault.NotLeast
unshown_refused unshown.NotNearest = refusal.Rule fault.NotNearest

-- what is reported of a rule that doesn't show that prices that suffice are the prices of the rule
abbrev pub fault_of_rule : Auction → List Choice → InParts → List ℕ → Rule → Option Refusal
fault_of_rule auction first p costs rule = option_map unshown_refused
    (rule_fault (reserves_in auction.rules) auction.sale.lots auction.sale.book first (price_in costs) p.parts (price_in p.prices) rule)

-- the one text of a rule shows that the prices are those of the rule, or is refused; without a text nothing shows it
abbrev pub parsed_by_rule : Auction → List (List Choice) → List Choice → InParts → List (List ℕ) → Result Bool Refusal
parsed_by_rule auction won first p [] = Ok false
parsed_by_rule auction won first p (text ∷ more) =
    and_then (parsed_rule auction won first text) (λ rule.
    and_then (known_alone auction won first) (λ costs.
    unless (fault_of_rule auction first p costs rule) (Ok true)))

-- ---- all of it

-- one text of prices at most, a cover with it, and a rule only beside them
abbrev pub pricing_counts : Auction → List (Bool × Refusal)
pricing_counts auction = refused_unless (pricing_wants (numbers_of auction))

-- the prices of a text, which the cover shows to cover every group
abbrev pub priced : Auction → List (List Choice) → List Choice → List ℕ → List ℕ → Result Priced Refusal
priced auction won first text cover =
    and_then (parsed_prices auction first text) (λ p.
    and_then (covered auction first p cover) (λ shown.
    and_then (parsed_by_rule auction won first p auction.rule_texts) (λ by_rule.
    Ok (record { parts = p.parts; prices = p.prices; by_rule = by_rule }))))

-- what comes of the texts of prices and of covers, where these allocations are won
abbrev pub priced_by : Auction → List (List Choice) → List (List ℕ) → List (List ℕ) → Result (Option Priced) Refusal
priced_by auction won [] covers = Ok None
priced_by auction won (text ∷ more) covers = and_then (priced auction won (slice_index_or won 0 []) text (slice_index_or covers 0 [])) (λ p. Ok (Some p))

-- the prices of an auction, which its cover shows to cover every group; nothing if it has no text of prices; or the first refusal
abbrev pub parsed_pricing : Auction → List (List Choice) → Result (Option Priced) Refusal
parsed_pricing auction won = unless (first_failed (pricing_counts auction)) (priced_by auction won auction.prices auction.covers)

-- the cover isn't judged, after prices that are accepted
abbrev pub IsTooWidePriced : Auction → List Choice → Refusal → Type 0
IsTooWidePriced auction first r =
    (p : InParts) × (parsed_prices auction first (slice_index_or auction.prices 0 []) ≡ Ok p)
    × IsTooWideCover auction first p (slice_index_or auction.covers 0 []) r

-- the one text of prices is accepted, but its cover isn't judged, since one of the cover's leaves has a size of 2^126 or more
abbrev pub IsTooWidePricing : Auction → List (List Choice) → Refusal → Type 0
IsTooWidePricing auction won r =
    (first_failed (pricing_counts auction) ≡ None) × (length auction.prices ≡ 1) × IsTooWidePriced auction (slice_index_or won 0 []) r
