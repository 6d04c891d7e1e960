-- Prices that are printed are true.
use Rattle.std.proofs.Common.{◌≡◌, ◌∷◌, ◌∙◌, [], ℕ, Bool, true, false, List, Option, None, Some, Ok, length, refl, slice_index_or, subst}
use Rattle.std.specs.Prelude.{All, IfSome, ◌≤◌, codes, ℤ}
use Rattle.std.specs.List.{AllZip}
use Rattle.std.specs.Option.{option_map}
use Rattle.std.proofs.lemmas.List.Elements.{All-from_recursion}
use Rattle.std.proofs.lemmas.List.FromFn.{length-map-range_with_len}
use Rattle.auction_terms.specs.Groups.{has}
use Rattle.auction_terms.specs.Limits.{IsBook}
use Rattle.auction_terms.specs.FirstFault.{first_failed}
use Rattle.auction_terms.specs.Stages.{each_in_turn}
use Rattle.auction_terms.specs.declared.bids.Choice.{Choice}
use Rattle.auction_input.specs.Input.{Input}
use Rattle.auction_input.specs.Auction.{Auction, parsed_auction}
use Rattle.auction_input.specs.FormTexts.{in_one_text}
use Rattle.auction_input.specs.Parts.{parts_named, text_numbers}
use Rattle.auction_input.specs.ParsedParts.{only_text, parsed_parts}
use Rattle.auction_input.specs.ParsedTexts.{parsed_form, parsed_groups, parsed_terms}
use Rattle.auction_input.specs.declared.request.Request.{Request}
use Rattle.auction_input.specs.declared.refusal.Refusal.TheVariants as refusal
use Rattle.auction_input.proofs.AnswerFacts.{ok-after, ok-is, ok-refused_as, unless-ok, unless-parsed}
use Rattle.answers.specs.Pricing.{InParts, alone_refused, covered, fault_of_cover, fault_of_rule, known_alone, known_by, parsed_by_rule, parsed_prices, parsed_rule, priced}
use Rattle.answers.specs.Pricing.{priced_by, pricing_counts, parsed_pricing, rule_of, unshown_refused, weights_for}
use Rattle.answers.proofs.PricingFacts.{parsed-hold, parsed-some}
use Rattle.optimality.proofs.VerdictFacts.{verdict}
use Rattle.outcome.specs.Pricing.{Priced, price_in}
use Rattle.prices.proofs.AloneFacts.{listed_are_costs_alone}
use Rattle.prices.proofs.RoundingFacts.{rounded_up_suffice}
use Rattle.prices.proofs.RuleFacts.{shown_are_the_prices}
use Rattle.prices.proofs.RaisedFacts.{shown_suffice}
use Rattle.prices.specs.Alone.{costs_alone}
use Rattle.prices.specs.Blocking.{ArePrices}
use Rattle.prices.specs.Parts.{AreAtLeastReserves, Suffice}
use Rattle.prices.specs.Raised.{raised_bound, raised_program}
use Rattle.prices.specs.Prices.{reserves_in}
use Rattle.prices.specs.Rule.{Rule, rule_fault}
use Rattle.prices.specs.Weights.{Weighted, weighted}
use Rattle.prices.proofs.FewFacts.{all_greatest}
use Rattle.auction_input.specs.PriceTexts.{parsed_rule_lines, weights_of_groups}
use Rattle.auction_input.specs.declared.rule_weights.Aim.{Aim}
use Rattle.auction_input.specs.declared.rule_weights.Aim.TheVariants as aim
use Rattle.auction_input.specs.declared.rule_weights.RuleLine.{RuleLine}
use Rattle.auction_input.specs.declared.rule_weights.RuleLine.TheVariants as line
use Rattle.auction_terms.specs.Stages.{refused_as}
use Rattle.program_rows.specs.Program.{Table}
use Rattle.program_rows.specs.declared.certificate_fault.CertificateFaultKind.{CertificateFaultKind}
use Rattle.program_rows.specs.Faithful.{IsGreatest}
use Rattle.answers.specs.Verified.{AreTruePrices, ArePricesOfRule, IsGreatestWithout}
use Rattle.answers.proofs.OthersFacts.{no-fault}

-- a book has a form of each bidder of the rules
pub auction-sized : (asked : Request) (input : Input) (auction : Auction) → parsed_auction asked input ≡ Ok auction
    → length auction.sale.book ≡ length auction.rules.bidders
auction-sized asked input auction parsed =
    let (parts, parts_are, more) = ok-after (parsed_parts asked input) _ auction parsed in
    let (t, t_is, more_forms) = ok-after (parsed_terms (only_text (parts_named (codes "%rules") parts))) _ auction more in
    let (read, read_are, more_texts) = ok-after (each_in_turn (parsed_form t) 1 (parts_named (codes "%form") parts)) _ auction more_forms in
    let (forms, forms_are, more_groups) = ok-after (in_one_text input.last_wins t (text_numbers (codes "%form") parts) read) _ auction more_texts in
    let (groups, groups_are, more_calls) = ok-after (parsed_groups t (only_text (parts_named (codes "%groups") parts))) _ auction more_groups in
    let (taken, is) = unless-ok _ _ auction (ok-refused_as refusal.CallLimit _ auction more_calls) in
    subst (λ (a : Auction). length a.sale.book ≡ length a.rules.bidders) is (length-map-range_with_len _ 1 (length t.bidders))

module _ (auction : Auction) (within : IsBook auction.sale.lots auction.sale.book) (count : length auction.sale.book ≡ length auction.rules.bidders)
    (won : List (List Choice)) (first : List Choice) (best : IsGreatest auction.sale.lots auction.sale.book (λ b. false) first)
    (greatest : AllZip (IsGreatestWithout auction.sale) auction.groups won) where
  -- a cover
  abbrev raised : InParts → Table
  raised p = raised_program auction.sale.lots auction.sale.book first p.parts (price_in p.prices)

  abbrev bound : InParts → ℤ
  bound p = raised_bound auction.sale.lots auction.sale.book first p.parts (price_in p.prices)

  cover-holds : (p : InParts) (text : List ℕ) (u : Unit {0}) → 1 ≤ p.parts → ArePrices auction.sale.book first p.parts (price_in p.prices)
      → AreAtLeastReserves (reserves_in auction.rules) auction.sale.book first p.parts (price_in p.prices) → covered auction first p text ≡ Ok u
      → Suffice (reserves_in auction.rules) auction.sale.lots auction.sale.book first p.parts (price_in p.prices)
  cover-holds p text u some fine least parsed =
      let refuse = λ (f : ℕ × CertificateFaultKind). refusal.Cover (record { line = f.0; kind = f.1 }) in
      let none = (unless-ok (option_map refuse (fault_of_cover auction first p text)) tt u parsed).0 in
      let (certificate, tells, shows) = (verdict (raised p) (bound p) text).0 (no-fault refuse (fault_of_cover auction first p text) none) in
      shown_suffice (reserves_in auction.rules) auction.sale.lots auction.sale.book first p.parts (price_in p.prices) certificate within best.feasible
      some fine least shows

  -- weights of groups with allocations of greatest total
  weights-greatest : (given : List RuleLine) (a : Aim) (scale : ℕ)
      → All (λ (x : Weighted). IsGreatest auction.sale.lots auction.sale.book (has x.group) x.without) (weights_for auction won given a scale).groups
  weights-greatest given a scale =
      let ws = weights_of_groups a given (length auction.groups) in
      All-from_recursion (λ (x : Weighted). IsGreatest auction.sale.lots auction.sale.book (has x.group) x.without) (weighted auction.groups won ws)
      (all_greatest auction.sale.lots auction.sale.book auction.groups won ws greatest)

  -- a rule that lines give has weights of such groups
  rule-greatest : (given : List RuleLine) (rule : Rule) → rule_of auction won given ≡ Ok rule
      → All (λ (x : Weighted). IsGreatest auction.sale.lots auction.sale.book (has x.group) x.without) rule.least.groups
      × All (λ (x : Weighted). IsGreatest auction.sale.lots auction.sale.book (has x.group) x.without) rule.nearest.groups
  rule-greatest [] rule is = cc
  rule-greatest (line.Weighted w ∷ more) rule is = cc
  rule-greatest (line.Scaled scales ∷ more) rule is =
      let given = line.Scaled scales ∷ more in
      let made : Rule = record {
        least = weights_for auction won given aim.Least scales.least;
        nearest = weights_for auction won given aim.Nearest scales.nearest;
        push = scales.push;
      } in
      let same : made ≡ rule = ok-is _ made rule refl is in
      subst (λ (x : Rule). All (λ (y : Weighted). IsGreatest auction.sale.lots auction.sale.book (has y.group) y.without) x.least.groups
      × All (λ (y : Weighted). IsGreatest auction.sale.lots auction.sale.book (has y.group) y.without) x.nearest.groups) same
      (weights-greatest given aim.Least scales.least, weights-greatest given aim.Nearest scales.nearest)

  -- the text of a rule
  rule-holds : (p : InParts) (by_rule : Bool) (texts : List (List ℕ))
      → Suffice (reserves_in auction.rules) auction.sale.lots auction.sale.book first p.parts (price_in p.prices)
      → parsed_by_rule auction won first p texts ≡ Ok by_rule → by_rule ≡ true
      → ArePricesOfRule auction first p.parts (price_in p.prices)
  rule-holds p by_rule [] suffice parsed so = cc
  rule-holds p by_rule (text ∷ more) suffice parsed so =
      let (rule, rule_is, later) = ok-after (parsed_rule auction won first text) _ by_rule parsed in
      let (costs, costs_are, rest) = ok-after (known_alone auction won first) _ by_rule later in
      let (given, given_are, made) = ok-after (refused_as refusal.Rule (parsed_rule_lines (known_by auction first) text)) (rule_of auction won) rule rule_is in
      let weights = rule-greatest given rule made in
      let known = ok-refused_as (alone_refused auction.sale)
      (costs_alone (reserves_in auction.rules) auction.sale.lots auction.sale.book first auction.groups won) costs costs_are in
      let none = (unless-ok (fault_of_rule auction first p costs rule) true by_rule rest).0 in
      let faultless = no-fault unshown_refused (rule_fault (reserves_in auction.rules) auction.sale.lots auction.sale.book first (price_in costs) p.parts
      (price_in p.prices) rule) none in (
        price_in costs,
        listed_are_costs_alone (reserves_in auction.rules) auction.sale.lots auction.sale.book first auction.groups won costs best.feasible greatest known,
        shown_are_the_prices (reserves_in auction.rules) auction.sale.lots auction.sale.book first (price_in costs) p.parts (price_in p.prices) rule
            suffice weights.0 weights.1 faultless,
      )

  priced-holds : (text cover : List ℕ) (p : Priced) → priced auction won first text cover ≡ Ok p → AreTruePrices auction first p
  priced-holds text cover p parsed =
      let (given, given_are, more) = ok-after (parsed_prices auction first text) _ p parsed in
      let (u, shown, rest) = ok-after (covered auction first given cover) _ p more in
      let (by_rule, rule_is, written) = ok-after (parsed_by_rule auction won first given auction.rule_texts) _ p rest in
      let made : Priced = record { parts = given.parts; prices = given.prices; by_rule = by_rule } in
      let is : made ≡ p = ok-is _ made p refl written in
      let (fine, least) = parsed-hold auction first text given count best.feasible given_are in
      let some = parsed-some auction first text given given_are in
      let suffice = cover-holds given cover u some fine least shown in
      let rounded = rounded_up_suffice (reserves_in auction.rules) auction.sale.lots auction.sale.book first given.parts (price_in given.prices) suffice in
      subst (AreTruePrices auction first) is (record {
        at_most = fine;
        suffice = suffice;
        paid = rounded;
        by_rule = rule-holds given by_rule auction.rule_texts suffice rule_is;
      })

-- whatever comes of the texts
pub pricing-holds : (auction : Auction) (within : IsBook auction.sale.lots auction.sale.book)
    (count : length auction.sale.book ≡ length auction.rules.bidders) (won : List (List Choice))
    (best : IsGreatest auction.sale.lots auction.sale.book (λ b. false) (slice_index_or won 0 []))
    (greatest : AllZip (IsGreatestWithout auction.sale) auction.groups won) (pricing : Option Priced)
    → parsed_pricing auction won ≡ Ok pricing → IfSome pricing (AreTruePrices auction (slice_index_or won 0 [])) × (pricing ≡ None → auction.prices ≡ [])
pricing-holds auction within count won best greatest pricing parsed =
    by auction.prices (unless-parsed (first_failed (pricing_counts auction)) _ pricing parsed).1
  where
    by : (texts : List (List ℕ)) → priced_by auction won texts auction.covers ≡ Ok pricing
        → IfSome pricing (AreTruePrices auction (slice_index_or won 0 [])) × (pricing ≡ None → texts ≡ [])
    by [] is = (let none : None ≡ pricing = ok-is _ None pricing refl is in
        (subst (λ (o : Option Priced). IfSome o (AreTruePrices auction (slice_index_or won 0 []))) none tt, λ e. refl))
    by (text ∷ more) is =
        let first = slice_index_or won 0 [] in
        let cover = slice_index_or auction.covers 0 [] in
        let (p, p_is, rest) = ok-after (priced auction won first text cover) _ pricing is in
        let some : Some p ≡ pricing = ok-is _ (Some p) pricing refl rest in (
          subst (λ (o : Option Priced). IfSome o (AreTruePrices auction first)) some (priced-holds auction within count won first best
              greatest text cover p p_is),
          λ e. absurd (let wrong : Some p ≡ None = some ∙ e in cc),
        )
