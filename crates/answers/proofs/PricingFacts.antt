-- What prices that a text gives keep to.
use Rattle.std.proofs.Common.{◌≡◌, ◌⊎◌, ◌≤◌, ◌<◌, ◌+◌, ◌*◌, ◌∷◌, ◌∙◌, [], inl, inr, ap, drop, drop-cons, refl, sym, Result, Ok}
use Rattle.std.proofs.Common.{ℕ, zero, suc, Bool, true, false, List, Option, None, Some, arith, eqb-true, leb-true}
use Rattle.std.proofs.Common.{nat_le, subst, length, slice_index_or}
use Rattle.std.specs.List.{AllByRecursion, AllZip}
use Rattle.std.specs.Option.{option_map, option_map_or, option_or}
use Rattle.std.proofs.lemmas.List.Elements.{All-from_recursion, recursion_from_All}
use Rattle.std.proofs.lemmas.List.FromFn.{get_or-map-range_with_len}
use Rattle.auction_terms.specs.Allocations.{Book, amount_of, bid_at, bid_of, form_of, is_eligible, weighed_choice, IsFeasible}
use Rattle.auction_terms.specs.declared.bids.Bid.{Bid}
use Rattle.auction_terms.specs.Groups.{has, starts_empty}
use Rattle.auction_terms.specs.Packages.{Lots}
use Rattle.auction_terms.specs.Terms.{Terms}
use Rattle.auction_terms.specs.declared.bids.Choice.{Choice}
use Rattle.auction_terms.proofs.AllocationFacts.{value_of}
use Rattle.auction_input.specs.declared.refusal.Refusal.TheVariants as refusal
use Rattle.auction_input.specs.declared.refusal.Refusal.{Refusal}
use Rattle.auction_input.specs.Auction.{Auction}
use Rattle.auction_input.specs.Refused.{Refuses}
use Rattle.auction_input.proofs.RecordFacts.{neither, none-failed}
use Rattle.auction_input.proofs.AnswerFacts.{ok-after, ok-refused_as, unless-ok}
use Rattle.auction_input.proofs.PriceTextFacts.{parts-some}
use Rattle.auction_input.proofs.StageFacts.{after-ok, next, refuses-as, stop}
use Rattle.auction_terms.specs.Stages.{and_then, refused_as, unless}
use Rattle.optimality.specs.Answers.{IsLimit}
use Rattle.program_rows.specs.declared.certificate_fault.CertificateFault.{CertificateFault}
use Rattle.program_rows.specs.declared.certificate_fault.CertificateFaultKind.{CertificateFaultKind}
use Rattle.program_rows.specs.declared.certificate_fault.CertificateFaultKind.TheVariants as kind
use Rattle.bid_desk.specs.Sale.{Sale}
use Rattle.auction_terms.specs.FirstFault.{first_failed}
use Rattle.outcome.specs.Pricing.{Priced, price_in}
use Rattle.auction_terms.specs.Fractions.{in_parts}
use Rattle.auction_input.specs.PriceTexts.{parsed_price_text, common_parts, price_given, prices_in_parts}
use Rattle.auction_input.specs.declared.price_fault.PriceFault.TheVariants as fault
use Rattle.auction_input.specs.declared.price_reading.GivenPrice.{GivenPrice}
use Rattle.prices.specs.Blocking.{ArePrices}
use Rattle.prices.specs.Parts.{AreAtLeastReserves}
use Rattle.prices.specs.Prices.{reserves_in}
use Rattle.prices.specs.Raised.{IsLargeCoverAt}
use Rattle.program_rows.specs.Faithful.{IsGreatest}
use Rattle.answers.specs.Pricing.{InParts, IsTooWideCover, covered, fault_of_cover, fault_of_rule, in_parts_of, known_alone, known_by, parsed_by_rule}
use Rattle.answers.specs.Pricing.{parsed_prices, parsed_rule}
use Rattle.prices.specs.Rule.{Rule}
use Rattle.answers.specs.Pricing.{price_fault, priced, priced_by, pricing_counts, parsed_pricing, winner_fault, winners_fault}

-- ---- the bidders of a book

within : (book : Book) (b j : ℕ) (x : Bid) → bid_at (form_of book (suc b)) j ≡ Some x → b < length book
within [] b zero x e = cc
within [] b (suc j) x e = cc
within (form ∷ book) zero j x e = omega arith
within (form ∷ book) (suc b) j x e = let h = within book b j x e in omega arith

bidder-of : (book : Book) (b j : ℕ) (x : Bid) → bid_at (form_of book b) j ≡ Some x → (1 ≤ b) × (b ≤ length book)
bidder-of book zero zero x e = cc
bidder-of book zero (suc j) x e = cc
bidder-of book (suc b) j x e = let h = within book b j x e in (omega arith, omega arith)

-- ---- the prices of winners without a fault

module _ (rules : Terms) (sale : Sale) (given : List GivenPrice) where
  abbrev price : ℕ → ℕ
  price b = option_map_or (λ g. in_parts (common_parts given) g.price) (price_given given b) 0

  abbrev IsFine : Choice → Type 0
  IsFine c = (common_parts given * weighed_choice (reserves_in rules) sale.book c ≤ price c.bidder) × (price c.bidder ≤ common_parts given * amount_of sale.book c)

  fine : (c : Choice) → winner_fault rules sale given c ≡ None → IsFine c
  fine c none = by (price_given given c.bidder) none
    where
      by : (o : Option GivenPrice) → price_fault rules sale (common_parts given) c o ≡ None
          → (common_parts given * weighed_choice (reserves_in rules) sale.book c ≤ option_map_or (λ g. in_parts (common_parts given) g.price) o 0)
          × (option_map_or (λ g. in_parts (common_parts given) g.price) o 0 ≤ common_parts given * amount_of sale.book c)
      by None h = cc
      by (Some g) h =
          let checks : List (Bool × Refusal) =
          (nat_le (in_parts (common_parts given) g.price) (common_parts given * amount_of sale.book c), refusal.Prices (fault.AboveAmount g.place)) ∷ (
            nat_le (common_parts given * weighed_choice (reserves_in rules) sale.book c) (in_parts (common_parts given) g.price),
            refusal.Prices
                (fault.BelowReserve g.place),
          ) ∷ [] in
          let each = none-failed checks h in
          (leb-true _ _ each.1.0, leb-true _ _ each.0)

  all-fine : (a : List Choice) → winners_fault rules sale given a ≡ None → AllByRecursion IsFine a
  all-fine [] none = tt
  all-fine (c ∷ a) none = (let (here, later) = neither (winner_fault rules sale given c) (winners_fault rules sale given a) none in
      (fine c here, all-fine a later))

  -- the prices by a list
  listed : (n b : ℕ) → 1 ≤ b → b ≤ n → price_in (prices_in_parts (common_parts given) given n) b ≡ price b
  listed n zero some few = absurd (omega arith)
  listed n (suc b) some few = get_or-map-range_with_len price 1 n b (suc b) 0 (omega arith) (omega arith)

  module _ (lots : Lots) (n : ℕ) (first : List Choice) (count : length sale.book ≡ n)
      (feasible : IsFeasible lots sale.book (λ b. false) first) (none : winners_fault rules sale given first ≡ None) where
    abbrev prices : List ℕ
    prices = prices_in_parts (common_parts given) given n

    each : (a : List Choice) → AllByRecursion (λ c. is_eligible sale.book (λ b. false) c ≡ true) a → AllByRecursion IsFine a
        → AllByRecursion (λ c. price_in prices c.bidder ≤ common_parts given * amount_of sale.book c) a
        × AllByRecursion (λ c. common_parts given * weighed_choice (reserves_in rules) sale.book c ≤ price_in prices c.bidder) a
    each [] eligible fine = (tt, tt)
    each (c ∷ a) eligible fine =
        let v = value_of (bid_of sale.book c) eligible.0 in
        let there = bidder-of sale.book c.bidder c.bid v.0 v.1 in
        let is = listed n c.bidder there.0 (omega (arith, there.1, count)) in
        let (most, least) = each a eligible.1 fine.1 in
        ((rw is fine.0.1, most), (rw is fine.0.0, least))

    both : AllByRecursion (λ c. price_in prices c.bidder ≤ common_parts given * amount_of sale.book c) first
        × AllByRecursion (λ c. common_parts given * weighed_choice (reserves_in rules) sale.book c ≤ price_in prices c.bidder) first
    both = each first (recursion_from_All (λ c. is_eligible sale.book (λ b. false) c ≡ true) first feasible.eligible) (all-fine first none)

    pub are-prices : ArePrices sale.book first (common_parts given) (price_in prices)
    are-prices = All-from_recursion _ first both.0

    pub at-least-reserves : AreAtLeastReserves (reserves_in rules) sale.book first (common_parts given) (price_in prices)
    at-least-reserves = All-from_recursion _ first both.1

-- ---- one winner after the other

module _ (rules : Terms) (sale : Sale) (given : List GivenPrice) (all : List Choice) (i : ℕ) (d : Choice) (here : i < length all)
    (so_far : winners_fault rules sale given all ≡ winners_fault rules sale given (drop i all)) where
  ahead : winners_fault rules sale given all ≡ option_or (winner_fault rules sale given (slice_index_or all i d))
      (winners_fault rules sale given (drop (suc i) all))
  ahead = so_far ∙ ap (λ (xs : List Choice). winners_fault rules sale given xs) (drop-cons all i d here)

  pub winner-passed : winner_fault rules sale given (slice_index_or all i d) ≡ None
      → winners_fault rules sale given all ≡ winners_fault rules sale given (drop (i + 1) all)
  winner-passed none =
      let next : suc i ≡ i + 1 = omega arith in
      ahead ∙ ap (λ (o : Option Refusal). option_or o (winners_fault rules sale given (drop (suc i) all))) none
      ∙ ap (λ (k : ℕ). winners_fault rules sale given (drop k all)) next

  pub winner-refused : (r : Refusal) → (r ≡ refusal.OutOfMemory) ⊎ (winner_fault rules sale given (slice_index_or all i d) ≡ Some r)
      → (r ≡ refusal.OutOfMemory) ⊎ (winners_fault rules sale given all ≡ Some r)
  winner-refused r (inl memory) = inl memory
  winner-refused r (inr found) = inr (ahead ∙ ap (λ (o : Option Refusal). option_or o (winners_fault rules sale given (drop (suc i) all))) found)

-- ---- the first of what is won

pub first-greatest : (lots : Lots) (book : Book) (groups : List (List ℕ)) (won : List (List Choice)) → starts_empty groups ≡ true
    → AllZip (λ group a. IsGreatest lots book (has group) a) groups won
    → (1 ≤ length won) × IsGreatest lots book (λ b. false) (slice_index_or won 0 [])
first-greatest lots book [] won starts greatest = cc
first-greatest lots book ([] ∷ groups) [] starts greatest = absurd greatest
first-greatest lots book ([] ∷ groups) (a ∷ won) starts greatest = (omega arith, greatest.0)
first-greatest lots book ((b ∷ group) ∷ groups) won starts greatest =
    (let none : length (b ∷ group) ≡ 0 = eqb-true (length (b ∷ group)) 0 starts in absurd (omega arith))

-- ---- the cover

module _ (auction : Auction) (first : List Choice) (p : InParts) (text : List ℕ) where
  abbrev found : Option (ℕ × CertificateFaultKind)
  found = fault_of_cover auction first p text

  abbrev IsLarge : ℕ → Type 0
  IsLarge line = IsLargeCoverAt auction.sale.lots auction.sale.book first p.parts (price_in p.prices) text line

  abbrev judged : Option (ℕ × CertificateFaultKind) → Result (Unit {0}) Refusal
  judged o = unless (option_map (λ (f : ℕ × CertificateFaultKind). refusal.Cover (record { line = f.0; kind = f.1 })) o) (Ok tt)

  pub cover-parsed : found ≡ None → covered auction first p text ≡ Ok tt
  cover-parsed none = ap judged none

  by-kind : (line : ℕ) (k : CertificateFaultKind) → IsLimit k ⊎ (found ≡ Some (line, k))
      → (k ≡ kind.TooLarge → IsLarge line)
      → Refuses (covered auction first p text) (refusal.Cover (record { line = line; kind = k }))
      ⊎ IsTooWideCover auction first p text (refusal.Cover (record { line = line; kind = k }))
  by-kind line k (inl (inl memory)) large = inl (inr (rw memory refl))
  by-kind line k (inl (inr wide)) large =
      subst (λ (x : CertificateFaultKind). Refuses (covered auction first p text) (refusal.Cover (record { line = line; kind = x }))
      ⊎ IsTooWideCover auction first p text (refusal.Cover (record { line = line; kind = x }))) (sym wide) (inr (line, large wide, refl))
  by-kind line k (inr is) large = inl (inl (ap judged is))

  pub cover-refused : (f : CertificateFault) → IsLimit f.kind ⊎ (found ≡ Some (f.line, f.kind))
      → (f.kind ≡ kind.TooLarge → IsLarge f.line)
      → Refuses (covered auction first p text) (refusal.Cover f) ⊎ IsTooWideCover auction first p text (refusal.Cover f)
  cover-refused f verdict large = by-kind f.line f.kind verdict large

-- prices that a text gives are prices
pub parsed-hold : (auction : Auction) (first : List Choice) (text : List ℕ) (p : InParts) → length auction.sale.book ≡ length auction.rules.bidders
    → IsFeasible auction.sale.lots auction.sale.book (λ b. false) first → parsed_prices auction first text ≡ Ok p
    → ArePrices auction.sale.book first p.parts (price_in p.prices)
    × AreAtLeastReserves (reserves_in auction.rules) auction.sale.book first p.parts (price_in p.prices)
parsed-hold auction first text p count feasible parsed =
    let (given, given_is, taken) = ok-after (refused_as refusal.Prices (parsed_price_text (known_by auction first) text)) _ p parsed in
    let n : ℕ = length auction.rules.bidders in
    let (none, is) = unless-ok (winners_fault auction.rules auction.sale given first) (in_parts_of auction given) p taken in
    subst (λ (x : InParts). ArePrices auction.sale.book first x.parts (price_in x.prices)
    × AreAtLeastReserves (reserves_in auction.rules) auction.sale.book first x.parts (price_in x.prices)) is (
      are-prices auction.rules auction.sale given auction.sale.lots n first count feasible none,
      at-least-reserves auction.rules auction.sale given auction.sale.lots n first count feasible none,
    )

-- they are whole in some parts
pub parsed-some : (auction : Auction) (first : List Choice) (text : List ℕ) (p : InParts) → parsed_prices auction first text ≡ Ok p → 1 ≤ p.parts
parsed-some auction first text p parsed =
    let known = known_by auction first in
    let (given, given_is, taken) = ok-after (refused_as refusal.Prices (parsed_price_text known text)) _ p parsed in
    let (none, is) = unless-ok (winners_fault auction.rules auction.sale given first) (in_parts_of auction given) p taken in
    let some = parts-some known text given (ok-refused_as refusal.Prices (parsed_price_text known text) given given_is) in
    subst (λ (x : InParts). 1 ≤ x.parts) is some

-- ---- the rule

module _ (auction : Auction) (won : List (List Choice)) (first : List Choice) (p : InParts) (text : List ℕ) (more : List (List ℕ)) (rule : Rule)
    (costs : List ℕ) (read : parsed_rule auction won first text ≡ Ok rule) (known : known_alone auction won first ≡ Ok costs) where
  pub rule-shown : fault_of_rule auction first p costs rule ≡ None → parsed_by_rule auction won first p (text ∷ more) ≡ Ok true
  rule-shown none = next _ rule _ _ read (next _ costs _ _ known (ap (λ (o : Option Refusal). unless o (Ok true)) none))

  pub rule-unshown : (r : Refusal) → fault_of_rule auction first p costs rule ≡ Some r → Refuses (parsed_by_rule auction won first p (text ∷ more)) r
  rule-unshown r found = after-ok _ rule _ r read (after-ok _ costs _ r known (inl (ap (λ (o : Option Refusal). unless o (Ok true)) found)))

-- ---- all of it

module _ (auction : Auction) (won : List (List Choice)) (first : List Choice) (text cover : List ℕ) (p : InParts)
    (parsed : parsed_prices auction first text ≡ Ok p) where
  pub pricing-covered : (by_rule : Bool) → covered auction first p cover ≡ Ok tt → parsed_by_rule auction won first p auction.rule_texts ≡ Ok by_rule
      → priced auction won first text cover ≡ Ok (record { parts = p.parts; prices = p.prices; by_rule = by_rule })
  pricing-covered by_rule shown ruled = next _ p _ _ parsed (next _ tt _ _ shown (next _ by_rule _ _ ruled refl))

  pub pricing-uncovered : (r : Refusal) → Refuses (covered auction first p cover) r → Refuses (priced auction won first text cover) r
  pricing-uncovered r refused = after-ok _ p _ r parsed (stop _ _ r refused)

  pub pricing-unruled : (r : Refusal) → covered auction first p cover ≡ Ok tt
      → Refuses (parsed_by_rule auction won first p auction.rule_texts) r → Refuses (priced auction won first text cover) r
  pricing-unruled r shown refused = after-ok _ p _ r parsed (after-ok _ tt _ r shown (stop _ _ r refused))

  pub not-covered : (text' : List ℕ) (r : Refusal) → text' ≡ cover
      → Refuses (covered auction first p text') r ⊎ IsTooWideCover auction first p text' r
      → Refuses (priced auction won first text cover) r ⊎ ((x : InParts) × (parsed_prices auction first text ≡ Ok x) × IsTooWideCover auction first x cover r)
  not-covered text' r is (inl refused) = inl (pricing-uncovered r (subst (λ (x : List ℕ). Refuses (covered auction first p x) r) is refused))
  not-covered text' r is (inr wide) = inr (p, parsed, subst (λ (x : List ℕ). IsTooWideCover auction first p x r) is wide)

module _ (auction : Auction) (won : List (List Choice)) (fine : first_failed (pricing_counts auction) ≡ None) where
  counted : parsed_pricing auction won ≡ priced_by auction won auction.prices auction.covers
  counted = ap (λ (o : Option Refusal). unless o (priced_by auction won auction.prices auction.covers)) fine

  abbrev whole : Result Priced Refusal
  whole = priced auction won (slice_index_or won 0 []) (slice_index_or auction.prices 0 []) (slice_index_or auction.covers 0 [])

  with-prices : 0 < length auction.prices → parsed_pricing auction won ≡ and_then whole (λ p. Ok (Some p))
  with-prices some = counted ∙ by auction.prices some
    where
      by : (texts : List (List ℕ)) → 0 < length texts
          → priced_by auction won texts auction.covers ≡ and_then (priced auction won (slice_index_or won 0 []) (slice_index_or texts 0 [])
          (slice_index_or auction.covers 0 [])) (λ p. Ok (Some p))
      by [] some = absurd (omega arith)
      by (text ∷ more) some = refl

  pub prices-refuse : (r : Refusal) → 0 < length auction.prices → Refuses whole r → Refuses (parsed_pricing auction won) r
  prices-refuse r some refused = refuses-as _ _ r (with-prices some) (stop _ _ r refused)

-- the counts, one by one
pub counts-say : (auction : Auction) → first_failed (pricing_counts auction) ≡ None
    → (length auction.prices ≤ 1) × (length auction.covers ≡ length auction.prices)
counts-say auction fine = (let each = none-failed (pricing_counts auction) fine in (leb-true _ _ each.0, eqb-true _ _ each.1.0))
