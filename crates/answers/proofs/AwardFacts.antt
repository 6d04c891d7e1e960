-- The award follows from the rules and the last forms alone.
use Rattle.std.proofs.Common.{◌≡◌, ◌++◌, ◌∷◌, ◌∙◌, [], inl, inr, ℕ, true, false, List, Option, ap, ap₂, append_assoc, arith}
use Rattle.std.proofs.Common.{IfSome, IsPermutation, codes, eqb-true, pos, refl, slice_index_or, subst, sym, ◌-ℤ◌, ◌==◌, ◌&&◌}
use Rattle.std.specs.Prelude.{Any}
use Rattle.std.specs.List.{AllByRecursion, AllZip}
use Rattle.std.proofs.lemmas.Bool.{and_parts, true_from_ne_false}
use Rattle.std.proofs.lemmas.List.{append_cancel_right}
use Rattle.auction_terms.specs.Allocations.{total}
use Rattle.auction_terms.specs.Only.{IsOnly}
use Rattle.auction_terms.specs.Terms.{Terms}
use Rattle.auction_terms.specs.declared.bids.Choice.{Choice}
use Rattle.auction_input.specs.Auction.{Auction}
use Rattle.bid_desk.specs.Sale.{Sale}
use Rattle.outcome.proofs.TieFacts.{others_differ, the_only_is_greatest}
use Rattle.outcome.specs.Others.{Others, others_text}
use Rattle.outcome.specs.PointAllocation.{HasRisingBidders}
use Rattle.outcome.specs.Pricing.{Priced, price_in, pricing_text}
use Rattle.outcome.specs.Report.{amounts_of_group, cost, report_text}
use Rattle.outcome.specs.Ties.{same_choices}
use Rattle.outcome.specs.declared.others.Further.{Further}
use Rattle.outcome.specs.declared.others.Further.TheVariants.{NoOther}
use Rattle.prices.proofs.FollowingFacts.{exact_prices_follow, the_prices_follow}
use Rattle.prices.specs.Alone.{AreCostsAlone}
use Rattle.prices.specs.Parts.{AreThePrices}
use Rattle.prices.specs.Prices.{reserves_in}
use Rattle.program_rows.specs.Faithful.{IsGreatest}
use Rattle.answers.specs.Verified.{AreAmong, AreSameAward, AreTruePrices, AwardFollows, AwardsFollow, IsAward, IsGreatestWithout, IsListedFor}
use Rattle.answers.specs.Verified.{IsTrueReport, award_lines, winners_of}
use Rattle.answers.proofs.EndFacts.{report-ends, says-by-rule, says-unique}
use Rattle.answers.proofs.OthersFacts.{only-of}
use Rattle.answers.proofs.VerifiedFacts.{has-report}

-- ---- the same winners

same-bids-listed : (c d : Choice) → ((c.bidder == d.bidder) && (c.bid == d.bid)) ≡ true → c ≡ d
same-bids-listed c d e =
    let parts = and_parts (c.bidder == d.bidder) (c.bid == d.bid) e in
    let bidder = eqb-true c.bidder d.bidder parts.0 in
    let bid = eqb-true c.bid d.bid parts.1 in
    ap₂ (λ (b j : ℕ). record { bidder = b; bid = j }) bidder bid

same-lists : (xs ys : List Choice) → same_choices xs ys ≡ true → xs ≡ ys
same-lists [] [] e = refl
same-lists [] (d ∷ ys) e = cc
same-lists (c ∷ xs) [] e = cc
same-lists (c ∷ xs) (d ∷ ys) e =
    let parts = and_parts ((c.bidder == d.bidder) && (c.bid == d.bid)) (same_choices xs ys) e in
    let head = same-bids-listed c d parts.0 in
    let tail = same-lists xs ys parts.1 in
    ap₂ (λ (x : Choice) (more : List Choice). x ∷ more) head tail

-- lists of rising bidders are one if they have the same choices in whatever order
one-list : (a b : List Choice) → HasRisingBidders a → HasRisingBidders b → IsPermutation a b → a ≡ b
one-list a b rising rising' p = same-lists a b (true_from_ne_false (same_choices a b) (λ e. others_differ a b rising rising' e p))

winners-same : (sale : Sale) (first first' : List Choice) → IsOnly sale.lots sale.book (λ b. false) first → IsOnly sale.lots sale.book (λ b. false) first'
    → HasRisingBidders first → HasRisingBidders first' → first ≡ first'
winners-same sale first first' only only' rising rising' =
    let best' = the_only_is_greatest sale.lots sale.book (λ b. false) first' only' in
    let best = the_only_is_greatest sale.lots sale.book (λ b. false) first only in
    one-list first first' rising rising' (only.only first' best'.feasible (best'.greatest first best.feasible))

-- ---- what two awards have in common

listed-greatest : (sale : Sale) (group : List ℕ) (a : List Choice) (groups : List (List ℕ)) (won : List (List Choice))
    → AllZip (IsGreatestWithout sale) groups won → IsListedFor group a groups won → IsGreatestWithout sale group a
listed-greatest sale group a [] won each listed = absurd listed
listed-greatest sale group a (h ∷ groups) [] each listed = absurd listed
listed-greatest sale group a (h ∷ groups) (b ∷ won) each (inl (same, is)) =
    subst (λ (g : List ℕ). IsGreatestWithout sale g a) (sym same) (subst (λ (x : List Choice). IsGreatestWithout sale h x) (sym is) each.0)
listed-greatest sale group a (h ∷ groups) (b ∷ won) each (inr later) = listed-greatest sale group a groups won each.1 later

-- totals, and so costs beside the same first winners
group-same : (sale : Sale) (first : List Choice) (group : List ℕ) (a a' : List Choice) → IsGreatestWithout sale group a → IsGreatestWithout sale group a'
    → (total sale.lots sale.book a ≡ total sale.lots sale.book a') × (cost sale.lots sale.book first group a ≡ cost sale.lots sale.book first group a')
group-same sale first group a a' without without' =
    let low = without.greatest a' without'.feasible in
    let high = without'.greatest a without.feasible in
    let same : total sale.lots sale.book a ≡ total sale.lots sale.book a' = omega (arith, low, high) in
    (same, ap (λ (t : ℕ). pos t -ℤ (pos (total sale.lots sale.book first) -ℤ pos (amounts_of_group sale.book group first))) same)

each-so : {X : Type 0} (P Q : X → Type 0) → ((x : X) → P x → Q x) → (xs : List X) → AllByRecursion P xs → AllByRecursion Q xs
each-so P Q so [] each = tt
each-so P Q so (x ∷ xs) each = (so x each.0, each-so P Q so xs each.1)

-- prices are those of the rule, by rules and a sale
abbrev IsRuled : Terms → Sale → List Choice → Priced → Type 0
IsRuled t sale first p = (alone : ℕ → ℕ) × AreCostsAlone (reserves_in t) sale.lots sale.book first alone
    × AreThePrices (reserves_in t) sale.lots sale.book first alone p.parts (price_in p.prices)

ruled : (auction : Auction) (out : List ℕ) (award : IsAward auction out) → IsRuled auction.rules auction.sale (winners_of auction out award) award.pricing
ruled auction out award =
    let true_of = subst (λ (o : Option Priced). IfSome o (AreTruePrices auction (winners_of auction out award))) award.priced award.report.prices in
    true_of.by_rule award.by_rule

module _ (auction auction' : Auction) (out out' : List ℕ) (rules : auction.rules ≡ auction'.rules)
    (sale : auction.sale ≡ auction'.sale) (one : IsAward auction out) (other : IsAward auction' out') where
  abbrev first : List Choice
  first = winners_of auction out one

  abbrev first' : List Choice
  first' = winners_of auction' out' other

  abbrev best : List Choice → Type 0
  best a = IsGreatest auction.sale.lots auction.sale.book (λ b. false) a

  -- each award of the other one is printed here
  among : AreAmong (first ∷ one.report.others.awards) (first' ∷ other.report.others.awards)
  among = each-so best (λ a. Any (λ b. IsPermutation b a) (first ∷ one.report.others.awards)) (one.report.others_true.all one.no_other)
      (first' ∷ other.report.others.awards)
      (subst (λ (s : Sale). AllByRecursion (IsGreatest s.lots s.book (λ b. false)) (first' ∷ other.report.others.awards)) (sym sale)
      other.report.others_true.greatest)

  same-award : first ≡ first' → AreSameAward auction auction' out out' one other
  same-award same =
      let greatest' = subst (λ (s : Sale). AllZip (IsGreatestWithout s) auction'.groups other.report.won) (sym sale) other.report.greatest in
      let (alone, alone_are, by_rule) = ruled auction out one in
      let (alone', alone_are', by_rule') = subst (λ (s : Sale). IsRuled auction.rules s first other.pricing) (sym sale)
      (subst (λ (t : Terms). IsRuled t auction'.sale first other.pricing) (sym rules)
      (subst (λ (a : List Choice). IsRuled auction'.rules auction'.sale a other.pricing) (sym same) (ruled auction' out' other))) in
      record {
        winners = same;
        prices = the_prices_follow (reserves_in auction.rules) auction.sale.lots auction.sale.book first alone alone' one.pricing.parts other.pricing.parts
            (price_in one.pricing.prices) (price_in other.pricing.prices) one.report.book alone_are by_rule alone_are' by_rule';
        exact = exact_prices_follow (reserves_in auction.rules) auction.sale.lots auction.sale.book first alone alone' one.pricing.parts other.pricing.parts
            (price_in one.pricing.prices) (price_in other.pricing.prices) one.report.book alone_are by_rule alone_are' by_rule';
        groups = λ group a a' listed listed'.
            let here = listed-greatest auction.sale group a auction.groups one.report.won one.report.greatest listed in
            let there = listed-greatest auction.sale group a' auction'.groups other.report.won greatest' listed' in
            subst (λ (s : Sale). (total auction.sale.lots auction.sale.book a ≡ total s.lots s.book a')
            × (cost auction.sale.lots auction.sale.book first group a ≡ cost s.lots s.book first' group a')) sale
            (subst (λ (x : List Choice). (total auction.sale.lots auction.sale.book a ≡ total auction.sale.lots auction.sale.book a')
            × (cost auction.sale.lots auction.sale.book first group a ≡ cost auction.sale.lots auction.sale.book x group a')) same
            (group-same auction.sale first group a a' here there));
      }

pub awards_follow : AwardsFollow
awards_follow auction auction' out out' one other rules sale =
    (among auction auction' out out' rules sale one other, same-award auction auction' out out' rules sale one other)

-- ---- what is printed

-- an award after which nothing but `unique` is printed
record PrintsAward (auction : Auction) (out : List ℕ) : Type 0 where
  award : IsAward auction out
  alone : award.report.others.awards ≡ []

prints-award : (auction : Auction) (before : List ℕ) → IsTrueReport auction (before ++ award_lines) → PrintsAward auction (before ++ award_lines)
prints-award auction before report =
    let some = has-report auction (before ++ award_lines) report in
    let first = slice_index_or report.won 0 [] in
    let text = report_text auction.sale auction.groups report.won in
    let ends = report-ends auction.sale auction.groups report.won some in
    let front = before ++ codes "by the rule\n" in
    let split : before ++ award_lines ≡ front ++ codes "unique\n" = sym (append_assoc before (codes "by the rule\n") (codes "unique\n")) in
    let is = sym split ∙ report.text in
    let (none, alone) = says-unique auction.sale text ends first front report.pricing report.others is in
    let others : report.others ≡ record { awards = []; further = NoOther } =
    ap₂ (λ (awards : List (List Choice)) (f : Further). record { awards = awards; further = f }) alone none in
    let prices = pricing_text auction.sale first report.pricing in
    let apart : front ++ codes "unique\n" ≡ (text ++ prices) ++ codes "unique\n" =
    is ∙ ap (λ (o : Others). text ++ (prices ++ others_text auction.sale o)) others ∙ sym (append_assoc text prices (codes "unique\n")) in
    let (p, priced, by_rule) = says-by-rule auction.sale text ends first before report.pricing (append_cancel_right front (text ++ prices) (codes "unique\n") apart) in
    record { award = record { report = report; pricing = p; priced = priced; by_rule = by_rule; no_other = none }; alone = alone }

pub award_follows : AwardFollows
award_follows auction auction' before before' rules sale report report' =
    let one = prints-award auction before report in
    let other = prints-award auction' before' report' in
    let first = slice_index_or one.award.report.won 0 [] in
    let first' = slice_index_or other.award.report.won 0 [] in
    let only = only-of auction.sale first one.award.report.others one.award.report.others_true one.award.no_other one.alone in
    let only' = subst (λ (s : Sale). IsOnly s.lots s.book (λ b. false) first') (sym sale)
    (only-of auction'.sale first' other.award.report.others other.award.report.others_true other.award.no_other other.alone) in
    let same = winners-same auction.sale first first' only only' one.award.report.rising other.award.report.rising in (
      one.award,
      other.award,
      one.alone,
      other.alone,
      same-award auction auction' (before ++ award_lines) (before' ++ award_lines) rules sale one.award other.award same,
    )
