-- What certificates show of what groups win.
use Rattle.std.proofs.Common.{◌≡◌, ◌≤◌, ◌+◌, ◌++◌, ◌==◌, ◌∷◌, ◌∙◌, [], ℕ, true, false, List, None, Result, Ok}
use Rattle.std.proofs.Common.{Err, IfSome, ap, ap₂, arith, eqb-true, length, map, refl, subst, OnOk, codes}
use Rattle.std.proofs.Common.{slice_index_or, option_map}
use Rattle.auction_input.specs.Input.{Input}
use Rattle.std.specs.List.{AllZip, zip}
use Rattle.std.proofs.lemmas.Int.{ints}
use Rattle.rayon.proofs.ListFacts.{AllZip-weaken}
use Rattle.auction_terms.specs.Groups.{has, starts_empty}
use Rattle.auction_terms.specs.Limits.{IsBook}
use Rattle.auction_terms.specs.declared.bids.Choice.{Choice}
use Rattle.optimality.proofs.BoundFacts.{shown-is-bound}
use Rattle.optimality.proofs.VerdictFacts.{verdict}
use Rattle.optimality.specs.Laws.{IsBound}
use Rattle.optimality.specs.Verdict.{certificate_fault}
use Rattle.program_rows.specs.declared.certificate_fault.CertificateFaultKind.{CertificateFaultKind}
use Rattle.outcome.proofs.CostFacts.{costs_are_bounded, costs_are_own}
use Rattle.outcome.specs.Pricing.{pricing_text}
use Rattle.outcome.specs.Report.{report_text}
use Rattle.bid_desk.specs.Sale.{Sale}
use Rattle.outcome.specs.Others.{Others, others_text}
use Rattle.outcome.specs.PointAllocation.{HasRisingBidders, allocation_of}
use Rattle.outcome.specs.Solution.{solution}
use Rattle.outcome.proofs.BackFacts.{solutions_come_back}
use Rattle.outcome.specs.declared.others.Further.{Further}
use Rattle.outcome.specs.declared.others.Further.TheVariants.{NoOther}
use Rattle.program_rows.proofs.FaithfulFacts.{presolved_is_faithful}
use Rattle.program_rows.specs.Faithful.{IsGreatest}
use Rattle.program_rows.specs.Program.{Table}
use Rattle.auction_input.specs.Auction.{Auction, parsed_auction}
use Rattle.byte_sinks.specs.Sinks.{Outlet}
use Rattle.answers.specs.Programs.{program_for}
use Rattle.answers.specs.Certified.{Bound, bound_of, bounds_of, certified, shown}
use Rattle.answers.specs.Answer.{answer, output_of, shown_outcome}
use Rattle.auction_terms.specs.Stages.{and_then, each_in_turn, refused_as}
use Rattle.answers.specs.Exact.{Writes}
use Rattle.answers.specs.Claimed.{parsed_claims}
use Rattle.answers.specs.Pricing.{parsed_pricing}
use Rattle.answers.specs.Verified.{AreTruePrices, IsGreatestWithout, IsOwnCost}
use Rattle.answers.specs.Verified.{IsTrueReport, NoOtherIsSo, UniqueIsOnly}
use Rattle.answers.specs.VerifiedObjects.{AreTrueObjects}
use Rattle.award_objects.specs.Objects.{objects_shown}
use Rattle.outcome.specs.Outcome.{Outcome, outcome_report}
use Rattle.answers.specs.VerifiedInputs.{VerifiedIsTrue, WritesTrueReportOn}
use Rattle.answers.specs.SolutionWinners.{solution_refused, winners_by, winners_of_groups}
use Rattle.answers.specs.inside.SolutionWinners.{winners}
use Rattle.auction_input.specs.declared.part_kind.PartKind.TheVariants as part
use Rattle.auction_input.specs.declared.refusal.Refusal.TheVariants as refusal
use Rattle.auction_input.specs.declared.request.Request.TheVariants as request
use Rattle.auction_input.proofs.AnswerFacts.{ok-after, ok-is, ok-refused_as, unless-ok}
use Rattle.auction_input.proofs.DescribedFacts.{described-auction}
use Rattle.auction_input.proofs.WithinFacts.{auction-within}
use Rattle.answers.proofs.ClaimedFacts.{some-group, wins-first}
use Rattle.answers.proofs.EndFacts.{report-ends, says-no-other, says-unique}
use Rattle.answers.proofs.PricedFacts.{auction-sized, pricing-holds}
use Rattle.answers.proofs.CheckFacts.{when-both, when-counted}
use Rattle.answers.proofs.WinnersFeasibleFacts.{feasible-of}
use Rattle.answers.proofs.OthersFacts.{all-of, claims-hold, no-fault, only-of, settled-costs}

-- ---- one group

-- a bound that is shown is one
shown-bound : (number : ℕ) (bound : Bound) (u : Unit {0}) → shown number bound ≡ Ok u → IsBound bound.program bound.least
shown-bound number bound u parsed =
    let refuse = λ (f : ℕ × CertificateFaultKind). refusal.Certificate number (record { line = f.0; kind = f.1 }) in
    let none = (unless-ok (option_map refuse (certificate_fault bound.program bound.least bound.certificate)) tt u parsed).0 in
    let faultless : certificate_fault bound.program bound.least bound.certificate ≡ None =
    no-fault refuse (certificate_fault bound.program bound.least bound.certificate) none in
    let (certificate, tells, shows) = (verdict bound.program bound.least bound.certificate).0 faultless in
    shown-is-bound bound.program bound.least certificate shows

-- what is won without a group, of which a bound is shown, is of greatest total
greatest-of : (sale : Sale) (number : ℕ) (group text certificate : List ℕ) (a : List Choice) (u : Unit {0}) → IsBook sale.lots sale.book
    → winners sale number (group, text) ≡ Ok a → shown number (bound_of sale ((group, a), certificate)) ≡ Ok u → IsGreatestWithout sale group a
greatest-of sale number group text certificate a u within won parsed =
    let p : Table = program_for sale group in
    let faithful = presolved_is_faithful sale.lots sale.book (has group) within in
    let bound = shown-bound number (bound_of sale ((group, a), certificate)) u parsed in
    record {
      feasible = feasible-of sale number group text a within won;
      greatest = λ other f.
          let m = faithful.is_matched other f in
          let l = bound m.values m.is_point in
          let g = m.no_less in
          omega (arith, ints);
    }

-- ---- all groups

all-greatest : (sale : Sale) (n : ℕ) (groups texts certificates : List (List ℕ)) (won : List (List Choice)) (all : List (Unit {0})) → IsBook sale.lots sale.book
    → length texts ≡ length groups → length certificates ≡ length groups
    → each_in_turn (winners sale) n (zip groups texts) ≡ Ok won → each_in_turn shown n (map (bound_of sale) (zip (zip groups won) certificates)) ≡ Ok all
    → AllZip (IsGreatestWithout sale) groups won
all-greatest sale n [] texts certificates won all within count counts wins parsed =
    (let none : [] ≡ won = ok-is _ [] won refl wins in subst (λ (xs : List (List Choice)). AllZip (IsGreatestWithout sale) [] xs) none tt)
all-greatest sale n (group ∷ groups) [] certificates won all within count counts wins parsed = absurd (omega arith)
all-greatest sale n (group ∷ groups) (text ∷ texts) [] won all within count counts wins parsed = absurd (omega arith)
all-greatest sale n (group ∷ groups) (text ∷ texts) (certificate ∷ certificates) won all within count counts wins parsed =
    let (a, a_is, more_wins) = ok-after (winners sale n (group, text)) _ won wins in
    let (more, more_are, are) = ok-after (each_in_turn (winners sale) (n + 1) (zip groups texts)) _ won more_wins in
    let is : a ∷ more ≡ won = ok-is _ (a ∷ more) won refl are in
    let parsed_now : each_in_turn shown n (map (bound_of sale) (zip (zip (group ∷ groups) (a ∷ more)) (certificate ∷ certificates)))
    ≡ Ok all = rw (← is) at parsed in
    let (u, u_is, parsed_more) = ok-after (shown n (bound_of sale ((group, a), certificate))) _ all parsed_now in
    let (us, us_are, _) = ok-after (each_in_turn shown (n + 1) (map (bound_of sale) (zip (zip groups more) certificates))) _ all parsed_more in
    let head = greatest-of sale n group text certificate a u within a_is u_is in
    let tail = all-greatest sale (n + 1) groups texts certificates more us within (omega arith) (omega arith) more_are us_are in
    subst (λ (xs : List (List Choice)). AllZip (IsGreatestWithout sale) (group ∷ groups) xs) is (head, tail)

-- ---- costs

own-costs : (sale : Sale) (first : List Choice) → IsGreatest sale.lots sale.book (λ b. false) first
    → (groups : List (List ℕ)) (won : List (List Choice)) → AllZip (IsGreatestWithout sale) groups won
    → AllZip (IsOwnCost sale first) groups won
own-costs sale first best = AllZip-weaken (IsGreatestWithout sale) (IsOwnCost sale first) (λ group a greatest. record {
  is_opportunity_cost = λ of_all without by_all by_others. costs_are_own sale.lots sale.book group first a of_all without by_all by_others best greatest;
  is_within_amounts = costs_are_bounded sale.lots sale.book group first a best greatest;
})

pub first-greatest : (sale : Sale) (groups : List (List ℕ)) (won : List (List Choice)) → starts_empty groups ≡ true → AllZip (IsGreatestWithout sale) groups won
    → IsGreatest sale.lots sale.book (λ b. false) (slice_index_or won 0 [])
first-greatest sale [] won starts each = absurd (cc)
first-greatest sale (group ∷ groups) [] starts each = absurd each
first-greatest sale ([] ∷ groups) (a ∷ won) starts each = each.0
first-greatest sale ((b ∷ group) ∷ groups) (a ∷ won) starts each =
    (let none : length (b ∷ group) ≡ 0 = eqb-true (length (b ∷ group)) 0 starts in absurd (omega arith))

-- ---- an auction

-- allocations that certificates show to be of greatest total are
pub certified-greatest : (auction : Auction) (won : List (List Choice)) → IsBook auction.sale.lots auction.sale.book
    → winners_of_groups auction ≡ Ok won → certified auction won ≡ Ok won → AllZip (IsGreatestWithout auction.sale) auction.groups won
certified-greatest auction won within wins certifies =
    let (starts, count, each) = when-both refusal.FirstGroupNotEmpty (refusal.PartCount part.Solution) (starts_empty auction.groups)
    (length auction.solutions == length auction.groups) _ won wins in
    let (counts, parsed_all) = when-counted (length auction.certificates == length auction.groups) _ (refusal.PartCount part.Certificate) won certifies in
    let (all, shown_are, same) = ok-after (each_in_turn shown 1 (bounds_of auction won)) _ won parsed_all in
    all-greatest auction.sale 1 auction.groups auction.solutions auction.certificates won all within (eqb-true _ _ count) (eqb-true _ _ counts) each shown_are

-- what is certified is what is won
as-won : (auction : Auction) (allocations won : List (List Choice)) → certified auction allocations ≡ Ok won → allocations ≡ won
as-won auction allocations won certifies =
    let (counts, parsed_all) = when-counted (length auction.certificates == length auction.groups) _ (refusal.PartCount part.Certificate) won certifies in
    let (all, shown_are, same) = ok-after (each_in_turn shown 1 (bounds_of auction allocations)) _ won parsed_all in
    ok-is _ allocations won refl same

-- what a solution wins with nobody left out is a list of rising bidders
first-rises : (sale : Sale) (text : List ℕ) (a : List Choice) → IsBook sale.lots sale.book → winners_by (program_for sale []) 1 text ≡ Ok a
    → HasRisingBidders a
first-rises sale text a within parsed =
    let p : Table = program_for sale [] in
    let (point, point_is, is) = ok-after (refused_as (solution_refused p 1) (solution p text)) _ a parsed in
    let parsed_point = ok-refused_as (solution_refused p 1) (solution p text) point point_is in
    let same : allocation_of p point ≡ a = ok-is _ (allocation_of p point) a refl is in
    subst HasRisingBidders same (solutions_come_back sale.lots sale.book (has []) text point within parsed_point).rising

-- what `verify` goes by: these allocations, certified, and what comes of the claim and of the prices
pub record Verdicts (auction : Auction) (o : Outcome) : Type 0 where
  pub wins : winners_of_groups auction ≡ Ok o.won
  pub certifies : certified auction o.won ≡ Ok o.won
  pub claims : parsed_claims auction (slice_index_or o.won 0 []) ≡ Ok o.others
  pub prices : parsed_pricing auction o.won ≡ Ok o.pricing

pub verdicts : (auction : Auction) (o : Outcome) → shown_outcome auction ≡ Ok o → Verdicts auction o
verdicts auction o shows =
    let (won, won_is, later) = ok-after (and_then (winners_of_groups auction) (certified auction)) _ o shows in
    let (others, others_are, after) = ok-after (parsed_claims auction (slice_index_or won 0 [])) _ o later in
    let (pricing, pricing_is, written) = ok-after (parsed_pricing auction won) _ o after in
    let (allocations, wins, certifies) = ok-after (winners_of_groups auction) (certified auction) won won_is in
    let is = as-won auction allocations won certifies in
    let verdict : Verdicts auction (record { won = won; pricing = pricing; others = others }) = record {
      wins = subst (λ (xs : List (List Choice)). winners_of_groups auction ≡ Ok xs) is wins;
      certifies = subst (λ (xs : List (List Choice)). certified auction xs ≡ Ok won) is certifies;
      claims = others_are;
      prices = pricing_is;
    } in
    subst (Verdicts auction) (ok-is _ (record { won = won; pricing = pricing; others = others }) o refl written) verdict

module _ (auction : Auction) (o : Outcome) (within : IsBook auction.sale.lots auction.sale.book)
    (sized : length auction.sale.book ≡ length auction.rules.bidders) (v : Verdicts auction o) where
  greatest : AllZip (IsGreatestWithout auction.sale) auction.groups o.won
  greatest = certified-greatest auction o.won within v.wins v.certifies

  first : IsGreatest auction.sale.lots auction.sale.book (λ b. false) (slice_index_or o.won 0 [])
  first = first-greatest auction.sale auction.groups o.won (wins-first auction o.won v.wins).0 greatest

  priced : IfSome o.pricing (AreTruePrices auction (slice_index_or o.won 0 [])) × (o.pricing ≡ None → auction.prices ≡ [])
  priced = pricing-holds auction within sized o.won first greatest o.pricing v.prices

  rises : HasRisingBidders (slice_index_or o.won 0 [])
  rises = first-rises auction.sale (slice_index_or auction.solutions 0 []) (slice_index_or o.won 0 []) within (wins-first auction o.won v.wins).3

  pub true-report : IsTrueReport auction (outcome_report auction.sale auction.groups o)
  true-report = record {
    won = o.won;
    pricing = o.pricing;
    others = o.others;
    text = refl;
    book = within;
    starts = (wins-first auction o.won v.wins).0;
    greatest = greatest;
    rising = rises;
    costs = own-costs auction.sale (slice_index_or o.won 0 []) first auction.groups o.won greatest;
    prices = priced.0;
    unpriced = priced.1;
    others_true = claims-hold auction within (slice_index_or o.won 0 []) first rises (wins-first auction o.won v.wins).3 o.others v.claims;
  }

  -- and the objects say the same
  pub true-objects : AreTrueObjects auction (objects_shown auction.rules auction.sale auction.groups o)
  unfolding true-report
  true-objects = record { report = outcome_report auction.sale auction.groups o; is_true = true-report; text = refl }

-- ---- an input

pub verified-is-true : VerifiedIsTrue
verified-is-true workers input out parsed =
    let (auction, auction_is, text) = ok-after (parsed_auction (request.Verify workers) input) (output_of (request.Verify workers)) out parsed in
    let (o, shows, written) = ok-after (shown_outcome auction) _ out text in (
      auction,
      (described-auction (request.Verify workers) input auction).0 auction_is,
      subst (IsTrueReport auction) (ok-is _ (outcome_report auction.sale auction.groups o) out refl written)
          (true-report auction o (auction-within (request.Verify workers) input auction auction_is).1 (auction-sized
          (request.Verify workers) input auction auction_is) (verdicts auction o shows)),
    )

-- some group has a report
pub some-report : (sale : Sale) (groups : List (List ℕ)) (won : List (List Choice)) → 1 ≤ length groups
    → AllZip (IsGreatestWithout sale) groups won → 1 ≤ length (zip groups won)
some-report sale [] won some each = absurd (omega arith)
some-report sale (group ∷ groups) [] some each = absurd each
some-report sale (group ∷ groups) (a ∷ won) some each = omega arith

-- so group 1 has one
pub has-report : (auction : Auction) (out : List ℕ) (report : IsTrueReport auction out) → 1 ≤ length (zip auction.groups report.won)
has-report auction out report = some-report auction.sale auction.groups report.won (some-group auction.groups report.starts) report.greatest

-- a true report that ends with the line `unique`
pub unique-is-only : UniqueIsOnly
unique-is-only auction before report =
    let some = has-report auction (before ++ codes "unique\n") report in
    let first = slice_index_or report.won 0 [] in
    let text = report_text auction.sale auction.groups report.won in
    let (none, alone) = says-unique auction.sale text (report-ends auction.sale auction.groups report.won some) first before report.pricing report.others report.text in
    let only = only-of auction.sale first report.others report.others_true none alone in
    let others : report.others ≡ record { awards = []; further = NoOther } =
    ap₂ (λ (awards : List (List Choice)) (f : Further). record { awards = awards; further = f }) alone none in
    record {
      won = report.won;
      pricing = report.pricing;
      text = report.text ∙ ap (λ (o : Others). text ++ (pricing_text auction.sale first report.pricing ++ others_text auction.sale o)) others;
      only = only;
      costs = settled-costs auction.sale first only auction.groups report.won report.greatest;
    }

-- a true report that ends with the line `no other`
pub no-other-is-so : NoOtherIsSo
no-other-is-so auction before report =
    let some = has-report auction (before ++ codes "no other\n") report in
    let first = slice_index_or report.won 0 [] in
    let text = report_text auction.sale auction.groups report.won in
    let (none, is) = says-no-other auction.sale text (report-ends auction.sale auction.groups report.won some) first before report.pricing report.others report.text in
    record {
      won = report.won;
      pricing = report.pricing;
      ties = report.others.awards;
      text = report.text ∙ is;
      all = all-of auction.sale first report.others report.others_true none;
    }

-- what is written of an input at Ok is a true report
pub writes-true-on : {T E : Type 0} (workers : ℕ) (input : Input) (result : Result T E) (before after : Outlet)
    → OnOk result (Writes (answer (request.Verify workers) input) before after)
    → OnOk result (WritesTrueReportOn workers input before.taken after.taken)
writes-true-on workers input (Ok x) before after (out, parsed, sent) =
    let (auction, auction_is, report) = verified-is-true workers input out parsed in
    (auction, auction_is, record { out = out; is_true = report; sent = sent.taken })
writes-true-on workers input (Err e) before after written = tt
