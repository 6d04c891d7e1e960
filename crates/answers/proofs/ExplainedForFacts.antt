-- What commands refuse, and what `explain` prints for them.
use Rattle.std.proofs.Common.{◌≡◌, ◌+◌, ◌-◌, ◌*◌, ◌∷◌, ◌++◌, ◌∙◌, ℕ, Bool, true, false, List, [], Option, None, Some}
use Rattle.std.proofs.Common.{Result, Ok, Err, ap, inl, inr, length, refl, subst, sym, IfErr, IsErr, ◌⊎◌}
use Rattle.std.specs.Prelude.{⊤, if◌then◌else◌, nat_le, slice_index_or}
use Rattle.std.specs.List.{zip}
use Rattle.std.specs.Option.{option_map, option_or}
use Rattle.byte_sinks.specs.Sinks.{Outlet}
use Rattle.answers.specs.Answer.{answer, output_of, reported_objects, shown_objects, shown_outcome}
use Rattle.answers.specs.Exact.{Writes}
use Rattle.answers.specs.ExplainedFor.{ExplainsFor, IsOfParts, IsRefusedBy, IsTakenBy, RefusesSo}
use Rattle.answers.specs.Runs.{IsTakenFor}
use Rattle.answers.specs.Forms.{forms_objects, forms_text}
use Rattle.auction_input.specs.LastForms.{FormParts, parsed_forms}
use Rattle.auction_input.proofs.AnswerFacts.{ok-after}
use Rattle.auction_input.proofs.DescribedFacts.{described-auction}
use Rattle.auction_input.proofs.PartCountFacts.{failed-after}
use Rattle.auction_input.proofs.SealedTextFacts.{forms-of-described}
use Rattle.auction_input.specs.Auction.{Auction, parsed_auction}
use Rattle.auction_input.specs.Input.{Input}
use Rattle.auction_input.specs.PartCounts.{claim_wants, has_certificates, numbers_of, pricing_wants, proof_wants}
use Rattle.auction_input.specs.PartCounts.{refused_unless, solution_wants, with_wanted, parsed_taken, wanted, wants}
use Rattle.auction_input.specs.declared.part_kind.PartKind.TheVariants as part
use Rattle.auction_input.specs.declared.refusal.Refusal.TheVariants as refusal
use Rattle.auction_input.specs.declared.refusal.Refusal.{Refusal}
use Rattle.auction_terms.specs.FirstFault.{first_failed}
use Rattle.auction_terms.specs.Stages.{and_then, each_in_turn, refused_as, unless}
use Rattle.auction_terms.specs.Terms.{Terms}
use Rattle.bid_desk.specs.Sale.{Sale}
use Rattle.auction_terms.specs.declared.bids.Choice.{Choice}
use Rattle.answers.specs.Certified.{bounds_of, certified, shown}
use Rattle.answers.specs.Claimed.{award_fault, claim_counts, first_program, known_others, parsed_claims, parsed_tie, parsed_ties, tie_fault, tie_number, unique_refused}
use Rattle.answers.specs.Pricing.{InParts, alone_refused, covered, in_parts_of, known_alone, known_by, parsed_by_rule, parsed_prices, parsed_rule}
use Rattle.answers.specs.Pricing.{price_fault, priced, priced_by, parsed_pricing, rule_of, unshown_refused}
use Rattle.answers.specs.Pricing.{winner_fault, winners_fault}
use Rattle.auction_terms.specs.Fractions.{in_parts}
use Rattle.auction_input.specs.PriceTexts.{parsed_price_text, parsed_rule_lines, common_parts, price_given}
use Rattle.auction_input.specs.declared.price_reading.GivenPrice.{GivenPrice}
use Rattle.auction_input.specs.declared.rule_weights.RuleLine.{RuleLine}
use Rattle.auction_input.specs.declared.rule_weights.RuleLine.TheVariants as line
use Rattle.outcome.specs.Pricing.{price_in}
use Rattle.prices.specs.Alone.{costs_alone}
use Rattle.prices.specs.Rule.{rule_fault}
use Rattle.prices.specs.declared.alone.AloneFault.{AloneFault}
use Rattle.prices.specs.declared.alone.AloneFault.TheVariants as alone
use Rattle.prices.specs.declared.rule.RuleFault.{RuleFault}
use Rattle.prices.specs.declared.rule.RuleFault.TheVariants as unshown
use Rattle.answers.specs.Programs.{program_for}
use Rattle.answers.specs.SolutionWinners.{solution_refused, winners_by, winners_of_groups}
use Rattle.award_objects.specs.Objects.{objects_shown, objects_unshown}
use Rattle.outcome.specs.Outcome.{Outcome, outcome_report}
use Rattle.outcome.specs.Pricing.{Priced}
use Rattle.outcome.specs.Report.{allocation_text, report_text}
use Rattle.optimality.specs.OnlyPoints.{only_fault}
use Rattle.auction_input.specs.declared.tie_fault.TieFault.{TieFault}
use Rattle.outcome.specs.Solution.{solution}
use Rattle.outcome.specs.Others.{Others}
use Rattle.outcome.specs.PointAllocation.{allocation_of}
use Rattle.auction_input.specs.ParsedParts.{only_text}
use Rattle.auction_terms.specs.Allocations.{amount_of, weighed_choice}
use Rattle.presolve.specs.Lines.{left_out_lines}
use Rattle.auction_input.specs.declared.price_fault.PriceFault.TheVariants as price
use Rattle.prices.specs.Prices.{reserves_in}
use Rattle.presolve.specs.Reasons.{reasons_of}
use Rattle.program_rows.specs.declared.solution_fault.SolutionFault.TheVariants as fault
use Rattle.program_rows.specs.declared.solution_fault.SolutionFault.{SolutionFault}
use Rattle.program_rows.specs.Program.{Table}
use Rattle.auction_input.specs.Requests.{target_of}
use Rattle.auction_input.specs.declared.request.ExplainOptions.{ExplainOptions}
use Rattle.auction_input.specs.declared.request.Request.TheVariants.{Check, Compile, Explain, Forms, Map, Objects, Report, Text, Verify, VerifyWithForms}
use Rattle.auction_input.specs.declared.request.Objects.TheVariants as objects
use Rattle.auction_input.specs.declared.request.Request.{Request}
use Rattle.auction_input.specs.declared.request.Target.TheVariants as target
use Rattle.auction_input.specs.declared.request.Target.{Target}

-- ---- refusals that aren't for parts

abbrev IsOther : Refusal → Type 0
IsOther r = IsOfParts r → ⊥

-- what is reported is no refusal for parts
abbrev IsFree : {A : Type 0} → Result A Refusal → Type 0
IsFree parsed = IfErr parsed IsOther

free-then : {A B : Type 0} (parsed : Result A Refusal) (next : A → Result B Refusal) → IsFree parsed
    → ((x : A) → parsed ≡ Ok x → IsFree (next x)) → IsFree (and_then parsed next)
free-then (Ok x) next free after = after x refl
free-then (Err r) next free after = free

free-as : {A F : Type 0} (whole : F → Refusal) (parsed : Result A F) → ((f : F) → IsOther (whole f)) → IsFree (refused_as whole parsed)
free-as whole (Ok x) other = tt
free-as whole (Err f) other = other f

free-unless : {A F : Type 0} (whole : F → Refusal) (found : Option F) (next : Result A Refusal) → ((f : F) → IsOther (whole f))
    → IsFree next → IsFree (unless (option_map whole found) next)
free-unless whole None next other free = free
free-unless whole (Some f) next other free = other f

free-each : {X A : Type 0} (refuse : ℕ → X → Result A Refusal) → ((n : ℕ) (x : X) → IsFree (refuse n x)) → (n : ℕ) (xs : List X)
    → IsFree (each_in_turn refuse n xs)
free-each refuse each n [] = tt
free-each refuse each n (x ∷ xs) = free-then (refuse n x) _ (each n x)
    (λ y is. free-then (each_in_turn refuse (n + 1) xs) _ (free-each refuse each (n + 1) xs) (λ ys is. tt))

-- ---- solutions

other-solution : (p : Table) (number : ℕ) (f : SolutionFault) → IsOther (solution_refused p number f)
other-solution p number (fault.BoundBroken column) = λ never. never
other-solution p number (fault.RowBroken row) = λ never. never
other-solution p number f = λ never. never

free-winners : (p : Table) (number : ℕ) (text : List ℕ) → IsFree (winners_by p number text)
free-winners p number text = free-then (refused_as (solution_refused p number) (solution p text)) _
    (free-as (solution_refused p number) (solution p text) (other-solution p number)) (λ point is. tt)

free-groups : (auction : Auction) → IsFree (each_in_turn (λ number (item : List ℕ × List ℕ). winners_by (program_for auction.sale item.0)
    number item.1) 1 (zip auction.groups auction.solutions))
free-groups auction =
    free-each (λ number (item : List ℕ × List ℕ). winners_by (program_for auction.sale item.0) number item.1)
    (λ number item. free-winners (program_for auction.sale item.0) number item.1) 1 (zip auction.groups auction.solutions)

-- ---- certificates

free-shown : (auction : Auction) (won : List (List Choice)) → IsFree (each_in_turn shown 1 (bounds_of auction won))
free-shown auction won = free-each shown (λ number bound. free-unless _ _ (Ok tt) (λ f never. never) tt) 1 (bounds_of auction won)

-- ---- claims

free-tie : (auction : Auction) (first : List Choice) (before : List (List Choice)) (text : List ℕ) → IsFree (parsed_tie auction first before text)
free-tie auction first before text =
    let p = first_program auction in
    let refuse : TieFault → Refusal = λ f. refusal.Tie (tie_number auction (length before + 1)) f in
    free-then (refused_as (λ f. refuse (tie_fault p f)) (solution p text)) _
    (free-as (λ f. refuse (tie_fault p f)) (solution p text) (λ f never. never))
    (λ point is. free-unless refuse (award_fault auction.sale first before (allocation_of p point)) (Ok point) (λ f never. never) tt)

free-ties : (auction : Auction) (first : List Choice) (before : List (List Choice)) (texts : List (List ℕ)) → IsFree (parsed_ties auction first before texts)
free-ties auction first before [] = tt
free-ties auction first before (text ∷ texts) =
    free-then (parsed_tie auction first before text) _ (free-tie auction first before text) (λ point is.
    free-then (parsed_ties auction first (before ++ allocation_of (first_program auction) point ∷ []) texts) _
    (free-ties auction first (before ++ allocation_of (first_program auction) point ∷ []) texts) (λ points are. tt))

free-known : (auction : Auction) (first : List Choice) (points : List (List Bool)) (uniques : List (List ℕ)) → IsFree (known_others auction first points uniques)
free-known auction first points [] = tt
free-known auction first points (text ∷ uniques) =
    free-then (refused_as (solution_refused (first_program auction) 1) (solution (first_program auction) (slice_index_or auction.solutions 0 []))) _
    (free-as (solution_refused (first_program auction) 1) (solution (first_program auction) (slice_index_or auction.solutions 0 []))
    (other-solution (first_program auction) 1))
    (λ point is. free-unless unique_refused (only_fault (first_program auction) point points text) _ (λ f never. never) tt)

-- claims of which there are as many as there may be
free-claims : (auction : Auction) (first : List Choice) → first_failed (claim_counts auction) ≡ None → IsFree (parsed_claims auction first)
free-claims auction first counted =
    let known : List (List Bool) → Result Others Refusal = λ points. known_others auction first points auction.uniques in
    subst (λ (o : Option Refusal). IsFree (unless o (and_then (parsed_ties auction first [] auction.ties) known))) (sym counted)
    (free-then (parsed_ties auction first [] auction.ties) known (free-ties auction first [] auction.ties)
    (λ points is. free-known auction first points auction.uniques))

-- ---- prices

-- a fault, if there is one, is no refusal for parts
abbrev IsFreeFault : Option Refusal → Type 0
IsFreeFault None = ⊤
IsFreeFault (Some r) = IsOther r

free-found : {A : Type 0} (found : Option Refusal) (next : Result A Refusal) → IsFreeFault found → IsFree next → IsFree (unless found next)
free-found None next found free = free
free-found (Some r) next found free = found

fault-or : (first second : Option Refusal) → IsFreeFault first → IsFreeFault second → IsFreeFault (option_or first second)
fault-or None second one other = other
fault-or (Some r) second one other = one

two-checks : (a b : Bool) (r s : Refusal) → IsOther r → IsOther s → IsFreeFault (first_failed ((a, r) ∷ (b, s) ∷ []))
two-checks false b r s first second = first
two-checks true false r s first second = second
two-checks true true r s first second = tt

price-fault : (rules : Terms) (sale : Sale) (parts : ℕ) (c : Choice) (given : Option GivenPrice) → IsFreeFault (price_fault rules sale parts c given)
price-fault rules sale parts c None = λ never. never
price-fault rules sale parts c (Some g) =
    two-checks (nat_le (in_parts parts g.price) (parts * amount_of sale.book c))
    (nat_le (parts * weighed_choice (reserves_in rules) sale.book c) (in_parts parts g.price))
    (refusal.Prices (price.AboveAmount g.place)) (refusal.Prices (price.BelowReserve g.place)) (λ never. never) (λ never. never)

winners-fault : (rules : Terms) (sale : Sale) (given : List GivenPrice) (won : List Choice) → IsFreeFault (winners_fault rules sale given won)
winners-fault rules sale given [] = tt
winners-fault rules sale given (c ∷ more) = fault-or (winner_fault rules sale given c) (winners_fault rules sale given more)
    (price-fault rules sale (common_parts given) c (price_given given c.bidder)) (winners-fault rules sale given more)

free-prices : (auction : Auction) (first : List Choice) (text : List ℕ) → IsFree (parsed_prices auction first text)
free-prices auction first text =
    free-then (refused_as refusal.Prices (parsed_price_text (known_by auction first) text)) _
    (free-as refusal.Prices (parsed_price_text (known_by auction first) text) (λ f never. never))
    (λ given is. free-found (winners_fault auction.rules auction.sale given first)
    (Ok (in_parts_of auction given)) (winners-fault auction.rules auction.sale given first) tt)

free-rule-of : (auction : Auction) (won : List (List Choice)) (given : List RuleLine) → IsFree (rule_of auction won given)
free-rule-of auction won [] = λ never. never
free-rule-of auction won (line.Weighted w ∷ more) = λ never. never
free-rule-of auction won (line.Scaled scales ∷ more) = tt

free-rule : (auction : Auction) (won : List (List Choice)) (first : List Choice) (text : List ℕ) → IsFree (parsed_rule auction won first text)
free-rule auction won first text =
    free-then (refused_as refusal.Rule (parsed_rule_lines (known_by auction first) text)) (rule_of auction won)
    (free-as refusal.Rule (parsed_rule_lines (known_by auction first) text) (λ f never. never))
    (λ given is. free-rule-of auction won given)

other-alone : (sale : Sale) (f : AloneFault) → IsOther (alone_refused sale f)
other-alone sale (alone.NotListed b) = λ never. never
other-alone sale alone.OutOfMemory = λ never. never

other-unshown : (f : RuleFault) → IsOther (unshown_refused f)
other-unshown unshown.NotLeast = λ never. never
other-unshown unshown.NotNearest = λ never. never

free-alone : (auction : Auction) (won : List (List Choice)) (first : List Choice) → IsFree (known_alone auction won first)
free-alone auction won first = free-as (alone_refused auction.sale)
    (costs_alone (reserves_in auction.rules) auction.sale.lots auction.sale.book first auction.groups won) (other-alone auction.sale)

free-by-rule : (auction : Auction) (won : List (List Choice)) (first : List Choice) (p : InParts) (texts : List (List ℕ))
    → IsFree (parsed_by_rule auction won first p texts)
free-by-rule auction won first p [] = tt
free-by-rule auction won first p (text ∷ more) =
    free-then (parsed_rule auction won first text) _ (free-rule auction won first text) (λ rule is.
    free-then (known_alone auction won first) _ (free-alone auction won first) (λ costs is.
    free-unless unshown_refused (rule_fault (reserves_in auction.rules) auction.sale.lots auction.sale.book first (price_in costs) p.parts
    (price_in p.prices) rule) (Ok true) other-unshown tt))

free-priced : (auction : Auction) (won : List (List Choice)) (first : List Choice) (text cover : List ℕ) → IsFree (priced auction won first text cover)
free-priced auction won first text cover =
    free-then (parsed_prices auction first text) _ (free-prices auction first text) (λ prices is.
    free-then (covered auction first prices cover) _ (free-unless _ _ (Ok tt) (λ f never. never) tt) (λ shown is.
    free-then (parsed_by_rule auction won first prices auction.rule_texts) _ (free-by-rule auction won first prices auction.rule_texts) (λ by_rule is. tt)))

free-priced-by : (auction : Auction) (won : List (List Choice)) (texts covers : List (List ℕ)) → IsFree (priced_by auction won texts covers)
free-priced-by auction won [] covers = tt
free-priced-by auction won (text ∷ more) covers =
    free-then (priced auction won (slice_index_or won 0 []) text (slice_index_or covers 0 [])) _
    (free-priced auction won (slice_index_or won 0 []) text (slice_index_or covers 0 [])) (λ p is. tt)

-- ---- what isn't wanted by any test

module _ {A : Type 0} (found : Option Refusal) (x : A) where
  unless-err : (r : Refusal) → unless found (Ok x) ≡ Err r → found ≡ Some r
  unless-err r is = by found is
    where
      by : (o : Option Refusal) → unless o (Ok x) ≡ Err r → o ≡ Some r
      by None e = cc
      by (Some s) e = cc

-- ---- the first refusal

abbrev no_auction : Refusal → Result Auction Refusal
no_auction r = Err r

err-is : (f r : Refusal) → no_auction f ≡ no_auction r → f ≡ r
err-is f r is = cc

some-is : {X : Type 0} (x y : X) → Some x ≡ Some y → x ≡ y
some-is x y is = cc

stopped : {B : Type 0} (next : Auction → Result B Refusal) (parsed : Result Auction Refusal) (r : Refusal) → parsed ≡ Err r → and_then parsed next ≡ Err r
stopped next parsed r is = ap (λ (q : Result Auction Refusal). and_then q next) is

-- where a command wants nothing
onto-all : (parsed : Result Auction Refusal) → and_then parsed (λ auction. Ok auction) ≡ parsed
onto-all (Ok auction) = refl
onto-all (Err r) = refl

-- what the solutions of groups win, whatever else there is
abbrev each_won : Auction → Result (List (List Choice)) Refusal
each_won auction = each_in_turn (λ number (item : List ℕ × List ℕ). winners_by (program_for auction.sale item.0) number item.1) 1
    (zip auction.groups auction.solutions)

-- what is said of allocations that are won
abbrev say_won : (Auction → List (List Choice) → List ℕ) → Auction → Result (List ℕ) Refusal
say_won say auction = and_then (winners_of_groups auction) (λ won. Ok (say auction won))

report-so : (say : Auction → List (List Choice) → List ℕ) (parsed : Result Auction Refusal) (r : Refusal) → with_wanted (Some target.Report) parsed ≡ Err r
    → and_then parsed (say_won say) ≡ Err r
report-so say (Err f) r is = ap (λ (e : Refusal). Err e) (err-is f r is)
report-so say (Ok auction) r is =
    ap (λ (o : Option Refusal). and_then (unless o (each_won auction)) (λ won. Ok (say auction won)))
    (unless-err (first_failed (refused_unless (solution_wants (numbers_of auction)))) auction r is)

-- this refusal, or before it one that isn't for parts
abbrev RefusesFirst : {A : Type 0} → Result A Refusal → Refusal → Type 0
RefusesFirst parsed r = (first : Refusal) × (parsed ≡ Err first) × ((first ≡ r) ⊎ IsOther first)

first-then : {A B : Type 0} (parsed : Result A Refusal) (next : A → Result B Refusal) (r : Refusal) → IsFree parsed
    → ((x : A) → parsed ≡ Ok x → RefusesFirst (next x) r) → RefusesFirst (and_then parsed next) r
first-then (Ok x) next r free after = after x refl
first-then (Err f) next r free after = (f, refl, inr free)

-- what comes after prices, claims and certificates
abbrev after_pricing : Auction → List (List Choice) → Others → Option Priced → Result Outcome Refusal
after_pricing auction won others pricing = Ok (record { won = won; pricing = pricing; others = others })

abbrev after_claims : Auction → List (List Choice) → Others → Result Outcome Refusal
after_claims auction won others = and_then (parsed_pricing auction won) (after_pricing auction won others)

abbrev after_certified : Auction → List (List Choice) → Result Outcome Refusal
after_certified auction won = and_then (parsed_claims auction (slice_index_or won 0 [])) (after_claims auction won)

module _ (auction : Auction) (r : Refusal) where
  abbrev wanted_pricing : Option Refusal
  wanted_pricing = first_failed (refused_unless (pricing_wants (numbers_of auction)))

  abbrev wanted_later : Option Refusal
  wanted_later = first_failed (refused_unless (claim_wants (numbers_of auction) ++ pricing_wants (numbers_of auction)))

  claims-so : (won : List (List Choice)) (counted : Option Refusal) → first_failed (claim_counts auction) ≡ counted
      → option_or counted wanted_pricing ≡ Some r → RefusesFirst (after_certified auction won) r
  claims-so won (Some s) many is = (
    s,
    ap (λ (o : Option Refusal). and_then (unless o (and_then (parsed_ties auction (slice_index_or won 0 []) [] auction.ties)
        (λ points. known_others auction (slice_index_or won 0 []) points auction.uniques))) (after_claims auction won)) many,
    inl (some-is s r is),
  )
  claims-so won None counted is =
      first-then (parsed_claims auction (slice_index_or won 0 [])) (after_claims auction won) r (free-claims auction (slice_index_or won 0 []) counted)
      (λ others parsed. (
        r,
        ap (λ (o : Option Refusal). and_then (unless o (priced_by auction won auction.prices auction.covers))
            (after_pricing auction won others)) is,
        inl refl,
      ))

  certified-so : (won : List (List Choice)) (has : Bool)
      → (if has then wanted_later else Some (refusal.PartCount part.Certificate)) ≡ Some r
      → RefusesFirst (and_then (if has then and_then (each_in_turn shown 1 (bounds_of auction won)) (λ all. Ok won) else Err
      (refusal.PartCount part.Certificate)) (after_certified auction)) r
  certified-so won false is = (refusal.PartCount part.Certificate, refl, inl (some-is _ r is))
  certified-so won true is =
      first-then (and_then (each_in_turn shown 1 (bounds_of auction won)) (λ all. Ok won)) (after_certified auction) r
      (free-then (each_in_turn shown 1 (bounds_of auction won)) _ (free-shown auction won) (λ all is. tt))
      (λ again parsed. claims-so again (first_failed (claim_counts auction)) refl
      (sym (failed-after (claim_wants (numbers_of auction)) (pricing_wants (numbers_of auction))) ∙ is))

  won-so : (won : Result (List (List Choice)) Refusal) → IsFree won
      → first_failed (refused_unless (proof_wants (numbers_of auction))) ≡ Some r
      → RefusesFirst (and_then (and_then won (certified auction)) (after_certified auction)) r
  won-so (Err f) free is = (f, refl, inr free)
  won-so (Ok won) free is = certified-so won (has_certificates (numbers_of auction)) is

  solutions-so : (o : Option Refusal) → option_or o (first_failed (refused_unless (proof_wants (numbers_of auction)))) ≡ Some r
      → RefusesFirst (and_then (and_then (unless o (each_won auction)) (certified auction)) (after_certified auction)) r
  solutions-so (Some s) is = (s, refl, inl (some-is s r is))
  solutions-so None is = won-so (each_won auction) (free-groups auction) is

-- what is said of an outcome that is shown
abbrev say_of : (Auction → Outcome → List ℕ) → Auction → Result (List ℕ) Refusal
say_of say auction = and_then (shown_outcome auction) (λ o. Ok (say auction o))

verify-so : (say : Auction → Outcome → List ℕ) (parsed : Result Auction Refusal) (r : Refusal) → with_wanted (Some target.Verify) parsed ≡ Err r
    → RefusesFirst (and_then parsed (say_of say)) r
verify-so say (Err f) r is = (f, refl, inl (err-is f r is))
verify-so say (Ok auction) r is =
    let (first, shows, other) = solutions-so auction r (first_failed (refused_unless (solution_wants (numbers_of auction))))
    (sym (failed-after (solution_wants (numbers_of auction)) (proof_wants (numbers_of auction))) ∙ unless-err
    (first_failed (refused_unless (wants (Some target.Verify) (numbers_of auction)))) auction r is) in
    (first, ap (λ (t : Result Outcome Refusal). and_then t (λ o. Ok (say auction o))) shows, other)

-- the two things that are said of it
abbrev in_words : Auction → Outcome → List ℕ
in_words auction o = outcome_report auction.sale auction.groups o

abbrev in_objects : Auction → Outcome → List ℕ
in_objects auction o = objects_shown auction.rules auction.sale auction.groups o

-- the lines of bids, where they are asked for
abbrev lines_of : ExplainOptions → Auction → Result (List ℕ) Refusal
lines_of options auction =
    Ok (if options.bids then left_out_lines options.format auction.rules auction.form_bidders (reasons_of auction.sale.lots auction.sale.book) else [])

-- what `explain` writes of an auction that is parsed, if it has what a command wants
abbrev told_of : ExplainOptions → Option Target → Result Auction Refusal → Result (List ℕ) Refusal
told_of options command parsed = and_then parsed (λ auction. and_then (wanted command auction) (λ taken. lines_of options auction))

explain-so : (options : ExplainOptions) (command : Option Target) (parsed : Result Auction Refusal) (r : Refusal) → with_wanted command parsed ≡ Err r
    → told_of options command parsed ≡ Err r
explain-so options None (Ok auction) r is = cc
explain-so options None (Err f) r is = ap (λ (e : Refusal). Err e) (err-is f r is)
explain-so options (Some command) (Err f) r is = ap (λ (e : Refusal). Err e) (err-is f r is)
explain-so options (Some command) (Ok auction) r is = stopped (λ found. lines_of options auction) (wanted (Some command) auction) r is

refuses-so : (asked : Request) (command : Target) (input : Input) (r : Refusal) → target_of asked ≡ Some command
    → parsed_taken asked input ≡ Err r → RefusesSo asked input r
refuses-so Check command input r is parsed = cc
refuses-so Forms command input r is parsed = cc
refuses-so Text command input r is parsed = stopped (output_of Text) (parsed_auction Text input) r (sym (onto-all (parsed_auction Text input)) ∙ parsed)
refuses-so (Compile workers) command input r is parsed = stopped (output_of (Compile workers)) (parsed_auction (Compile workers) input) r
    (sym (onto-all (parsed_auction (Compile workers) input)) ∙ parsed)
refuses-so (Map group) command input r is parsed =
    stopped (output_of (Map group)) (parsed_auction (Map group) input) r (sym (onto-all (parsed_auction (Map group) input)) ∙ parsed)
refuses-so (Report workers) command input r is parsed = report-so (λ auction won. report_text auction.sale auction.groups won) (parsed_auction (Report workers) input) r parsed
refuses-so (Verify workers) command input r is parsed = verify-so in_words (parsed_auction (Verify workers) input) r parsed
refuses-so (VerifyWithForms workers) command input r is parsed =
    let (first, answered, other) = verify-so in_words (parsed_auction (Verify workers) input) r parsed in (
      first,
      ap (λ (t : Result (List ℕ) Refusal). and_then t (λ report. and_then (parsed_forms input) (λ read. Ok (forms_text read ++ report)))) answered,
      other,
    )
refuses-so (Objects objects.Forms) command input r is parsed = cc
refuses-so (Objects (objects.Report workers)) command input r is parsed =
    ap (λ (t : Result (List ℕ) Refusal). and_then t (λ said. and_then (parsed_forms input) (λ read. Ok (forms_objects read ++ said))))
    (report-so (λ auction won. objects_unshown auction.rules auction.sale auction.groups won) (parsed_auction (Report workers) input) r parsed)
refuses-so (Objects (objects.Verify workers)) command input r is parsed =
    let (first, answered, other) = verify-so in_objects (parsed_auction (Verify workers) input) r parsed in (
      first,
      ap (λ (t : Result (List ℕ) Refusal). and_then t (λ said. and_then (parsed_forms input) (λ read. Ok (forms_objects read ++ said)))) answered,
      other,
    )
refuses-so (Explain options) command input r is parsed = explain-so options options.target (parsed_auction (Explain options) input) r parsed

-- ---- what is taken

free-if : {A : Type 0} (b : Bool) (x y : Result A Refusal) → IsFree x → IsFree y → IsFree (if b then x else y)
free-if true x y first second = first
free-if false x y first second = second

neither : {X : Type 0} (first second : Option X) → option_or first second ≡ None → (first ≡ None) × (second ≡ None)
neither None second is = (refl, is)
neither (Some x) second is = cc

all-met : (has : Bool) (later : Option Refusal) (r : Refusal) → (if has then later else Some r) ≡ None → (has ≡ true) × (later ≡ None)
all-met true later r is = (refl, is)
all-met false later r is = cc

-- an auction that has what is wanted
met-so : (found : Option Refusal) (x y : Auction) → unless found (Ok x) ≡ Ok y → found ≡ None
met-so None x y is = refl
met-so (Some r) x y is = cc

report-taken : (auction : Auction) → first_failed (refused_unless (solution_wants (numbers_of auction))) ≡ None → IsFree (winners_of_groups auction)
report-taken auction none = subst (λ (o : Option Refusal). IsFree (unless o (each_won auction))) (sym none) (free-groups auction)

-- what is shown of an auction that has what is wanted
outcome-taken : (auction : Auction) → first_failed (refused_unless (wants (Some target.Verify) (numbers_of auction))) ≡ None → IsFree (shown_outcome auction)
outcome-taken auction none =
    let (solved, proved) = neither (first_failed (refused_unless (solution_wants (numbers_of auction))))
    (first_failed (refused_unless (proof_wants (numbers_of auction))))
    (sym (failed-after (solution_wants (numbers_of auction)) (proof_wants (numbers_of auction))) ∙ none) in
    let (has, later) = all-met (has_certificates (numbers_of auction))
    (first_failed (refused_unless (claim_wants (numbers_of auction) ++ pricing_wants (numbers_of auction)))) (refusal.PartCount part.Certificate) proved in
    let (counted, priced) = neither (first_failed (claim_counts auction)) (first_failed (refused_unless (pricing_wants (numbers_of auction))))
    (sym (failed-after (claim_wants (numbers_of auction)) (pricing_wants (numbers_of auction))) ∙ later) in
    free-then (and_then (winners_of_groups auction) (certified auction)) (after_certified auction)
    (free-then (winners_of_groups auction) (certified auction) (report-taken auction solved) (λ won is.
    subst (λ (b : Bool). IsFree (if b then and_then (each_in_turn shown 1 (bounds_of auction won)) (λ all. Ok won) else Err
    (refusal.PartCount part.Certificate))) (sym has)
    (free-then (each_in_turn shown 1 (bounds_of auction won)) _ (free-shown auction won) (λ all is. tt))))
    (λ won is. free-then (parsed_claims auction (slice_index_or won 0 [])) (after_claims auction won)
    (free-claims auction (slice_index_or won 0 []) counted)
    (λ others is. free-then (parsed_pricing auction won) (after_pricing auction won others)
    (subst (λ (o : Option Refusal). IsFree (unless o (priced_by auction won auction.prices auction.covers))) (sym priced)
    (free-priced-by auction won auction.prices auction.covers)) (λ pricing is. tt)))

verify-taken : (say : Auction → Outcome → List ℕ) (auction : Auction) → first_failed (refused_unless (wants (Some target.Verify) (numbers_of auction))) ≡ None
    → IsFree (say_of say auction)
verify-taken say auction none = free-then (shown_outcome auction) _ (outcome-taken auction none) (λ o is. tt)

explain-taken : (options : ExplainOptions) (command : Option Target) (found auction : Auction) → with_wanted command (Ok found) ≡ Ok auction
    → IsFree (told_of options command (Ok found))
explain-taken options None found auction is = tt
explain-taken options (Some command) found auction is =
    subst (λ (o : Option Refusal). IsFree (and_then (unless o (Ok found)) (λ again. lines_of options found)))
    (sym (met-so (first_failed (refused_unless (wants (Some command) (numbers_of found)))) found auction is)) tt

taken-so : (asked : Request) (parsed : Result Auction Refusal) (auction : Auction) → with_wanted (target_of asked) parsed ≡ Ok auction
    → IsFree (and_then parsed (output_of asked))
taken-so asked (Err r) auction is = absurd (by (target_of asked) is)
  where
    by : (command : Option Target) → with_wanted command (no_auction r) ≡ Ok auction → ⊥
    by None e = cc
    by (Some command) e = cc
taken-so Check (Ok found) auction is = tt
taken-so Forms (Ok found) auction is = tt
taken-so (VerifyWithForms workers) (Ok found) auction is = tt
taken-so (Objects of) (Ok found) auction is = tt
taken-so Text (Ok found) auction is = tt
taken-so (Compile workers) (Ok found) auction is = tt
taken-so (Map group) (Ok found) auction is =
    let p = program_for found.sale (slice_index_or found.groups (group - 1) []) in
    let text = only_text found.solutions in
    free-if (nat_le group (length found.groups)) (and_then (winners_by p 1 text) (λ won. Ok (allocation_text found.sale won))) (Err (refusal.NoGroup group))
    (free-then (winners_by p 1 text) (λ won. Ok (allocation_text found.sale won)) (free-winners p 1 text) (λ won is. tt)) (λ never. never)
taken-so (Report workers) (Ok found) auction is = free-then (winners_of_groups found) _
    (report-taken found (met-so (first_failed (refused_unless (solution_wants (numbers_of found)))) found auction is)) (λ won is. tt)
taken-so (Verify workers) (Ok found) auction is =
    verify-taken in_words found (met-so (first_failed (refused_unless (wants (Some target.Verify) (numbers_of found)))) found auction is)
taken-so (Explain options) (Ok found) auction is = explain-taken options options.target found auction is

-- ---- the law

-- what `explain` takes of an input for a command
abbrev taken_as : ExplainOptions → Input → Option Target → Result Auction Refusal
taken_as options input whose = parsed_taken (Explain (record options { target = whose })) input

-- what a request for a command takes is what `explain` takes for it
parsed-for : (options : ExplainOptions) (asked : Request) (command : Target) (input : Input) → options.target ≡ Some command
    → target_of asked ≡ Some command → parsed_taken asked input ≡ parsed_taken (Explain options) input
parsed-for options Check command input for is = cc
parsed-for options Forms command input for is = cc
parsed-for options Text command input for is = ap (taken_as options input) (is ∙ sym for)
parsed-for options (Compile workers) command input for is = ap (taken_as options input) (is ∙ sym for)
parsed-for options (Map group) command input for is = ap (taken_as options input) (is ∙ sym for)
parsed-for options (Report workers) command input for is = ap (taken_as options input) (is ∙ sym for)
parsed-for options (Verify workers) command input for is = ap (taken_as options input) (is ∙ sym for)
parsed-for options (VerifyWithForms workers) command input for is = ap (taken_as options input) (is ∙ sym for)
parsed-for options (Objects objects.Forms) command input for is = cc
parsed-for options (Objects (objects.Report workers)) command input for is = ap (taken_as options input) (is ∙ sym for)
parsed-for options (Objects (objects.Verify workers)) command input for is = ap (taken_as options input) (is ∙ sym for)
parsed-for options (Explain others) command input for is = ap (taken_as options input) (is ∙ sym for)

-- the forms of an input that describes an auction are read
free-forms : (asked : Request) (say : Auction → Result (List ℕ) Refusal) (input : Input) (said : List ℕ) → and_then (parsed_auction asked input) say ≡ Ok said
    → IsFree (parsed_forms input)
free-forms asked say input said answered =
    let (auction, auction_is, written) = ok-after (parsed_auction asked input) say said answered in
    let (read, read_as) = forms-of-described asked input auction ((described-auction asked input auction).0 auction_is) in
    subst (λ (t : Result FormParts Refusal). IsFree t) (sym read_as) tt

-- what is said of an auction after its forms
free-after : (asked : Request) (say : Auction → Result (List ℕ) Refusal) (lines : FormParts → List ℕ) (input : Input)
    → IsFree (and_then (parsed_auction asked input) say)
    → IsFree (and_then (and_then (parsed_auction asked input) say) (λ said. and_then (parsed_forms input) (λ read. Ok (lines read ++ said))))
free-after asked say lines input free =
    free-then (and_then (parsed_auction asked input) say) _ free
    (λ said answered. free-then (parsed_forms input) _ (free-forms asked say input said answered) (λ read read_as. tt))

-- what is said in objects of an auction that has what is wanted
said-so : (command : Target) (say : Auction → Result (List ℕ) Refusal) (parsed : Result Auction Refusal) (auction : Auction)
    → with_wanted (Some command) parsed ≡ Ok auction
    → ((found : Auction) → first_failed (refused_unless (wants (Some command) (numbers_of found))) ≡ None → IsFree (say found)) → IsFree (and_then parsed say)
said-so command say (Err r) auction is free = cc
said-so command say (Ok found) auction is free = free found (met-so (first_failed (refused_unless (wants (Some command) (numbers_of found)))) found auction is)

free-answer : (asked : Request) (command : Target) (input : Input) (auction : Auction) → target_of asked ≡ Some command
    → parsed_taken asked input ≡ Ok auction → IsFree (answer asked input)
free-answer Check command input auction is parsed = cc
free-answer Forms command input auction is parsed = cc
free-answer (VerifyWithForms workers) command input auction is parsed =
    free-after (Verify workers) (output_of (Verify workers)) forms_text input (taken-so (Verify workers) (parsed_auction (Verify workers) input) auction parsed)
free-answer (Objects objects.Forms) command input auction is parsed = cc
free-answer (Objects (objects.Report workers)) command input auction is parsed =
    free-after (Report workers) reported_objects forms_objects input
    (said-so target.Report reported_objects (parsed_auction (Report workers) input) auction parsed
    (λ found none. free-then (winners_of_groups found) _ (report-taken found none) (λ won won_is. tt)))
free-answer (Objects (objects.Verify workers)) command input auction is parsed =
    free-after (Verify workers) shown_objects forms_objects input
    (said-so target.Verify shown_objects (parsed_auction (Verify workers) input) auction parsed (verify-taken in_objects))
free-answer asked command input auction is parsed = taken-so asked (parsed_auction asked input) auction parsed

if-err-at : {A : Type 0} (parsed : Result A Refusal) (r : Refusal) → IsFree parsed → parsed ≡ Err r → IsOther r
if-err-at parsed r free is = subst (λ (t : Result _ Refusal). IsFree t) is free

pub explains-for : (command : Target) (input : Input) → ExplainsFor command input
explains-for command input = record {
  refused = λ options r for parsed asked is. refuses-so asked command input r is (parsed-for options asked command input for is ∙ parsed);
  taken = λ options auction for parsed asked is r answered. if-err-at (answer asked input) r
      (free-answer asked command input auction is (parsed-for options asked command input for is ∙ parsed)) answered;
}

-- ---- what follows of an explanation

is-err : {A : Type 0} (parsed : Result A Refusal) (r : Refusal) → parsed ≡ Err r → IsErr parsed
is-err parsed r is = subst (λ (t : Result _ Refusal). IsErr t) (sym is) refl

refused-so : (asked : Request) (input : Input) (r : Refusal) → RefusesSo asked input r → IsErr (answer asked input)
refused-so (Verify workers) input r (first, is, other) = is-err _ first is
refused-so (VerifyWithForms workers) input r (first, is, other) = is-err _ first is
refused-so (Objects (objects.Verify workers)) input r (first, is, other) = is-err _ first is
refused-so (Objects (objects.Report workers)) input r is = is-err _ r is
refused-so (Objects objects.Forms) input r is = is-err _ r is
refused-so Check input r is = is-err _ r is
refused-so Forms input r is = is-err _ r is
refused-so Text input r is = is-err _ r is
refused-so (Compile workers) input r is = is-err _ r is
refused-so (Map group) input r is = is-err _ r is
refused-so (Report workers) input r is = is-err _ r is
refused-so (Explain options) input r is = is-err _ r is

which-err : {A : Type 0} (parsed : Result A Refusal) → IsErr parsed → (r : Refusal) × (parsed ≡ Err r)
which-err (Ok x) is = cc
which-err (Err r) is = (r, refl)

refused-for : (options : ExplainOptions) (command : Option Target) (input : Input) → options.target ≡ command
    → IsErr (parsed_taken (Explain options) input) → IsRefusedBy command input
refused-for options None input for wrong asked never = absurd never
refused-for options (Some command) input for wrong asked is =
    let (r, parsed) = which-err (parsed_taken (Explain options) input) wrong in
    refused-so asked input r ((explains-for command input).refused options r for parsed asked is)

-- an input of which faults are reported is refused by the command
pub refused-by : (options : ExplainOptions) (input : Input) → IsErr (parsed_taken (Explain options) input) → IsRefusedBy options.target input
refused-by options input wrong = refused-for options options.target input refl wrong

-- where the answer is there, the auction has what is wanted
has-taken : (options : ExplainOptions) (command : Option Target) (parsed : Result Auction Refusal) (out : List ℕ)
    → told_of options command parsed ≡ Ok out → (auction : Auction) × (with_wanted command parsed ≡ Ok auction)
has-taken options None (Ok auction) out is = (auction, refl)
has-taken options (Some command) (Ok auction) out is = by (first_failed (refused_unless (wants (Some command) (numbers_of auction)))) is
  where
    by : (o : Option Refusal) → and_then (unless o (Ok auction)) (λ taken. lines_of options auction) ≡ Ok out
        → (x : Auction) × (unless o (Ok auction) ≡ Ok x)
    by None e = (auction, refl)
    by (Some r) e = cc
has-taken options command (Err r) out is = cc

taken-by : (options : ExplainOptions) (command : Option Target) (input : Input) (auction : Auction) → options.target ≡ command
    → parsed_taken (Explain options) input ≡ Ok auction → IsTakenBy command input
taken-by options None input auction for has = λ asked never r answered of. never
taken-by options (Some command) input auction for has = (explains-for command input).taken options auction for has

pub taken-for : (asked : Request) (input : Input) (before after : Outlet) → Writes (answer asked input) before after → IsTakenFor asked input
taken-for (Explain options) input before after (out, parsed, sent) =
    let (auction, has) = has-taken options options.target (parsed_auction (Explain options) input) out parsed in
    taken-by options options.target input auction refl has
taken-for Check input before after writes = tt
taken-for Forms input before after writes = tt
taken-for Text input before after writes = tt
taken-for (Compile workers) input before after writes = tt
taken-for (Map group) input before after writes = tt
taken-for (Report workers) input before after writes = tt
taken-for (Verify workers) input before after writes = tt
taken-for (VerifyWithForms workers) input before after writes = tt
taken-for (Objects of) input before after writes = tt
