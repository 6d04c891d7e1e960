-- What `map` and `report` answer is feasible in the auction that the input describes.
use Rattle.std.proofs.Common.{◌≡◌, ◌-◌, ◌+◌, ◌==◌, ◌∷◌, [], ℕ, List, Ok, arith, eqb-true, length, refl, subst, sym, nat_le, slice_index_or}
use Rattle.std.specs.List.{AllZip, zip}
use Rattle.auction_terms.specs.Groups.{starts_empty}
use Rattle.auction_terms.specs.Limits.{IsBook}
use Rattle.auction_terms.specs.Stages.{each_in_turn}
use Rattle.auction_terms.specs.declared.bids.Choice.{Choice}
use Rattle.auction_input.specs.Auction.{parsed_auction}
use Rattle.auction_input.specs.ParsedParts.{only_text}
use Rattle.auction_input.specs.declared.part_kind.PartKind.TheVariants as part
use Rattle.auction_input.specs.declared.refusal.Refusal.TheVariants as refusal
use Rattle.auction_input.specs.declared.request.Request.TheVariants as request
use Rattle.auction_input.proofs.AnswerFacts.{ok-after, ok-is}
use Rattle.auction_input.proofs.DescribedFacts.{described-auction}
use Rattle.auction_input.proofs.WithinFacts.{auction-within}
use Rattle.outcome.specs.Report.{allocation_text, report_text}
use Rattle.bid_desk.specs.Sale.{Sale}
use Rattle.answers.specs.FeasibleAnswers.{IsFeasibleWithout, MappedIsFeasible, ReportedIsFeasible}
use Rattle.answers.specs.SolutionWinners.{winners_of_groups}
use Rattle.answers.specs.inside.SolutionWinners.{winners}
use Rattle.answers.specs.Answer.{output_of}
use Rattle.answers.proofs.CheckFacts.{when-both, when-counted}
use Rattle.answers.proofs.WinnersFeasibleFacts.{feasible-of}

each-feasible : (sale : Sale) (n : ℕ) (groups texts : List (List ℕ)) (won : List (List Choice)) → IsBook sale.lots sale.book → length texts ≡ length groups
    → each_in_turn (winners sale) n (zip groups texts) ≡ Ok won → AllZip (IsFeasibleWithout sale) groups won
each-feasible sale n [] texts won within count wins =
    (let none : [] ≡ won = ok-is _ [] won refl wins in subst (λ (xs : List (List Choice)). AllZip (IsFeasibleWithout sale) [] xs) none tt)
each-feasible sale n (group ∷ groups) [] won within count wins = absurd (omega arith)
each-feasible sale n (group ∷ groups) (text ∷ texts) won within count wins =
    let (a, a_is, more_wins) = ok-after (winners sale n (group, text)) _ won wins in
    let (more, more_are, are) = ok-after (each_in_turn (winners sale) (n + 1) (zip groups texts)) _ won more_wins in
    let is : a ∷ more ≡ won = ok-is _ (a ∷ more) won refl are in
    let tail = each-feasible sale (n + 1) groups texts more within (omega arith) more_are in
    subst (λ (xs : List (List Choice)). AllZip (IsFeasibleWithout sale) (group ∷ groups) xs) is (feasible-of sale n group text a within a_is, tail)

pub reported-is-feasible : ReportedIsFeasible
reported-is-feasible workers input out parsed =
    let (auction, auction_is, made) = ok-after (parsed_auction (request.Report workers) input) (output_of (request.Report workers)) out parsed in
    let within = (auction-within (request.Report workers) input auction auction_is).1 in
    let (won, wins, written) = ok-after (winners_of_groups auction) _ out made in
    let (starts, count, each) = when-both refusal.FirstGroupNotEmpty (refusal.PartCount part.Solution) (starts_empty auction.groups)
    (length auction.solutions == length auction.groups) _ won wins in
    let text : report_text auction.sale auction.groups won ≡ out = ok-is _ (report_text auction.sale auction.groups won) out refl written in (
      auction,
      (described-auction (request.Report workers) input auction).0 auction_is,
      record {
        won = won;
        text = sym text;
        feasible = each-feasible auction.sale 1 auction.groups auction.solutions won
            within (eqb-true _ _ count) each;
      },
    )

pub mapped-is-feasible : MappedIsFeasible
mapped-is-feasible k input out parsed =
    let (auction, auction_is, made) = ok-after (parsed_auction (request.Map k) input) (output_of (request.Map k)) out parsed in
    let within = (auction-within (request.Map k) input auction auction_is).1 in
    let group = slice_index_or auction.groups (k - 1) [] in
    let (known, written) = when-counted (nat_le k (length auction.groups)) _ (refusal.NoGroup k) out made in
    let (won, wins, printed) = ok-after (winners auction.sale 1 (group, only_text auction.solutions)) _ out written in
    let text : allocation_text auction.sale won ≡ out = ok-is _ (allocation_text auction.sale won) out refl printed in
    (auction, (described-auction (request.Map k) input auction).0 auction_is, record { won = won; text = sym text; feasible = feasible-of auction.sale 1 group (only_text auction.solutions) won within wins })
