use Rattle.std.proofs.Common.{◌≡◌, ◌∙◌, ◌∷◌, [], ◌⊎◌, Bool, List, false, inl, inr, length, map, refl, rules, slice_index_or, subst, sym, true}
use Rattle.std.specs.Prelude.{All}
use Rattle.auction_terms.specs.Allocations.{IsFeasible}
use Rattle.auction_terms.specs.Keeping.{is_kept_choice}
use Rattle.auction_terms.specs.Lines.{bytes_of}
use Rattle.auction_terms.specs.Terms.{lots_in}
use Rattle.auction_terms.specs.declared.bids.Choice.{Choice}
use Rattle.auction_input.specs.Refused.{Refuses}
use Rattle.auction_input.specs.Settled.{held}
use Rattle.auction_input.specs.declared.refusal.Refusal.TheVariants as refusal
use Rattle.auction_input.proofs.StepFacts.{if-err-of}
use Rattle.bid_desk.specs.Closing.{book_of}
use Rattle.bid_desk.specs.Sale.{sale_of}
use Rattle.group_compiler.specs.Compiled.{program_without}
use Rattle.outcome.specs.PointAllocation.{allocation_of}
use Rattle.program_rows.specs.Points.{IsPoint}
use Rattle.program_rows.specs.Program.{Table}
use Rattle.answers.specs.Claimed.{IsTooWideClaim, parsed_claims}
use Rattle.answers.specs.inside.Claiming.{IsShownUnique, IsUniqueRefused}
use Rattle.answers.proofs.ClaimedFacts.{all-shown-so, first-program, no-texts, nothing-shown-so, unshown}
use Rattle.answers.proofs.OthersFacts.{each-feasible, each-kept, first-kept}
use Rattle.answers.proofs.WinnersFeasibleFacts.{feasible-of}
use Rattle.answers.proofs.claimed.claimed_others.Goals as goal

pub read_ties-requires-clause-program : goal.read_ties-requires-clause-program
read_ties-requires-clause-program c = c.in_ok-program.ensures ∙ first-program c.args.auction.now c.args.compiler.now c.group.result.now c.requires.compiler
    c.requires.won.starts c.group.ensures

pub check_unique-requires-clause-program : goal.check_unique-requires-clause-program
check_unique-requires-clause-program c = c.in_ok-program.ensures ∙ first-program c.args.auction.now c.args.compiler.now c.group.result.now
    c.requires.compiler c.requires.won.starts c.group.ensures

pub returns-then-is_empty-clause-parsed : goal.returns-then-is_empty-clause-parsed
returns-then-is_empty-clause-parsed c =
    let auction = c.args.auction.now in
    let ties = c.in_ok-points.field-0 in
    let same : c.in_ok-program.program ≡ program_without auction.book [] = c.in_ok-program.ensures ∙ first-program auction c.args.compiler.now
    c.group.result.now c.requires.compiler c.requires.won.starts c.group.ensures in
    let awards = subst (λ (p : Table). ties.awards.items ≡ map (allocation_of p) ties.points.items) same c.in_ok-points.ensures.awards in
    let none : length auction.uniques.items ≡ 0 = search rules in
    nothing-shown-so (held auction) c.args.first.now c.requires.counted ties.points.items c.in_ok-points.ensures.parsed ties.awards.items awards c.new.result
    (no-texts auction.uniques.items none) c.new.ensures

pub returns-in_err-check_unique-clause-refuses : goal.returns-in_err-check_unique-clause-refuses
returns-in_err-check_unique-clause-refuses c =
    let auction = held c.args.auction.now in
    let first = c.args.first.now in
    let r = c.in_err-check_unique.field-0.0 in
    let refused = subst (λ (points : List (List Bool)). IsUniqueRefused auction points r) c.deref.ensures.value c.in_err-check_unique.ensures.refuses in
    if-err-of (λ s. Refuses (parsed_claims auction first) s ⊎ IsTooWideClaim auction first s) c.from_residual-in_err-check_unique.result r
    c.from_residual-in_err-check_unique.ensures.1
    (unshown auction first c.requires.counted c.in_ok-points.field-0.points.items c.in_ok-points.ensures.parsed r refused)

pub others_of-requires-clause-feasible : goal.others_of-requires-clause-feasible
others_of-requires-clause-feasible c =
    let auction = c.args.auction.now in
    let sale = sale_of auction.book in
    let first = c.args.first.now in
    let ties = c.in_ok-points.field-0 in
    let same : c.in_ok-program.program ≡ program_without auction.book [] = c.in_ok-program.ensures ∙ first-program auction c.args.compiler.now
    c.group.result.now c.requires.compiler c.requires.won.starts c.group.ensures in
    let awards = subst (λ (p : Table). ties.awards.items ≡ map (allocation_of p) ties.points.items) same c.in_ok-points.ensures.awards in
    let points = subst (λ (p : Table). All (IsPoint p) ties.points.items) same c.in_ok-points.ensures.points in
    let feasible = feasible-of sale 1 [] (slice_index_or (bytes_of auction.solutions.items) 0 []) first c.within_limits.ensures.book c.requires.won.won in
    subst (λ (xs : List (List Choice)). All (IsFeasible (lots_in auction.book.rules) (book_of auction.book) (λ b. false)) (first ∷ xs)) (sym awards)
    (each-feasible sale c.within_limits.ensures.book first ties.points.items feasible points)

pub others_of-requires-clause-kept : goal.others_of-requires-clause-kept
others_of-requires-clause-kept c =
    let auction = c.args.auction.now in
    let sale = sale_of auction.book in
    let first = c.args.first.now in
    let ties = c.in_ok-points.field-0 in
    let same : c.in_ok-program.program ≡ program_without auction.book [] = c.in_ok-program.ensures ∙ first-program auction c.args.compiler.now
    c.group.result.now c.requires.compiler c.requires.won.starts c.group.ensures in
    let awards = subst (λ (p : Table). ties.awards.items ≡ map (allocation_of p) ties.points.items) same c.in_ok-points.ensures.awards in
    let kept = first-kept sale (slice_index_or (bytes_of auction.solutions.items) 0 []) first c.within_limits.ensures.book c.requires.won.won in
    subst (λ (xs : List (List Choice)). All (All (λ c. is_kept_choice (lots_in auction.book.rules) (book_of auction.book) (λ b. false) c ≡ true)) (first ∷ xs))
    (sym awards) (each-kept sale c.within_limits.ensures.book first ties.points.items kept)

pub returns-in_err-others_of-clause-refuses : goal.returns-in_err-others_of-clause-refuses
returns-in_err-others_of-clause-refuses c =
    let auction = held c.args.auction.now in
    let first = c.args.first.now in
    if-err-of (λ s. Refuses (parsed_claims auction first) s ⊎ IsTooWideClaim auction first s) c.from_residual-in_err-others_of.result
    refusal.OutOfMemory c.from_residual-in_err-others_of.ensures.1 (inl (inr refl))

pub returns-clause-parsed : goal.returns-clause-parsed
returns-clause-parsed c =
    let auction = c.args.auction.now in
    let ties = c.in_ok-points.field-0 in
    let same : c.in_ok-program.program ≡ program_without auction.book [] = c.in_ok-program.ensures ∙ first-program auction c.args.compiler.now
    c.group.result.now c.requires.compiler c.requires.won.starts c.group.ensures in
    let awards = subst (λ (p : Table). ties.awards.items ≡ map (allocation_of p) ties.points.items) same c.in_ok-points.ensures.awards in
    let shown = subst (λ (points : List (List Bool)). IsShownUnique (held auction) points) c.deref.ensures.value c.in_ok-check_unique.ensures.shown in
    all-shown-so (held auction) c.args.first.now c.requires.counted ties.points.items c.in_ok-points.ensures.parsed ties.awards.items awards
    c.in_ok-others_of.field-0 shown c.in_ok-others_of.ensures
