use Rattle.std.proofs.Common.{◌≡◌, [], ℕ, List, Ok, Some, ◌⊎◌, sym, subst, slice_index_or}
use Rattle.group_compiler.specs.Compiled.{program_without}
use Rattle.optimality.specs.Answers.{IsLimit}
use Rattle.optimality.specs.OnlyPoints.{IsLargeOnlyAt, only_fault}
use Rattle.outcome.specs.Solution.{solution}
use Rattle.program_rows.specs.declared.certificate_fault.CertificateFaultKind.TheVariants.{TooLarge}
use Rattle.program_rows.specs.Program.{Table}
use Rattle.auction_input.specs.Settled.{held}
use Rattle.auction_terms.specs.Lines.{bytes_of}
use Rattle.answers.proofs.ClaimedFacts.{one-text, unique-refused}
use Rattle.answers.proofs.ReportFacts.{text-at}
use Rattle.answers.proofs.WinningFacts.{allowed-length}
use Rattle.answers.proofs.claimed.check_unique.Goals as goal

pub check_only-requires-clause-first : goal.check_only-requires-clause-first
check_only-requires-clause-first c = allowed-length c.args.program.now.columns c.in-Ok.point c.in-Ok.ensures.point.allowed

pub check_only-requires-clause-others : goal.check_only-requires-clause-others
check_only-requires-clause-others c =
    λ k d l. allowed-length c.args.program.now.columns (slice_index_or c.args.points.now k d) (c.requires.points k d l).allowed

pub returns-clause-refuses : goal.returns-clause-refuses
returns-clause-refuses c =
    let auction = c.args.auction.now in
    let point = c.in-Ok.point in
    let text = text-at auction.solutions.items 0 c.index.result.now c.requires.some c.index.ensures in
    let solved : solution (program_without auction.book []) (slice_index_or (bytes_of auction.solutions.items) 0 [])
    ≡ Ok point = sym (subst (λ (t : List ℕ). Ok point ≡ solution (program_without auction.book []) t) text
    (subst (λ (p : Table). Ok point ≡ solution p c.index.result.now.now) c.requires.program c.in-Ok.ensures.answer)) in
    let one = one-text auction.uniques.items c.index-2.result.now c.requires.one c.index-2.ensures in
    let found = subst (λ (p : Table). IsLimit c.in-Err.fault.kind ⊎
    (only_fault p point c.args.points.now c.index-2.result.now.now ≡ Some (c.in-Err.fault.line, c.in-Err.fault.kind))) c.requires.program
    c.in-Err.ensures.first_fault in
    let large = subst (λ (p : Table). c.in-Err.fault.kind ≡ TooLarge → IsLargeOnlyAt p point c.args.points.now c.index-2.result.now.now c.in-Err.fault.line)
    c.requires.program c.in-Err.ensures.too_large in
    unique-refused (held auction) c.args.points.now point c.index-2.result.now.now c.in-Err.fault one solved found large
