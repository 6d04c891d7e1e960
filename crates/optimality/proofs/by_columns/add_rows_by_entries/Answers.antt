use Rattle.std.proofs.Common.{◌≡◌, ◌∙◌, ℕ, ℤ, List, ap, arith, length}
use Rattle.std.proofs.lemmas.List.{take_at}
use Rattle.std.proofs.lemmas.Option.{IfSome_then}
use Rattle.optimality.specs.Certificates.{number_in}
use Rattle.optimality.specs.Adding.{number_at}
use Rattle.optimality.proofs.ByColumnFacts.{columns-have}
use Rattle.optimality.proofs.by_columns.add_rows_by_entries.Goals as goal

pub returns : goal.returns
returns c =
    let ys = c.as_slice.result.now in
    let rows = c.args.rows.now in
    let count = c.in_ok-multipliers.multipliers.len in
    let after = c.add_multipliers.new.multipliers in
    let size : length after ≡ count = omega (arith, c.add_multipliers.auto.multipliers, c.as_mut_slice.ensures.len) in
    let held : ys ≡ after = c.as_slice.ensures.value ∙ take_at after _ count size in
    let same : (row : ℕ) → number_at ys row ≡ number_in rows row =
    λ row. ap (λ (ns : List ℤ). number_at ns row) held ∙ c.in_ok-add_multipliers.ensures row in
    IfSome_then c.add_columns.result c.add_columns.ensures (λ _ more. columns-have c.args.program.now rows ys c.args.sums.now
    c.add_columns.new.sums c.well_formed-2.ensures same more)
