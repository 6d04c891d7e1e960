use Rattle.std.proofs.Common.{◌≡◌, ◌∙◌, ◌≤◌, ◌+◌, ◌*◌, ◌^◌, List, ap, arith, pos, subst, ℕ, ℤ, ◌+ℤ◌}
use Rattle.std.specs.Prelude.{unsigned_abs}
use Rattle.std.proofs.lemmas.Int.{ints}
use Rattle.std.proofs.lemmas.Result.{on_ok_weaker}
use Rattle.optimality.specs.Certificates.{Form}
use Rattle.optimality.specs.Adding.{number_at, form_at}
use Rattle.optimality.specs.inside.Adding.{cuts_given, rows_given}
use Rattle.optimality.specs.Holding.{cuts_of}
use Rattle.optimality.specs.RowForms.{row_forms}
use Rattle.optimality.specs.Sizes.{size_of}
use Rattle.optimality.specs.inside.Sizes.{form_size}
use Rattle.optimality.proofs.ColumnSizeFacts.{given-reached}
use Rattle.optimality.proofs.StopFacts.{too-large-weaker}
use Rattle.optimality.proofs.leaf_value.reduce.Goals as goal

-- what cuts and rows give to what was 0
in_turn : (none cuts after of_cuts of_rows : ℤ) → none ≡ pos 0 → cuts ≡ none +ℤ of_cuts → after ≡ cuts +ℤ of_rows → after ≡ of_cuts +ℤ of_rows
in_turn none cuts after of_cuts of_rows a b e = omega (arith, ints)

from_none : (none cuts of_cuts : ℤ) → none ≡ pos 0 → cuts ≡ none +ℤ of_cuts → cuts ≡ of_cuts
from_none none cuts of_cuts a b = omega (arith, ints)

pub returns-clause-value : goal.returns-clause-value
returns-clause-value c =
    let leaf = c.args.leaf.now in
    let forms = c.requires.forms in
    let empty = c.clear.new.self.numbers.items in
    let with_cuts = c.add_cuts.new.sums.numbers.items in
    let with_rows = c.add_rows.new.sums.numbers.items in
    let cuts = cuts_of c.args.splits.now in
    on_ok_weaker c.add_rows.result (λ more q.
    in_turn (number_at empty q) (number_at with_cuts q) (number_at with_rows q) (cuts_given leaf.multipliers.items cuts q)
    (rows_given c.args.rows.now (row_forms c.args.program.now) q) (c.clear.ensures q)
    (c.in_ok-add_cuts.ensures.value q ∙ ap (λ (ys : List ℕ). number_at empty q +ℤ cuts_given ys cuts q) c.as_slice.ensures.value)
    (more q ∙ ap (λ (fs : List Form). number_at with_cuts q +ℤ rows_given c.args.rows.now fs q) forms)) c.add_rows.ensures.value

pub returns-clause-too_large : goal.returns-clause-too_large
returns-clause-too_large c =
    let leaf = c.args.leaf.now in
    let forms = c.requires.forms in
    let empty = c.clear.new.self.numbers.items in
    let with_cuts = c.add_cuts.new.sums.numbers.items in
    let cuts = cuts_of c.args.splits.now in
    too-large-weaker c.add_rows.result c.add_rows.ensures.too_large
    (λ reached.
    let q = reached.0 in
    let given : number_at with_cuts q ≡ cuts_given leaf.multipliers.items cuts q =
    from_none (number_at empty q) (number_at with_cuts q) (cuts_given leaf.multipliers.items cuts q) (c.clear.ensures q)
    (c.in_ok-add_cuts.ensures.value q ∙ ap (λ (ys : List ℕ). number_at empty q +ℤ cuts_given ys cuts q) c.as_slice.ensures.value) in
    given-reached c.args.program.now c.well_formed-2.ensures leaf.multipliers.items cuts c.args.rows.now (number_at with_cuts q) q given
    (subst (λ (fs : List Form). 2 ^ 126 ≤ unsigned_abs (number_at with_cuts q) + size_of
    (λ t. unsigned_abs t.1 * form_size (form_at fs t.0)) c.args.rows.now) forms reached.1))
