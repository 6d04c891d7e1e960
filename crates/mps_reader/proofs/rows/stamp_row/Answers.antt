use Rattle.std.proofs.Common.{ℕ, sym, ap, ◌∙◌}
use Rattle.std.proofs.lemmas.Option.{get_or_from_slice_get}
use Rattle.std.specs.Prelude.{◌==◌}
use Rattle.std.proofs.lemmas.Bool.{eq-eqb, ne_eqb}
use Rattle.mps_reader.specs.inside.Rows.{names_of}
use Rattle.mps_reader.proofs.NameFacts.{any-names}
use Rattle.mps_reader.proofs.SeenRowFacts.{found-row, unknown-fault, repeated-fault, no-fault}
use Rattle.mps_reader.proofs.rows.stamp_row.Goals as goal

pub returns-in_default-clause-fault : goal.returns-in_default-clause-fault
returns-in_default-clause-fault c =
    λ has s. unknown-fault _ (has c.args.row.now) (sym (any-names c.args.row.now c.args.names.now.keys) ∙ sym c.in_default.ensures.found)

pub returns-then-index-stamp-clause-fault : goal.returns-then-index-stamp-clause-fault
returns-then-index-stamp-clause-fault c = λ has s.
    repeated-fault c.args.stamp has c.args.stamps.now.items (names_of c.args.names.now) c.in-Some.index c.index.result.now c.args.row.now
    (sym (any-names c.args.row.now c.args.names.now.keys) ∙ sym c.in-Some.ensures.found) s
    (found-row c.args.row.now c.args.names.now.keys c.in-Some.index c.in-Some.ensures.index)
    (ap (λ (n : ℕ). n == c.args.stamp) (sym c.index.ensures) ∙ eq-eqb _ _ c.if-index-stamp.true)

pub returns-clause-fault : goal.returns-clause-fault
returns-clause-fault c = λ has s.
    no-fault c.args.stamp has c.args.stamps.now.items (names_of c.args.names.now) c.in-Some.index c.index.result.now c.args.row.now
    (sym (any-names c.args.row.now c.args.names.now.keys) ∙ sym c.in-Some.ensures.found) s
    (found-row c.args.row.now c.args.names.now.keys c.in-Some.index c.in-Some.ensures.index)
    (ap (λ (n : ℕ). n == c.args.stamp) (sym c.index.ensures) ∙ ne_eqb _ _ c.if-index-stamp.false)

pub returns-clause-index : goal.returns-clause-index
returns-clause-index c = found-row c.args.row.now c.args.names.now.keys c.in-Some.index c.in-Some.ensures.index

pub returns-clause-fresh : goal.returns-clause-fresh
returns-clause-fresh c =
    λ d e. ap (λ (n : ℕ). n == c.args.stamp) (sym (get_or_from_slice_get c.args.stamps.now.items c.in-Some.index d c.index.result.now e) ∙ sym
    c.index.ensures) ∙ ne_eqb _ _ c.if-index-stamp.false
