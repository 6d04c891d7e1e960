use Rattle.std.proofs.Common.{◌≡◌, ◌+◌, ◌∙◌, ℕ, suc, take, ap, arith}
use Rattle.std.specs.Prelude.{flat_map}
use Rattle.program_rows.specs.Parts.{shown_column}
use Rattle.mps_text.specs.Bytes.{bound_bytes}
use Rattle.mps_text.specs.Text.{bound_words}
use Rattle.byte_sinks.proofs.AddingFacts.{Adds-then, Adds-to}
use Rattle.byte_sinks.proofs.KnownByteFacts.{flat_map-next}
use Rattle.mps_text.proofs.LineByteFacts.{bound_parts}
use Rattle.mps_text.proofs.sections.add_bounds.Goals as goal

pub loop-place-preserved : goal.loop-place-preserved
loop-place-preserved g c =
    let at = c.loop-place.place in
    let all = c.args.columns.now in
    let bytes = bound_bytes in
    let column = c.column-column.result in
    let after : suc at ≡ at + 1 = omega arith in
    let line = Adds-to (Adds-then c.add.ensures (Adds-then c.add-in-loop-place.ensures c.add-in-loop-place-2.ensures))
    (bound_parts ((bound_words column.bounds).0) column.name.now ((bound_words column.bounds).1) c.before_bound.result.now
    c.after_bound.result.now c.before_bound.ensures c.after_bound.ensures) in
    Adds-to (Adds-then c.loop-place.invariant line)
    (flat_map-next bytes all at (shown_column column) c.column-column.ensures ∙ ap (λ (n : ℕ). flat_map bytes (take n all)) after)
