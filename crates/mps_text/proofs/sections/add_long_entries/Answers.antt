use Rattle.std.proofs.Common.{get_or, map, pos, arith, rules, w64}
use Rattle.std.proofs.lemmas.Int.{to_z-of_z}
use mir.Val.{SFits}
use Rattle.program_rows.specs.Parts.{shown_row}
use Rattle.mps_text.specs.Bytes.{entry_bytes}
use Rattle.byte_sinks.proofs.AddingFacts.{Adds-then, Adds-to}
use Rattle.byte_sinks.proofs.KnownByteFacts.{flat_map-next_or}
use Rattle.mps_text.proofs.sections.add_long_entries.Goals as goal

pub loop-place-preserved : goal.loop-place-preserved
loop-place-preserved g c =
    let number = (get_or c.args.entries.now c.loop-place.place-index (0, pos 0)).1 in
    let fits : SFits w64 number = search rules in
    Adds-to (Adds-then c.loop-place.invariant (rw (c.name_at.ensures, to_z-of_z w64 number fits) at c.add_number.ensures))
    (flat_map-next_or (entry_bytes (map shown_row c.args.rows.now) c.args.name.now) c.args.entries.now c.loop-place.place-index
    (0, pos 0) (omega arith))
