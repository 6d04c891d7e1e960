use Rattle.std.proofs.Common.{◌∙◌, Some, ap, map, sym}
use Rattle.std.specs.Option.{option_map}
use Rattle.program_rows.specs.Parts.{shown_row}
use Rattle.program_rows.specs.Program.{TableRow}
use Rattle.program_rows.proofs.LookupFacts.{step, found_here, shown_at}
use Rattle.program_rows.proofs.lookups.search_row.Goals as goal

pub returns-then-is_same_name : goal.returns-then-is_same_name
returns-then-is_same_name c =
    let shown = shown_at shown_row c.args.rows.now c.loop-i.i c.index-rows-i.result c.loop-i-test.true c.index-rows-i.is in
    found_here (λ (r : TableRow). r.name) c.args.name.now (map shown_row c.args.rows.now) c.loop-i.i c.as_slice.result.now
    (ap (option_map (λ (r : TableRow). r.name)) shown ∙ ap Some (sym c.as_slice.ensures.value)) (sym c.is_same_name.ensures ∙ c.if-is_same_name.true) c.loop-i.invariant

pub loop-i-preserved : goal.loop-i-preserved
loop-i-preserved c =
    let shown = shown_at shown_row c.args.rows.now c.loop-i.i c.index-rows-i.result c.loop-i-test.true c.index-rows-i.is in
    step (λ (r : TableRow). r.name) c.args.name.now (map shown_row c.args.rows.now) c.loop-i.i c.as_slice.result.now
    (ap (option_map (λ (r : TableRow). r.name)) shown ∙ ap Some (sym c.as_slice.ensures.value)) (sym c.is_same_name.ensures ∙ c.if-is_same_name.false) c.loop-i.invariant
