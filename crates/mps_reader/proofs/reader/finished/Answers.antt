use Rattle.std.proofs.Common.{◌∙◌, ap, sym, subst, length, map}
use Rattle.std.proofs.lemmas.List.{length-map}
use Rattle.program_rows.specs.Parts.{IsProgram, shown_row}
use Rattle.mps_reader.specs.inside.States.{state_bounds}
use Rattle.mps_reader.proofs.FitFacts.{done-length, program-fits}
use Rattle.mps_reader.proofs.ParsedProgramFacts.{program-parsed}
use Rattle.mps_reader.proofs.reader.finished.Goals as goal

pub with_bounds-requires : goal.with_bounds-requires
with_bounds-requires c =
    ap length c.in_ok-bounds.ensures ∙ length-map c.as_slice.result.now state_bounds ∙ ap length c.as_slice.ensures.value
    ∙ done-length (length c.args.reading.rows.rows.items) c.args.reading.columns c.requires.fit.both.columns c.requires.closed

pub from_parts-requires : goal.from_parts-requires
from_parts-requires c =
    let size = ap length c.in_ok-bounds.ensures ∙ length-map c.as_slice.result.now state_bounds ∙ ap length c.as_slice.ensures.value
    ∙ done-length (length c.args.reading.rows.rows.items) c.args.reading.columns c.requires.fit.both.columns c.requires.closed in
    subst (λ cs. IsProgram (record {
      objective = c.in_ok-objective_name.objective_name.items;
      rows =
          map shown_row c.args.reading.rows.rows.items;
      columns = cs;
    })) (sym c.with_bounds.ensures)
    (program-fits c.args.reading.rows c.args.reading.columns c.in_ok-objective_name.objective_name.items c.in_ok-bounds.bounds.items
    c.requires.fit.rows c.requires.fit.both.columns c.requires.closed c.in_ok-objective_name.ensures size)

pub returns : goal.returns
returns c = λ before h.
    program-parsed before c.args.reading c.in_ok-objective_name.objective_name.items c.in_ok-bounds.bounds.items c.requires.fit c.requires.closed
    c.in_ok-objective_name.ensures (c.in_ok-bounds.ensures ∙ ap (map state_bounds) c.as_slice.ensures.value) h
    ∙ ap (λ cs. record { objective = c.in_ok-objective_name.objective_name.items; rows = map shown_row c.args.reading.rows.rows.items; columns = cs })
    (sym c.with_bounds.ensures) ∙ sym c.from_parts.ensures
