use Rattle.std.proofs.Common.{◌∙◌, sym}
use Rattle.program_rows.proofs.NameSetFacts.{is_place}
use Rattle.program_rows.proofs.name_set.place_beside.Goals as goal

pub returns-then-is_at : goal.returns-then-is_at
returns-then-is_at c =
    let stood = is_place c.args.name.now c.args.names.now.keys c.args.next c.as_slice.ensures.unique
    (rw c.as_slice.ensures.keys at (sym c.is_at.ensures ∙ c.if-is_at.true)) in
    record { index = stood.0; found = stood.1; within = stood.2 }

pub returns-then-is_at-2 : goal.returns-then-is_at-2
returns-then-is_at-2 c =
    let stood = is_place c.args.name.now c.args.names.now.keys _ c.as_slice-2.ensures.unique
    (rw c.as_slice-2.ensures.keys at (sym c.is_at-2.ensures ∙ c.if-is_at-2.true)) in
    record { index = stood.0; found = stood.1; within = stood.2 }

pub returns-then-is_at-3 : goal.returns-then-is_at-3
returns-then-is_at-3 c =
    let stood = is_place c.args.name.now c.args.names.now.keys _ c.as_slice-3.ensures.unique
    (rw c.as_slice-3.ensures.keys at (sym c.is_at-3.ensures ∙ c.if-is_at-3.true)) in
    record { index = stood.0; found = stood.1; within = stood.2 }
