use Rattle.std.proofs.Common.{◌≡◌, ◌∷◌, [], map, ap, replicate, rules}
use Rattle.program_rows.specs.Parts.{shown_row, table_of}
use Rattle.outcome.proofs.WorkedPrograms.{at_most}
use Rattle.program_tests.proofs.LongName.{is_long_program, long}
use Rattle.program_tests.proofs.texts.long_names.long_named.Goals as goal

pub from_parts-requires : goal.from_parts-requires
from_parts-requires c =
    let n = c.args.count in
    let name : c.in_ok-name.name.items ≡ replicate n 82 = search rules in
    let rows : map shown_row c.in_ok-from_array.field-0.items ≡ (long n).rows =
    rw c.in_ok-from_array.ensures.items (ap (λ letters. at_most letters 1 ∷ []) name) in
    is_long_program n (table_of record {
      objective_name = c.in_ok-objective_name.objective_name;
      rows = c.in_ok-from_array.field-0;
      columns = c.new.result;
    }) c.requires c.in_ok-objective_name.ensures.items rows c.new.ensures
