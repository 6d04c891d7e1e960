use Rattle.std.specs.Prelude.{bytes_eq}
use Rattle.std.proofs.lemmas.Map.Keys.{IsDistinct-tail}
use Rattle.program_rows.proofs.same.stands_in.Goals as goal

pub are_rows_among-requires : goal.are_rows_among-requires
are_rows_among-requires c = rw c.as_slice-2.ensures.value (IsDistinct-tail bytes_eq _ _ c.requires.rows_differ)

pub are_columns_among-requires-clause-rows : goal.are_columns_among-requires-clause-rows
are_columns_among-requires-clause-rows c = rw c.as_slice-then-are_rows_among-2.ensures.value (IsDistinct-tail bytes_eq _ _ c.requires.rows_differ)
