use Rattle.std.proofs.Common.{◌≡◌, ◌≤◌, ◌∷◌, ◌++◌, [], take, map}
use Rattle.std.specs.Prelude.{flat_map}
use Rattle.program_rows.specs.Parts.{shown_row}
use Rattle.mps_text.specs.Bytes.{entry_bytes}
use Rattle.mps_text.specs.declared.line.TheConstants.{FRONT_LEN, LINES_LEN}
use Rattle.mps_text.proofs.sections.write_entries.Given as goal

-- the lines so far come one after the other
abbrev pub invariant-loop-place : goal.invariant-loop-place
invariant-loop-place l = record {
  lines : take l.at l.lines ≡ flat_map (entry_bytes (map shown_row l.rows) l.name) (take l.place-index l.entries);
  front : take l.front_len l.front ≡ 32 ∷ (l.name ++ 32 ∷ []);
  within : l.front_len ≤ FRONT_LEN;
  room : l.at ≤ LINES_LEN;
}
