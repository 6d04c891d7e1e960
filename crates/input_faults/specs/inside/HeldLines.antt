-- The lines of faults that are held.
use Rattle.std.specs.Prelude.{◌++◌, ℕ, List, flat_map}
use Rattle.auction_input.specs.Input.{NamedText}
use Rattle.auction_terms.specs.Judged.{kept_fault}
use Rattle.auction_terms.specs.declared.judge.All.{All}
use Rattle.auction_terms.specs.declared.judge.FaultAt.{FaultAt}
use Rattle.byte_sinks.specs.declared.json.Format.{Format}
use Rattle.input_faults.specs.FaultLines.{fault_line, more_line}
use Rattle.input_faults.specs.declared.fault.Fault.{Fault}

-- the line of a fault that is held
abbrev pub kept_line : Format → List NamedText → FaultAt Fault → List ℕ
kept_line format texts at = fault_line format texts (kept_fault at)

-- the lines of all that are, and how many more there are
abbrev pub held_lines : Format → List NamedText → All Fault → List ℕ
held_lines format texts held = flat_map (kept_line format texts) held.kept.items ++ more_line format held.more
