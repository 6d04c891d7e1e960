-- What is outside of a run, as contracts see it: the reader of standard input, and the sinks of the output and of faults.
use Rattle.std.specs.Prelude.{ℕ, List, Option, Result}
use Rattle.auction_input.specs.declared.files.FileFault.{FileFault}
use Rattle.byte_sinks.specs.Sinks.{Outlet}

-- the outside at one moment: what is left to read, if that is known, and how many reads failed; the sink of the output, and that of faults
pub record Outside : Type 0 where
  pub left : Option (List ℕ)
  pub failed_reads : ℕ
  -- what sending the output to the file of a name finds, if that is known: nothing against it, or why it isn't sent
  pub sendable : List ℕ → Option (Result (Unit {0}) FileFault)
  pub output : Outlet
  pub faults : Outlet

-- the outside, by its parts
abbrev pub outside_of : Option (List ℕ) → ℕ → (List ℕ → Option (Result (Unit {0}) FileFault)) → Outlet → Outlet → Outside
outside_of left failed_reads sendable output faults =
    record { left = left; failed_reads = failed_reads; sendable = sendable; output = output; faults = faults }
