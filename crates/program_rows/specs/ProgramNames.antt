-- The names of a program's columns and rows, and the seeds of sets of names.
use Rattle.std.specs.Prelude.{ℕ, List, [], map, slice_get, ◌++◌, fold}
use Rattle.std.specs.Option.{option_map_or}
use Rattle.program_rows.specs.Program.{Table, TableRow}
use Rattle.std.specs.Hash.{le_bytes}
use Rattle.std.specs.Hash.DefaultHasher as sip
use Rattle.std.specs.Hash.FoldHasher as folding
use Rattle.std.specs.declared.hash.DefaultHasher.{DefaultHasher}
use Rattle.std.specs.declared.hash.FoldHasher.{FoldHasher}

-- the names of a program's columns, in their order
abbrev pub column_names : Table → List (List ℕ)
column_names p = map (λ c. c.name) p.columns

-- the names of a program's rows, in their order
abbrev pub row_names : Table → List (List ℕ)
row_names p = map (λ r. r.name) p.rows

-- the name of the row at a place, counted from 0; no bytes if there is none
abbrev pub row_name : List TableRow → ℕ → List ℕ
row_name rows place = option_map_or (λ r. r.name) (slice_get rows place) []

-- a quick hasher that has taken what a thorough one answers
abbrev pub started : DefaultHasher → FoldHasher
started hasher = folding.write folding.initial (le_bytes 8 (sip.finish hasher))

-- the seed of texts, one after the other
abbrev pub seed : List (List ℕ) → FoldHasher
seed texts = started (fold sip.write sip.initial texts)

-- the names of a program's columns, and after them those of its rows
abbrev pub all_names : Table → List (List ℕ)
all_names p = map (λ c. c.name) p.columns ++ map (λ r. r.name) p.rows
