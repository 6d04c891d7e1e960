-- How names of files are shown.
use Rattle.std.specs.Prelude.{ℕ, List, [], codes, flat_map, if◌then◌else◌}
use Rattle.std.specs.Str.{bytes_eq}
use Rattle.input_faults.specs.Shown.{shown_byte}

-- a name, byte by byte as the texts of an input, so that a line stays one and steers no terminal; of `-` what it stands for
abbrev pub shown_name : List ℕ → List ℕ
shown_name name =
    if bytes_eq name (codes "-") then codes "standard input"
    else (if bytes_eq name [] then codes "''" else flat_map shown_byte name)
