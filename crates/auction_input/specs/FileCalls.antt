-- What files are asked, one call after the other.
use Rattle.std.specs.Prelude.{◌≡◌, ◌++◌, ◌∷◌, [], if◌then◌else◌, Bool, List, None, Option, Some, flat_map, map, ℕ}
use Rattle.auction_input.specs.FileLooks.{names_read}
use Rattle.auction_input.specs.FileTexts.{is_standard_input, is_standard_output}

-- a call of files: what distinguishes standard input; whether the file of a name can be read, be replaced, be written; or to open it
pub data FileCall : Type 0 where
  standard_input : FileCall
  readable : List ℕ → FileCall
  replaced : List ℕ → FileCall
  rights : List ℕ → FileCall
  opened : List ℕ → FileCall

-- after the calls before, if they are known, these were made, in this order, and no others
abbrev pub AreAsked : List FileCall → Option (List FileCall) → Option (List FileCall) → Type 0
AreAsked made before after = (calls : List FileCall) → before ≡ Some calls → after ≡ Some (calls ++ made)

-- some of these were made, without a gap from the first one on, and no others
abbrev pub AreBegun : List FileCall → Option (List FileCall) → Option (List FileCall) → Type 0
AreBegun due before after = (made : List FileCall) × (left : List FileCall) × (due ≡ made ++ left) × AreAsked made before after

-- the look at what is read by a name
abbrev pub look_at : List ℕ → FileCall
look_at name = if is_standard_input name then standard_input else readable name

-- the looks at a file that is written: whether it is there, and, where its rights matter, whether it may be written
abbrev pub looks_written : Option (List ℕ) → Bool → List FileCall
looks_written None with_rights = []
looks_written (Some name) with_rights =
    if is_standard_output name then [] else replaced name ∷ (if with_rights then rights name ∷ [] else [])

-- the looks at all files, before any is opened: at those that are read, in order, and then at the one that is written
abbrev pub looks : List (List ℕ) → Option (List ℕ) → Bool → List FileCall
looks names output with_rights = map look_at (names_read names) ++ looks_written output with_rights

-- what is asked to open what is read by a name: nothing where that is standard input
abbrev pub call_to_open : List ℕ → List FileCall
call_to_open name = if is_standard_input name then [] else opened name ∷ []

-- what is asked to open all files that are read, in order
abbrev pub calls_to_open : List (List ℕ) → List FileCall
calls_to_open names = flat_map call_to_open names
