-- What a run asks of files, one call after the other.
use Rattle.std.specs.Prelude.{◌≡◌, ◌++◌, [], Bool, List, None, Option, ℕ}
use Rattle.auction_input.specs.FileCalls.{AreAsked, FileCall, looks, calls_to_open}
use Rattle.answers.specs.Asked.{Asked, CommandLine, for_answer}

-- the looks at the files that are named: none where none is
abbrev pub looks_named : List (List ℕ) → Option (List ℕ) → Bool → List FileCall
looks_named [] None with_rights = []
looks_named names output with_rights = looks names output with_rights

-- what a command line asks of files: all looks, before any file is opened; then each file that is read is opened once, in order
abbrev pub calls_for : CommandLine → Bool → List FileCall
calls_for asked with_rights = looks_named asked.files asked.output with_rights ++ calls_to_open asked.files

-- what is asked of files is begun in its order, and ended where the status is 0; nothing else is asked
abbrev pub AreCalled : Asked → ℕ → Option (List FileCall) → Option (List FileCall) → Type 0
AreCalled (for_answer asked) status before after =
    (with_rights : Bool) × ((made : List FileCall) × (left : List FileCall) × (calls_for asked with_rights ≡ made ++ left)
    × AreAsked made before after × (status ≡ 0 → left ≡ []))
AreCalled asked status before after = after ≡ before
