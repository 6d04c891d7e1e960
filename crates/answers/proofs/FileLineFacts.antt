-- The words on files, variant by variant.
use Rattle.std.proofs.Common.{◌≡◌, ◌++◌, ℕ, List, [], append-nil, refl}
use Rattle.std.specs.Prelude.{codes}
use Rattle.auction_input.specs.FileWords.{fault_words}
use Rattle.auction_input.specs.declared.files.FileFault.{FileFault}
use Rattle.auction_input.specs.declared.files.FileFault.TheVariants as fault
use Rattle.input_faults.specs.FileNames.{shown_name}
use Rattle.answers.specs.FileLines.{file_text, words_with}

-- no other file comes after them
pub words-alone : (f : FileFault) (other : List ℕ) → ((n : ℕ) → f ≡ fault.ReadAlready n → ⊥) → fault_words f ++ [] ≡ words_with f other
words-alone (fault.ReadAlready n) other not = absurd (not n refl)
words-alone f other not = append-nil (fault_words f)

-- memory wasn't short
pub named-file : (name : List ℕ) (f : FileFault) (other : List ℕ) → (f ≡ fault.OutOfMemory → ⊥)
    → shown_name name ++ (codes ": " ++ words_with f other) ≡ file_text name f other
named-file name fault.OutOfMemory other not = absurd (not refl)
named-file name f other not = refl
