-- What a command reads: texts with the names of their files.
use Rattle.std.specs.Prelude.{ℕ, Bool, List, [], ◌∷◌, false, map}

-- a text that was read, and the name of its file; standard input by itself has none
pub record NamedText : Type 0 where
  pub name : List ℕ
  pub bytes : List ℕ

-- the texts in their order, and whether a bidder may have forms in several of them, of which the last one counts
pub record Input : Type 0 where
  pub texts : List NamedText
  pub last_wins : Bool

-- a text without the name of a file
abbrev pub unnamed : List ℕ → NamedText
unnamed bytes = record { name = []; bytes = bytes }

-- one text by itself
abbrev pub input_of : List ℕ → Input
input_of bytes = record { texts = unnamed bytes ∷ []; last_wins = false }

-- the bytes of the texts
abbrev pub text_bytes : Input → List (List ℕ)
text_bytes input = map (λ (given : NamedText). given.bytes) input.texts
