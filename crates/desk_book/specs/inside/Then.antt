-- What `do` means of what may be missing.
use Rattle.std.specs.Prelude.{Option}
use Rattle.std.specs.Option.{option_and_then}

-- what is made of something, if it is there
infixl 10 ◌>>=◌
abbrev pub ◌>>=◌ : {X Y : Type 0} → Option X → (X → Option Y) → Option Y
found >>= make = option_and_then make found
