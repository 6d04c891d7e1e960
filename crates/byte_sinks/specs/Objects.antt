-- Objects of JSON: each is a list of members, and stands on a line of its own.
use Rattle.std.specs.Prelude.{◌++◌, ◌∷◌, ℕ, ℤ, Bool, List, [], Option, codes, decimal, flat_map, if◌then◌else◌, map}
use Rattle.std.specs.Option.{option_map_or}
use Rattle.std.specs.Fmt.{signed_decimal}
use Rattle.byte_sinks.specs.Json.{json_text}
use Rattle.byte_sinks.specs.declared.objects.Scalar.{Scalar as GivenScalar}
use Rattle.byte_sinks.specs.declared.objects.Scalar.TheVariants as given_scalar
use Rattle.byte_sinks.specs.declared.objects.Value.{Value as GivenValue}
use Rattle.byte_sinks.specs.declared.objects.Value.TheVariants as given
use Rattle.byte_sinks.specs.declared.objects.Count.{Count as GivenCount}
use Rattle.byte_sinks.specs.declared.objects.Member.{Member as GivenMember}

-- a single value
pub data Scalar : Type 0 where
  Null : Scalar
  Flag : Bool → Scalar
  Number : ℕ → Scalar
  Signed : ℤ → Scalar
  Text : List ℕ → Scalar

-- a single value, a list of them, or a number for each of some names
pub data Value : Type 0 where
  One : Scalar → Value
  Many : List Scalar → Value
  Counts : List (List ℕ × ℕ) → Value

-- a member of an object
pub record Member : Type 0 where
  pub name : List ℕ
  pub value : Value

-- ---- members of each kind

-- a string
abbrev pub named_text : List ℕ → List ℕ → Member
named_text name bytes = record { name = name; value = One (Text bytes) }

-- a number
abbrev pub named_number : List ℕ → ℕ → Member
named_number name n = record { name = name; value = One (Number n) }

-- a number that may be negative
abbrev pub named_signed : List ℕ → ℤ → Member
named_signed name n = record { name = name; value = One (Signed n) }

-- a number, or null where there is none
abbrev pub named_number_if : List ℕ → Option ℕ → Member
named_number_if name n = record { name = name; value = One (option_map_or Number n Null) }

-- a string, or null where there is none
abbrev pub named_text_if : List ℕ → Option (List ℕ) → Member
named_text_if name bytes = record { name = name; value = One (option_map_or Text bytes Null) }

-- whether something is so
abbrev pub named_flag : List ℕ → Bool → Member
named_flag name b = record { name = name; value = One (Flag b) }

-- strings
abbrev pub named_texts : List ℕ → List (List ℕ) → Member
named_texts name list = record { name = name; value = Many (map Text list) }

-- numbers
abbrev pub named_number_list : List ℕ → List ℕ → Member
named_number_list name list = record { name = name; value = Many (map Number list) }

-- numbers that may be negative
abbrev pub named_signed_numbers : List ℕ → List ℤ → Member
named_signed_numbers name list = record { name = name; value = Many (map Signed list) }

-- a number for each of some names
abbrev pub named_counts : List ℕ → List (List ℕ × ℕ) → Member
named_counts name list = record { name = name; value = Counts list }

-- ---- what is given in the program

abbrev pub scalar_seen : GivenScalar → Scalar
scalar_seen given_scalar.Null = Null
scalar_seen (given_scalar.Flag b) = Flag b
scalar_seen (given_scalar.Number n) = Number n
scalar_seen (given_scalar.Signed n) = Signed n
scalar_seen (given_scalar.Text bytes) = Text bytes.now

abbrev pub count_seen : GivenCount → List ℕ × ℕ
count_seen c = (c.name.now, c.number)

abbrev pub value_seen : GivenValue → Value
value_seen (given.One s) = One (scalar_seen s)
value_seen (given.Many s) = Many (map scalar_seen s.now)
value_seen (given.Counts c) = Counts (map count_seen c.now)

abbrev pub member_seen : GivenMember → Member
member_seen m = record { name = m.name.now; value = value_seen m.value }

-- ---- the text

-- the texts of items, a comma and a blank between two
abbrev pub parted : {X : Type 0} → (X → List ℕ) → List X → List ℕ
parted item [] = []
parted item (x ∷ xs) = item x ++ flat_map (λ y. codes ", " ++ item y) xs

-- a string
abbrev pub quoted : List ℕ → List ℕ
quoted text = 34 ∷ (json_text text ++ 34 ∷ [])

abbrev pub scalar_text : Scalar → List ℕ
scalar_text Null = codes "null"
scalar_text (Flag b) = if b then codes "true" else codes "false"
scalar_text (Number n) = decimal n
scalar_text (Signed n) = signed_decimal n
scalar_text (Text text) = quoted text

abbrev pub count_text : List ℕ × ℕ → List ℕ
count_text c = quoted c.0 ++ (codes ": " ++ decimal c.1)

abbrev pub json_value : Value → List ℕ
json_value (One s) = scalar_text s
json_value (Many s) = codes "[" ++ (parted scalar_text s ++ codes "]")
json_value (Counts c) = codes "{" ++ (parted count_text c ++ codes "}")

abbrev pub member_text : Member → List ℕ
member_text m = quoted m.name ++ (codes ": " ++ json_value m.value)

-- an object with its members in order, on a line of its own
abbrev pub object_text : List Member → List ℕ
object_text members = codes "{" ++ (parted member_text members ++ codes "}\n")
