-- What is known of the places of parts.
use Rattle.std.specs.Prelude.{◌≡◌, ◌<◌, ℕ, Bool, List, Option, None, Some, length, map, true}
use Rattle.std.specs.Str.{bytes_eq}
use Rattle.auction_input.specs.Input.{NamedText}
use Rattle.auction_input.specs.Parts.{name_of}
use Rattle.auction_input.specs.Places.{count_in}
use Rattle.auction_input.specs.declared.part_kind.PartKind.{PartKind}
use Rattle.auction_input.specs.declared.part_kind.PartKind.TheVariants as kind
use Rattle.auction_input.specs.declared.places.Counted.TheVariants as counted

-- whether a part of this name counts
abbrev pub is_counted : Option PartKind → List ℕ → Bool
is_counted (Some kind) name = bytes_eq name (name_of kind)
is_counted None name = true

-- of several texts it is known how many parts of these kinds each has
pub record AreCounted (texts : List NamedText) (rules forms groups : List ℕ) : Type 0 where
  pub rules_are : 1 < length texts → rules ≡ map (count_in (counted.Kind kind.Rules)) texts
  pub forms_are : 1 < length texts → forms ≡ map (count_in (counted.Kind kind.Form)) texts
  pub groups_are : 1 < length texts → groups ≡ map (count_in (counted.Kind kind.Groups)) texts
