-- The parts of the input, by their kinds, as the code sorts them.
use Rattle.std.specs.Prelude.{◌≡◌, ◌++◌, ⊤, None, Some, Bool, ℕ, List, [], ◌∷◌, Option, find, slice_index_or}
use Rattle.std.specs.Str.{bytes_eq}
use Rattle.auction_input.specs.declared.part_kind.PartKind.TheVariants as kind
use Rattle.auction_input.specs.declared.part_kind.PartKind.{PartKind}
use Rattle.auction_input.specs.declared.parts.Part as declared
use Rattle.auction_input.specs.Requests.{target_of}
use Rattle.auction_input.specs.declared.request.Request.{Request}
use Rattle.auction_input.specs.declared.request.Target.TheVariants as target
use Rattle.auction_input.specs.declared.request.Target.{Target}
use Rattle.auction_input.specs.Parts.{Part, name_of, part_fault}
use Rattle.auction_input.specs.declared.parts.PartFault.TheVariants as fault
use Rattle.auction_input.specs.declared.parts.PartFault.{PartFault}
use Rattle.auction_terms.specs.FirstFault.{first_fault}
use Rattle.auction_terms.specs.Lines.{lines_of}

-- the name in the line that heads a part
abbrev pub part_name : List ℕ → List ℕ
part_name head = slice_index_or (lines_of head) 0 []

-- the part of text n with this head
abbrev pub part : ℕ → List ℕ → List ℕ → Part
part n head bytes = record { text = n; name = part_name head; bytes = bytes }

-- whether a part that is held is of a kind
abbrev pub is_held : PartKind → declared.Part → Bool
is_held k part = bytes_eq (name_of part.kind) (name_of k)

-- the kinds that a request knows
abbrev pub kinds_for : Option Target → List PartKind
kinds_for (Some target.Verify) = kind.Rules ∷ kind.Form ∷ kind.Groups ∷ kind.Solution ∷ kind.Certificate ∷ kind.Unique ∷ kind.Tie ∷
    kind.Prices ∷ kind.Cover ∷ kind.Rule ∷ []
kinds_for None = kind.Rules ∷ kind.Form ∷ kind.Groups ∷ kind.Solution ∷ kind.Certificate ∷ kind.Unique ∷ kind.Tie ∷ kind.Prices ∷ kind.Cover ∷ kind.Rule ∷ []
kinds_for (Some command) = kind.Rules ∷ kind.Form ∷ kind.Groups ∷ kind.Solution ∷ []

-- the kinds of parts that a request knows
abbrev pub known_kinds : Request → List PartKind
known_kinds asked = kinds_for (target_of asked)

-- the kind that a name means to a request
abbrev pub kind_named : Request → List ℕ → Option PartKind
kind_named asked name = find (λ k. bytes_eq name (name_of k)) (known_kinds asked)

-- parts without a fault are held after those that were held before
pub record HaveAdded (asked : Request) (old new parts : List Part) : Type 0 where
  pub sound : first_fault (part_fault asked) old parts ≡ None
  pub held : new ≡ old ++ parts

-- the first fault of parts after others; or memory was short
abbrev pub IsFaultAfter : Request → List Part → List Part → PartFault → Type 0
IsFaultAfter asked old parts fault.OutOfMemory = ⊤
IsFaultAfter asked old parts f = first_fault (part_fault asked) old parts ≡ Some f
