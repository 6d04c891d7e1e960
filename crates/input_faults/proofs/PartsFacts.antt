-- The fault of the parts, or none.
use Rattle.std.proofs.Common.{◌≡◌, ◌∷◌, [], List, Option, None, Some, Err, refl}
use Rattle.std.specs.Prelude.{◌≢◌, option_map, option_to_list}
use Rattle.auction_input.specs.Input.{Input}
use Rattle.auction_input.specs.Parts.{Part, TellsParts, input_fault, input_parts}
use Rattle.auction_input.specs.Plan.{miscounted}
use Rattle.auction_input.specs.declared.part_kind.PartKind.{PartKind}
use Rattle.auction_input.specs.declared.parts.PartFault.{PartFault}
use Rattle.auction_input.specs.declared.parts.PartFault.TheVariants as part_fault
use Rattle.auction_input.specs.declared.request.Request.{Request}
use Rattle.input_faults.specs.InputFaults.{faults_of_parts}
use Rattle.input_faults.specs.PartFaults.{uncounted_fault, uncut_fault}

-- a fault of the parts that isn't want of memory
pub part-reported : (asked : Request) (input : Input) (f : PartFault) → TellsParts asked (Err f) input → f ≢ part_fault.OutOfMemory
    → input_fault asked input ≡ Some f
part-reported asked input part_fault.OutOfMemory reported other = absurd (other refl)
part-reported asked input part_fault.BeforeFirst reported other = reported
part-reported asked input (part_fault.PartName n) reported other = reported
part-reported asked input (part_fault.OfVersion1 n) reported other = reported

module _ (asked : Request) (input : Input) where
  pub parts-unknown : (f : PartFault) → input_fault asked input ≡ Some f → faults_of_parts asked input ≡ uncut_fault input.texts f ∷ []
  parts-unknown f is = rw is refl

  pub parts-counted : (parts : List Part) (count : Option PartKind) → input_fault asked input ≡ None → parts ≡ input_parts input
      → miscounted asked parts ≡ count → faults_of_parts asked input ≡ option_to_list (option_map (uncounted_fault asked parts) count)
  parts-counted parts count none held is = rw (none, ← held, is) refl
