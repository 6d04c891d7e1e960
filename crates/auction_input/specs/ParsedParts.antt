-- The parts of an input, as many as a command takes.
use Rattle.std.specs.Prelude.{ℕ, List, [], Result, Ok, slice_index_or}
use Rattle.auction_input.specs.Input.{Input}
use Rattle.auction_input.specs.Parts.{Part, input_fault, input_parts}
use Rattle.auction_input.specs.Plan.{miscounted}
use Rattle.auction_input.specs.declared.refusal.Refusal.TheVariants as refusal
use Rattle.auction_input.specs.declared.refusal.Refusal.{Refusal}
use Rattle.auction_input.specs.declared.request.Request.{Request}
use Rattle.auction_terms.specs.Stages.{and_then, refused_as, unless}

-- the parts of an input, or the first refusal: for bytes before the first part, for a part's name, or for how many there are of a kind
abbrev pub parsed_parts : Request → Input → Result (List Part) Refusal
parsed_parts asked input =
    and_then (refused_as refusal.Parts (unless (input_fault asked input) (Ok (input_parts input)))) (λ parts.
    refused_as refusal.PartCount (unless (miscounted asked parts) (Ok parts)))

-- the text of the one part of a kind; where there is none, no text
abbrev pub only_text : List (List ℕ) → List ℕ
only_text texts = slice_index_or texts 0 []
