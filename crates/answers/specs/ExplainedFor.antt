-- What `explain` says for a command, and what that command does.
use Rattle.std.specs.Prelude.{◌≡◌, ◌⊎◌, ⊤, Option, None, Some, Ok, Err, IsErr}
use Rattle.answers.specs.Answer.{answer}
use Rattle.auction_input.specs.Auction.{Auction}
use Rattle.auction_input.specs.Input.{Input}
use Rattle.auction_input.specs.PartCounts.{parsed_taken}
use Rattle.auction_input.specs.declared.refusal.Refusal.TheVariants as refusal
use Rattle.auction_input.specs.declared.refusal.Refusal.{Refusal}
use Rattle.auction_input.specs.Requests.{target_of}
use Rattle.auction_input.specs.declared.request.ExplainOptions.{ExplainOptions}
use Rattle.auction_input.specs.declared.request.Request.TheVariants.{Explain, Objects, Verify, VerifyWithForms}
use Rattle.auction_input.specs.declared.request.Objects.TheVariants as objects
use Rattle.auction_input.specs.declared.request.Request.{Request}
use Rattle.auction_input.specs.declared.request.Target.{Target}

-- an input is refused for its parts: for the name of one, for a number of them, or since the first group isn't empty
abbrev pub IsOfParts : Refusal → Type 0
IsOfParts (refusal.Parts f) = ⊤
IsOfParts (refusal.PartCount kind) = ⊤
IsOfParts refusal.FirstGroupNotEmpty = ⊤
IsOfParts r = ⊥

-- a request is for the command that is named
abbrev pub IsNamed : Option Target → Request → Type 0
IsNamed None asked = ⊥
IsNamed (Some command) asked = target_of asked ≡ Some command

-- the command refuses the input
abbrev pub IsRefusedBy : Option Target → Input → Type 0
IsRefusedBy command input = (asked : Request) → IsNamed command asked → IsErr (answer asked input)

-- it doesn't refuse it for its parts
abbrev pub IsTakenBy : Option Target → Input → Type 0
IsTakenBy command input = (asked : Request) → IsNamed command asked → (r : Refusal) → answer asked input ≡ Err r → IsOfParts r → ⊥

-- the first refusal is that of the command; `verify` may meet another before, but not for parts
abbrev pub RefusesSo : Request → Input → Refusal → Type 0
RefusesSo (Verify workers) input r = (first : Refusal) × (answer (Verify workers) input ≡ Err first) × ((first ≡ r) ⊎ (IsOfParts first → ⊥))
RefusesSo (VerifyWithForms workers) input r =
    (first : Refusal) × (answer (VerifyWithForms workers) input ≡ Err first) × ((first ≡ r) ⊎ (IsOfParts first → ⊥))
RefusesSo (Objects (objects.Verify workers)) input r =
    (first : Refusal) × (answer (Objects (objects.Verify workers)) input ≡ Err first) × ((first ≡ r) ⊎ (IsOfParts first → ⊥))
RefusesSo asked input r = answer asked input ≡ Err r

-- what `explain` prints for a command is what the command does
pub record ExplainsFor (command : Target) (input : Input) : Type 0 where
  pub refused : (options : ExplainOptions) (r : Refusal) → options.target ≡ Some command → parsed_taken (Explain options) input ≡ Err r
      → (asked : Request) → target_of asked ≡ Some command → RefusesSo asked input r
  pub taken : (options : ExplainOptions) (auction : Auction) → options.target ≡ Some command → parsed_taken (Explain options) input ≡ Ok auction
      → IsTakenBy (Some command) input
