-- What the code holds of an auction while it judges what is claimed of other awards.
use Rattle.std.specs.Prelude.{◌≡◌, ◌≤◌, ◌⊎◌, ℕ, Bool, List, [], ◌∷◌, None, Some, Ok, length, slice_index_or, true}
use Rattle.auction_input.specs.Auction.{Auction}
use Rattle.auction_input.specs.declared.auction.Auction as declared
use Rattle.auction_input.specs.declared.refusal.Refusal.TheVariants as refusal
use Rattle.auction_input.specs.declared.refusal.Refusal.{Refusal}
use Rattle.auction_input.specs.Line.{refusal_text}
use Rattle.auction_terms.specs.Lines.{bytes_of}
use Rattle.auction_terms.specs.Groups.{starts_empty}
use Rattle.auction_terms.specs.declared.bids.Choice.{Choice}
use Rattle.group_compiler.specs.Compiled.{program_without}
use Rattle.optimality.specs.OnlyPoints.{IsLargeOnlyAt, only_fault}
use Rattle.outcome.specs.Solution.{solution}
use Rattle.program_rows.specs.declared.certificate_fault.CertificateFault.{CertificateFault}
use Rattle.program_rows.specs.declared.certificate_fault.CertificateFaultKind.TheVariants.{TooLarge}
use Rattle.answers.specs.Claimed.{first_program}
use Rattle.answers.specs.SolutionWinners.{winners_by}

-- the first group is empty, and this is what its solution wins
pub record IsWonFirst (auction : declared.Auction) (first : List Choice) : Type 0 where
  pub starts : starts_empty auction.groups ≡ true
  pub some : 1 ≤ length auction.solutions.items
  pub won : winners_by (program_without auction.book []) 1 (slice_index_or (bytes_of auction.solutions.items) 0 []) ≡ Ok first

-- the one text shows that no point but that of the first solution and these is as good
pub record IsShownUnique (auction : Auction) (points : List (List Bool)) : Type 0 where
  pub text : List ℕ
  pub point : List Bool
  pub one : auction.uniques ≡ text ∷ []
  pub solved : solution (first_program auction) (slice_index_or auction.solutions 0 []) ≡ Ok point
  pub shown : only_fault (first_program auction) point points text ≡ None

-- the one text has this fault, or isn't judged further
pub record HasUniqueFault (auction : Auction) (points : List (List Bool)) (f : CertificateFault) : Type 0 where
  pub text : List ℕ
  pub point : List Bool
  pub one : auction.uniques ≡ text ∷ []
  pub solved : solution (first_program auction) (slice_index_or auction.solutions 0 []) ≡ Ok point
  pub found : (f.kind ≡ TooLarge × IsLargeOnlyAt (first_program auction) point points text f.line)
      ⊎ (only_fault (first_program auction) point points text ≡ Some (f.line, f.kind))

-- why it is refused: memory was short, or it has a fault
abbrev pub IsUniqueRefused : Auction → List (List Bool) → Refusal → Type 0
IsUniqueRefused auction points r =
    (refusal_text r ≡ refusal_text refusal.OutOfMemory) ⊎ ((f : CertificateFault) × HasUniqueFault auction points f × (r ≡ refusal.Unique f))
