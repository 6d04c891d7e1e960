-- Certificates of what the groups win: each shows that no point of its group's program has an objective below minus the total, so that nobody wins more.
use Rattle.std.specs.Prelude.{◌≡◌, ◌+◌, ℕ, List, Some, Result, Ok, Err, ℤ, pos, neg_ℤ, if◌then◌else◌, map, slice_get, take}
use Rattle.std.specs.List.{zip}
use Rattle.std.specs.Option.{option_map}
use Rattle.auction_input.specs.Auction.{Auction}
use Rattle.auction_input.specs.PartCounts.{has_certificates, numbers_of}
use Rattle.answers.specs.Programs.{program_for}
use Rattle.auction_input.specs.declared.refusal.Refusal.{Refusal}
use Rattle.auction_terms.specs.Stages.{and_then, each_in_turn, unless}
use Rattle.auction_input.specs.declared.part_kind.PartKind.TheVariants as part
use Rattle.auction_input.specs.declared.refusal.Refusal.TheVariants as refusal
use Rattle.auction_terms.specs.Allocations.{total}
use Rattle.auction_terms.specs.declared.bids.Choice.{Choice}
use Rattle.optimality.specs.Sizes.{IsLargeAt}
use Rattle.optimality.specs.Verdict.{certificate_fault}
use Rattle.program_rows.specs.declared.certificate_fault.CertificateFaultKind.TheVariants as certificate
use Rattle.program_rows.specs.declared.certificate_fault.CertificateFaultKind.{CertificateFaultKind}
use Rattle.bid_desk.specs.Sale.{Sale}
use Rattle.program_rows.specs.Program.{Table}

-- what the certificate of a group is to show: that no point of a program has an objective below the least one
pub record Bound : Type 0 where
  -- the program of all bidders but those of the group
  pub program : Table
  -- minus the total of what is won without the group: no point is to have an objective below it
  pub least : ℤ
  -- the text that is to show it
  pub certificate : List ℕ

-- what the certificate of a group is to show of what is won without the group
abbrev pub bound_of : Sale → (List ℕ × List Choice) × List ℕ → Bound
bound_of sale item = record {
  program = program_for sale item.0.0;
  least = neg_ℤ (pos (total sale.lots sale.book item.0.1));
  certificate = item.1;
}

-- what the certificates of all groups are to show of what is won without each group, group by group
abbrev pub bounds_of : Auction → List (List Choice) → List Bound
bounds_of auction won = map (bound_of auction.sale) (zip (zip auction.groups won) auction.certificates)

-- the certificate of this number shows what it is to, or has a first fault
abbrev pub shown : ℕ → Bound → Result (Unit {0}) Refusal
shown number bound =
    let refused : ℕ × CertificateFaultKind → Refusal = λ f. refusal.Certificate number (record { line = f.0; kind = f.1 }) in
    unless (option_map refused (certificate_fault bound.program bound.least bound.certificate)) (Ok tt)

-- what the groups win, where there is a certificate for each, and each shows what it is to
abbrev pub certified : Auction → List (List Choice) → Result (List (List Choice)) Refusal
certified auction won =
    if has_certificates (numbers_of auction) then and_then (each_in_turn shown 1 (bounds_of auction won)) (λ all. Ok won)
    else Err (refusal.PartCount part.Certificate)

-- after some certificates that show what they are to comes one that isn't judged, since the leaf at this line has a size of 2^126 or more
abbrev pub IsTooWide : List Bound → Refusal → Type 0
IsTooWide bounds r =
    (before : ℕ) × (line : ℕ) × (bound : Bound) × (slice_get bounds before ≡ Some bound)
    × ((all : List (Unit {0})) × (each_in_turn shown 1 (take before bounds) ≡ Ok all))
    × IsLargeAt bound.program bound.least bound.certificate line
    × (r ≡ refusal.Certificate (before + 1) (record { line = line; kind = certificate.TooLarge }))
