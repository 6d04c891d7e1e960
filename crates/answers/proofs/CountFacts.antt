-- What the solutions win, group by group, where there are as many as groups.
use Rattle.std.proofs.Common.{ap₂, ◌≡◌, ◌≢◌, ◌==◌, ◌∙◌, ℕ, true, false, List, length, sym, inl, eq-eqb, ne_eqb, refl}
use Rattle.std.proofs.lemmas.List.{length-map}
use Rattle.auction_terms.specs.Lines.{bytes_of}
use Rattle.auction_terms.specs.Groups.{starts_empty}
use Rattle.auction_input.specs.Refused.{Refuses}
use Rattle.auction_input.specs.Settled.{held}
use Rattle.auction_input.specs.declared.auction.Auction as declared
use Rattle.auction_input.specs.declared.part_kind.PartKind.TheVariants as part
use Rattle.auction_input.specs.declared.refusal.Refusal.TheVariants as refusal
use Rattle.answers.specs.SolutionWinners.{winners_of_groups}
use Rattle.answers.specs.inside.SolutionWinners.{parsed_winners}
use Rattle.auction_input.proofs.InputTextFacts.{Text}
use Rattle.group_compiler.specs.Compiled.{Compiling, compiling}

pub not-empty : (auction : declared.Auction) → starts_empty auction.groups ≡ false → Refuses (winners_of_groups (held auction)) refusal.FirstGroupNotEmpty
not-empty auction some = inl (rw some refl)

module _ (auction : declared.Auction) (starts : starts_empty auction.groups ≡ true) where
  abbrev texts : List (List ℕ)
  texts = bytes_of auction.solutions.items

  pub solutions-miscounted : length auction.solutions.items ≢ length auction.groups
      → Refuses (winners_of_groups (held auction)) (refusal.PartCount part.Solution)
  solutions-miscounted other =
      let differ : (length texts == length auction.groups) ≡ false =
      ne_eqb _ _ (λ same. other (sym (length-map auction.solutions.items (λ (text : Text). text.now)) ∙ same)) in
      inl (rw (starts, differ) refl)

  pub goes-over : (compiler : Compiling) (solutions : List Text) → compiler ≡ compiling auction.book auction.groups
      → length auction.solutions.items ≡ length auction.groups → solutions ≡ auction.solutions.items
      → parsed_winners compiler (bytes_of solutions) ≡ winners_of_groups (held auction)
  goes-over compiler solutions own each same =
      let equal : (length texts == length auction.groups) ≡ true = eq-eqb _ _ (length-map auction.solutions.items (λ (text : Text). text.now) ∙ each) in
      rw (starts, equal) (ap₂ (λ (k : Compiling) (xs : List Text). parsed_winners k (bytes_of xs)) own same)
