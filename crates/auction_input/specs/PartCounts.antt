-- What a command wants of the groups, and of the numbers of parts beside them, once the groups are read.
use Rattle.std.specs.Prelude.{◌++◌, ◌==◌, ◌∷◌, Bool, ℕ, List, [], Option, None, Some, Result, Ok, length, map, nat_le}
use Rattle.auction_input.specs.Auction.{Auction, parsed_auction}
use Rattle.auction_input.specs.Input.{Input}
use Rattle.auction_input.specs.Parts.{Part, name_of, parts_named}
use Rattle.auction_input.specs.declared.part_kind.PartKind.TheVariants as part
use Rattle.auction_input.specs.declared.part_kind.PartKind.{PartKind}
use Rattle.auction_input.specs.declared.refusal.Refusal.TheVariants as refusal
use Rattle.auction_input.specs.declared.refusal.Refusal.{Refusal}
use Rattle.auction_input.specs.declared.part_counts.Numbers.{Numbers}
use Rattle.auction_input.specs.declared.part_counts.Unmet.TheVariants as unmet
use Rattle.auction_input.specs.declared.part_counts.Unmet.{Unmet}
use Rattle.auction_terms.specs.FirstFault.{first_failed}
use Rattle.auction_terms.specs.Groups.{starts_empty}
use Rattle.auction_terms.specs.declared.limits.TheConstants.{MOST_TIES}
use Rattle.auction_terms.specs.Stages.{and_then, unless}
use Rattle.auction_input.specs.Requests.{target_of}
use Rattle.auction_input.specs.declared.request.Request.{Request}
use Rattle.auction_input.specs.declared.request.Target.TheVariants as target
use Rattle.auction_input.specs.declared.request.Target.{Target}

-- ---- the numbers

-- how many parts of each kind an input has, with these groups
abbrev pub numbers_in : List Part → List (List ℕ) → Numbers
numbers_in parts groups =
    let count : PartKind → ℕ = λ kind. length (parts_named (name_of kind) parts) in record {
      starts_empty = starts_empty groups;
      groups = length groups;
      solutions = count part.Solution;
      certificates = count part.Certificate;
      uniques = count part.Unique;
      ties = count part.Tie;
      prices = count part.Prices;
      covers = count part.Cover;
      rule_texts = count part.Rule;
    }

-- how many texts of each kind an auction has
abbrev pub numbers_of : Auction → Numbers
numbers_of auction = record {
  starts_empty = starts_empty auction.groups;
  groups = length auction.groups;
  solutions = length auction.solutions;
  certificates = length auction.certificates;
  uniques = length auction.uniques;
  ties = length auction.ties;
  prices = length auction.prices;
  covers = length auction.covers;
  rule_texts = length auction.rule_texts;
}

-- ---- what is wanted: each test, and what is unmet where it fails

-- what a report needs: that group 1 is empty, and that there is a solution for each group
abbrev pub solution_wants : Numbers → List (Bool × Unmet)
solution_wants n =
    (n.starts_empty, unmet.FirstGroupNotEmpty) ∷
    (n.solutions == n.groups, unmet.Number part.Solution n.solutions n.groups) ∷ []

-- whether there is a certificate for each group
abbrev pub has_certificates : Numbers → Bool
has_certificates n = n.certificates == n.groups

-- what claims of other awards need: one text at most that shows that there is no other, and no more ties than may be
abbrev pub claim_wants : Numbers → List (Bool × Unmet)
claim_wants n =
    (nat_le n.uniques 1, unmet.Number part.Unique n.uniques 1) ∷
    (nat_le n.ties MOST_TIES, unmet.Number part.Tie n.ties MOST_TIES) ∷ []

-- what prices need: one text of them at most, a cover with it, and a rule only beside them
abbrev pub pricing_wants : Numbers → List (Bool × Unmet)
pricing_wants n =
    (nat_le n.prices 1, unmet.Number part.Prices n.prices 1) ∷
    (n.covers == n.prices, unmet.Number part.Cover n.covers n.prices) ∷
    (nat_le n.rule_texts n.prices, unmet.Number part.Rule n.rule_texts n.prices) ∷ []

-- what `verify` needs to show a report true: a certificate for each group, and what the claims and the prices need
abbrev pub proof_wants : Numbers → List (Bool × Unmet)
proof_wants n =
    (has_certificates n, unmet.Number part.Certificate n.certificates n.groups) ∷
    (claim_wants n ++ pricing_wants n)

-- all that a command wants, in the order in which it looks
abbrev pub wants : Option Target → Numbers → List (Bool × Unmet)
wants (Some target.Report) n = solution_wants n
wants (Some target.Verify) n = solution_wants n ++ proof_wants n
wants (Some target.Text) n = []
wants (Some target.Compile) n = []
wants (Some target.Map) n = []
wants None n = []

-- ---- the refusals

-- what is unmet is reported as this
abbrev pub unmet_refusal : Unmet → Refusal
unmet_refusal unmet.FirstGroupNotEmpty = refusal.FirstGroupNotEmpty
unmet_refusal (unmet.Number kind count by) = refusal.PartCount kind

-- each test of what a command wants, with the refusal if it fails
abbrev pub refused_unless : List (Bool × Unmet) → List (Bool × Refusal)
refused_unless tests = map (λ (test : Bool × Unmet). (test.0, unmet_refusal test.1)) tests

-- an auction that has what a command wants
abbrev pub wanted : Option Target → Auction → Result Auction Refusal
wanted command auction = unless (first_failed (refused_unless (wants command (numbers_of auction)))) (Ok auction)

-- the auction that was parsed, if it has what a command wants, or the first refusal; if no command is named nothing is wanted
abbrev pub with_wanted : Option Target → Result Auction Refusal → Result Auction Refusal
with_wanted None parsed = parsed
with_wanted (Some command) parsed = and_then parsed (wanted (Some command))

-- the auction that an input describes to a request, with what its command wants
abbrev pub parsed_taken : Request → Input → Result Auction Refusal
parsed_taken asked input = with_wanted (target_of asked) (parsed_auction asked input)
