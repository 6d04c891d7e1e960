-- What texts of rules and of groups describe: they are accepted, and this is what they say. Which fault another text has is said elsewhere.
use Rattle.std.specs.Prelude.{◌≡◌, ℕ, List, [], ◌∷◌, map}
use Rattle.auction_terms.specs.AcceptedGroups.{AreGroupLines}
use Rattle.auction_terms.specs.AcceptedRules.{AreRules}
use Rattle.auction_terms.specs.Entries.{terms_of}
use Rattle.auction_terms.specs.GroupsText.{group_of}
use Rattle.auction_terms.specs.Lines.{lines_of}
use Rattle.auction_terms.specs.Records.{Record}
use Rattle.auction_terms.specs.RulesText.{entries_of, field_number}
use Rattle.auction_terms.specs.Terms.{Terms}
use Rattle.auction_terms.specs.declared.rules.Bidder.{Bidder}

-- the records of a text describe these rules: the header gives the step, and the records after it what is for sale, to whom, and its pools
abbrev pub DescribeRules : List Record → Terms → Type 0
DescribeRules [] rules = ⊥
DescribeRules (header ∷ more) rules =
    (are : AreRules header more) × (rules ≡ terms_of (field_number 3 header) (entries_of are.version more))

-- the lines of a text describe these groups, each its own
abbrev pub DescribesGroups : List Bidder → List ℕ → List (List ℕ) → Type 0
DescribesGroups bidders text groups = AreGroupLines bidders text × (groups ≡ map (group_of bidders) (lines_of text))
