-- Which auction an input describes, without a word of faults: its parts, the rules, forms and groups in them, in which text the forms of a bidder
-- are, and how many it may have. Auction says the same with the refusals of other inputs.
use Rattle.std.specs.Prelude.{◌≡◌, ◌≤◌, ℕ, List, [], All, AllPairs, codes, false, length, map, true}
use Rattle.std.specs.List.{AllZip, list_any, zip}
use Rattle.std.specs.Str.{bytes_eq}
use Rattle.auction_input.specs.Auction.{Auction}
use Rattle.auction_input.specs.BookLeft.{sale_left}
use Rattle.auction_input.specs.Input.{NamedText, Input}
use Rattle.auction_input.specs.ParsedParts.{only_text}
use Rattle.auction_input.specs.Parts.{Part, bytes_before, cut_lines, input_parts, part_names, parts_named, text_numbers}
use Rattle.auction_input.specs.Plan.{taken_by}
use Rattle.auction_input.specs.Submissions.{forms_of}
use Rattle.auction_input.specs.declared.request.Request.{Request}
use Rattle.auction_terms.specs.Described.{DescribeRules, DescribesGroups}
use Rattle.auction_terms.specs.Records.{records_of}
use Rattle.auction_terms.specs.Terms.{Terms}
use Rattle.auction_terms.specs.declared.limits.TheConstants.{TEXT_LIMIT}
use Rattle.bid_book.specs.History.{call_limit}
use Rattle.bid_forms.specs.AcceptedForms.{Describe}
use Rattle.bid_forms.specs.Offers.{Offers}

-- the texts of the parts of a name, in the order of the input
abbrev pub texts_named : List ℕ → Input → List (List ℕ)
texts_named name input = parts_named name (input_parts input)

-- no byte of a text is before its first part
abbrev pub IsInParts : NamedText → Type 0
IsInParts given = bytes_before (cut_lines given.bytes) ≡ []

-- a part has one of the names that the command knows
abbrev pub HasKnownName : Request → Part → Type 0
HasKnownName asked part = list_any (bytes_eq part.name) (part_names asked) ≡ true

-- the texts of an input are parts that the command knows: one of rules, any number of forms, and as many of groups and of solutions as it takes
pub record HasPartsFor (asked : Request) (input : Input) : Type 0 where
  pub whole : All IsInParts input.texts
  pub known : All (HasKnownName asked) (input_parts input)
  pub one_of_rules : length (texts_named (codes "%rules") input) ≡ 1
  pub others_taken : taken_by asked (length (texts_named (codes "%groups") input)) (length (texts_named (codes "%solution") input)) ≡ (true, true)

-- a text within the limit describes these rules
abbrev pub IsTextOfRules : List ℕ → Terms → Type 0
IsTextOfRules text rules = (length text ≤ TEXT_LIMIT) × DescribeRules (records_of text) rules

-- a text within the limit describes this form under the rules
abbrev pub IsTextOfForm : Terms → List ℕ → Offers → Type 0
IsTextOfForm rules text form = (length text ≤ TEXT_LIMIT) × Describe rules (records_of text) form

-- a text within the limit describes these groups of the rules' bidders
abbrev pub IsTextOfGroups : Terms → List ℕ → List (List ℕ) → Type 0
IsTextOfGroups rules text groups = (length text ≤ TEXT_LIMIT) × DescribesGroups rules.bidders text groups

-- forms, each with the number of the text that it is in, of which those of one bidder are in one text
abbrev pub AreInOneText : List (Offers × ℕ) → Type 0
AreInOneText forms = AllPairs (λ one later. one.0.bidder ≡ later.0.bidder → one.1 ≡ later.1) forms

-- the forms of an input: those of a bidder are in one text, unless the last one counts wherever it is; and no bidder has more than it may submit
pub record HasForms (rules : Terms) (input : Input) (forms : List Offers) : Type 0 where
  pub each : AllZip (IsTextOfForm rules) (texts_named (codes "%form") input) forms
  pub together : input.last_wins ≡ false → AreInOneText (zip forms (text_numbers (codes "%form") (input_parts input)))
  pub few : (bidder : ℕ) → length (forms_of bidder forms) ≤ call_limit

-- an input describes this auction to a command. Where there is no part of groups, their text is empty, and describes none
pub record Describes (asked : Request) (input : Input) (auction : Auction) : Type 0 where
  pub parts : HasPartsFor asked input
  pub rules : IsTextOfRules (only_text (texts_named (codes "%rules") input)) auction.rules
  pub forms : List Offers
  pub forms_are : HasForms auction.rules input forms
  pub groups : IsTextOfGroups auction.rules (only_text (texts_named (codes "%groups") input)) auction.groups
  pub sale : auction.sale ≡ sale_left auction.rules forms
  pub form_bidders : auction.form_bidders ≡ map (λ (form : Offers). form.bidder) forms
  pub solutions : auction.solutions ≡ texts_named (codes "%solution") input
  pub certificates : auction.certificates ≡ texts_named (codes "%certificate") input
  pub uniques : auction.uniques ≡ texts_named (codes "%unique") input
  pub ties : auction.ties ≡ texts_named (codes "%tie") input
  pub prices : auction.prices ≡ texts_named (codes "%prices") input
  pub covers : auction.covers ≡ texts_named (codes "%cover") input
  pub rule_texts : auction.rule_texts ≡ texts_named (codes "%rule") input
