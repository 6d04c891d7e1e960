-- What the parts of an auction describe, and the round that is run by them.
use Rattle.std.specs.Prelude.{◌≡◌, ◌⊎◌, ℕ, Bool, List, [], None, Ok, codes, map}
use Rattle.auction_input.specs.Auction.{parsed_auction}
use Rattle.auction_input.specs.CallLimit.{one_too_many}
use Rattle.auction_input.specs.FormTexts.{form_elsewhere}
use Rattle.auction_input.specs.Input.{Input}
use Rattle.auction_input.specs.Parts.{Part, parts_named, text_numbers}
use Rattle.auction_input.specs.ParsedParts.{only_text, parsed_parts}
use Rattle.auction_input.specs.Refused.{Refuses}
use Rattle.auction_input.specs.Submissions.{AreSubmitted}
use Rattle.auction_input.specs.ParsedTexts.{parsed_form, parsed_groups, parsed_terms}
use Rattle.auction_input.specs.declared.auction.Beside.{Beside}
use Rattle.auction_input.specs.declared.refusal.Refusal.TheVariants as refusal
use Rattle.auction_input.specs.declared.refusal.Refusal.{Refusal}
use Rattle.auction_input.specs.declared.round.RoundFault.TheVariants as round
use Rattle.auction_terms.specs.Lines.{bytes_of}
use Rattle.auction_terms.specs.FirstFault.{first_fault}
use Rattle.auction_terms.specs.Stages.{each_in_turn}
use Rattle.auction_terms.specs.Terms.{Terms}
use Rattle.bid_desk.specs.Closing.{Closing}
use Rattle.bid_forms.specs.Offers.{Offers}
use Rattle.auction_input.specs.declared.request.Request.{Request}

-- the texts that no round is run by are those of the parts of their kinds
pub record HoldTexts (parts : List Part) (beside : Beside) : Type 0 where
  pub solutions : bytes_of beside.solutions.items ≡ parts_named (codes "%solution") parts
  pub certificates : bytes_of beside.certificates.items ≡ parts_named (codes "%certificate") parts
  pub uniques : bytes_of beside.uniques.items ≡ parts_named (codes "%unique") parts
  pub ties : bytes_of beside.ties.items ≡ parts_named (codes "%tie") parts
  pub prices : bytes_of beside.prices.items ≡ parts_named (codes "%prices") parts
  pub covers : bytes_of beside.covers.items ≡ parts_named (codes "%cover") parts
  pub rule_texts : bytes_of beside.rule_texts.items ≡ parts_named (codes "%rule") parts

-- parts describe these rules, forms and groups, each bidder's forms are in one text, or its last one is to count, and each form has a call of its bidder's left
pub record Tell (last_wins : Bool) (parts : List Part) (t : Terms) (forms : List Offers) (groups : List (List ℕ)) : Type 0 where
  pub rules : parsed_terms (only_text (parts_named (codes "%rules") parts)) ≡ Ok t
  pub each : each_in_turn (parsed_form t) 1 (parts_named (codes "%form") parts) ≡ Ok forms
  pub alone : form_elsewhere last_wins t (text_numbers (codes "%form") parts) forms ≡ None
  pub known : parsed_groups t (only_text (parts_named (codes "%groups") parts)) ≡ Ok groups
  pub accepted : first_fault one_too_many [] forms ≡ None

-- each input with these parts is refused for this reason
abbrev pub RefusesInputs : Bool → List Part → Refusal → Type 0
RefusesInputs last_wins parts r = (asked : Request) → (input : Input) → input.last_wins ≡ last_wins → parsed_parts asked input ≡ Ok parts
    → Refuses (parsed_auction asked input) r

-- the bidder of each form
abbrev pub bidders_of : List Offers → List ℕ
bidders_of forms = map (λ (form : Offers). form.bidder) forms

-- the forms that the parts describe are submitted under their rules, in a book; their bidders and the groups are these
pub record HasRun (last_wins : Bool) (parts : List Part) (book : Closing) (bidders : List ℕ) (groups : List (List ℕ)) : Type 0 where
  pub forms : List Offers
  pub bidders_are : bidders ≡ bidders_of forms
  pub parsed : Tell last_wins parts book.rules forms groups
  pub submitted : AreSubmitted forms book

-- what the parts describe is accepted, and yet a wrong answer of the desk is reported
pub record IsUnanswered (last_wins : Bool) (parts : List Part) (r : Refusal) : Type 0 where
  pub t : Terms
  pub forms : List Offers
  pub groups : List (List ℕ)
  pub parsed : Tell last_wins parts t forms groups
  pub is : r ≡ refusal.Round round.WrongAnswer

-- why a round leaves no book
abbrev pub RefusesRun : Bool → List Part → Refusal → Type 0
RefusesRun last_wins parts r = RefusesInputs last_wins parts r ⊎ IsUnanswered last_wins parts r
