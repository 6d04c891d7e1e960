-- The auction that an input describes: its parts, rules and forms, whether each bidder's are in one text, groups, and the call limit, in this order.
use Rattle.std.specs.Prelude.{ℕ, List, [], Result, Ok, codes, map}
use Rattle.auction_input.specs.BookLeft.{sale_left}
use Rattle.auction_input.specs.CallLimit.{one_too_many}
use Rattle.auction_input.specs.FormTexts.{in_one_text}
use Rattle.auction_input.specs.Input.{Input}
use Rattle.auction_input.specs.Parts.{parts_named, text_numbers}
use Rattle.auction_input.specs.ParsedParts.{only_text, parsed_parts}
use Rattle.auction_input.specs.ParsedTexts.{parsed_form, parsed_groups, parsed_terms}
use Rattle.auction_input.specs.declared.refusal.Refusal.TheVariants as refusal
use Rattle.auction_input.specs.declared.refusal.Refusal.{Refusal}
use Rattle.auction_input.specs.declared.request.Request.{Request}
use Rattle.auction_terms.specs.FirstFault.{first_fault}
use Rattle.auction_terms.specs.Stages.{and_then, each_in_turn, refused_as, unless}
use Rattle.auction_terms.specs.Terms.{Terms}
use Rattle.bid_desk.specs.Sale.{Sale}
use Rattle.bid_forms.specs.Offers.{Offers}

-- the rules, the sale by them, the bidder of each form in the order of the input, the groups that are left out of the sale, and the texts
-- of solutions and of certificates; what is claimed of other outcomes: texts of certificates that there is none as good, and of solutions
-- that are; and texts of prices, of certificates that they cover every group, and of the rule
pub record Auction : Type 0 where
  pub rules : Terms
  pub sale : Sale
  pub form_bidders : List ℕ
  pub groups : List (List ℕ)
  pub solutions : List (List ℕ)
  pub certificates : List (List ℕ)
  pub uniques : List (List ℕ)
  pub ties : List (List ℕ)
  pub prices : List (List ℕ)
  pub covers : List (List ℕ)
  pub rule_texts : List (List ℕ)

-- the auction that an input describes to a request, or its first refusal: for a part, the rules, a form, a bidder's forms in several texts, the
-- groups or the call limit
abbrev pub parsed_auction : Request → Input → Result Auction Refusal
parsed_auction asked input =
    and_then (parsed_parts asked input) (λ parts.
    and_then (parsed_terms (only_text (parts_named (codes "%rules") parts))) (λ t.
    and_then (each_in_turn (parsed_form t) 1 (parts_named (codes "%form") parts)) (λ read.
    and_then (in_one_text input.last_wins t (text_numbers (codes "%form") parts) read) (λ forms.
    and_then (parsed_groups t (only_text (parts_named (codes "%groups") parts))) (λ groups.
    refused_as refusal.CallLimit (unless (first_fault one_too_many [] forms) (Ok (record {
      rules = t;
      sale = sale_left t forms;
      form_bidders = map (λ (form : Offers). form.bidder) forms;
      groups = groups;
      solutions = parts_named (codes "%solution") parts;
      certificates = parts_named (codes "%certificate") parts;
      uniques = parts_named (codes "%unique") parts;
      ties = parts_named (codes "%tie") parts;
      prices = parts_named (codes "%prices") parts;
      covers = parts_named (codes "%cover") parts;
      rule_texts = parts_named (codes "%rule") parts;
    }))))))))
