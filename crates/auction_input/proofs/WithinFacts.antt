-- The auction that an input describes is within the limits.
use Rattle.std.proofs.Common.{◌≡◌, List, Ok, subst, codes}
use Rattle.auction_terms.specs.Limits.{IsBook, IsLots}
use Rattle.auction_input.specs.Auction.{Auction, parsed_auction}
use Rattle.auction_input.specs.BookLeft.{sale_left}
use Rattle.auction_input.specs.FormTexts.{in_one_text}
use Rattle.auction_input.specs.Input.{Input}
use Rattle.auction_input.specs.Parts.{parts_named, text_numbers}
use Rattle.auction_input.specs.ParsedParts.{only_text, parsed_parts}
use Rattle.auction_input.specs.ParsedTexts.{parsed_form, parsed_groups, parsed_terms}
use Rattle.auction_input.specs.inside.Auctions.{bidders_of}
use Rattle.auction_terms.specs.Stages.{each_in_turn}
use Rattle.bid_forms.specs.Offers.{Offers}
use Rattle.auction_input.specs.declared.refusal.Refusal.TheVariants as refusal
use Rattle.auction_input.specs.declared.request.Request.{Request}
use Rattle.auction_input.proofs.AnswerFacts.{ok-after, ok-refused_as, unless-ok}
use Rattle.auction_input.proofs.LimitFacts.{book-within, forms-within, terms-few}
use Rattle.auction_input.proofs.LotFacts.{lots-within}

-- an auction that is parsed has lots and a book within the limits
pub auction-within : (asked : Request) (input : Input) (auction : Auction) → parsed_auction asked input ≡ Ok auction
    → IsLots auction.sale.lots × IsBook auction.sale.lots auction.sale.book
auction-within asked input auction parsed =
    let (parts, parts_are, more) = ok-after (parsed_parts asked input) _ auction parsed in
    let rules = only_text (parts_named (codes "%rules") parts) in
    let (t, t_is, more_forms) = ok-after (parsed_terms rules) _ auction more in
    let (read, read_are, more_texts) = ok-after (each_in_turn (parsed_form t) 1 (parts_named (codes "%form") parts)) _ auction more_forms in
    let (forms, forms_are, more_groups) = ok-after (in_one_text input.last_wins t (text_numbers (codes "%form") parts) read) _ auction more_texts in
    let same : read ≡ forms = (unless-ok _ read forms (ok-refused_as refusal.AnotherForm _ forms forms_are)).1 in
    let (groups, groups_are, more_calls) = ok-after (parsed_groups t (only_text (parts_named (codes "%groups") parts))) _ auction more_groups in
    let whole : Auction = record {
      rules = t;
      sale = sale_left t forms;
      form_bidders = bidders_of forms;
      groups = groups;
      solutions =
          parts_named (codes "%solution") parts;
      certificates = parts_named (codes "%certificate") parts;
      uniques = parts_named
          (codes "%unique") parts;
      ties = parts_named (codes "%tie") parts;
      prices = parts_named (codes "%prices") parts;
      covers = parts_named
          (codes "%cover") parts;
      rule_texts = parts_named (codes "%rule") parts;
    } in
    let is : whole ≡ auction = (unless-ok _ whole auction (ok-refused_as refusal.CallLimit _ auction more_calls)).1 in
    let each = subst (λ (fs : List Offers). each_in_turn (parsed_form t) 1 (parts_named (codes "%form") parts) ≡ Ok fs) same read_are in
    let within = book-within t forms (terms-few rules t t_is) (forms-within t 1 (parts_named (codes "%form") parts) forms each) in
    subst (λ (a : Auction). IsLots a.sale.lots × IsBook a.sale.lots a.sale.book) is (lots-within rules t t_is, within)
