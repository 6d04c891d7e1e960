-- Inputs with the same texts of rules and last forms are of one sale, by what they describe.
use Rattle.std.proofs.Common.{◌≡◌, ◌-◌, ◌∙◌, ℕ, List, [], None, Ok, Result, ap, ap₂, arith, codes, length, refl, slice_index_or, subst, sym}
use Rattle.std.proofs.lemmas.List.FromFn.{get_or-map-range_with_len}
use Rattle.std.specs.List.{last_or, zip}
use Rattle.std.specs.Option.{option_map_or}
use Rattle.auction_input.specs.Auction.{Auction}
use Rattle.auction_input.specs.CallLimit.{one_too_many}
use Rattle.auction_input.specs.Described.{Describes, HasPartsFor, texts_named}
use Rattle.auction_input.specs.FormTexts.{form_elsewhere, in_one_text}
use Rattle.auction_input.specs.Input.{Input}
use Rattle.auction_input.specs.LastForms.{DescribesBids, FormParts, IsOfAuction, last_form, parsed_forms}
use Rattle.auction_input.specs.ParsedParts.{only_text, parsed_parts}
use Rattle.auction_input.specs.ParsedTexts.{parsed_form, parsed_terms}
use Rattle.auction_input.specs.Parts.{Part, input_parts, parts_named, text_numbers}
use Rattle.auction_input.specs.SealedTexts.{SameTextsAreOneSale, rules_in, with_texts}
use Rattle.auction_input.specs.Submissions.{forms_of}
use Rattle.auction_input.specs.declared.refusal.Refusal.{Refusal}
use Rattle.auction_input.specs.declared.refusal.Refusal.TheVariants as refusal
use Rattle.auction_input.specs.declared.request.Request.{Request}
use Rattle.auction_input.specs.Requests.{target_of}
use Rattle.auction_input.specs.declared.request.Request.TheVariants.{Forms}
use Rattle.auction_input.proofs.AnswerFacts.{ok-after, ok-refused_as, unless-ok}
use Rattle.auction_input.proofs.StageFacts.{next}
use Rattle.auction_input.proofs.BookFacts.{describes, last-is, names-all}
use Rattle.auction_input.proofs.DescribedFacts.{few-none, forms-read, parts-read, read-parts, rules-read, together-read}
use Rattle.auction_input.proofs.SameFormFacts.{ok-same, one-sale, rules-same}
use Rattle.auction_terms.specs.FirstFault.{first_fault}
use Rattle.auction_terms.specs.Stages.{and_then, each_in_turn, refused_as, unless}
use Rattle.auction_terms.specs.Terms.{Terms}
use Rattle.auction_terms.specs.declared.bids.Bid.{Bid}
use Rattle.bid_desk.specs.Sale.{Sale}
use Rattle.bid_forms.specs.Offers.{Offers}

-- what is read of an input that describes an auction
abbrev pub read_of : (input : Input) → Terms → List Offers → FormParts
read_of input rules forms = record { bytes = rules_in input; rules = rules; forms = with_texts input forms }

pub is-of-auction : (asked : Request) (input : Input) (auction : Auction) (d : Describes asked input auction)
    → IsOfAuction (read_of input auction.rules d.forms) auction
is-of-auction asked input auction d =
    let t = auction.rules in
    let texts = texts_named (codes "%form") input in
    record {
      rules = rules-read (rules_in input) t d.rules;
      same = refl;
      each = λ b least most.
          subst (λ (bids : List Bid). DescribesBids t b bids (last_form b (with_texts input d.forms)))
          (sym (get_or-map-range_with_len (λ (k : ℕ). option_map_or (λ (f : Offers). f.bids) (last_or None (forms_of k d.forms)) [])
          1 (length t.bidders) (b - 1) b [] (omega arith) (omega arith))
          ∙ ap (λ (s : Sale). slice_index_or s.book (b - 1) []) (sym d.sale))
          (describes t b _ _ (last-is t b 1 texts d.forms None None (forms-read t 1 texts d.forms d.forms_are.each) tt));
    }

-- what the stages of reading forms give of these parts
abbrev read_from : Input → List Part → Result FormParts Refusal
read_from input parts =
    and_then (parsed_terms (only_text (parts_named (codes "%rules") parts))) (λ t.
    and_then (each_in_turn (parsed_form t) 1 (parts_named (codes "%form") parts)) (λ read.
    and_then (in_one_text input.last_wins t (text_numbers (codes "%form") parts) read) (λ forms.
    refused_as refusal.CallLimit (unless (first_fault one_too_many [] forms) (Ok (record {
      bytes = only_text (parts_named (codes "%rules") parts);
      rules = t;
      forms = zip forms (parts_named (codes "%form") parts);
    }))))))

-- the rules and the forms that are read are those of the auction that the input describes
pub read-is : (asked : Request) (input : Input) (auction : Auction) (d : Describes asked input auction) (read : FormParts) → parsed_forms input ≡ Ok read
    → read ≡ read_of input auction.rules d.forms
read-is asked input auction d read parsed =
    let texts = texts_named (codes "%form") input in
    let (parts, parts_are, more) = ok-after (parsed_parts Forms input) (read_from input) read parsed in
    let (same, has) = read-parts Forms input parts parts_are in
    let stages : read_from input (input_parts input) ≡ Ok read = subst (λ (ps : List Part). read_from input ps ≡ Ok read) (sym same) more in
    let (t, t_is, of_rules) = ok-after (parsed_terms (rules_in input)) _ read stages in
    let (each, each_is, of_forms) = ok-after (each_in_turn (parsed_form t) 1 texts) _ read of_rules in
    let numbers = text_numbers (codes "%form") (input_parts input) in
    let (forms, forms_are, limit) = ok-after (in_one_text input.last_wins t numbers each) _ read of_forms in
    let (alone, kept) = unless-ok (form_elsewhere input.last_wins t numbers each) each forms (ok-refused_as refusal.AnotherForm _ forms forms_are) in
    let (few, is) = unless-ok (first_fault one_too_many [] forms) _ read (ok-refused_as refusal.CallLimit _ read limit) in
    let rules : t ≡ auction.rules = ok-same (parsed_terms (rules_in input)) t auction.rules t_is (rules-read (rules_in input) auction.rules d.rules) in
    let described : each ≡ d.forms = ok-same (each_in_turn (parsed_form auction.rules) 1 texts) each d.forms
    (subst (λ (u : Terms). each_in_turn (parsed_form u) 1 texts ≡ Ok each) rules each_is) (forms-read auction.rules 1 texts d.forms d.forms_are.each) in
    sym is ∙ ap₂ (λ (u : Terms) (fs : List Offers). read_of input u fs) rules (sym kept ∙ described)

-- the rules and the forms of an input that describes an auction are read
pub forms-of-described : (asked : Request) (input : Input) (auction : Auction) → Describes asked input auction
    → (read : FormParts) × (parsed_forms input ≡ Ok read)
forms-of-described asked input auction d =
    let t = auction.rules in
    let forms = d.forms in
    let parts = input_parts input in
    let numbers = text_numbers (codes "%form") parts in
    let has : HasPartsFor Forms input = record {
      whole = d.parts.whole;
      known = λ place none within. names-all (target_of asked) _ (d.parts.known place none within);
      one_of_rules = d.parts.one_of_rules;
      others_taken = refl;
    } in
    let alone : form_elsewhere input.last_wins t numbers forms ≡ None = together-read t input.last_wins numbers forms d.forms_are.together in
    let few : first_fault one_too_many [] forms ≡ None = few-none [] forms d.forms_are.few in
    let read = read_of input t forms in (
      read,
      next (parsed_parts Forms input) parts (read_from input) (Ok read) (parts-read Forms input has)
          (next (parsed_terms (rules_in input)) t _ (Ok read) (rules-read (rules_in input) t d.rules)
          (next (each_in_turn (parsed_form t) 1 (texts_named (codes "%form") input)) forms _ (Ok read)
          (forms-read t 1 (texts_named (codes "%form") input) forms d.forms_are.each)
          (next (in_one_text input.last_wins t numbers forms) forms _ (Ok read) (rw alone refl) (rw few refl)))),
    )

-- the same text of rules, the same rules
pub rules-follow : (asked asked' : Request) (input input' : Input) (auction auction' : Auction) → Describes asked input auction
    → Describes asked' input' auction' → rules_in input ≡ rules_in input' → auction.rules ≡ auction'.rules
rules-follow asked asked' input input' auction auction' d d' same =
    ok-same (parsed_terms (rules_in input)) auction.rules auction'.rules (rules-read (rules_in input) auction.rules d.rules)
    (ap parsed_terms same ∙ rules-read (rules_in input') auction'.rules d'.rules)

pub same-texts : SameTextsAreOneSale
same-texts asked asked' input input' auction auction' d d' rules forms =
    let read = read_of input auction.rules d.forms in
    let read' = read_of input' auction'.rules d'.forms in
    let of = is-of-auction asked input auction d in
    let of' = is-of-auction asked' input' auction' d' in
    (rules-same auction auction' read read' of of' rules forms, one-sale auction auction' read read' of of' rules forms d.forms d'.forms d.sale d'.sale)
