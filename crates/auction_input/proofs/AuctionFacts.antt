-- What the stages of an auction give.
use Rattle.std.proofs.Common.{◌≡◌, ◌≤◌, ◌<◌, ◌+◌, ◌∷◌, ◌∙◌, [], ℕ, Bool, zero, suc, List, Option, None, Some, Result, Ok}
use Rattle.std.proofs.Common.{Err, ap, ap₂, arith, length, map, refl, sym, inl, inr, Vec, codes, Global}
use Rattle.std.specs.List.{last_or, range_with_len}
use Rattle.auction_terms.specs.Allocations.{Book}
use Rattle.auction_terms.specs.Terms.{Terms, lots_in}
use Rattle.bid_desk.specs.Closing.{Closing, bids_in, book_of, form_standing}
use Rattle.bid_forms.specs.Offers.{Offers}
use Rattle.bid_desk.specs.Sale.{Sale, sale_of}
use Rattle.auction_input.specs.Auction.{Auction, parsed_auction}
use Rattle.auction_input.specs.BookLeft.{sale_left}
use Rattle.auction_input.specs.CallLimit.{one_too_many}
use Rattle.auction_input.specs.FormTexts.{form_elsewhere, in_one_text}
use Rattle.auction_input.specs.Input.{Input}
use Rattle.auction_terms.specs.FirstFault.{first_fault}
use Rattle.auction_input.specs.Refused.{Refuses}
use Rattle.auction_input.specs.declared.refusal.Refusal.{Refusal}
use Rattle.auction_input.specs.Settled.{RefusesAuction}
use Rattle.auction_terms.specs.Lines.{bytes_of}
use Rattle.auction_input.specs.Parts.{Part, TellsParts, parts_held, parts_named, input_parts, text_numbers}
use Rattle.auction_input.specs.ParsedParts.{only_text, parsed_parts}
use Rattle.auction_input.specs.Plan.{miscounted}
use Rattle.auction_input.specs.inside.Auctions.{HoldTexts, RefusesRun, Tell, bidders_of}
use Rattle.auction_terms.specs.Stages.{and_then, each_in_turn, refused_as, unless}
use Rattle.auction_input.specs.Submissions.{AreSubmitted, forms_of}
use Rattle.auction_input.specs.ParsedTexts.{parsed_form, parsed_groups, parsed_terms}
use Rattle.auction_input.specs.declared.parts.PartFault.{PartFault}
use Rattle.auction_input.specs.declared.parts.PartFault.TheVariants as fault
use Rattle.auction_input.specs.declared.auction.Beside.{Beside}
use Rattle.auction_input.specs.declared.form_texts.AnotherForm.{AnotherForm}
use Rattle.auction_input.specs.declared.part_kind.PartKind.{PartKind}
use Rattle.auction_input.specs.declared.parts.Part as declared
use Rattle.auction_input.specs.declared.refusal.Refusal.TheVariants as refusal
use Rattle.auction_input.specs.Requests.{ReadsAuction}
use Rattle.auction_input.specs.declared.request.Request.{Request}
use Rattle.auction_input.specs.declared.round.RoundFault.{RoundFault}
use Rattle.auction_input.specs.declared.round.RoundFault.TheVariants as round
use Rattle.auction_input.proofs.StageFacts.{after-ok, next, refuses-as, stop}

-- ---- parts

abbrev count-stage : Request → List Part → Result (List Part) Refusal
count-stage asked parts = refused_as refusal.PartCount (unless (miscounted asked parts) (Ok parts))

module _ (asked : Request) (input : Input) (held : Vec declared.Part Global) where
  pub counted : (found : Option PartKind) → TellsParts asked (Ok held) input → miscounted asked (parts_held held.items) ≡ found
      → parsed_parts asked input ≡ refused_as refusal.PartCount (unless found (Ok (parts_held held.items)))
  counted found parsed is =
      ap (λ (f : Option PartFault). and_then (refused_as refusal.Parts (unless f (Ok (input_parts input)))) (count-stage asked)) parsed.0
      ∙ ap (count-stage asked) (sym parsed.1)
      ∙ ap (λ (f : Option PartKind). refused_as refusal.PartCount (unless f (Ok (parts_held held.items)))) is

abbrev no_parts : PartFault → Result (Vec declared.Part Global) PartFault
no_parts f = Err f

pub parts-refused : (asked : Request) (input : Input) (f : PartFault) → TellsParts asked (no_parts f) input
    → Refuses (parsed_parts asked input) (refusal.Parts f)
parts-refused asked input fault.OutOfMemory parsed = inr refl
parts-refused asked input f parsed = inl (ap (λ (found : Option PartFault). and_then
    (refused_as refusal.Parts (unless found (Ok (input_parts input)))) (count-stage asked)) parsed)

-- ---- the stages after the parts

-- the texts that no round is run by
pub record Rest : Type 0 where
  pub solutions : List (List ℕ)
  pub certificates : List (List ℕ)
  pub uniques : List (List ℕ)
  pub ties : List (List ℕ)
  pub prices : List (List ℕ)
  pub covers : List (List ℕ)
  pub rule_texts : List (List ℕ)

abbrev pub rest_in : List Part → Rest
rest_in parts = record {
  solutions = parts_named (codes "%solution") parts;
  certificates = parts_named (codes "%certificate") parts;
  uniques = parts_named (codes "%unique") parts;
  ties = parts_named (codes "%tie") parts;
  prices = parts_named (codes "%prices") parts;
  covers = parts_named (codes "%cover") parts;
  rule_texts = parts_named (codes "%rule") parts;
}

abbrev pub rest_held : Beside → Rest
rest_held beside = record {
  solutions = bytes_of beside.solutions.items;
  certificates = bytes_of beside.certificates.items;
  uniques =
      bytes_of beside.uniques.items;
  ties = bytes_of beside.ties.items;
  prices = bytes_of beside.prices.items;
  covers = bytes_of
      beside.covers.items;
  rule_texts = bytes_of beside.rule_texts.items;
}

pub rest-same : (beside : Beside) (parts : List Part) → HoldTexts parts beside → rest_in parts ≡ rest_held beside
rest-same beside parts hold = rw (hold.solutions, hold.certificates, hold.uniques, hold.ties, hold.prices, hold.covers, hold.rule_texts) refl

-- the auction that forms leave, with groups and these texts
abbrev auction_of : Terms → List Offers → List (List ℕ) → Rest → Auction
auction_of t forms groups rest = record {
  rules = t;
  sale = sale_left t forms;
  form_bidders = bidders_of forms;
  groups = groups;
  solutions =
      rest.solutions;
  certificates = rest.certificates;
  uniques = rest.uniques;
  ties = rest.ties;
  prices = rest.prices;
  covers = rest.covers;
  rule_texts = rest.rule_texts;
}

module _ (asked : Request) (input : Input) (last_wins : Bool) (same : input.last_wins ≡ last_wins) (parts : List Part)
    (cut : parsed_parts asked input ≡ Ok parts) where
  pub terms-refused : (r : Refusal) → Refuses (parsed_terms (only_text (parts_named (codes "%rules") parts))) r → Refuses (parsed_auction asked input) r
  terms-refused r refused = after-ok _ parts _ r cut (stop _ _ r refused)

  module _ (t : Terms) (rules : parsed_terms (only_text (parts_named (codes "%rules") parts)) ≡ Ok t) where
    pub forms-refused : (r : Refusal) → Refuses (each_in_turn (parsed_form t) 1 (parts_named (codes "%form") parts)) r → Refuses (parsed_auction asked input) r
    forms-refused r refused = after-ok _ parts _ r cut (after-ok _ t _ r rules (stop _ _ r refused))

    module _ (forms : List Offers) (each : each_in_turn (parsed_form t) 1 (parts_named (codes "%form") parts) ≡ Ok forms) where
      abbrev in-one : Bool → Result (List Offers) Refusal
      in-one b = in_one_text b t (text_numbers (codes "%form") parts) forms

      in-one-same : in-one input.last_wins ≡ in-one last_wins
      in-one-same = ap in-one same

      pub texts-refused : (r : Refusal) → Refuses (in-one last_wins) r → Refuses (parsed_auction asked input) r
      texts-refused r refused = after-ok _ parts _ r cut (after-ok _ t _ r rules (after-ok _ forms _ r each (stop _ _ r (refuses-as _ _ r in-one-same refused))))

      module _ (alone : form_elsewhere last_wins t (text_numbers (codes "%form") parts) forms ≡ None) where
        abbrev checked-by : Option AnotherForm → Result (List Offers) Refusal
        checked-by found = refused_as refusal.AnotherForm (unless found (Ok forms))

        in-one-is : in-one input.last_wins ≡ Ok forms
        in-one-is = in-one-same ∙ ap checked-by alone

        pub groups-refused : (r : Refusal) → Refuses (parsed_groups t (only_text (parts_named (codes "%groups") parts))) r
            → Refuses (parsed_auction asked input) r
        groups-refused r refused = after-ok _ parts _ r cut (after-ok _ t _ r rules (after-ok _ forms _ r each (after-ok _ forms _ r in-one-is (stop _ _ r refused))))

        module _ (groups : List (List ℕ)) (known : parsed_groups t (only_text (parts_named (codes "%groups") parts)) ≡ Ok groups) where
          abbrev parsed-by : Option ℕ → Result Auction Refusal
          parsed-by found = refused_as refusal.CallLimit (unless found (Ok (auction_of t forms groups (rest_in parts))))

          abbrev no-auction : Refusal → Result Auction Refusal
          no-auction r = Err r

          pub calls-refused : (number : ℕ) (r : Refusal) → first_fault one_too_many [] forms ≡ Some number → r ≡ refusal.CallLimit number
              → Refuses (parsed_auction asked input) r
          calls-refused number r found is =
              let limit : parsed-by (first_fault one_too_many [] forms) ≡ Err r = ap parsed-by found ∙ ap no-auction (sym is) in
              after-ok _ parts _ r cut (after-ok _ t _ r rules (after-ok _ forms _ r each (after-ok _ forms _ r in-one-is (after-ok _ groups _ r known (inl limit)))))

          pub auction-is : first_fault one_too_many [] forms ≡ None → parsed_auction asked input ≡ Ok (auction_of t forms groups (rest_in parts))
          auction-is accepted = next _ _ _ _ cut (next _ _ _ _ rules (next _ _ _ _ each (next _ _ _ _ in-one-is (next _ _ _ _ known (ap parsed-by accepted)))))

  -- the auction that parts describe
  pub parsed-is : (t : Terms) (forms : List Offers) (groups : List (List ℕ)) (parsed : Tell last_wins parts t forms groups)
      → parsed_auction asked input ≡ Ok (auction_of t forms groups (rest_in parts))
  parsed-is t forms groups parsed = auction-is t parsed.rules forms parsed.each parsed.alone groups parsed.known parsed.accepted

  -- a round that leaves no book leaves no auction
  pub run-refused : ReadsAuction asked → (r : Refusal) → RefusesRun last_wins parts r → RefusesAuction asked input r
  run-refused reads r (inl refused) = inl (refused asked input same cut)
  run-refused reads r (inr unanswered) =
      inr (
        reads,
        auction_of unanswered.t unanswered.forms unanswered.groups (rest_in
            parts),
        parsed-is unanswered.t unanswered.forms unanswered.groups unanswered.parsed,
        unanswered.is,
      )

-- what the round leaves is a matter of the desk, or of memory
pub round-refused : (last_wins : Bool) (parts : List Part) (t : Terms) (forms : List Offers) (groups : List (List ℕ))
    → Tell last_wins parts t forms groups → (f : RoundFault) → RefusesRun last_wins parts (refusal.Round f)
round-refused last_wins parts t forms groups parsed round.OutOfMemory = inl (λ asked input same cut. inr refl)
round-refused last_wins parts t forms groups parsed round.WrongAnswer = inr (record { t = t; forms = forms; groups = groups; parsed = parsed; is = refl })

-- ---- the book

-- two functions that agree on a range have one list there
same-on : {X : Type 0} (f g : ℕ → X) (n k : ℕ) → ((b : ℕ) → k ≤ b → b < k + n → f b ≡ g b) → map f (range_with_len k n) ≡ map g (range_with_len k n)
same-on f g zero k agree = refl
same-on f g (suc n) k agree = ap₂ (λ x xs. x ∷ xs) (agree k (omega arith) (omega arith))
    (same-on f g n (k + 1) (λ b least most. agree b (omega arith) (omega arith)))

abbrev sale_with : Terms → Book → Sale
sale_with t book = record { names = map (λ bidder. bidder.name) t.bidders; lots = lots_in t; book = book }

-- a book in which the forms are submitted is the one that they leave
pub sale-is : (book : Closing) (forms : List Offers) → AreSubmitted forms book → sale_of book ≡ sale_left book.rules forms
sale-is book forms submitted =
    let same : book_of book ≡ (sale_left book.rules forms).book =
    same-on (λ b. bids_in (form_standing book.history b)) (λ b. bids_in (last_or None (forms_of b forms))) (length book.rules.bidders) 1
    (λ b least most. ap (λ (form : Option Offers). bids_in form) (submitted.standing b least (omega arith))) in
    ap (sale_with book.rules) same

abbrev pub sold : Terms → Sale → List ℕ → List (List ℕ) → Rest → Auction
sold t sale bidders groups rest = record {
  rules = t;
  sale = sale;
  form_bidders = bidders;
  groups = groups;
  solutions = rest.solutions;
  certificates = rest.certificates;
  uniques = rest.uniques;
  ties = rest.ties;
  prices = rest.prices;
  covers = rest.covers;
  rule_texts =
      rest.rule_texts;
}

-- the auction that a settled book and groups are, with the texts after them
pub auction-held : (book : Closing) (t : Terms) (forms : List Offers) (groups : List (List ℕ)) (rest : Rest) → book.rules ≡ t → AreSubmitted forms book
    → auction_of t forms groups rest ≡ sold book.rules (sale_of book) (bidders_of forms) groups rest
auction-held book t forms groups rest rules submitted =
    ap (λ (u : Terms). auction_of u forms groups rest) (sym rules)
    ∙ ap (λ (sale : Sale). sold book.rules sale (bidders_of forms) groups rest) (sym (sale-is book forms submitted))
