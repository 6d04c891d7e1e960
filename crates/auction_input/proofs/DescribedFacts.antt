-- What is read of an input is the auction that it describes.
use Rattle.std.proofs.Common.{◌≡◌, ◌≤◌, ◌<◌, ◌+◌, ◌++◌, ◌==◌, ◌∷◌, ◌∙◌, [], ℕ, suc, zero, Bool, true, false, List, Option, None, Some, Result, Ok, Err}
use Rattle.std.proofs.Common.{ap, append_assoc, append-nil, arith, codes, cond, inl, inr, length, length-append, nat_lt, refl, slice_index_or, subst, sym}
use Rattle.std.proofs.lemmas.Bool.{cases_Bool, eq-eqb, eqb-true, ltb-false, ltb-true}
use Rattle.std.proofs.lemmas.Bool.Decides.{leb_tells}
use Rattle.std.proofs.lemmas.List.Elements.{All-cons, All-head, All-nil, All-tail, filter-append}
use Rattle.std.proofs.lemmas.List.Kept.{AllPairs-cons}
use Rattle.std.specs.Prelude.{◌↔◌, ◌||◌, All, AllPairs, if◌then◌else◌, not}
use Rattle.std.specs.List.{AllZip, list_any, zip}
use Rattle.std.specs.Option.{option_or}
use Rattle.std.specs.Str.{bytes_eq}
use Rattle.auction_terms.proofs.DescribedFacts.{described-groups, described-rules}
use Rattle.auction_terms.specs.FirstFault.{first_failed, first_fault}
use Rattle.auction_terms.specs.GroupsText.{groups_of}
use Rattle.auction_terms.specs.Records.{records_of}
use Rattle.auction_terms.specs.RulesText.{rules_of_records}
use Rattle.auction_terms.specs.Stages.{and_then, each_in_turn, refused_as, unless}
use Rattle.auction_terms.specs.Terms.{Terms}
use Rattle.auction_terms.specs.declared.groups_text.GroupFault.TheVariants as group_fault
use Rattle.auction_terms.specs.declared.limits.TheConstants.{TEXT_LIMIT}
use Rattle.auction_terms.specs.declared.rules_text.RulesFault.TheVariants as rules
use Rattle.bid_book.specs.History.{call_limit}
use Rattle.bid_forms.proofs.AcceptedFormsFacts.{parsed-described}
use Rattle.bid_forms.specs.FormText.{form_of_records}
use Rattle.bid_forms.specs.Offers.{Offers}
use Rattle.bid_forms.specs.declared.form_text.FormFault.TheVariants as form_fault
use Rattle.auction_input.specs.Auction.{Auction, parsed_auction}
use Rattle.auction_input.specs.BookLeft.{sale_left}
use Rattle.auction_input.specs.CallLimit.{one_too_many}
use Rattle.auction_input.specs.Described.{AreInOneText, Describes, HasForms, HasKnownName, HasPartsFor, IsInParts, IsTextOfForm, IsTextOfGroups, IsTextOfRules, texts_named}
use Rattle.auction_input.specs.FormTexts.{another, another_form, elsewhere, first_text, form_elsewhere, in_one_text}
use Rattle.auction_input.specs.Input.{NamedText, Input}
use Rattle.auction_input.specs.ParsedParts.{only_text, parsed_parts}
use Rattle.auction_input.specs.ParsedTexts.{form_in, parsed_form, parsed_groups, parsed_terms}
use Rattle.auction_input.specs.Parts.{Part, bytes_before, cut_lines, has_bytes_before, input_fault, input_parts, part_fault, part_names, parts_named, text_numbers, unknown_part}
use Rattle.auction_input.specs.Plan.{miscounted, taken_by}
use Rattle.auction_input.specs.Submissions.{forms_of}
use Rattle.auction_input.specs.declared.part_kind.PartKind.TheVariants as kind
use Rattle.auction_input.specs.declared.parts.PartFault.{PartFault}
use Rattle.auction_input.specs.declared.parts.PartFault.TheVariants as fault
use Rattle.auction_input.specs.declared.refusal.Refusal.{Refusal}
use Rattle.auction_input.specs.declared.refusal.Refusal.TheVariants as refusal
use Rattle.auction_input.specs.declared.request.Request.{Request}
use Rattle.auction_input.specs.inside.Auctions.{Tell, bidders_of}
use Rattle.auction_input.proofs.AnswerFacts.{ok-after, ok-is, ok-refused_as, unless-ok}
use Rattle.auction_input.proofs.AuctionFacts.{auction-is}
use Rattle.auction_input.proofs.CallFacts.{call-left}
use Rattle.auction_input.proofs.RecordFacts.{neither}
use Rattle.auction_input.proofs.FormTextFacts.{first-text-known, first-text-more, first-text-own}

-- ---------- no fault ----------

passed : {F : Type 0} (test : Bool) (f : F) (rest : Option F) → (if test then rest else Some f) ≡ None → (test ≡ true) × (rest ≡ None)
passed true f rest none = (refl, none)
passed false f rest none = cc none

not-found : {F : Type 0} (test : Bool) (f : F) → (if test then Some f else None) ≡ None → test ≡ false
not-found true f none = cc none
not-found false f none = refl

-- ---------- parts ----------

known-parts : (asked : Request) (before parts : List Part) → first_fault (part_fault asked) before parts ≡ None → All (HasKnownName asked) parts
unfolding first_fault
known-parts asked before [] none = All-nil (HasKnownName asked)
known-parts asked before (p ∷ parts) none =
    let both = neither (part_fault asked before p) (first_fault (part_fault asked) (before ++ p ∷ []) parts) none in
    let here = passed (list_any (bytes_eq p.name) (part_names asked)) (unknown_part (length before + 1) p.name) None both.0 in
    All-cons (HasKnownName asked) p parts here.0 (known-parts asked (before ++ p ∷ []) parts both.1)

parts-known : (asked : Request) (before parts : List Part) → All (HasKnownName asked) parts → first_fault (part_fault asked) before parts ≡ None
unfolding first_fault
parts-known asked before [] known = refl
parts-known asked before (p ∷ parts) known =
    let here : list_any (bytes_eq p.name) (part_names asked) ≡ true = All-head (HasKnownName asked) p parts known in
    rw here (parts-known asked (before ++ p ∷ []) parts (All-tail (HasKnownName asked) p parts known))

nothing : (bytes : List ℕ) → not (length bytes == 0) ≡ false → bytes ≡ []
nothing [] is = refl
nothing (b ∷ bytes) is = (let none : length (b ∷ bytes) ≡ 0 = eqb-true _ _ (by (length (b ∷ bytes) == 0) is) in absurd (omega arith))
  where
    by : (test : Bool) → not test ≡ false → test ≡ true
    by true is = refl
    by false is = cc is

both-false : (a b : Bool) → (a || b) ≡ false → (a ≡ false) × (b ≡ false)
both-false true b is = cc is
both-false false b is = (refl, is)

whole-texts : (texts : List NamedText) → list_any has_bytes_before texts ≡ false → All IsInParts texts
whole-texts [] none = All-nil IsInParts
whole-texts (given ∷ texts) none =
    let both = both-false (has_bytes_before given) (list_any has_bytes_before texts) none in
    All-cons IsInParts given texts (nothing (bytes_before (cut_lines given.bytes)) both.0) (whole-texts texts both.1)

texts-whole : (texts : List NamedText) → All IsInParts texts → list_any has_bytes_before texts ≡ false
texts-whole [] whole = refl
texts-whole (given ∷ texts) whole =
    let here : bytes_before (cut_lines given.bytes) ≡ [] = All-head IsInParts given texts whole in
    rw here (texts-whole texts (All-tail IsInParts given texts whole))

both-true : (taken : Bool × Bool) → taken.0 ≡ true → taken.1 ≡ true → taken ≡ (true, true)
both-true (a, b) groups solutions = rw (groups, solutions) refl

-- parts that are read are those of an input that has such as the command takes
pub read-parts : (asked : Request) (input : Input) (parts : List Part) → parsed_parts asked input ≡ Ok parts
    → (input_parts input ≡ parts) × HasPartsFor asked input
read-parts asked input parts read =
    let (all, first, second) = ok-after (refused_as refusal.Parts (unless (input_fault asked input) (Ok (input_parts input))))
    (λ ps. refused_as refusal.PartCount (unless (miscounted asked ps) (Ok ps))) parts read in
    let (none, cut) = unless-ok (input_fault asked input) (input_parts input) all (ok-refused_as refusal.Parts _ all first) in
    let (counted, same) = unless-ok (miscounted asked all) all parts (ok-refused_as refusal.PartCount _ parts second) in
    let counted_now : miscounted asked (input_parts input) ≡ None = rw cut counted in
    let before : Option PartFault = if list_any has_bytes_before input.texts then Some fault.BeforeFirst else None in
    let both = neither before (first_fault (part_fault asked) [] (input_parts input)) none in
    let taken = taken_by asked (length (texts_named (codes "%groups") input)) (length (texts_named (codes "%solution") input)) in
    let rules = passed (length (texts_named (codes "%rules") input) == 1) kind.Rules
    (first_failed ((taken.0, kind.Groups) ∷ (taken.1, kind.Solution) ∷ [])) counted_now in
    let groups = passed taken.0 kind.Groups (first_failed ((taken.1, kind.Solution) ∷ [])) rules.1 in
    let solutions = passed taken.1 kind.Solution None groups.1 in (
      cut ∙ same,
      record {
        whole = whole-texts input.texts (not-found (list_any has_bytes_before input.texts) fault.BeforeFirst both.0);
        known = known-parts asked [] (input_parts input) both.1;
        one_of_rules = eqb-true _ _ rules.0;
        others_taken = both-true taken groups.0 solutions.0;
      },
    )

pub parts-read : (asked : Request) (input : Input) → HasPartsFor asked input → parsed_parts asked input ≡ Ok (input_parts input)
parts-read asked input has =
    let whole = texts-whole input.texts has.whole in
    let known = parts-known asked [] (input_parts input) has.known in
    let none : input_fault asked input ≡ None = rw (whole, known) refl in
    let one : (length (parts_named (codes "%rules") (input_parts input)) == 1) ≡ true = eq-eqb _ _ has.one_of_rules in
    let taken : taken_by asked (length (parts_named (codes "%groups") (input_parts input))) (length (parts_named (codes "%solution") (input_parts input)))
    ≡ (true, true) = has.others_taken in
    let counted : miscounted asked (input_parts input) ≡ None = rw (one, taken) refl in
    rw (none, counted) refl

-- ---------- texts ----------

-- a text that isn't too large is read
module _ {A F : Type 0} (text : List ℕ) (large : F) (read : Result A F) (x : A) where
  short : (if nat_lt TEXT_LIMIT (length text) then Err large else read) ≡ Ok x → (length text ≤ TEXT_LIMIT) × (read ≡ Ok x)
  short is = by (nat_lt TEXT_LIMIT (length text)) refl is
    where
      by : (b : Bool) → nat_lt TEXT_LIMIT (length text) ≡ b → (if b then Err large else read) ≡ Ok x → (length text ≤ TEXT_LIMIT) × (read ≡ Ok x)
      by true test is = cc is
      by false test is = (let few = ltb-false _ _ test in omega arith, is)

  long : length text ≤ TEXT_LIMIT → read ≡ Ok x → (if nat_lt TEXT_LIMIT (length text) then Err large else read) ≡ Ok x
  long few is = by (nat_lt TEXT_LIMIT (length text)) refl
    where
      by : (b : Bool) → nat_lt TEXT_LIMIT (length text) ≡ b → (if b then Err large else read) ≡ Ok x
      by true test = (let many = ltb-true _ _ test in absurd (omega arith))
      by false test = is

read-rules : (text : List ℕ) (t : Terms) → parsed_terms text ≡ Ok t → IsTextOfRules text t
read-rules text t read =
    let (few, is) = short text rules.TooLarge (rules_of_records (records_of text)) t (ok-refused_as refusal.Rules _ t read) in
    (few, (described-rules (records_of text) t).0 is)

pub rules-read : (text : List ℕ) (t : Terms) → IsTextOfRules text t → parsed_terms text ≡ Ok t
rules-read text t (few, describe) =
    ap (refused_as refusal.Rules) (long text rules.TooLarge (rules_of_records (records_of text)) t few ((described-rules (records_of text) t).1 describe))

read-groups : (t : Terms) (text : List ℕ) (groups : List (List ℕ)) → parsed_groups t text ≡ Ok groups
    → IsTextOfGroups t text groups
read-groups t text groups read =
    let (few, is) = short text group_fault.TooLarge (groups_of t.bidders text) groups (ok-refused_as refusal.Groups _ groups read) in
    (few, (described-groups t.bidders text groups).0 is)

groups-read : (t : Terms) (text : List ℕ) (groups : List (List ℕ)) → IsTextOfGroups t text groups → parsed_groups t text ≡ Ok groups
groups-read t text groups (few, describe) =
    ap (refused_as refusal.Groups) (long text group_fault.TooLarge (groups_of t.bidders text) groups few ((described-groups t.bidders text groups).1 describe))

read-form : (t : Terms) (n : ℕ) (text : List ℕ) (form : Offers) → parsed_form t n text ≡ Ok form → IsTextOfForm t text form
read-form t n text form read =
    let (few, is) = short text form_fault.TooLarge (form_of_records t (records_of text)) form (ok-refused_as (refusal.Form n) (form_in t text) form read) in
    (few, (parsed-described t (records_of text) form).0 is)

form-read : (t : Terms) (n : ℕ) (text : List ℕ) (form : Offers) → IsTextOfForm t text form → parsed_form t n text ≡ Ok form
form-read t n text form (few, describe) =
    ap (refused_as (refusal.Form n)) (long text form_fault.TooLarge (form_of_records t (records_of text)) form few
    ((parsed-described t (records_of text) form).1 describe))

read-forms : (t : Terms) (n : ℕ) (texts : List (List ℕ)) (forms : List Offers) → each_in_turn (parsed_form t) n texts ≡ Ok forms
    → AllZip (IsTextOfForm t) texts forms
read-forms t n [] forms read =
    (let none : [] ≡ forms = ok-is _ [] forms refl read in subst (λ (fs : List Offers). AllZip (IsTextOfForm t) [] fs) none tt)
read-forms t n (text ∷ texts) forms read =
    let (form, one, more) = ok-after (parsed_form t n text) _ forms read in
    let (others, rest, all) = ok-after (each_in_turn (parsed_form t) (n + 1) texts) _ forms more in
    let is : form ∷ others ≡ forms = ok-is _ (form ∷ others) forms refl all in
    subst (λ (fs : List Offers). AllZip (IsTextOfForm t) (text ∷ texts) fs) is (read-form t n text form one, read-forms t (n + 1) texts others rest)

pub forms-read : (t : Terms) (n : ℕ) (texts : List (List ℕ)) (forms : List Offers) → AllZip (IsTextOfForm t) texts forms
    → each_in_turn (parsed_form t) n texts ≡ Ok forms
forms-read t n [] [] each = refl
forms-read t n [] (form ∷ forms) each = absurd each
forms-read t n (text ∷ texts) [] each = absurd each
forms-read t n (text ∷ texts) (form ∷ forms) each =
    let one = form-read t n text form each.0 in
    let rest = forms-read t (n + 1) texts forms each.1 in
    rw (one, rest) refl

-- ---------- one text for each bidder ----------

abbrev Placed : Type 0
Placed = Offers × ℕ

abbrev AreTogether : Placed → Placed → Type 0
AreTogether one later = one.0.bidder ≡ later.0.bidder → one.1 ≡ later.1

-- a form is in the text of the first form of its bidder, if one is known
abbrev IsWithFirst : List Placed → Placed → Type 0
IsWithFirst before form = (first : ℕ) → first_text form.0.bidder before ≡ Some first → first ≡ form.1

module _ (t : Terms) where
  no-other : (before : List Placed) (form : Placed) → another_form t before form ≡ None → IsWithFirst before form
  no-other before form none first known =
      let found : elsewhere form.1 (another t (length before + 1) form.0) (Some first) ≡ None = rw known at none in
      eqb-true first form.1 (by (first == form.1) found)
    where
      by : (test : Bool) → (if test then None else Some (another t (length before + 1) form.0 first)) ≡ None → test ≡ true
      by true is = refl
      by false is = cc is

  with-first : (before : List Placed) (form : Placed) → IsWithFirst before form → another_form t before form ≡ None
  with-first before form near = by (first_text form.0.bidder before) refl
    where
      by : (o : Option ℕ) → first_text form.0.bidder before ≡ o → elsewhere form.1 (another t (length before + 1) form.0) o ≡ None
      by None is = refl
      by (Some first) is = (let same : (first == form.1) ≡ true = eq-eqb first form.1 (near first is) in rw same refl)

  -- forms without a fault are in the text of the first form of their bidder
  all-with : (before forms : List Placed) → first_fault (another_form t) before forms ≡ None → All (IsWithFirst before) forms
  unfolding first_fault
  all-with before [] none = All-nil (IsWithFirst before)
  all-with before (form ∷ forms) none =
      let both = neither (another_form t before form) (first_fault (another_form t) (before ++ form ∷ []) forms) none in
      let more = all-with (before ++ form ∷ []) forms both.1 in
      All-cons (IsWithFirst before) form forms (no-other before form both.0)
      (λ k d within first known. more k d within first
      (first-text-known (slice_index_or forms k d).0.bidder first before form known))

  all-together : (before forms : List Placed) → first_fault (another_form t) before forms ≡ None → AllPairs AreTogether forms
  unfolding first_fault
  all-together before [] none = λ i j d low within. absurd (omega arith)
  all-together before (form ∷ forms) none =
      let both = neither (another_form t before form) (first_fault (another_form t) (before ++ form ∷ []) forms) none in
      let more = all-with (before ++ form ∷ []) forms both.1 in
      let here = no-other before form both.0 in
      AllPairs-cons AreTogether form forms (λ k d within same.
      by (first_text form.0.bidder before) refl here (slice_index_or forms k d) same (more k d within))
      (all-together (before ++ form ∷ []) forms both.1)
    where
      by : (o : Option ℕ) → first_text form.0.bidder before ≡ o → IsWithFirst before form → (later : Placed) → form.0.bidder ≡ later.0.bidder
          → IsWithFirst (before ++ form ∷ []) later → form.1 ≡ later.1
      by None is here later same near = near form.1 (subst (λ (b : ℕ). first_text b (before ++ form ∷ []) ≡ Some form.1) same (first-text-own before form is))
      by (Some first) is here later same near =
          let own : first ≡ form.1 = here first is in
          let known : first_text later.0.bidder (before ++ form ∷ []) ≡ Some first =
          subst (λ (b : ℕ). first_text b (before ++ form ∷ []) ≡ Some first) same (first-text-known form.0.bidder first before form is) in
          sym own ∙ near first known

  together-none : (before forms : List Placed) → All (IsWithFirst before) forms → AllPairs AreTogether forms
      → first_fault (another_form t) before forms ≡ None
  unfolding first_fault
  together-none before [] near pairs = refl
  together-none before (form ∷ forms) near pairs =
      let here : another_form t before form ≡ None = with-first before form (All-head (IsWithFirst before) form forms near) in
      let later : All (IsWithFirst (before ++ form ∷ [])) forms = λ k d within first known.
      by (slice_index_or forms k d) (All-tail (IsWithFirst before) form forms near k d within) (pairs zero (suc k) d (omega arith) (omega arith)) first known in
      rw here (together-none (before ++ form ∷ []) forms later (λ i j d low within. pairs (suc i) (suc j) d (omega arith) (omega arith)))
    where
      by : (later : Placed) → IsWithFirst before later → AreTogether form later → IsWithFirst (before ++ form ∷ []) later
      by later near pair first known =
          from (first_text later.0.bidder before) refl (sym (first-text-more later.0.bidder before form) ∙ known)
        where
          from : (o : Option ℕ) → first_text later.0.bidder before ≡ o
              → option_or o (if form.0.bidder == later.0.bidder then Some form.1 else None) ≡ Some first → first ≡ later.1
          from (Some n) is found = near first (is ∙ found)
          from None is found = own (form.0.bidder == later.0.bidder) refl found
            where
              own : (test : Bool) → (form.0.bidder == later.0.bidder) ≡ test → (if test then Some form.1 else None) ≡ Some first → first ≡ later.1
              own true test found = (let text : form.1 ≡ first = cc found in sym text ∙ pair (eqb-true _ _ test))
              own false test found = cc found

  read-together : (last_wins : Bool) (numbers : List ℕ) (read forms : List Offers) → in_one_text last_wins t numbers read ≡ Ok forms
      → (read ≡ forms) × (last_wins ≡ false → AreInOneText (zip forms numbers))
  read-together last_wins numbers read forms is =
      let (none, same) = unless-ok (form_elsewhere last_wins t numbers read) read forms (ok-refused_as refusal.AnotherForm _ forms is) in
      let each : last_wins ≡ false → first_fault (another_form t) [] (zip read numbers) ≡ None = λ one. rw one at none in
      (same, λ one. subst (λ (fs : List Offers). AreInOneText (zip fs numbers)) same (all-together [] (zip read numbers) (each one)))

  pub together-read : (last_wins : Bool) (numbers : List ℕ) (forms : List Offers) → (last_wins ≡ false → AreInOneText (zip forms numbers))
      → form_elsewhere last_wins t numbers forms ≡ None
  together-read true numbers forms together = refl
  together-read false numbers forms together =
      together-none [] (zip forms numbers) (λ k d within first known. cc known) (together refl)

-- ---------- calls ----------

count-append : (b : ℕ) (xs ys : List Offers) → length (forms_of b (xs ++ ys)) ≡ length (forms_of b xs) + length (forms_of b ys)
count-append b xs ys = ap length (filter-append (λ (f : Offers). f.bidder == b) xs ys) ∙ length-append (forms_of b xs) (forms_of b ys)

count-own : (form : Offers) (forms : List Offers) → length (forms_of form.bidder (form ∷ forms)) ≡ suc (length (forms_of form.bidder forms))
count-own form forms = (let same : (form.bidder == form.bidder) ≡ true = eq-eqb _ _ refl in rw same refl)

pub few-none : (before forms : List Offers) → ((b : ℕ) → length (forms_of b (before ++ forms)) ≤ call_limit) → first_fault one_too_many before forms ≡ None
unfolding first_fault
few-none before [] few = refl
few-none before (form ∷ forms) few =
    let most = few form.bidder in
    let sum = count-append form.bidder before (form ∷ forms) in
    let own = count-own form forms in
    let here : one_too_many before form ≡ None = call-left before form (omega arith) in
    rw here (few-none (before ++ form ∷ []) forms (λ b. let least = few b in rw (append_assoc before (form ∷ []) forms) least))

none-few : (before forms : List Offers) → first_fault one_too_many before forms ≡ None → ((b : ℕ) → length (forms_of b before) ≤ call_limit)
    → (b : ℕ) → length (forms_of b (before ++ forms)) ≤ call_limit
unfolding first_fault
none-few before [] none few b = (let least = few b in rw (append-nil before) least)
none-few before (form ∷ forms) none few b =
    let both = neither (one_too_many before form) (first_fault one_too_many (before ++ form ∷ []) forms) none in
    let room = has-room before form both.0 in
    let all = none-few (before ++ form ∷ []) forms both.1 (one-more form room) b in
    rw (← append_assoc before (form ∷ []) forms) all
  where
    has-room : (before : List Offers) (form : Offers) → one_too_many before form ≡ None → length (forms_of form.bidder before) < call_limit
    has-room before form none = elim (leb_tells call_limit (length (forms_of form.bidder before))) [
      | inl (test, _) ↦ (let some : one_too_many before form ≡ Some (length before + 1) = rw test refl in cc)
      | inr (_, few) ↦ few
    ]

    one-more : (form : Offers) → length (forms_of form.bidder before) < call_limit → (b : ℕ) → length (forms_of b (before ++ form ∷ [])) ≤ call_limit
    one-more form room b = elim (cases_Bool (form.bidder == b)) [
      | inl same ↦ (
          let is : form.bidder ≡ b = eqb-true form.bidder b same in
          let own : length (forms_of b (form ∷ [])) ≡ 1 = ap (λ (t : Bool). length (cond t (form ∷ []) [])) same in
          let sum = count-append b before (form ∷ []) in
          let here : length (forms_of b before) < call_limit = rw is at room in
          omega arith)
      | inr other ↦ (
          let none : length (forms_of b (form ∷ [])) ≡ 0 = ap (λ (t : Bool). length (cond t (form ∷ []) [])) other in
          let sum = count-append b before (form ∷ []) in
          let least = few b in
          omega arith)
    ]

-- ---------- an auction ----------

-- the auction of forms and groups under rules, with the other texts of the parts
abbrev auction_with : List Part → Terms → List Offers → List (List ℕ) → Auction
auction_with parts t forms groups = record {
  rules = t;
  sale = sale_left t forms;
  form_bidders = bidders_of forms;
  groups = groups;
  solutions = parts_named (codes "%solution") parts;
  certificates = parts_named (codes "%certificate") parts;
  uniques = parts_named (codes "%unique") parts;
  ties = parts_named (codes "%tie") parts;
  prices = parts_named (codes "%prices") parts;
  covers = parts_named (codes "%cover") parts;
  rule_texts = parts_named (codes "%rule") parts;
}

-- what is read after the parts
abbrev after_parts : Input → List Part → Result Auction Refusal
after_parts input parts =
    and_then (parsed_terms (only_text (parts_named (codes "%rules") parts))) (λ t.
    and_then (each_in_turn (parsed_form t) 1 (parts_named (codes "%form") parts)) (λ read.
    and_then (in_one_text input.last_wins t (text_numbers (codes "%form") parts) read) (λ forms.
    and_then (parsed_groups t (only_text (parts_named (codes "%groups") parts))) (λ groups.
    refused_as refusal.CallLimit (unless (first_fault one_too_many [] forms) (Ok (auction_with parts t forms groups)))))))

read-after : (asked : Request) (input : Input) (auction : Auction) → HasPartsFor asked input → after_parts input (input_parts input) ≡ Ok auction
    → Describes asked input auction
read-after asked input auction has read_after =
    let parts = input_parts input in
    let rules_text = only_text (texts_named (codes "%rules") input) in
    let form_texts = texts_named (codes "%form") input in
    let groups_text = only_text (texts_named (codes "%groups") input) in
    let numbers = text_numbers (codes "%form") parts in
    let (t, t_is, more_forms) = ok-after (parsed_terms rules_text) _ auction read_after in
    let (read, read_are, more_texts) = ok-after (each_in_turn (parsed_form t) 1 form_texts) _ auction more_forms in
    let (forms, forms_are, more_groups) = ok-after (in_one_text input.last_wins t numbers read) _ auction more_texts in
    let (same, together) = read-together t input.last_wins numbers read forms forms_are in
    let (groups, groups_are, more_calls) = ok-after (parsed_groups t groups_text) _ auction more_groups in
    let whole : Auction = auction_with parts t forms groups in
    let (few, is) = unless-ok (first_fault one_too_many [] forms) whole auction (ok-refused_as refusal.CallLimit _ auction more_calls) in
    let described : Describes asked input whole = record {
      parts = has;
      rules = read-rules rules_text t t_is;
      forms = forms;
      forms_are = record {
        each = subst (λ (fs : List Offers). AllZip (IsTextOfForm t) form_texts fs) same (read-forms t 1 form_texts read read_are);
        together = together;
        few = none-few [] forms few (λ b. omega arith);
      };
      groups = read-groups t groups_text groups groups_are;
      sale = refl;
      form_bidders = refl;
      solutions = refl;
      certificates = refl;
      uniques = refl;
      ties = refl;
      prices = refl;
      covers = refl;
      rule_texts = refl;
    } in
    subst (λ (a : Auction). Describes asked input a) is described

read-described : (asked : Request) (input : Input) (auction : Auction) → parsed_auction asked input ≡ Ok auction → Describes asked input auction
read-described asked input auction parsed =
    let (parts, parts_are, more) = ok-after (parsed_parts asked input) (after_parts input) auction parsed in
    let (cut, has) = read-parts asked input parts parts_are in
    read-after asked input auction has (subst (λ (ps : List Part). after_parts input ps ≡ Ok auction) (sym cut) more)

described-read : (asked : Request) (input : Input) (auction : Auction) → Describes asked input auction → parsed_auction asked input ≡ Ok auction
described-read asked input auction it =
    let parts = input_parts input in
    let t = auction.rules in
    let read = auction-is asked input input.last_wins refl parts (parts-read asked input it.parts) t
    (rules-read (only_text (texts_named (codes "%rules") input)) t it.rules) it.forms
    (forms-read t 1 (texts_named (codes "%form") input) it.forms it.forms_are.each)
    (together-read t input.last_wins (text_numbers (codes "%form") parts) it.forms it.forms_are.together)
    auction.groups (groups-read t (only_text (texts_named (codes "%groups") input)) auction.groups it.groups)
    (few-none [] it.forms it.forms_are.few) in
    read ∙ rw (it.sale, it.form_bidders, it.solutions, it.certificates, it.uniques, it.ties, it.prices, it.covers, it.rule_texts) refl

pub described-auction : (asked : Request) (input : Input) (auction : Auction) → parsed_auction asked input ≡ Ok auction ↔ Describes asked input auction
described-auction asked input auction = (read-described asked input auction, described-read asked input auction)

-- ---------- a round ----------

module _ (asked : Request) (input : Input) (last_wins : Bool) (same : input.last_wins ≡ last_wins) (parts : List Part)
    (cut : parsed_parts asked input ≡ Ok parts) where
  -- the forms that parts describe are those of the input
  pub has-forms : (t : Terms) (forms : List Offers) (groups : List (List ℕ)) → Tell last_wins parts t forms groups → HasForms t input forms
  has-forms t forms groups told =
      let numbers : List ℕ = text_numbers (codes "%form") parts in
      let alone = read-together t last_wins numbers forms forms (rw told.alone refl) in
      let (is, _) = read-parts asked input parts cut in
      let each = read-forms t 1 (parts_named (codes "%form") parts) forms told.each in
      record {
        each = rw is each;
        together = λ one. rw is (alone.1 (sym same ∙ one));
        few = none-few [] forms told.accepted (λ b. omega arith);
      }
