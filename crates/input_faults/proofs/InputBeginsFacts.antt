-- All faults of an input begin with the one that is reported.
use Rattle.std.proofs.Common.{◌≡◌, ◌∙◌, ◌∷◌, ◌++◌, ℕ, Bool, true, false, List, [], Option, None, Some, Result, Ok, Err, ap, map, refl, subst, sym}
use Rattle.std.specs.Prelude.{codes, if◌then◌else◌, length, nat_lt, option_map, option_to_list}
use Rattle.auction_input.specs.Auction.{Auction}
use Rattle.auction_input.specs.BookLeft.{sale_left}
use Rattle.auction_input.specs.CallLimit.{one_too_many}
use Rattle.auction_input.proofs.AnswerFacts.{ok-after, ok-refused_as, unless-ok}
use Rattle.auction_input.specs.FormTexts.{form_elsewhere, in_one_text}
use Rattle.auction_input.specs.Input.{NamedText, Input}
use Rattle.auction_input.specs.Parts.{Part, input_fault, parts_named, input_parts, text_numbers}
use Rattle.auction_input.specs.ParsedParts.{only_text, parsed_parts}
use Rattle.auction_input.specs.ParsedTexts.{parsed_form, parsed_groups, parsed_terms}
use Rattle.auction_input.specs.PartCounts.{numbers_in, refused_unless, with_wanted, parsed_taken, wanted, wants}
use Rattle.auction_input.specs.declared.part_counts.Unmet.{Unmet}
use Rattle.auction_input.specs.declared.parts.PartFault.{PartFault}
use Rattle.auction_input.specs.declared.parts.PartFault.TheVariants as uncut
use Rattle.auction_input.specs.Plan.{miscounted}
use Rattle.auction_input.specs.declared.part_kind.PartKind.{PartKind}
use Rattle.auction_input.specs.declared.refusal.Refusal.{Refusal}
use Rattle.auction_input.specs.declared.refusal.Refusal.TheVariants as refusal
use Rattle.auction_terms.proofs.RulesTextFacts.{version-refused}
use Rattle.auction_terms.specs.AllFaults.{failed, or_else}
use Rattle.auction_terms.specs.FirstFault.{first_failed, first_fault}
use Rattle.auction_terms.specs.GroupsText.{group_faults, groups_of}
use Rattle.auction_terms.specs.Judged.{fault_of_whole, first_or, reported_as}
use Rattle.auction_terms.specs.Judged.{Fault as Judged}
use Rattle.auction_terms.specs.declared.limits.TheConstants.{TEXT_LIMIT}
use Rattle.auction_terms.specs.Records.{Record, records_of}
use Rattle.auction_terms.specs.RulesText.{faults_of_version, whole_header, rules_faults, rules_of_records, terms_of_version, version_fault, version_of}
use Rattle.auction_terms.specs.declared.record_kinds.Version.{Version}
use Rattle.std.specs.Option.{option_map_or}
use Rattle.auction_terms.specs.Stages.{and_then, each_in_turn, refused_as, unless}
use Rattle.auction_terms.specs.Terms.{Terms}
use Rattle.auction_terms.specs.declared.groups_text.GroupFault.TheVariants as groups
use Rattle.auction_terms.specs.declared.rules_text.RulesFault.TheVariants as rules
use Rattle.bid_forms.specs.FormText.{form_faults, form_of_records}
use Rattle.bid_forms.specs.Offers.{Offers}
use Rattle.bid_forms.specs.declared.form_text.FormFault.TheVariants as form
use Rattle.input_faults.proofs.BeginFacts.{begin-each, begin-fault, begin-next}
use Rattle.input_faults.specs.FaultsAs.{BeginWith, fault_as, judged_as, judged_of_sized}
use Rattle.input_faults.specs.PartFaults.{uncounted_fault, uncut_fault, unmet_fault}
use Rattle.input_faults.specs.InputFaults.{call_fault, faults_in_parts, faults_of_form, faults_of_forms, faults_of_groups}
use Rattle.input_faults.specs.InputFaults.{faults_of_rules, faults_of_texts, faults_under, input_faults, refusal_of}
use Rattle.input_faults.specs.InputFaults.{text_fault, unmet_faults, unmet_under, where_read}
use Rattle.input_faults.specs.declared.fault.Fault.{Fault}
use Rattle.input_faults.specs.declared.fault.Fault.TheVariants as fault
use Rattle.auction_input.specs.Requests.{target_of}
use Rattle.auction_input.specs.declared.request.Request.{Request}
use Rattle.auction_input.specs.declared.request.Target.{Target}

-- of a text and its size
by-judged : {A F : Type 0} (part : F → Fault) (too_large : F) (text : List ℕ) (faults : List (Judged F)) (reported : Result A F) → BeginWith faults reported
    → BeginWith (judged_as refusal_of (judged_as part (judged_of_sized too_large text faults)))
    (refused_as (λ f. refusal_of (part f)) (if nat_lt TEXT_LIMIT (length text) then Err too_large else reported))
by-judged {A} {F} part too_large text faults reported are = by (nat_lt TEXT_LIMIT (length text)) reported are
  where
    by : (b : Bool) (reported : Result A F) → BeginWith faults reported
        → BeginWith (judged_as refusal_of (judged_as part (if b then fault_of_whole too_large None ∷ [] else faults)))
        (refused_as (λ f. refusal_of (part f)) (if b then Err too_large else reported))
    by true reported are = (fault_of_whole (refusal_of (part too_large)) None, [], refl, refl)
    by false (Ok x) are = ap (λ fs. judged_as refusal_of (judged_as part fs)) are
    by false (Err f) (first, more, are, is) = (
      reported_as (refusal_of (part first.fault)) first,
      judged_as refusal_of (judged_as part more),
      ap (λ fs. judged_as refusal_of (judged_as part fs)) are,
      ap (λ g. refusal_of (part g)) is,
    )

-- the first of the listed faults is reported
begin-first : {A F : Type 0} (faults : List (Judged F)) (value : A) → BeginWith faults (first_or faults value)
begin-first [] value = refl
begin-first (f ∷ more) value = (f, more, refl, refl)

begin-rules : (records : List Record) → BeginWith (rules_faults records) (rules_of_records records)
begin-rules [] = (whole_header (codes "there is no record"), [], refl, refl)
begin-rules (header ∷ more) = by (version_of header)
  where
    by : (o : Option Version) → BeginWith (option_map_or (faults_of_version header more) o (version_fault header ∷ []))
        (option_map_or (λ v. first_or (faults_of_version header more v) (terms_of_version header more v)) o (Err (rules.Header 1)))
    by None = (version_fault header, [], refl, version-refused header)
    by (Some v) = begin-first (faults_of_version header more v) (terms_of_version header more v)

pub begin-terms : (text : List ℕ) → BeginWith (judged_as refusal_of (faults_of_rules text)) (parsed_terms text)
begin-terms text = by-judged fault.Rules rules.TooLarge text (rules_faults (records_of text)) (rules_of_records (records_of text)) (begin-rules (records_of text))

pub begin-one-form : (t : Terms) (number : ℕ) (text : List ℕ) → BeginWith (judged_as refusal_of (faults_of_form t number text)) (parsed_form t number text)
begin-one-form t number text =
    by-judged (fault.Form number) form.TooLarge text (form_faults t (records_of text)) (form_of_records t (records_of text))
    (begin-first (form_faults t (records_of text)) _)

pub begin-group-text : (t : Terms) (text : List ℕ) → BeginWith (judged_as refusal_of (faults_of_groups t text)) (parsed_groups t text)
begin-group-text t text = by-judged fault.Groups groups.TooLarge text (group_faults t.bidders text) (groups_of t.bidders text)
    (begin-first (group_faults t.bidders text) _)

-- what forms and groups describe under the rules
module _ (last_wins : Bool) (numbers : List ℕ) where
  abbrev under : (List Offers → List (List ℕ) → Auction) → List (List ℕ) → List ℕ → Terms → Result Auction Refusal
  under make forms groups t =
      and_then (each_in_turn (parsed_form t) 1 forms) (λ read.
      and_then (in_one_text last_wins t numbers read) (λ kept.
      and_then (parsed_groups t groups) (λ lists. refused_as refusal.CallLimit (unless (first_fault one_too_many [] kept) (Ok (make kept lists))))))

  begin-under : (make : List Offers → List (List ℕ) → Auction) (forms : List (List ℕ)) (groups : List ℕ) (t : Terms)
      → BeginWith (judged_as refusal_of (faults_under last_wins numbers forms groups t)) (under make forms groups t)
  begin-under make forms groups t =
      let calls : Result (List Offers) Refusal → List (Judged Refusal) = λ r. judged_as refusal_of (fault_as fault.CallLimit (call_fault r)) in
      let texts : Result (List Offers) Refusal → List (Judged Refusal) =
      λ r. judged_as refusal_of (fault_as fault.AnotherForm (text_fault last_wins t numbers r)) in
      begin-next refusal_of (faults_of_forms t forms) _ (each_in_turn (parsed_form t) 1 forms) _
      (begin-each refusal_of (faults_of_form t) (parsed_form t) (begin-one-form t) 1 [] forms) (λ read is.
      begin-next refusal_of (fault_as fault.AnotherForm (text_fault last_wins t numbers (each_in_turn (parsed_form t) 1 forms))) _
      (in_one_text last_wins t numbers read) _
      (subst (λ (r : Result (List Offers) Refusal). BeginWith (texts r) (in_one_text last_wins t numbers read)) (sym is)
      (begin-fault fault.AnotherForm refusal_of (form_elsewhere last_wins t numbers read) read)) (λ kept alone.
      begin-next refusal_of (faults_of_groups t groups) _ (parsed_groups t groups) _ (begin-group-text t groups) (λ lists reported.
      let same : read ≡ kept = (unless-ok _ read kept (ok-refused_as refusal.AnotherForm _ kept alone)).1 in
      let all : each_in_turn (parsed_form t) 1 forms ≡ Ok kept = is ∙ ap (λ (fs : List Offers). Ok fs) same in
      subst (λ (r : Result (List Offers) Refusal). BeginWith (calls r)
      (refused_as refusal.CallLimit (unless (first_fault one_too_many [] kept) (Ok (make kept lists))))) (sym all)
      (begin-fault fault.CallLimit refusal_of (first_fault one_too_many [] kept) (make kept lists)))))

  begin-texts : (make : Terms → List Offers → List (List ℕ) → Auction) (text : List ℕ) (forms : List (List ℕ)) (groups : List ℕ)
      → BeginWith (judged_as refusal_of (faults_of_texts last_wins text numbers forms groups))
      (and_then (parsed_terms text) (λ t. under (make t) forms groups t))
  begin-texts make text forms groups =
      begin-next refusal_of (faults_of_rules text) _ (parsed_terms text) _ (begin-terms text) (λ t is.
      subst (λ (r : Result Terms Refusal). BeginWith (judged_as refusal_of (where_read r (faults_under last_wins numbers forms groups)))
      (under (make t) forms groups t)) (sym is) (begin-under (make t) forms groups t))

-- the fault of an input that isn't cut into parts is reported
uncut-is : (texts : List NamedText) (f : PartFault) → refusal_of (uncut_fault texts f).fault ≡ refusal.Parts f
uncut-is texts uncut.BeforeFirst = refl
uncut-is texts (uncut.PartName n) = refl
uncut-is texts (uncut.OfVersion1 n) = refl
uncut-is texts uncut.OutOfMemory = refl

-- after the parts, whose fault is alone
begin-parts : (asked : Request) (texts : List NamedText) (held : List Part) (found : Option PartFault) (others : List (Judged Fault))
    (next : List Part → Result Auction Refusal) → BeginWith (judged_as refusal_of others) (next held)
    → BeginWith (judged_as refusal_of (or_else (or_else (option_to_list (option_map (uncut_fault texts) found))
    (option_to_list (option_map (uncounted_fault asked held) (miscounted asked held)))) others))
    (and_then (and_then (refused_as refusal.Parts (unless found (Ok held))) (λ ps. refused_as refusal.PartCount (unless (miscounted asked ps) (Ok ps)))) next)
begin-parts asked texts held (Some f) others next are =
    (reported_as (refusal_of (uncut_fault texts f).fault) (uncut_fault texts f), [], refl, uncut-is texts f)
begin-parts asked texts held None others next are = by (miscounted asked held)
  where
    by : (o : Option PartKind) → BeginWith (judged_as refusal_of (or_else (option_to_list (option_map (uncounted_fault asked held) o)) others))
        (and_then (refused_as refusal.PartCount (unless o (Ok held))) next)
    by None = are
    by (Some k) = (reported_as (refusal.PartCount k) (uncounted_fault asked held k), [], refl, refl)

-- the auction that parts describe, with these forms and groups
abbrev auction_in : List Part → Terms → List Offers → List (List ℕ) → Auction
auction_in parts t forms groups = record {
  rules = t;
  sale = sale_left t forms;
  form_bidders = map (λ (form : Offers). form.bidder) forms;
  groups = groups;
  solutions = parts_named (codes "%solution") parts;
  certificates = parts_named (codes "%certificate") parts;
  uniques = parts_named (codes "%unique") parts;
  ties = parts_named (codes "%tie") parts;
  prices = parts_named (codes "%prices") parts;
  covers = parts_named (codes "%cover") parts;
  rule_texts = parts_named (codes "%rule") parts;
}

-- what the texts in parts describe
abbrev texts_in : Bool → List Part → Result Auction Refusal
texts_in last_wins parts =
    and_then (parsed_terms (only_text (parts_named (codes "%rules") parts))) (λ t.
    under last_wins (text_numbers (codes "%form") parts) (auction_in parts t) (parts_named (codes "%form") parts)
    (only_text (parts_named (codes "%groups") parts)) t)

-- ---- what a command wants

-- tests, and what is unmet of them
begin-wants : {A : Type 0} (tests : List (Bool × Unmet)) (x : A)
    → BeginWith (judged_as refusal_of (map unmet_fault (failed tests))) (unless (first_failed (refused_unless tests)) (Ok x))
begin-wants [] x = refl
begin-wants ((true, u) ∷ more) x = begin-wants more x
begin-wants ((false, u) ∷ more) x =
    (reported_as (refusal_of (fault.Unmet u)) (unmet_fault u), judged_as refusal_of (map unmet_fault (failed more)), refl, refl)

-- of an auction that the texts in parts describe
begin-unmet : (command : Option Target) (last_wins : Bool) (parts : List Part) (auction : Auction) → texts_in last_wins parts ≡ Ok auction
    → BeginWith (judged_as refusal_of (where_read (parsed_terms (only_text (parts_named (codes "%rules") parts)))
    (unmet_under command parts))) (wanted command auction)
begin-unmet command last_wins parts auction reported =
    let (t, rules, after_rules) = ok-after (parsed_terms (only_text (parts_named (codes "%rules") parts))) _ auction reported in
    let (read, each, after_forms) = ok-after (each_in_turn (parsed_form t) 1 (parts_named (codes "%form") parts)) _ auction after_rules in
    let (kept, one, after_one) = ok-after (in_one_text last_wins t (text_numbers (codes "%form") parts) read) _ auction after_forms in
    let (lists, groups, made) = ok-after (parsed_groups t (only_text (parts_named (codes "%groups") parts))) _ auction after_one in
    let same : auction_in parts t kept lists ≡ auction =
    (unless-ok _ (auction_in parts t kept lists) auction (ok-refused_as refusal.CallLimit _ auction made)).1 in
    subst (λ (r : Result Terms Refusal). BeginWith (judged_as refusal_of (where_read r (unmet_under command parts))) (wanted command auction)) (sym rules)
    (subst (λ (r : Result (List (List ℕ)) Refusal). BeginWith (judged_as refusal_of (unmet_faults command parts r)) (wanted command auction)) (sym groups)
    (subst (λ (a : Auction). BeginWith (judged_as refusal_of (unmet_faults command parts (Ok lists))) (wanted command a)) same
    (begin-wants (wants command (numbers_in parts lists)) (auction_in parts t kept lists))))

-- where nothing is wanted
nothing-wanted : (reported : Result Auction Refusal) → and_then reported (wanted None) ≡ reported
nothing-wanted (Ok auction) = refl
nothing-wanted (Err r) = refl

-- what is wanted is looked at after what is reported
begin-taken : (command : Option Target) (some others : List (Judged Fault)) (reported : Result Auction Refusal)
    → BeginWith (judged_as refusal_of some) reported
    → ((auction : Auction) → reported ≡ Ok auction → BeginWith (judged_as refusal_of others) (wanted command auction))
    → BeginWith (judged_as refusal_of (some ++ others)) (with_wanted command reported)
begin-taken (Some command) some others reported are after = begin-next refusal_of some others reported (wanted (Some command)) are after
begin-taken None some others reported are after =
    subst (λ (r : Result Auction Refusal). BeginWith (judged_as refusal_of (some ++ others)) r) (nothing-wanted reported)
    (begin-next refusal_of some others reported (wanted None) are after)

taken-after : {X : Type 0} (command : Option Target) (reported : Result X Refusal) (next : X → Result Auction Refusal)
    → and_then reported (λ x. with_wanted command (next x)) ≡ with_wanted command (and_then reported next)
taken-after None reported next = refl
taken-after (Some command) (Ok x) next = refl
taken-after (Some command) (Err r) next = refl

pub begin-input : (asked : Request) (input : Input) → BeginWith (judged_as refusal_of (input_faults asked input)) (parsed_taken asked input)
begin-input asked input =
    let parts = input_parts input in
    let command = target_of asked in
    subst (λ (r : Result Auction Refusal). BeginWith (judged_as refusal_of (input_faults asked input)) r)
    (taken-after command (parsed_parts asked input) (texts_in input.last_wins))
    (begin-parts asked input.texts parts (input_fault asked input) (faults_in_parts command input.last_wins parts) (λ ps. with_wanted command (texts_in input.last_wins ps))
    (begin-taken command _ _ (texts_in input.last_wins parts)
    (begin-texts input.last_wins (text_numbers (codes "%form") parts) (auction_in parts) (only_text (parts_named (codes "%rules") parts))
    (parts_named (codes "%form") parts) (only_text (parts_named (codes "%groups") parts)))
    (begin-unmet command input.last_wins parts)))
