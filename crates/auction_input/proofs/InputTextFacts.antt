-- What is read of texts is what they describe, their sizes included.
use Rattle.std.proofs.Common.{◌≡◌, ◌+◌, ◌++◌, ◌∷◌, ◌<◌, ◌≤◌, [], ℕ, Bool, List, Result, Ok, Err, ap, arith, length, map}
use Rattle.std.proofs.Common.{refl, subst, sym, inl, inr, All, OnOk, if◌then◌else◌, nat_lt, Bor}
use Rattle.std.specs.List.{AllZip}
use Rattle.std.proofs.lemmas.List.Elements.{All-cons, All-nil}
use Rattle.std.proofs.lemmas.Bool.Decides.{leb_tells}
use Rattle.auction_terms.specs.Records.{records_of}
use Rattle.auction_terms.specs.RulesText as rules_text
use Rattle.auction_terms.specs.Terms.{Terms}
use Rattle.auction_terms.specs.declared.limits.TheConstants.{TEXT_LIMIT}
use Rattle.auction_terms.specs.declared.rules_text.RulesFault.{RulesFault}
use Rattle.auction_terms.specs.declared.rules_text.RulesFault.TheVariants as rules_fault
use Rattle.bid_forms.specs.Offers.{Meets, Offers}
use Rattle.bid_forms.specs.declared.form_text.FormFault.{FormFault}
use Rattle.auction_input.specs.Refused.{Refuses}
use Rattle.auction_input.specs.declared.refusal.Refusal.{Refusal}
use Rattle.auction_input.specs.inside.InputTexts.{AreAdded, IsAnswer, IsFirstErr}
use Rattle.auction_terms.specs.Lines.{bytes_of}
use Rattle.auction_terms.proofs.FirstFaultFacts.{answers-parsed}
use Rattle.auction_terms.specs.Stages.{Answers, each_in_turn, refused_as}
use Rattle.auction_input.specs.inside.ParsedTexts.{HaveMore, parsed_more}
use Rattle.auction_input.specs.ParsedTexts.{form_in, parsed_form}
use Rattle.auction_input.specs.declared.refusal.Refusal.TheVariants as refusal
use Rattle.auction_input.proofs.FaultFacts.{form-refuses, no_rules}
use Rattle.auction_input.proofs.StageFacts.{after-ok, next, stop}

abbrev pub Text : Type 0
Text = Bor (List ℕ)

-- ---- forms

-- texts whose answers are all forms describe those
each-parsed : (t : Terms) (n : ℕ) (texts : List Text) (forms : List Offers) → AllZip (IsAnswer t) texts (map (λ form. Ok form) forms)
    → each_in_turn (parsed_form t) n (bytes_of texts) ≡ Ok forms
each-parsed t n [] [] each = refl
each-parsed t n [] (form ∷ forms) each = absurd each
each-parsed t n (text ∷ texts) [] each = absurd each
each-parsed t n (text ∷ texts) (form ∷ forms) each =
    let head : parsed_form t n text.now ≡ Ok form = ap (λ r. refused_as (refusal.Form n) r) (sym each.0.tells) in
    next _ _ _ _ head (next _ _ _ _ (each-parsed t (n + 1) texts forms each.1) refl)

meet : (t : Terms) (texts : List Text) (forms : List Offers) → AllZip (IsAnswer t) texts (map (λ form. Ok form) forms) → All (Meets t) forms
meet t [] [] each = All-nil (Meets t)
meet t [] (form ∷ forms) each = absurd each
meet t (text ∷ texts) [] each = absurd each
meet t (text ∷ texts) (form ∷ forms) each = All-cons (Meets t) form forms each.0.meets (meet t texts forms each.1)

-- forms that are added are those that the texts describe
all-added : (t : Terms) (texts : List Text) (answers : List (Result Offers FormFault)) (old new : List Offers)
    → AllZip (IsAnswer t) texts answers → AreAdded answers old new → HaveMore t (bytes_of texts) old new
all-added t texts answers old new each (more, added, are) =
    let parsed = rw are at each in
    (more, added, each-parsed t (length old + 1) texts more parsed, meet t texts more parsed)

pub if-added : {A : Type 0} (t : Terms) (texts : List Text) (answers : List (Result Offers FormFault)) (old new : List Offers)
    (r : Result A Refusal) → AllZip (IsAnswer t) texts answers → OnOk r (AreAdded answers old new)
    → OnOk r (HaveMore t (bytes_of texts) old new)
if-added t texts answers old new (Ok _) each added = all-added t texts answers old new each added
if-added t texts answers old new (Err e) each added = tt

-- the first fault comes after the texts that describe forms
first-refused : (t : Terms) (n m : ℕ) (texts : List Text) (before : List Offers) (f : FormFault) (after : List (Result Offers FormFault))
    → n + length before ≡ m
    → AllZip (IsAnswer t) texts (map (λ form. Ok form) before ++ Err f ∷ after) → Refuses (each_in_turn (parsed_form t) n (bytes_of texts)) (refusal.Form m f)
first-refused t n m [] [] f after count each = absurd each
first-refused t n m [] (form ∷ before) f after count each = absurd each
first-refused t n m (text ∷ texts) [] f after count each =
    let same : n ≡ m = omega arith in
    subst (λ k. Refuses (each_in_turn (parsed_form t) n (bytes_of (text ∷ texts))) (refusal.Form k f)) same
    (stop _ _ (refusal.Form n f) (form-refuses n f (form_in t text.now) each.0.tells))
first-refused t n m (text ∷ texts) (form ∷ before) f after count each =
    let head : parsed_form t n text.now ≡ Ok form = ap (λ r. refused_as (refusal.Form n) r) (sym each.0.tells) in
    after-ok _ form _ (refusal.Form m f) head (stop _ _ (refusal.Form m f) (first-refused t (n + 1) m texts before f after (omega arith) each.1))

pub all-refused : (t : Terms) (count : ℕ) (texts : List Text) (answers : List (Result Offers FormFault)) (e : Refusal)
    → AllZip (IsAnswer t) texts answers → IsFirstErr count answers e → Refuses (parsed_more t count (bytes_of texts)) e
all-refused t count texts answers (refusal.Form n f) each (before, after, are, number) =
    first-refused t (count + 1) n texts before f after (omega arith) (rw are at each)
all-refused t count texts answers refusal.OutOfMemory each is = inr refl
all-refused t count texts answers e each is = absurd is

-- ---- sizes

-- what a text describes that is within a limit
abbrev pub sized : {A F : Type 0} → ℕ → F → (List ℕ → Result A F) → List ℕ → Result A F
sized limit too_large parse text = if nat_lt limit (length text) then Err too_large else parse text

-- what is answered of a text within the limit, and of a greater one, is what the text describes
pub sized-answers : {A F : Type 0} (is_memory : F → Bool) (too_large : F) (parse : List ℕ → Result A F) (text : List ℕ) (r : Result A F)
    → (TEXT_LIMIT < length text → r ≡ Err too_large)
    → (length text ≤ TEXT_LIMIT → Answers is_memory r (parse text)) → Answers is_memory r (sized TEXT_LIMIT too_large parse text)
sized-answers is_memory too_large parse text r large parsed = elim (leb_tells 4194305 (length text)) [
  | inl (is, more) ↦ rw is (answers-parsed is_memory r (Err too_large) (large (omega arith)))
  | inr (is, few) ↦ rw is (parsed (omega arith))
]

-- the fault of rules that are refused is what their text describes
pub rules-faulted : (text : List ℕ) (f : RulesFault) → (TEXT_LIMIT < length text → no_rules f ≡ no_rules rules_fault.TooLarge)
    → (length text ≤ TEXT_LIMIT → Answers rules_text.is_rules_memory (no_rules f) (rules_text.rules_of_records (records_of text)))
    → Answers rules_text.is_rules_memory (no_rules f) (sized TEXT_LIMIT rules_fault.TooLarge
    (λ rules. rules_text.rules_of_records (records_of rules)) text)
rules-faulted text f large parsed = sized-answers rules_text.is_rules_memory rules_fault.TooLarge
    (λ rules. rules_text.rules_of_records (records_of rules)) text (no_rules f) large parsed

-- rules that are read are what their text describes
pub rules-parse : (text : List ℕ) (t : Terms) → (TEXT_LIMIT < length text → Ok t ≡ no_rules rules_fault.TooLarge)
    → (length text ≤ TEXT_LIMIT → Ok t ≡ rules_text.rules_of_records (records_of text))
    → sized TEXT_LIMIT rules_fault.TooLarge (λ rules. rules_text.rules_of_records (records_of rules)) text ≡ Ok t
rules-parse text t large parsed = sym (sized-answers rules_text.is_rules_memory rules_fault.TooLarge
    (λ rules. rules_text.rules_of_records (records_of rules)) text (Ok t) large parsed)
