-- The last form that is read of each bidder is the one that the book has; and rules and forms are refused as `text` refuses them.
use Rattle.std.proofs.Common.{◌≡◌, ◌+◌, ◌-◌, ◌++◌, ◌==◌, ◌∷◌, ◌∙◌, ◌↔◌, [], ℕ, Bool, Option, true, false, List, None, Some, Result, Ok, Err, ap}
use Rattle.std.proofs.Common.{arith, codes, if◌then◌else◌, inl, inr, length, refl, slice_index_or, subst, sym, drop}
use Rattle.std.proofs.lemmas.Bool.{cases_Bool, eqb-true}
use Rattle.std.proofs.lemmas.Bool.Decides.{Decides-eqb}
use Rattle.std.proofs.lemmas.List.{nil_from_length}
use Rattle.std.proofs.lemmas.List.FromFn.{get_or-map-range_with_len}
use Rattle.std.specs.List.{last_or, list_any, zip}
use Rattle.std.specs.Option.{option_map_or, option_or}
use Rattle.std.specs.Prelude.{◌||◌, ⊤, filter}
use Rattle.std.specs.Str.{bytes_eq}
use Rattle.auction_input.specs.Auction.{Auction, parsed_auction}
use Rattle.auction_input.specs.BookLeft.{sale_left}
use Rattle.auction_input.specs.CallLimit.{one_too_many}
use Rattle.auction_input.specs.FormTexts.{form_elsewhere, in_one_text}
use Rattle.auction_input.specs.Input.{Input}
use Rattle.auction_input.specs.LastForms.{DescribesBids, FormParts, IsOfAuction, last_form, parsed_forms}
use Rattle.auction_input.specs.ParsedParts.{only_text, parsed_parts}
use Rattle.auction_input.specs.ParsedTexts.{form_in, parsed_form, parsed_groups, parsed_terms}
use Rattle.auction_input.specs.Parts.{Part, has_bytes_before, input_fault, input_parts, names_for, part_fault, part_names, parts_named, text_numbers, unknown_part}
use Rattle.auction_input.specs.Plan.{miscounted, taken_by}
use Rattle.auction_input.specs.Requests.{target_of}
use Rattle.auction_input.specs.Submissions.{forms_of}
use Rattle.auction_input.specs.declared.part_kind.PartKind.{PartKind}
use Rattle.auction_input.specs.declared.part_kind.PartKind.TheVariants as kind
use Rattle.auction_input.specs.declared.parts.PartFault.{PartFault}
use Rattle.auction_input.specs.declared.parts.PartFault.TheVariants as fault
use Rattle.auction_input.specs.declared.refusal.Refusal.TheVariants as refusal
use Rattle.auction_input.specs.declared.refusal.Refusal.{Refusal}
use Rattle.auction_input.specs.declared.request.Request.TheVariants.{Forms, Text}
use Rattle.auction_input.specs.declared.request.Request.{Request}
use Rattle.auction_input.specs.declared.request.Target.TheVariants as target
use Rattle.auction_input.specs.declared.request.Target.{Target}
use Rattle.auction_input.proofs.AnswerFacts.{ok-after, ok-refused_as, unless-ok}
use Rattle.auction_input.proofs.LastFormFacts.{forms-are, read_so}
use Rattle.auction_input.proofs.StageFacts.{next}
use Rattle.auction_terms.specs.AllFaults.{all_faults}
use Rattle.auction_terms.specs.FirstFault.{first_failed, first_fault}
use Rattle.auction_terms.specs.Stages.{and_then, each_in_turn, refused_as, unless}
use Rattle.auction_terms.specs.Terms.{Terms}
use Rattle.auction_terms.specs.declared.bids.Bid.{Bid}
use Rattle.bid_forms.specs.Offers.{Offers}

-- ---- the parts that another request takes are there for `forms`, too

or-front : (b u v : Bool) → (u ≡ true → v ≡ true) → (b || u) ≡ true → (b || v) ≡ true
or-front true u v more is = refl
or-front false u v more is = more is

any-front : {X : Type 0} (test : X → Bool) (xs ys : List X) → list_any test xs ≡ true → list_any test (xs ++ ys) ≡ true
any-front test [] ys is = cc
any-front test (x ∷ xs) ys is = or-front (test x) (list_any test xs) (list_any test (xs ++ ys)) (any-front test xs ys) is

-- the names that only some commands know
abbrev others : List (List ℕ)
others = drop 4 (names_for None)

-- what names a part to a command names it to all
pub names-all : (command : Option Target) (name : List ℕ) → list_any (bytes_eq name) (names_for command) ≡ true → list_any (bytes_eq name) (names_for None) ≡ true
names-all None name is = is
names-all (Some target.Verify) name is = is
names-all (Some target.Text) name is = any-front (bytes_eq name) (names_for (Some target.Text)) others is
names-all (Some target.Compile) name is = any-front (bytes_eq name) (names_for (Some target.Text)) others is
names-all (Some target.Map) name is = any-front (bytes_eq name) (names_for (Some target.Text)) others is
names-all (Some target.Report) name is = any-front (bytes_eq name) (names_for (Some target.Text)) others is

abbrev named_by : PartFault → Bool → Option PartFault
named_by f b = if b then None else Some f

passes : (f : PartFault) (b : Bool) → named_by f b ≡ None → b ≡ true
passes f true is = refl
passes f false is = cc

part-known : (asked : Request) (before : List Part) (p : Part) → part_fault asked before p ≡ None → part_fault Forms before p ≡ None
part-known asked before p none =
    let f = unknown_part (length before + 1) p.name in
    ap (named_by f) (names-all (target_of asked) p.name (passes f (list_any (bytes_eq p.name) (part_names asked)) none))

both-none : {F : Type 0} (a b : Option F) → option_or a b ≡ None → (a ≡ None) × (b ≡ None)
both-none None b is = (refl, is)
both-none (Some f) b is = cc

parts-known : (asked : Request) (before parts : List Part) → first_fault (part_fault asked) before parts ≡ None → first_fault (part_fault Forms) before parts ≡ None
unfolding first_fault
parts-known asked before [] none = refl
parts-known asked before (p ∷ parts) none =
    let each = both-none (part_fault asked before p) (first_fault (part_fault asked) (before ++ p ∷ []) parts) none in
    ap (λ (o : Option PartFault). option_or o (first_fault (part_fault Forms) (before ++ p ∷ []) parts)) (part-known asked before p each.0)
    ∙ parts-known asked (before ++ p ∷ []) parts each.1

first-passes : (b : Bool) (k : PartKind) (more : List (Bool × PartKind)) → first_failed ((b, k) ∷ more) ≡ None → b ≡ true
first-passes true k more is = refl
first-passes false k more is = cc

pub parts-for-forms : (asked : Request) (input : Input) (parts : List Part) → parsed_parts asked input ≡ Ok parts → parsed_parts Forms input ≡ Ok parts
parts-for-forms asked input parts parsed =
    let (all, first, second) = ok-after (refused_as refusal.Parts (unless (input_fault asked input) (Ok (input_parts input))))
    (λ ps. refused_as refusal.PartCount (unless (miscounted asked ps) (Ok ps))) parts parsed in
    let (none, is) = unless-ok (input_fault asked input) (input_parts input) all (ok-refused_as refusal.Parts _ all first) in
    let (counted, same) = unless-ok (miscounted asked all) all parts (ok-refused_as refusal.PartCount _ parts second) in
    let before : Option PartFault = if list_any has_bytes_before input.texts then Some fault.BeforeFirst else None in
    let each = both-none before (first_fault (part_fault asked) [] (input_parts input)) none in
    let sound : input_fault Forms input ≡ None =
    ap (λ (o : Option PartFault). option_or o (first_fault (part_fault Forms) [] (input_parts input))) each.0 ∙ parts-known asked [] (input_parts input) each.1 in
    let count : List ℕ → ℕ = λ name. length (parts_named name all) in
    let some = taken_by asked (count (codes "%groups")) (count (codes "%solution")) in
    let one = first-passes (count (codes "%rules") == 1) kind.Rules ((some.0, kind.Groups) ∷ (some.1, kind.Solution) ∷ []) counted in
    next _ (input_parts input) _ _ (ap (λ (o : Option PartFault). refused_as refusal.Parts (unless o (Ok (input_parts input)))) sound)
    (ap (λ (ps : List Part). refused_as refusal.PartCount (unless (miscounted Forms ps) (Ok ps))) is
    ∙ ap (λ (b : Bool). refused_as refusal.PartCount (unless (first_failed ((b, kind.Rules) ∷ (true, kind.Groups) ∷ (true, kind.Solution) ∷ [])) (Ok all))) one
    ∙ ap (λ (ps : List Part). Ok ps) same)

-- ---- the last form

abbrev pub Read : Type 0
Read = Offers × List ℕ

-- what is read of each of these texts
abbrev pub IsRead : Terms → Read → Type 0
IsRead t form = form_in t form.1 ≡ Ok form.0

form-is : (t : Terms) (n : ℕ) (text : List ℕ) (form : Offers) → parsed_form t n text ≡ Ok form → form_in t text ≡ Ok form
form-is t n text form parsed = ok-refused_as (refusal.Form n) (form_in t text) form parsed

-- the last one of a bidder, if the one before these is of it and read so
module _ (t : Terms) (b : ℕ) where
  abbrev pub IsLast : Option Offers → Option Read → Type 0
  IsLast None None = ⊤
  IsLast (Some form) (Some read) = (read.0 ≡ form) × (form.bidder ≡ b) × IsRead t read
  IsLast form read = ⊥

  pub last-is : (n : ℕ) (texts : List (List ℕ)) (forms : List Offers) (form : Option Offers) (read : Option Read) → each_in_turn (parsed_form t) n texts ≡ Ok forms
      → IsLast form read → IsLast (last_or form (forms_of b forms)) (last_or read (filter (λ (x : Read). x.0.bidder == b) (zip forms texts)))
  last-is n [] [] form read each is = is
  last-is n [] (f ∷ forms) form read each is = cc
  last-is n (text ∷ texts) forms form read each is =
      let (f, one, rest) = ok-after (parsed_form t n text) _ forms each in
      let (more, others, whole) = ok-after (each_in_turn (parsed_form t) (n + 1) texts) _ forms rest in
      let all : f ∷ more ≡ forms = cc in
      subst (λ (fs : List Offers). IsLast (last_or form (forms_of b fs)) (last_or read (filter (λ (x : Read). x.0.bidder == b) (zip fs (text ∷ texts))))) all
      (elim (cases_Bool (f.bidder == b)) [
        | inl own ↦ rw own (last-is (n + 1) texts more (Some f) (Some (f, text)) others (refl, eqb-true f.bidder b own, form-is t n text f one))
        | inr other ↦ rw other (last-is (n + 1) texts more form read others is)
      ])

  -- with just the bids that are left
  pub describes : (form : Option Offers) (read : Option Read) → IsLast form read → DescribesBids t b (option_map_or (λ (f : Offers). f.bids) form []) read
  describes None None is = refl
  describes (Some form) (Some read) (same, own, parsed) =
      let whole : form ≡ record { bidder = b; bids = form.bids } = ap (λ (k : ℕ). record { bidder = k; bids = form.bids }) own in
      (same ∙ whole, parsed ∙ ap (λ (f : Offers). Ok f) (same ∙ whole))
  describes None (Some read) is = absurd is
  describes (Some form) None is = absurd is

-- what is read of an input is what its auction is of
pub of-auction : (asked : Request) (input : Input) (auction : Auction) → parsed_auction asked input ≡ Ok auction
    → (read : FormParts) × (parsed_forms input ≡ Ok read) × IsOfAuction read auction
of-auction asked input auction parsed =
    let (parts, parts_are, more) = ok-after (parsed_parts asked input) _ auction parsed in
    let texts = parts_named (codes "%form") parts in
    let (t, t_is, more_forms) = ok-after (parsed_terms (only_text (parts_named (codes "%rules") parts))) _ auction more in
    let (read, read_are, more_texts) = ok-after (each_in_turn (parsed_form t) 1 texts) _ auction more_forms in
    let (forms, forms_are, more_groups) = ok-after (in_one_text input.last_wins t (text_numbers (codes "%form") parts) read) _ auction more_texts in
    let (alone, same) = unless-ok (form_elsewhere input.last_wins t (text_numbers (codes "%form") parts) read) read forms
    (ok-refused_as refusal.AnotherForm _ forms forms_are) in
    let (groups, groups_are, more_calls) = ok-after (parsed_groups t (only_text (parts_named (codes "%groups") parts))) _ auction more_groups in
    let (few, is) = unless-ok (first_fault one_too_many [] forms) _ auction (ok-refused_as refusal.CallLimit _ auction more_calls) in
    let each : each_in_turn (parsed_form t) 1 texts ≡ Ok forms = subst (λ (fs : List Offers). each_in_turn (parsed_form t) 1 texts ≡ Ok fs) same read_are in
    let single = subst (λ (fs : List Offers). form_elsewhere input.last_wins t (text_numbers (codes "%form") parts) fs ≡ None) same alone in
    let cut = parts-for-forms asked input parts parts_are in
    let rules : t ≡ auction.rules = ap (λ (a : Auction). a.rules) is in
    let book : (sale_left t forms).book ≡ auction.sale.book = ap (λ (a : Auction). a.sale.book) is in (
      read_so input parts cut t t_is forms each single,
      forms-are input parts cut t t_is forms each single few,
      record {
        rules = t_is ∙ ap (λ (u : Terms). Ok u) rules;
        same = rules;
        each = λ b least most.
            subst (λ (u : Terms). DescribesBids u b (slice_index_or auction.sale.book (b - 1) []) (last_form b (zip forms texts))) rules
            (subst (λ (bids : List Bid). DescribesBids t b bids (last_form b (zip forms texts)))
            (sym (get_or-map-range_with_len (λ (k : ℕ). option_map_or (λ (f : Offers). f.bids) (last_or None (forms_of k forms)) [])
            1 (length t.bidders) (b - 1) b [] (let count = ap (λ (u : Terms). length u.bidders) rules in omega arith) (omega arith))
            ∙ ap (λ (bids : List (List Bid)). slice_index_or bids (b - 1) []) book)
            (describes t b _ _ (last-is t b 1 texts forms None None each tt)));
      },
    )

-- ---- refusals

-- both are refused for the same, or neither
abbrev Agree : {A B : Type 0} → Result A Refusal → Result B Refusal → Type 0
Agree one other = (r : Refusal) → (one ≡ Err r) ↔ (other ≡ Err r)

abbrev refused : {A : Type 0} → Refusal → Result A Refusal
refused r = Err r

refused-too : {A B : Type 0} (f r : Refusal) → refused {A = A} f ≡ Err r → refused {A = B} f ≡ Err r
refused-too f r is = (let same : f ≡ r = cc in ap (λ (e : Refusal). refused e) same)

never-refused : {A B : Type 0} (x : A) (r : Refusal) → Ok x ≡ refused {A = A} r → B
never-refused x r is = cc

agree-then : {X A B : Type 0} (first : Result X Refusal) (f : X → Result A Refusal) (g : X → Result B Refusal)
    → ((x : X) → first ≡ Ok x → Agree (f x) (g x)) → Agree (and_then first f) (and_then first g)
agree-then (Ok x) f g after = after x refl
agree-then (Err e) f g after = λ r. (refused-too e r, refused-too e r)

agree-limit : {A B : Type 0} (found : Option ℕ) (x : A) (y : B)
    → Agree (refused_as refusal.CallLimit (unless found (Ok x))) (refused_as refusal.CallLimit (unless found (Ok y)))
agree-limit None x y = λ r. (never-refused x r, never-refused y r)
agree-limit (Some n) x y = λ r. (refused-too (refusal.CallLimit n) r, refused-too (refusal.CallLimit n) r)

-- a text without lines describes no group
no-group : (t : Terms) → parsed_groups t [] ≡ Ok []
unfolding all_faults
no-group t = refl

second-passes : (a b : Bool) (k l : PartKind) (more : List (Bool × PartKind)) → first_failed ((a, k) ∷ (b, l) ∷ more) ≡ None → b ≡ true
second-passes true true k l more is = refl
second-passes true false k l more is = cc
second-passes false b k l more is = cc

none-of : (texts : List (List ℕ)) → (length texts == 0) ≡ true → texts ≡ []
none-of texts is = nil_from_length texts ((Decides-eqb (length texts) 0).0 is)

-- `text` takes no groups
no-groups : (input : Input) (parts : List Part) → parsed_parts Text input ≡ Ok parts → parts_named (codes "%groups") parts ≡ []
no-groups input parts parsed =
    let (all, first, second) = ok-after (refused_as refusal.Parts (unless (input_fault Text input) (Ok (input_parts input))))
    (λ ps. refused_as refusal.PartCount (unless (miscounted Text ps) (Ok ps))) parts parsed in
    let (counted, same) = unless-ok (miscounted Text all) all parts (ok-refused_as refusal.PartCount _ parts second) in
    let count : List ℕ → ℕ = λ name. length (parts_named name all) in
    subst (λ (ps : List Part). parts_named (codes "%groups") ps ≡ []) same
    (none-of (parts_named (codes "%groups") all)
    (second-passes (count (codes "%rules") == 1) (count (codes "%groups") == 0) kind.Rules kind.Groups
    ((count (codes "%solution") == 0, kind.Solution) ∷ []) counted))

agree-right : {X A B : Type 0} (second : Result X Refusal) (x : X) (one : Result A Refusal) (g : X → Result B Refusal) → second ≡ Ok x
    → Agree one (g x) → Agree one (and_then second g)
agree-right second x one g is agree = subst (λ (s : Result _ Refusal). Agree one (and_then s g)) (sym is) agree

agree-ok : {X A B : Type 0} (first second : Result X Refusal) (x : X) (f : X → Result A Refusal) (g : X → Result B Refusal) → first ≡ Ok x
    → second ≡ Ok x → Agree (f x) (g x) → Agree (and_then first f) (and_then second g)
agree-ok first second x f g one two agree =
    subst (λ (s : Result _ Refusal). Agree (and_then s f) (and_then second g)) (sym one) (agree-right second x (f x) g two agree)

-- with parts that `text` takes, both are refused for the same
pub refused-as-text : (input : Input) (parts : List Part) → parsed_parts Text input ≡ Ok parts → Agree (parsed_forms input) (parsed_auction Text input)
refused-as-text input parts cut =
    let forms_cut = parts-for-forms Text input parts cut in
    let none : (t : Terms) → parsed_groups t (only_text (parts_named (codes "%groups") parts)) ≡ Ok [] = λ t.
    ap (λ (texts : List (List ℕ)). parsed_groups t (only_text texts)) (no-groups input parts cut) ∙ no-group t in
    agree-ok (parsed_parts Forms input) (parsed_parts Text input) parts _ _ forms_cut cut
    (agree-then (parsed_terms (only_text (parts_named (codes "%rules") parts))) _ _ (λ t rules.
    agree-then (each_in_turn (parsed_form t) 1 (parts_named (codes "%form") parts)) _ _ (λ read each.
    agree-then (in_one_text input.last_wins t (text_numbers (codes "%form") parts) read) _ _ (λ forms alone.
    agree-right (parsed_groups t (only_text (parts_named (codes "%groups") parts))) [] _ _ (none t)
    (agree-limit (first_fault one_too_many [] forms) _ _)))))
