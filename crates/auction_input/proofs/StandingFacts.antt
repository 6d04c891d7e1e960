-- What stands of a bidder whose first session submitted its forms, where no other session made a call.
use Rattle.std.proofs.Common.{◌≡◌, ◌≢◌, ◌≤◌, ◌-◌, ◌==◌, ◌&&◌, ◌∷◌, ◌∙◌, [], ℕ, Bool, true, false, List, ap, ap₂, arith}
use Rattle.std.proofs.Common.{cond, length, map, refl, subst, suc, sym, All, Err, IfOk, None, Ok, Result, Option, Some}
use Rattle.std.proofs.Common.{count_by, filter, option_and_then, option_map, inl, inr}
use Rattle.std.specs.List.{last_or}
use Rattle.std.proofs.lemmas.Bool.{and_from, and_parts, cases_Bool, eq-eqb, eqb-false, eqb-true, false≢true}
use Rattle.std.proofs.lemmas.List.{length-map}
use Rattle.std.proofs.lemmas.List.Elements.{All-filter, All-map, filter_passes}
use Rattle.std.proofs.lemmas.List.Sums.{length-filter}
use Rattle.auction_terms.specs.Terms.{AreTerms, Terms}
use Rattle.auction_terms.specs.declared.rules.Bidder.{Bidder}
use Rattle.bid_forms.specs.Offers.{Offers}
use Rattle.bid_book.specs.History.{changes, entries_beside, is_beside, is_change_reply, is_same_caller, left_standing, own_pairs, standing_after, standing_of}
use Rattle.bid_book.specs.declared.call.Call.{Call}
use Rattle.bid_book.specs.declared.call.Call.TheVariants.{Submit}
use Rattle.bid_book.specs.declared.call.Caller.{Caller}
use Rattle.bid_book.specs.declared.call.Caller.TheVariants.{Chair, Session}
use Rattle.bid_book.specs.declared.records.Entry.{Entry}
use Rattle.bid_book.specs.declared.reply.Reply.{Reply}
use Rattle.bid_book.specs.declared.reply.Reply.TheVariants.{Accepted}
use Rattle.bid_book.specs.declared.standing.Standing.{Standing}
use Rattle.bid_desk.specs.Closing.{Closing, form_standing}
use Rattle.bid_desk.specs.Holding.{ChairOwn, IsCallerOf, SessionOwn}
use Rattle.bid_desk.specs.Sessions.{IsSessionOf}
use Rattle.bid_desk.specs.Settlement.{IsSettled, OwnIs, is_named}
use Rattle.auction_input.specs.Submissions.{AreAccepted, AreSubmitted, forms_of}
use Rattle.auction_input.specs.inside.Submissions.{FormLists, HasSubmitted, HaveSubmitted, HoldsLists}

abbrev History : Type 0
History = List (Entry Offers)

abbrev pair_of : Entry Offers → Call Offers × Reply Offers
pair_of e = (e.call, e.reply)

-- the form that the last of some changes left standing
abbrev form_left : Option (Entry Offers) → Option Offers
form_left last = option_map (λ (s : Standing Offers). s.form) (option_and_then (λ (e : Entry Offers). left_standing e.call e.reply) last)

-- of entries that are accepted submissions, the last one's form stands
stands-last : (entries : History) (forms : List Offers) (last : Option (Entry Offers)) (form : Option Offers)
    → AreAccepted forms (map pair_of entries) → form_left last ≡ form
    → form_left (last_or last (changes entries)) ≡ last_or form forms
stands-last [] [] last form accepted is = is
stands-last [] (f ∷ forms) last form accepted is = absurd accepted
stands-last (e ∷ entries) [] last form accepted is = absurd accepted
stands-last (e ∷ entries) (f ∷ forms) last form accepted is =
    let over = accepted.0.0 in
    let number = accepted.0.1 in
    let call : e.call ≡ Submit f over = ap (λ (p : Call Offers × Reply Offers). p.0) accepted.0.2 in
    let reply : e.reply ≡ Accepted number = ap (λ (p : Call Offers × Reply Offers). p.1) accepted.0.2 in
    let change : is_change_reply e.reply ≡ true = ap is_change_reply reply in
    let left : form_left (Some e) ≡ Some f =
    ap₂ (λ (c : Call Offers) (r : Reply Offers). option_map (λ (s : Standing Offers). s.form) (left_standing c r)) call reply in
    ap (λ (t : Bool). form_left (last_or last (cond t (e ∷ changes entries) (changes entries)))) change
    ∙ stands-last entries forms (Some e) (Some f) accepted.1 left

-- a caller with no call made neither the first call nor a later one
not-own : (e : Entry Offers) (h : History) (c : Caller) → own_pairs (e ∷ h) c ≡ [] → (is_same_caller c e.caller ≡ false) × (own_pairs h c ≡ [])
unfolding own_pairs
not-own e h c none = elim (cases_Bool (is_same_caller c e.caller)) [ inl is ↦ (let some = rw is at none in absurd (cc)) | inr is ↦ (is, rw is at none) ]

module _ (t : Terms) (b : ℕ) where
  -- a caller of a bidder is its first session, if it is none of the others
  first-alone : (c : Caller) → IsCallerOf t c → ((s : ℕ) → IsSessionOf t b s → s ≢ 1 → is_same_caller (Session b s) c ≡ false)
      → is_beside (Session b 0) c ≡ is_same_caller (Session b 1) c
  first-alone Chair known other = refl
  first-alone (Session c s) known other = by (b == c) refl (1 == s) refl
    where
      by : (same : Bool) → (b == c) ≡ same → (first : Bool) → (1 == s) ≡ first → same ≡ (same && first)
      by false is first is_first = refl
      by true is true is_first = refl
      by true is false is_first =
          let bidder : c ≡ b = sym (eqb-true b c is) in
          let session : IsSessionOf t b s = subst (λ n. IsSessionOf t n s) bidder known in
          let differs : ((b == c) && (s == s)) ≡ false = other s session (λ one. eqb-false 1 s is_first (sym one)) in
          absurd (false≢true (sym differs ∙ and_from (b == c) (s == s) is (eq-eqb s s refl)))

  -- the entries of a bidder are those of its first session
  first-entries : (h : History) → All (λ (e : Entry Offers). IsCallerOf t e.caller) h → ((s : ℕ) → IsSessionOf t b s → s ≢ 1 → own_pairs h (Session b s) ≡ [])
      → entries_beside (Session b 0) h ≡ filter (λ (e : Entry Offers). is_same_caller (Session b 1) e.caller) h
  first-entries [] known none = refl
  first-entries (e ∷ h) known none =
      let head = first-alone e.caller (known 0 e (omega arith)) (λ s session other. (not-own e h (Session b s) (none s session other)).0) in
      let tail = first-entries h (λ k d l. known (suc k) d (omega arith)) (λ s session other. (not-own e h (Session b s) (none s session other)).1) in
      ap₂ (λ (keep : Bool) (kept : History). cond keep (e ∷ kept) kept) head tail

  stands : (h : History) (forms : List Offers) → All (λ (e : Entry Offers). IsCallerOf t e.caller) h → AreAccepted forms (own_pairs h (Session b 1))
      → ((s : ℕ) → IsSessionOf t b s → s ≢ 1 → own_pairs h (Session b s) ≡ []) → form_standing h b ≡ last_or None forms
  unfolding standing_of own_pairs
  stands h forms known accepted none =
      ap (λ (entries : History). option_map (λ (s : Standing Offers). s.form) (standing_after entries)) (first-entries h known none)
      ∙ stands-last (filter (λ (e : Entry Offers). is_same_caller (Session b 1) e.caller) h) forms None None accepted refl

-- each bidder of the rules has a first session
first-known : (t : Terms) → AreTerms t → (b : ℕ) → 1 ≤ b → b ≤ length t.bidders → IsSessionOf t b 1
first-known t terms b least most =
    let sessions = λ (bidder : Bidder). bidder.sessions in
    let each : All (λ n. 1 ≤ n) (map sessions t.bidders) = All-map (λ n. 1 ≤ n) sessions t.bidders (λ k d l. (terms.limits.each_bidder k d l).some_session) in
    record {
      bidder_least = least;
      bidder_most = most;
      session_least = omega arith;
      session_most = each (b - 1) 0 (omega (arith, length-map t.bidders sessions));
    }

-- the one element that passes
the-one : {X : Type 0} (p : X → Bool) (P : X → Type 0) (xs : List X) → count_by p xs ≡ 1 → All P xs → (x : X) × (p x ≡ true) × P x
the-one {X} p P xs one all = pick (filter p xs) (length-filter p xs ∙ one) (filter_passes p xs) (All-filter p P xs all)
  where
    pick : (ys : List X) → length ys ≡ 1 → All (λ y. p y ≡ true) ys → All P ys → (x : X) × (p x ≡ true) × P x
    pick [] none passes all = absurd (omega arith)
    pick (y ∷ ys) some passes all = (y, passes 0 y (omega arith), all 0 y (omega arith))

module _ (history : History) (forms : List Offers) where
  -- what a session has submitted is what the history has of it
  has-first : (x : SessionOwn) (b : ℕ) → is_named b 1 x ≡ true → HasSubmitted forms x → OwnIs history x
      → AreAccepted (forms_of b forms) (own_pairs history (Session b 1))
  has-first x b named has own =
      let parts = and_parts (x.bidder == b) (x.session == 1) named in
      let session = eqb-true x.session 1 parts.1 in
      subst (λ n. AreAccepted (forms_of n forms) (own_pairs history (Session n 1))) (eqb-true x.bidder b parts.0)
      (subst (λ m. AreAccepted (forms_of x.bidder forms) (own_pairs history (Session x.bidder m))) session
      (subst (AreAccepted (forms_of x.bidder forms)) (sym own) (has.first session)))

  has-none : (x : SessionOwn) (b s : ℕ) → is_named b s x ≡ true → s ≢ 1 → HasSubmitted forms x → OwnIs history x → own_pairs history (Session b s) ≡ []
  has-none x b s named other has own =
      let parts = and_parts (x.bidder == b) (x.session == s) named in
      let session = eqb-true x.session s parts.1 in
      ap₂ (λ n m. own_pairs history (Session n m)) (sym (eqb-true x.bidder b parts.0)) (sym session) ∙ own ∙ has.other (λ one. other (sym session ∙ one))

-- the book of a settled round, whose sessions have submitted the forms
pub settled-submitted : (book : Closing) (chair : ChairOwn) (sessions : List SessionOwn) (forms : List Offers) → AreTerms book.rules
    → IsSettled book.rules book.history chair sessions
    → All (HasSubmitted forms) sessions → AreSubmitted forms book
settled-submitted book chair sessions forms terms settled submitted =
    let the-session : (b s : ℕ) → IsSessionOf book.rules b s → (x : SessionOwn) × (is_named b s x ≡ true) × (HasSubmitted forms x × OwnIs book.history x) =
    λ b s known. the-one (is_named b s) (λ x. HasSubmitted forms x × OwnIs book.history x) sessions (settled.once b s known)
    (λ k d l. (submitted k d l, settled.own_is k d l)) in
    let first : (b : ℕ) → IsSessionOf book.rules b 1 → AreAccepted (forms_of b forms) (own_pairs book.history (Session b 1)) =
    λ b known. (let found = the-session b 1 known in has-first book.history forms found.0 b found.1 found.2.0 found.2.1) in
    let others : (b s : ℕ) → IsSessionOf book.rules b s → s ≢ 1 → own_pairs book.history (Session b s) ≡ [] =
    λ b s known other. (let found = the-session b s known in has-none book.history forms found.0 b s found.1 other found.2.0 found.2.1) in
    record {
      first = first;
      others = others;
      standing = λ b least most. stands book.rules b book.history (forms_of b forms) settled.callers
          (first b (first-known book.rules terms b least most)) (others b);
    }

pub round-submitted : {E : Type 0} (result : Result Closing E) (t : Terms) (chair : ChairOwn) (sessions : List SessionOwn)
    (lists : FormLists) → AreTerms t → IfOk result (λ book. book.rules ≡ t)
    → IfOk result (λ book. IsSettled t book.history chair sessions) → HaveSubmitted lists sessions → IfOk result (HoldsLists lists)
round-submitted (Ok book) t chair sessions lists terms rules settled submitted =
    λ forms by. settled-submitted book chair sessions forms (subst AreTerms (sym rules) terms)
    (subst (λ (u : Terms). IsSettled u book.history chair sessions) (sym rules) settled) (submitted forms by)
round-submitted (Err e) t chair sessions lists terms rules settled submitted = tt
