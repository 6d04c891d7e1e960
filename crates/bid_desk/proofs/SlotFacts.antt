-- The slots of sessions.
use Rattle.std.proofs.Common.{◌≡◌, ℕ, ◌+◌, ◌-◌, ◌*◌, ◌/◌, ◌%◌, ◌<◌, ◌≤◌, List, [], ◌∷◌, true, false, ◌==◌, map, length}
use Rattle.std.proofs.Common.{take, sym, ap, ◌∙◌, subst, arith, IsTrue, inl, inr, replicate}
use Rattle.std.specs.Prelude.{All, slice_index, slice_index_or}
use Rattle.std.proofs.Math.ListN.{set}
use Rattle.std.proofs.lemmas.Bool.{and_from, and_parts, cases_Bool, cases_eq, cases_lt, eq-eqb, eqb-true}
use Rattle.std.proofs.lemmas.List.{get_or-map, get_or-replicate, get_or-set_other, get_or-set_same, length-replicate, length-set, take_all}
use Rattle.std.proofs.lemmas.List.Sums.{count_by_more_no, count_by_more_yes}
use Rattle.auction_terms.specs.Terms.{AreTerms, IsBidder, Terms}
use Rattle.auction_terms.specs.declared.rules.Bidder.{Bidder}
use Rattle.auction_terms.specs.declared.limits.TheConstants.{MOST_SESSIONS}
use Rattle.bid_desk.specs.declared.slots.Slot.{Slot}
use Rattle.bid_desk.specs.Holding.{SessionOwn}
use Rattle.bid_desk.specs.Sessions.{IsSessionOf, session_limit}
use Rattle.bid_desk.specs.Settlement.{ComesBefore, IsFirstMissing, StandOnce, is_named, times_session}
use Rattle.bid_desk.specs.inside.Slots.{AllOnce, AreSlots, IsFirstWrong, empty_slot, slot_at, slot_of}

-- a session has one slot, and no other session has it
pub slot-same : (b s c u : ℕ) → 1 ≤ b → 1 ≤ s → s ≤ MOST_SESSIONS → 1 ≤ c → 1 ≤ u → u ≤ MOST_SESSIONS → slot_of b s ≡ slot_of c u → (b ≡ c) × (s ≡ u)
slot-same b s c u b_least s_least s_most c_least u_least u_most same = (omega arith, omega arith)

pub slot-within : (b s n : ℕ) → 1 ≤ b → b ≤ n → 1 ≤ s → s ≤ MOST_SESSIONS → slot_of b s < n * MOST_SESSIONS
slot-within b s n b_least b_most s_least s_most = omega arith

-- how many sessions a bidder has
pub limit-at : (t : Terms) (b : ℕ) (d : Bidder) → b - 1 < length t.bidders → session_limit t b ≡ (slice_index_or t.bidders (b - 1) d).sessions
limit-at t b d small = get_or-map (λ (bidder : Bidder). bidder.sessions) t.bidders (b - 1) d 0 small

-- a bidder has few sessions
pub few-sessions : (t : Terms) → AreTerms t → (b s : ℕ) → IsSessionOf t b s → s ≤ MOST_SESSIONS
few-sessions t terms b s known =
    let least = known.bidder_least in
    let most = known.bidder_most in
    let limit : session_limit t b ≤ MOST_SESSIONS = by t.bidders terms.limits.each_bidder (omega arith) in
    let some = known.session_most in
    omega arith
  where
    by : (bidders : List Bidder) → All IsBidder bidders → b - 1 < length bidders → slice_index (map (λ bidder. bidder.sessions) bidders) (b - 1) ≤ MOST_SESSIONS
    by [] each small = absurd (omega arith)
    by (x ∷ bidders) each small = rw (get_or-map (λ (bidder : Bidder). bidder.sessions) (x ∷ bidders) (b - 1) x 0 small) (each (b - 1) x small).sessions

-- an earlier session has an earlier slot
pub slot-before : (b s c u : ℕ) → 1 ≤ b → 1 ≤ s → s ≤ MOST_SESSIONS → 1 ≤ u → ComesBefore b s c u → slot_of b s < slot_of c u
slot-before b s c u b_least s_least s_most u_least before =
    elim before [
      | inl less ↦ omega arith
      | inr same ↦ (let bidder = same.0 in let session = same.1 in omega arith)
    ]

-- the slot at a place is that of the session that the place names
pub slot-place : (b s place : ℕ) → 1 ≤ b → 1 ≤ s → s ≤ MOST_SESSIONS → slot_of b s ≡ place → (place / MOST_SESSIONS ≡ b - 1) × (place % MOST_SESSIONS ≡ s - 1)
slot-place b s place b_least s_least s_most is = (omega arith, omega arith)

-- a session's name
pub named-is : (b s : ℕ) (x : SessionOwn) → is_named b s x ≡ true → (x.bidder ≡ b) × (x.session ≡ s)
named-is b s x named = (let parts = and_parts (x.bidder == b) (x.session == s) named in (eqb-true x.bidder b parts.0, eqb-true x.session s parts.1))

pub is-named : (b s : ℕ) (x : SessionOwn) → x.bidder ≡ b → x.session ≡ s → is_named b s x ≡ true
is-named b s x bidder session = and_from (x.bidder == b) (x.session == s) (eq-eqb x.bidder b bidder) (eq-eqb x.session s session)

other-named : (b s : ℕ) (x : SessionOwn) → (slot_of b s ≡ slot_of x.bidder x.session → ⊥) → is_named b s x ≡ false
other-named b s x other =
    elim (cases_Bool (is_named b s x)) [
      | inl named ↦ (let same = named-is b s x named in absurd (other (λ i. slot_of (sym same.0 i) (sym same.1 i))))
      | inr unnamed ↦ unnamed
    ]

-- no session was counted yet
pub slots-empty : (t : Terms) (sessions : List SessionOwn) → AreTerms t → AreSlots t sessions 0 (replicate (length t.bidders * MOST_SESSIONS) empty_slot)
slots-empty t sessions terms =
    let n = length t.bidders * MOST_SESSIONS in
    let at : (b s : ℕ) → IsSessionOf t b s → slot_at (replicate n empty_slot) b s ≡ empty_slot = λ b s known.
    get_or-replicate n (slot_of b s) empty_slot empty_slot (slot-within b s (length t.bidders) known.bidder_least known.bidder_most
    known.session_least (few-sessions t terms b s known)) in
    record {
      size = length-replicate n empty_slot;
      most = few-sessions t terms;
      times_are = λ b s known. ap (λ (o : Slot). o.times) (at b s known);
      within = λ b s known some. (let none : (slot_at (replicate n empty_slot) b s).times ≡ 0 = ap (λ (o : Slot). o.times) (at b s known) in
          absurd (omega arith));
      named = λ b s d known some. (let none : (slot_at (replicate n empty_slot) b s).times ≡ 0 = ap (λ (o : Slot). o.times) (at b s known)
          in absurd (omega arith));
      known = λ k d small. absurd (omega arith);
      taken = λ k d small. absurd (omega arith);
      found = λ k d small one. absurd (omega arith);
    }

-- one more session is counted
module _ (t : Terms) (sessions : List SessionOwn) (n : ℕ) (slots : List Slot) (x : SessionOwn) (was : AreSlots t sessions n slots) (small : n < length sessions)
    (here : (d : SessionOwn) → slice_index_or sessions n d ≡ x) (known : IsSessionOf t x.bidder x.session) where
  abbrev pub slot : Slot
  slot = record { times = (slot_at slots x.bidder x.session).times + 1; place = n }

  abbrev pub counted : List Slot
  counted = set slots (slot_of x.bidder x.session) slot

  at-same : (b s : ℕ) → slot_of b s ≡ slot_of x.bidder x.session → slot_at counted b s ≡ slot
  at-same b s same =
      let within : slot_of x.bidder x.session < length slots = (let w = slot-within x.bidder x.session (length t.bidders) known.bidder_least
      known.bidder_most known.session_least (was.most x.bidder x.session known) in let size = was.size in omega arith) in
      ap (λ i. slice_index_or (set slots (slot_of x.bidder x.session) slot) i empty_slot) same
      ∙ get_or-set_same slots (slot_of x.bidder x.session) slot empty_slot within

  at-other : (b s : ℕ) → (slot_of b s ≡ slot_of x.bidder x.session → ⊥) → slot_at counted b s ≡ slot_at slots b s
  at-other b s other = get_or-set_other slots (slot_of x.bidder x.session) (slot_of b s) slot empty_slot other

  same-session : (b s : ℕ) → IsSessionOf t b s → slot_of b s ≡ slot_of x.bidder x.session → (b ≡ x.bidder) × (s ≡ x.session)
  same-session b s of_rules same =
      slot-same b s x.bidder x.session of_rules.bidder_least of_rules.session_least (was.most b s of_rules) known.bidder_least
      known.session_least (was.most x.bidder x.session known) same

  named-here : (b s : ℕ) → (b ≡ x.bidder) × (s ≡ x.session) → (d : SessionOwn) → is_named b s (slice_index_or sessions n d) ≡ true
  named-here b s same d = ap (is_named b s) (here d) ∙ is-named b s x (sym same.0) (sym same.1)

  pub slots-more : AreSlots t sessions (n + 1) counted
  slots-more = record {
    size = length-set slots (slot_of x.bidder x.session) slot ∙ was.size;
    most = was.most;
    times_are = λ b s of_rules. elim (cases_eq (slot_of b s) (slot_of x.bidder x.session)) [
      | inl same ↦
          let is = same-session b s of_rules same in
          let more = count_by_more_yes (is_named b s) sessions n x small (named-here b s is x) in
          ap (λ (o : Slot). o.times) (at-same b s same) ∙ ap (λ m. m + 1)
          (was.times_are x.bidder x.session known ∙ (λ i. times_session (sym is.0 i) (sym is.1 i) (take n sessions))) ∙ sym more
      | inr other ↦
          ap (λ (o : Slot). o.times) (at-other b s other) ∙ was.times_are b s of_rules
          ∙ sym (count_by_more_no (is_named b s) sessions n x small (ap (is_named b s) (here x) ∙ other-named b s x other))
    ];
    within = λ b s of_rules some. elim (cases_eq (slot_of b s) (slot_of x.bidder x.session)) [
      | inl same ↦ (let at : (slot_at counted b s).place ≡ n = ap (λ (o : Slot). o.place) (at-same b s same) in omega arith)
      | inr other ↦
          let at = at-other b s other in
          let before = was.within b s of_rules (subst (λ (o : Slot). 1 ≤ o.times) at some) in
          let place : (slot_at counted b s).place ≡ (slot_at slots b s).place = ap (λ (o : Slot). o.place) at in
          omega arith
    ];
    named = λ b s d of_rules some. elim (cases_eq (slot_of b s) (slot_of x.bidder x.session)) [
      | inl same ↦ subst (λ m. IsTrue (is_named b s (slice_index_or sessions m d))) (sym (ap (λ (o : Slot). o.place) (at-same b s same)))
          (named-here b s (same-session b s of_rules same) d)
      | inr other ↦
          let at = at-other b s other in
          subst (λ (o : Slot). IsTrue (is_named b s (slice_index_or sessions o.place d))) (sym at)
          (was.named b s d of_rules (subst (λ (o : Slot). 1 ≤ o.times) at some))
    ];
    known = λ k d less. elim (cases_lt k n) [
      | inl before ↦ was.known k d before
      | inr now ↦
          let last : k ≡ n = omega arith in
          subst (λ (z : SessionOwn). IsSessionOf t z.bidder z.session) (sym (ap (λ m. slice_index_or sessions m d) last ∙ here d)) known
    ];
    taken = λ k d less. (
        let y = slice_index_or sessions k d in
        elim (cases_eq (slot_of y.bidder y.session) (slot_of x.bidder x.session)) [
          | inl same ↦ (let at : (slot_at counted y.bidder y.session).times ≡ (slot_at slots x.bidder x.session).times + 1 = ap
              (λ (o : Slot). o.times) (at-same y.bidder y.session same) in omega arith)
          | inr other ↦ elim (cases_lt k n) [
            | inl before ↦ subst (λ (o : Slot). 1 ≤ o.times) (sym (at-other y.bidder y.session other)) (was.taken k d before)
            | inr now ↦ (let last : k ≡ n = omega arith in let is : y ≡ x = ap (λ m. slice_index_or sessions m d) last ∙ here d in absurd
                (other (ap (λ (z : SessionOwn). slot_of z.bidder z.session) is)))
          ]
        ]
        );
    found = λ k d less one. (
        let y = slice_index_or sessions k d in
        elim (cases_eq (slot_of y.bidder y.session) (slot_of x.bidder x.session)) [
          | inl same ↦ elim (cases_lt k n) [
            | inl before ↦
                let at : (slot_at counted y.bidder y.session).times ≡ (slot_at slots x.bidder x.session).times + 1 =
                ap (λ (o : Slot). o.times) (at-same y.bidder y.session same) in
                let old : (slot_at slots y.bidder y.session).times ≡ (slot_at slots x.bidder x.session).times =
                ap (λ m. (slice_index_or slots m empty_slot).times) same in
                let some = was.taken k d before in
                absurd (omega arith)
            | inr now ↦ (let last : k ≡ n = omega arith in ap (λ (o : Slot). o.place) (at-same y.bidder y.session same) ∙ sym last)
          ]
          | inr other ↦ elim (cases_lt k n) [
            | inl before ↦
                let at = at-other y.bidder y.session other in
                ap (λ (o : Slot). o.place) at ∙ was.found k d before (subst (λ (o : Slot). o.times ≡ 1) at one)
            | inr now ↦ (let last : k ≡ n = omega arith in let is : y ≡ x = ap (λ m. slice_index_or sessions m d) last ∙ here d in absurd
                (other (ap (λ (z : SessionOwn). slot_of z.bidder z.session) is)))
          ]
        ]
        );
  }

-- if all were counted, each session is there as often as its slot says
module _ (t : Terms) (sessions : List SessionOwn) (slots : List Slot) (are : AreSlots t sessions (length sessions) slots) where
  times-all : (b s : ℕ) → IsSessionOf t b s → times_session b s sessions ≡ (slot_at slots b s).times
  times-all b s known = sym (are.times_are b s known ∙ ap (times_session b s) (take_all (length sessions) sessions (omega arith)))

  pub first-missing : (b s : ℕ) → IsFirstWrong t slots b s → IsFirstMissing t sessions b s
  first-missing b s wrong = record {
    known = wrong.known;
    missing = λ once. wrong.wrong (sym (times-all b s wrong.known) ∙ once);
    first = λ c u known before. times-all c u known ∙ wrong.first c u known before;
  }

  pub stand-once : AllOnce t slots → StandOnce t sessions
  stand-once once = record { each = λ b s known. times-all b s known ∙ once b s known }
