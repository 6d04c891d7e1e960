-- What is kept while forms are put with those of their bidder, and while sessions submit them.
use Rattle.std.proofs.Common.{◌⊎◌, ◌≡◌, ◌≢◌, ◌+◌, ◌<◌, ◌≤◌, ◌++◌, ◌==◌, ◌∷◌, ◌∙◌, [], List, ℕ, suc, Err, false, true, Ok}
use Rattle.std.proofs.Common.{ap, append-nil, append_assoc, arith, cond, inl, inr, length, map, refl, subst, sym, take, All}
use Rattle.std.proofs.Common.{Any, IfOk, if◌then◌else◌, is_err, is_ok, OnOk, vec_len, Option, Result, slice_index_or}
use Rattle.std.proofs.Common.{slice_set, Global, Vec}
use Rattle.std.specs.Arc.{arc_value}
use Rattle.std.specs.List.{AllZip}
use Rattle.std.proofs.lemmas.Bool.{cases_Bool, eqb-false, eqb-true}
use Rattle.std.proofs.lemmas.List.{get_or_append_left, get_or-map, length-append, length-take-le, get_or-set_other}
use Rattle.std.proofs.lemmas.List.{get_or-set_same, length-map, map-append, map-set, nil_from_length, take_more}
use Rattle.std.proofs.lemmas.List.Elements.{All-append, All-cons, All-filter, All-head, All-map, All-nil, All-push}
use Rattle.std.proofs.lemmas.List.Elements.{All-rest, All-same, All-tail, All-weaker, filter_passes}
use Rattle.std.proofs.lemmas.List.Quantifiers.{Any-push}
use Rattle.std.proofs.lemmas.Slice.Zip.{AllZip-long, all_zipped_more}
use Rattle.std.proofs.lemmas.List.Sums.{sum_by-le}
use Rattle.std.specs.declared.sync.Arc.{Arc}
use Rattle.auction_terms.specs.Terms.{AreTerms, Terms, session_count}
use Rattle.auction_terms.specs.declared.rules.Bidder.{Bidder}
use Rattle.bid_book.specs.declared.call.Call.{Call}
use Rattle.bid_book.specs.declared.call.Call.TheVariants.{Submit}
use Rattle.bid_book.specs.declared.call.Caller.{Caller}
use Rattle.bid_book.specs.declared.reply.Reply.{Reply}
use Rattle.bid_book.specs.declared.reply.Reply.TheVariants.{Accepted, CallLimit}
use Rattle.bid_desk.specs.Holding.{Holding, IsRecorded, SessionOwn}
use Rattle.bid_desk.specs.Opening.{all_sessions, fresh_session, sessions_of}
use Rattle.bid_forms.specs.Offers.{Meets, Offers}
use Rattle.auction_input.specs.Submissions.{AreAccepted, IsAccepted, forms_of}
use Rattle.auction_input.specs.declared.round.RoundFault.{RoundFault}
use Rattle.auction_input.specs.inside.Submissions.{AreByBidder, AreFormsOf, HasSubmitted, HaveOneMore, HaveSubmitted}
use Rattle.auction_input.specs.inside.Submissions.{ComesTo, IsFirstJob, IsFormOf, IsIdle, JobOwn, form_values, forms_in}

abbrev Shared : Type 0
Shared = Arc Offers Global

abbrev Lists : Type 0
Lists = List (Vec Shared Global)

abbrev values : Vec Shared Global → List Offers
values list = form_values list.items

-- a list with one form more, in its place
pub one-more : (lists : Lists) (i : ℕ) (list list' : Vec Shared Global) (f : Shared) (form : Offers) → i < length lists → form.bidder ≡ i → arc_value f ≡ form
    → list ≡ slice_index_or lists i list → list'.items ≡ list.items ++ f ∷ [] → HaveOneMore form lists (slice_set lists i list')
one-more lists i list list' f form small bidder is at more b =
    let all = map values lists in
    let written : map values (slice_set lists i list') ≡ slice_set all i (values list') = map-set values lists i list' in
    let inside : i < length all = omega (arith, length-map lists values) in
    let grown : values list' ≡ values list ++ form ∷ [] =
    ap form_values more ∙ map-append (λ (g : Shared). arc_value g) list.items (f ∷ []) ∙ ap (λ (o : Offers). values list ++ o ∷ []) is in
    let here : slice_index_or all i [] ≡ values list = get_or-map values lists i list [] small ∙ ap values (sym at) in
    elim (cases_Bool (form.bidder == b)) [
      | inl same ↦
          let b_is : b ≡ i = sym (eqb-true form.bidder b same) ∙ bidder in
          ap (λ xs. slice_index_or xs b []) written ∙ ap (λ k. slice_index_or (slice_set all i (values list')) k []) b_is
          ∙ get_or-set_same all i (values list') [] inside ∙ grown
          ∙ ap (λ xs. xs ++ form ∷ []) (sym here ∙ ap (λ k. slice_index_or all k []) (sym b_is))
          ∙ sym (ap (λ t. slice_index_or all b [] ++ cond t (form ∷ []) []) same)
      | inr other ↦
          ap (λ xs. slice_index_or xs b []) written
          ∙ get_or-set_other all i b (values list') [] (λ e. eqb-false form.bidder b other (bidder ∙ sym e))
          ∙ sym (append-nil (slice_index_or all b []))
          ∙ sym (ap (λ t. slice_index_or all b [] ++ cond t (form ∷ []) []) other)
    ]

-- the forms in a list are its bidder's
pub own-forms : (t : Terms) (forms : List Offers) (lists : Lists) → All (Meets t) forms → AreByBidder forms lists → (b : ℕ) → AreFormsOf t b (forms_in lists b)
own-forms t forms lists meet by b =
    let is_own = λ (o : Offers). o.bidder == b in
    let own : AreFormsOf t b (forms_of b forms) = λ k d l. record {
      bidder_is = eqb-true _ _ (filter_passes is_own forms k d l);
      meets =
          All-filter is_own (Meets t) forms meet k d l;
    } in
    subst (All (IsFormOf t b)) (sym (by b)) own

-- sessions have made no call as the desk opens
pub all-fresh : (b : ℕ) (bidders : List Bidder) → All (λ (s : SessionOwn). s.pairs ≡ []) (all_sessions b bidders)
all-fresh b [] = All-nil (λ (s : SessionOwn). s.pairs ≡ [])
all-fresh b (bidder ∷ bidders) =
    All-append (λ (s : SessionOwn). s.pairs ≡ []) (sessions_of b bidder.sessions) (all_sessions (b + 1) bidders)
    (All-map (λ (s : SessionOwn). s.pairs ≡ []) (fresh_session b) _ (λ k d l. refl)) (all-fresh (b + 1) bidders)

no-forms : (forms : List Shared) → true ≡ (length forms == 0) → form_values forms ≡ []
no-forms forms none = ap form_values (nil_from_length forms (eqb-true _ _ (sym none)))

-- the sessions that are left, once one was taken
module _ (before after : List SessionOwn) (session : SessionOwn) (taken : before ≡ session ∷ after)
    (fresh : All (λ (s : SessionOwn). s.pairs ≡ []) before) where
  pub fresh-first : session.pairs ≡ []
  fresh-first = All-head (λ (s : SessionOwn). s.pairs ≡ []) session after (subst (All (λ (s : SessionOwn). s.pairs ≡ [])) taken fresh)

  pub fresh-rest : All (λ (s : SessionOwn). s.pairs ≡ []) after
  fresh-rest = All-rest (λ (s : SessionOwn). s.pairs ≡ []) session after before taken fresh

-- one session more has nothing to submit
pub idle-more : (lists : Lists) (idle idle' : List SessionOwn) (session : SessionOwn) (forms : List Shared) → idle' ≡ idle ++ session ∷ []
    → session.pairs ≡ [] → true ≡ (length forms == 0)
    → (session.session ≡ 1 → form_values forms ≡ forms_in lists session.bidder) → All (IsIdle lists) idle → All (IsIdle lists) idle'
idle-more lists idle idle' session forms more fresh none first before =
    All-same (IsIdle lists) idle' (idle ++ session ∷ []) more (All-push (IsIdle lists) idle session before
    (record { fresh = fresh; none = λ one. sym (first one) ∙ no-forms forms none }))

-- a session with forms to submit is its bidder's first one
pub is-first : (session : SessionOwn) (forms : List Shared) → false ≡ (length forms == 0) → (session.session ≢ 1 → form_values forms ≡ []) → session.session ≡ 1
is-first session forms some other =
    elim (cases_Bool (session.session == 1)) [
      | inl one ↦ eqb-true session.session 1 one
      | inr more ↦
          (let none : form_values forms ≡ [] = other (eqb-false session.session 1 more) in
          let count : length forms ≡ 0 = sym (length-map forms (λ (f : Shared). arc_value f)) ∙ ap length none in
          absurd (eqb-false (length forms) 0 (sym some) count))
    ]

-- one first session more, with the forms of its bidder
pub jobs-more : (lists : Lists) (jobs jobs' : List JobOwn) (job : JobOwn) (session : SessionOwn) (forms : List Shared)
    → jobs' ≡ jobs ++ job ∷ [] → job.session ≡ session → job.forms ≡ form_values forms
    → session.session ≡ 1 → form_values forms ≡ forms_in lists session.bidder → All (IsFirstJob lists) jobs → All (IsFirstJob lists) jobs'
jobs-more lists jobs jobs' job session forms more is with_forms first are before =
    All-same (IsFirstJob lists) jobs' (jobs ++ job ∷ []) more
    (All-push (IsFirstJob lists) jobs job before (record {
      first = ap (λ (s : SessionOwn). s.session) is ∙ first;
      forms = with_forms ∙ are ∙ ap (forms_in lists) (sym (ap (λ (s : SessionOwn). s.bidder) is));
    }))

-- what holds of some element does so in a longer list
Any-longer : {X : Type 0} (P : X → Type 0) (xs : List X) (y : X) → Any P xs → Any P (xs ++ y ∷ [])
Any-longer P xs y found =
    let small = found.2 in
    (found.0, found.1, omega (arith, length-append xs (y ∷ [])), get_or_append_left xs (y ∷ []) found.1 found.0 small ∙ found.3, found.4)

-- one job more was done
module _ {D E : Type 0} (session_of : D → SessionOwn) (ended_of : D → Result (Unit {0}) E) (yielded : List D) (job : D) where
  pub sessions-more : (others sessions sessions' : List SessionOwn) → sessions' ≡ sessions ++ session_of job ∷ [] → sessions ≡ others ++ map session_of yielded
      → sessions' ≡ others ++ map session_of (yielded ++ job ∷ [])
  sessions-more others sessions sessions' pushed are =
      pushed ∙ ap (λ (xs : List SessionOwn). xs ++ session_of job ∷ []) are ∙ append_assoc others (map session_of yielded) (session_of job ∷ [])
      ∙ ap (λ (xs : List SessionOwn). others ++ xs) (sym (map-append session_of yielded (job ∷ [])))

  pub ended-more : (ended ended' : Result (Unit {0}) E) → OnOk ended' ((ended ≡ Ok tt) × (ended_of job ≡ Ok tt))
      → (ended ≡ Ok tt → All (λ (d : D). ended_of d ≡ Ok tt) yielded) → ended' ≡ Ok tt
      → All (λ (d : D). ended_of d ≡ Ok tt) (yielded ++ job ∷ [])
  ended-more ended ended' parsed before ok =
      let both : (ended ≡ Ok tt) × (ended_of job ≡ Ok tt) = subst (λ (r : Result (Unit {0}) E). OnOk r ((ended ≡ Ok tt) × (ended_of job ≡ Ok tt))) ok parsed in
      All-push (λ (d : D). ended_of d ≡ Ok tt) yielded job (before both.0) both.1

  -- a wrong answer is that of some job
  pub wrong-more : (ended ended' : Result (Unit {0}) E) (fault : E)
      → (ended' ≡ Err fault → (ended ≡ Err fault) ⊎ (ended_of job ≡ Err fault))
      → (ended ≡ Err fault → Any (λ (d : D). ended_of d ≡ Err fault) yielded)
      → ended' ≡ Err fault → Any (λ (d : D). ended_of d ≡ Err fault) (yielded ++ job ∷ [])
  wrong-more ended ended' fault parsed before wrong =
      elim (parsed wrong) [
        | inl earlier ↦ Any-longer (λ (d : D). ended_of d ≡ Err fault) yielded job (before earlier)
        | inr own ↦ Any-push
            (λ (d : D). ended_of d ≡ Err fault) yielded job own
      ]

pub yielded-more : {X : Type 0} (yielded rest rest' all : List X) (x : X) → rest ≡ x ∷ rest' → yielded ++ rest ≡ all → (yielded ++ x ∷ []) ++ rest' ≡ all
yielded-more yielded rest rest' all x taken are = append_assoc yielded (x ∷ []) rest' ∙ ap (λ xs. yielded ++ xs) (sym taken) ∙ are

pub pushed : {X Y Z : Type 0} (result : Result X Y) (before after new : Z) → false ≡ is_err result
    → new ≡ (if is_ok result then after else before) → new ≡ after
pushed (Ok x) before after new is parsed = parsed
pushed (Err e) before after new is parsed = absurd (cc)

-- a list has gone on to fit another, place by place
pub zip-from-places : {X Y : Type 0} (R : X → Y → Type 0) (xs : List X) (ys : List Y) → length ys ≡ length xs
    → ((k : ℕ) (d : X) (e : Y) → k < length xs → R (slice_index_or xs k d) (slice_index_or ys k e)) → AllZip R xs ys
zip-from-places R [] [] same each = tt
zip-from-places R [] (y ∷ ys) same each = absurd (omega arith)
zip-from-places R (x ∷ xs) [] same each = absurd (omega arith)
zip-from-places R (x ∷ xs) (y ∷ ys) same each = (each 0 x y (omega arith), zip-from-places R xs ys (omega arith) (λ k d e l. each (suc k) d e (omega arith)))

pub zip-of-vec : {X Y Z E : Type 0} (R : X → Y → Type 0) (xs : List X) (n : ℕ) (result : Result (Vec Y Z) E) → n ≡ length xs → IfOk result (λ v. vec_len v ≡ n)
    → IfOk result (λ v. (k : ℕ) (d : X) (e : Y) → k < length xs → R (slice_index_or xs k d) (slice_index_or v.items k e))
    → IfOk result (λ v. AllZip R xs v.items)
zip-of-vec R xs n (Ok v) size len each = zip-from-places R xs v.items (let same = v.ok.0 in omega arith) each
zip-of-vec R xs n (Err e) size len each = tt

-- the last one was accepted
accepted-last : (forms : List Offers) (pairs : List (Call Offers × Reply Offers)) (pair : Call Offers × Reply Offers)
    → AreAccepted forms (pairs ++ pair ∷ []) → (number : ℕ) × (pair.1 ≡ Accepted number)
accepted-last [] [] pair all = absurd all
accepted-last [] (p ∷ pairs) pair all = absurd all
accepted-last (f ∷ forms) [] pair all = (all.0.1, ap (λ (p : Call Offers × Reply Offers). p.1) all.0.2)
accepted-last (f ∷ forms) (p ∷ pairs) pair all = accepted-last forms pairs pair all.1

-- a reply is that of the limit, or it isn't
at-limit : (reply : Reply Offers) → (reply ≡ CallLimit) ⊎ (reply ≢ CallLimit)
at-limit CallLimit = inl refl
at-limit r = inr (λ is. cc)

module _ (forms : List Shared) (k : ℕ) (d : Shared) (small : k < length forms) (stands : d ≡ slice_index_or forms k d) where
  value-here : slice_index_or (form_values forms) k (arc_value d) ≡ arc_value d
  value-here = get_or-map (λ (f : Shared). arc_value f) forms k d (arc_value d) small ∙ ap (λ (f : Shared). arc_value f) (sym stands)

  inside : k < length (form_values forms)
  inside = omega (arith, length-map forms (λ (f : Shared). arc_value f))

  -- the form at a place is its bidder's, and meets the rules
  pub form-here : (t : Terms) (b : ℕ) → AreFormsOf t b (form_values forms) → IsFormOf t b (arc_value d)
  form-here t b own = subst (IsFormOf t b) value-here (own k (arc_value d) inside)

  -- the form at a place was accepted after those before it
  pub accepted-here : (before after : Holding) (caller : Caller) (own own' : List (Call Offers × Reply Offers)) (share share' : ℕ)
      (over : Option ℕ) (reply : Reply Offers) (number : ℕ)
      → AreAccepted (take k (form_values forms)) own → reply ≡ Accepted number
      → (reply ≢ CallLimit → IsRecorded before after caller own own' share share' (Submit (arc_value d) over) reply)
      → AreAccepted (take (k + 1) (form_values forms)) own'
  accepted-here before after caller own own' share share' over reply number accepted is recorded =
      let form = arc_value d in
      let other : reply ≢ CallLimit = (λ limit. absurd (cc)) in
      let taken : take (k + 1) (form_values forms) ≡ take k (form_values forms) ++ form ∷ [] =
      take_more (form_values forms) k (arc_value d) inside ∙ ap (λ (o : Offers). take k (form_values forms) ++ o ∷ []) value-here in
      subst (λ xs. AreAccepted xs own') (sym taken)
      (subst (AreAccepted (take k (form_values forms) ++ form ∷ [])) (sym (recorded other).own_is)
      (all_zipped_more IsAccepted (take k (form_values forms)) own form (Submit form over, reply) accepted
      (over, number, ap (λ (r : Reply Offers). (Submit form over, r)) is)))

  -- the form at a place was not accepted after those before it, and what its session called shows it
  pub unaccepted-here : (before after : Holding) (caller : Caller) (own own' : List (Call Offers × Reply Offers)) (share share' : ℕ)
      (over : Option ℕ) (reply : Reply Offers)
      → AreAccepted (take k (form_values forms)) own → ((number : ℕ) → reply ≢ Accepted number)
      → (reply ≢ CallLimit → IsRecorded before after caller own own' share share' (Submit (arc_value d) over) reply) → (reply ≡ CallLimit → own' ≡ own)
      → ¬ (AreAccepted (form_values forms) own')
  unaccepted-here before after caller own own' share share' over reply accepted other recorded limit all =
      let short : length own ≡ length (take k (form_values forms)) = AllZip-long IsAccepted (take k (form_values forms)) own accepted in
      let long : length own' ≡ length (form_values forms) = AllZip-long IsAccepted (form_values forms) own' all in
      elim (at-limit reply) [
        | inl is ↦
            (let kept : length own' ≡ length own = ap length (limit is) in absurd
            (omega (arith, inside, length-take-le k (form_values forms) (omega (arith, inside)))))
        | inr more ↦ (let last = accepted-last (form_values forms) own (Submit (arc_value d) over, reply)
            (subst (AreAccepted (form_values forms)) (recorded more).own_is all) in absurd (other last.0 last.1))
      ]

-- sessions that are handed in have submitted their bidders' forms
module _ (forms : List Offers) (lists : Lists) (by : AreByBidder forms lists) where
  idle-submitted : (s : SessionOwn) → IsIdle lists s → HasSubmitted forms s
  idle-submitted s idle = record {
    first = λ one.
        (let none : [] ≡ forms_of s.bidder forms = sym (idle.none one) ∙ by s.bidder in
        subst (λ xs. AreAccepted xs s.pairs) none (subst (λ pairs. AreAccepted [] pairs) (sym idle.fresh) tt));
    other = λ other. idle.fresh;
  }

  job-submitted : (job : JobOwn) (s : SessionOwn) (ended : Result (Unit {0}) RoundFault) → IsFirstJob lists job → ComesTo job s ended
      → ended ≡ Ok tt → HasSubmitted forms s
  job-submitted job s ended first done ok =
      let accepted : AreAccepted job.forms s.pairs = subst (λ (r : Result (Unit {0}) RoundFault). OnOk r (AreAccepted job.forms s.pairs)) ok done.accepted in
      let forms_are : job.forms ≡ forms_of s.bidder forms = first.forms ∙ by job.session.bidder ∙ ap (λ b. forms_of b forms) (sym done.bidder_is) in
      record {
        first = λ one. subst (λ xs. AreAccepted xs s.pairs) forms_are accepted;
        other = λ other. absurd (other (done.session_is ∙ first.first));
      }

  jobs-submitted : {D : Type 0} (session_of : D → SessionOwn) (ended_of : D → Result (Unit {0}) RoundFault) (jobs : List JobOwn) (done : List D)
      → AllZip (λ (job : JobOwn) (d : D). ComesTo job (session_of d) (ended_of d)) jobs done → All (IsFirstJob lists) jobs
      → All (λ (d : D). ended_of d ≡ Ok tt) done
      → All (HasSubmitted forms) (map session_of done)
  jobs-submitted session_of ended_of [] [] each first ok = All-nil (HasSubmitted forms)
  jobs-submitted session_of ended_of [] (d ∷ done) each first ok = absurd each
  jobs-submitted session_of ended_of (job ∷ jobs) [] each first ok = absurd each
  jobs-submitted {D} session_of ended_of (job ∷ jobs) (d ∷ done) each first ok =
      All-cons (HasSubmitted forms) (session_of d) (map session_of done)
      (job-submitted job (session_of d) (ended_of d) (All-head (IsFirstJob lists) job jobs first) each.0 (All-head (λ (x : D). ended_of x ≡ Ok tt) d done ok))
      (jobs-submitted session_of ended_of jobs done each.1 (All-tail (IsFirstJob lists) job jobs first) (All-tail (λ (x : D). ended_of x ≡ Ok tt) d done ok))

-- the sessions of jobs that all ended well, and the others, have submitted the forms of the lists
pub lists-submitted : {D Z E : Type 0} (lists : Lists) (session_of : D → SessionOwn) (ended_of : D → Result (Unit {0}) RoundFault)
    (others : List SessionOwn) (jobs : List JobOwn) (done : List D) (result : Result (Vec SessionOwn Z) E)
    → All (IsIdle lists) others → AllZip (λ (job : JobOwn) (d : D). ComesTo job (session_of d) (ended_of d)) jobs done
    → All (IsFirstJob lists) jobs → OnOk result (All (λ (d : D). ended_of d ≡ Ok tt) done)
    → IfOk result (λ sessions. sessions.items ≡ others ++ map session_of done) → IfOk result (λ sessions. HaveSubmitted lists sessions.items)
lists-submitted lists session_of ended_of others jobs done (Ok sessions) idle each first ok are =
    λ forms by. All-same (HasSubmitted forms) sessions.items (others ++ map session_of done) are
    (All-append (HasSubmitted forms) others (map session_of done) (All-weaker (IsIdle lists) (HasSubmitted forms) (idle-submitted forms lists by) others idle)
    (jobs-submitted forms lists by session_of ended_of jobs done each first ok))
lists-submitted lists session_of ended_of others jobs done (Err e) idle each first ok are = tt

-- the sessions of an auction are few
pub few-sessions : (t : Terms) → AreTerms t → session_count t ≤ 2048
few-sessions t within =
    let each : All (λ (bidder : Bidder). bidder.sessions ≤ 8) t.bidders = (λ k d small. (within.limits.each_bidder k d small).sessions) in
    let sum = sum_by-le (λ (bidder : Bidder). bidder.sessions) 8 t.bidders each in
    let few = within.limits.bidder_count in
    omega arith
