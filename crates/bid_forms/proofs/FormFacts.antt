-- What the loop over the records after the header keeps, and what a reader finds.
use Rattle.std.proofs.Common.{◌≡◌, ◌≢◌, ◌≤◌, ◌+◌, ◌∷◌, ◌++◌, ◌∙◌, ℕ, zero, suc, List, [], length, IsTrue, ap, append-nil, append_assoc, map, refl, sym, arith, length-append}
use Rattle.std.proofs.Common.{Err, slice_index_or, take}
use Rattle.std.proofs.lemmas.List.{length-map, map-append}
use Rattle.std.proofs.lemmas.List.Elements.{All-push}
use Rattle.std.proofs.lemmas.List.Quantifiers.{all_pairs_push}
use Rattle.auction_terms.proofs.AcceptedFacts.{both-none}
use Rattle.auction_terms.proofs.AllFaultsFacts.{found-all, found-more}
use Rattle.auction_terms.proofs.GroupsTextFacts.{accepted-more}
use Rattle.auction_terms.proofs.JudgeFacts.{first-held, holds-both, none-held}
use Rattle.auction_terms.specs.AllFaults.{accepted_with, all_faults}
use Rattle.auction_terms.specs.Judged.{Fault, Holds, HoldsMore, first_or, kept_fault}
use Rattle.auction_terms.specs.Records.{Record}
use Rattle.auction_terms.specs.Terms.{Terms}
use Rattle.auction_terms.specs.declared.bids.Bid.{Bid}
use Rattle.auction_terms.specs.declared.judge.All.{All as Held}
use Rattle.auction_terms.specs.declared.judge.FaultAt.{FaultAt}
use Rattle.bid_forms.specs.AcceptedForms.{IsBidRecord}
use Rattle.bid_forms.specs.Offers.{is_bid_under}
use Rattle.bid_forms.specs.FormText.{bid_faults, bids_faults, parsed_bid, record_faults}
use Rattle.bid_forms.specs.declared.form_text.FormFault.{FormFault}
use Rattle.bid_forms.specs.inside.FormText.{AreBids, FindsEnough}
use Rattle.bid_forms.proofs.BidFacts.{bid-passes}

-- ---------- the bids of the records without a fault ----------

-- with the bid of one more record, where it has no fault
are-more : (t : Terms) (eligibility place : ℕ) (bids : List Bid) (r : Record) → AreBids t eligibility bids
    → AreBids t eligibility (accepted_with (bid_faults t eligibility place bids r) bids (parsed_bid r))
are-more t eligibility place bids r are = by (bid_faults t eligibility place bids r) (bid-passes t eligibility place bids r)
  where
    by : (own : List (Fault FormFault)) → (own ≡ [] → IsBidRecord t eligibility bids r) → AreBids t eligibility (accepted_with own bids (parsed_bid r))
    by (f ∷ more) passes = are
    by [] passes =
        let is = passes refl in
        let room = is.room in
        record {
          few = (let n = length-append bids (parsed_bid r ∷ []) in omega arith);
          each = All-push (λ b. IsTrue (is_bid_under t eligibility b)) bids (parsed_bid r) are.each is.allowed;
          differ = all_pairs_push (λ x y. x.package ≢ y.package) bids (parsed_bid r) are.differ is.new;
        }

-- these faults were found before the records that are left, and the bids are those of the accepted ones
pub record BidsTaken (t : Terms) (eligibility : ℕ) (all rest : List Record) (place : ℕ) (bids : List Bid) (so_far : List (Fault FormFault)) : Type 0 where
  pub accepted : List Record
  pub found_are : bids_faults t eligibility all ≡ so_far ++ all_faults (record_faults t eligibility) place accepted rest
  pub bids_are : bids ≡ map parsed_bid accepted
  pub whole : so_far ≡ [] → accepted ++ rest ≡ all
  pub place_is : place + length rest ≡ 2 + length all
  pub are : AreBids t eligibility bids

map-accepted : {F : Type 0} (own : List F) (accepted : List Record) (r : Record)
    → accepted_with own (map parsed_bid accepted) (parsed_bid r) ≡ map parsed_bid (accepted_with own accepted r)
map-accepted [] accepted r = sym (map-append parsed_bid accepted (r ∷ []))
map-accepted (f ∷ more) accepted r = refl

-- one more record
pub bids-more : (t : Terms) (eligibility : ℕ) (all ahead rest : List Record) (place : ℕ) (old new : List Bid) (so_far : List (Fault FormFault)) (r : Record)
    → BidsTaken t eligibility all ahead place old so_far → ahead ≡ r ∷ rest
    → new ≡ accepted_with (bid_faults t eligibility place old r) old (parsed_bid r)
    → BidsTaken t eligibility all rest (place + 1) new (so_far ++ bid_faults t eligibility place old r)
bids-more t eligibility all ahead rest place old new so_far r so next took =
    let faults = bid_faults t eligibility place old r in
    let same : record_faults t eligibility place so.accepted r ≡ faults = ap (λ bids. bid_faults t eligibility place bids r) (sym so.bids_are) in
    let more = found-more (record_faults t eligibility) _ so_far place so.accepted ahead rest r so.found_are next in
    let count = so.place_is in
    let n = ap length next in
    record {
      accepted = accepted_with faults so.accepted r;
      found_are = rw same at more;
      bids_are = took ∙ ap (λ bids. accepted_with faults bids (parsed_bid r)) so.bids_are ∙ map-accepted faults so.accepted r;
      whole = λ none. accepted-more so_far faults so.accepted ahead rest all r so.whole next none;
      place_is = omega arith;
      are = rw took (are-more t eligibility place old r so.are);
    }

-- no record is left
pub bids-all : (t : Terms) (eligibility : ℕ) (all ahead : List Record) (place : ℕ) (bids : List Bid) (so_far : List (Fault FormFault))
    → BidsTaken t eligibility all ahead place bids so_far → ahead ≡ []
    → (bids_faults t eligibility all ≡ so_far) × (bids_faults t eligibility all ≡ [] → bids ≡ map parsed_bid all)
bids-all t eligibility all ahead place bids so_far so none =
    let found = found-all (record_faults t eligibility) _ so_far place so.accepted ahead so.found_are none in
    (found, λ empty. let same = rw none at (so.whole (sym found ∙ empty)) in so.bids_are ∙ ap (map parsed_bid) (sym (append-nil so.accepted) ∙ same))

-- ---------- what is found ----------

module _ {F : Type 0} where
  -- all of it
  pub enough-all : (old new : Held F) (faults : List (Fault F)) → HoldsMore old new faults → FindsEnough old new faults
  enough-all old new faults holds =
      record { found = faults; left = []; faults_are = sym (append-nil faults); holds = holds; enough = λ some. absurd (some refl) }

  -- the first ones, where one is wanted and is kept
  pub enough-here : (old new : Held F) (faults found left : List (Fault F)) → faults ≡ found ++ left → HoldsMore old new found
      → (new.most ≡ 1) × (1 ≤ length new.kept.items) → FindsEnough old new faults
  enough-here old new faults found left are holds kept =
      record { found = found; left = left; faults_are = are; holds = holds; enough = λ some. kept }

  -- some, and then enough of the others
  pub enough-after : (first second third : Held F) (some others : List (Fault F)) → HoldsMore first second some → FindsEnough second third others
      → FindsEnough first third (some ++ others)
  enough-after first second third some others front back =
      record {
        found = some ++ back.found;
        left = back.left;
        faults_are = ap (λ faults. some ++ faults) back.faults_are ∙ sym (append_assoc some back.found back.left);
        holds = holds-both first second third some back.found front back.holds;
        enough = back.enough;
      }

  none-left : (left : List (Fault F)) → (left ≢ [] → ⊥) → left ≡ []
  none-left [] some = refl
  none-left (f ∷ more) some = absurd (some (λ is. cc is))

  -- where nothing is kept there is no fault
  pub enough-none : (most : ℕ) (old new : Held F) (faults : List (Fault F)) → 1 ≤ most → Holds most old [] → FindsEnough old new faults
      → length new.kept.items ≡ 0 → faults ≡ []
  enough-none most old new faults room before finds empty =
      let found = none-held most new finds.found room (finds.holds most [] before) empty in
      let left = none-left finds.left (λ some. let kept = (finds.enough some).1 in omega arith) in
      finds.faults_are ∙ rw (found, left) refl

  -- where there is a fault, something is kept
  pub enough-kept : (most : ℕ) (old new : Held F) (faults : List (Fault F)) → 1 ≤ most → Holds most old [] → FindsEnough old new faults → faults ≢ []
      → 1 ≤ length new.kept.items
  enough-kept most old new faults room before finds some = by (length new.kept.items) refl
    where
      by : (n : ℕ) → length new.kept.items ≡ n → 1 ≤ n
      by zero none = absurd (some (enough-none most old new faults room before finds none))
      by (suc n) more = omega arith

  take-none : (n : ℕ) → take {A = Fault F} n [] ≡ []
  take-none zero = refl
  take-none (suc n) = refl

  nothing-kept : (most : ℕ) (found : List (Fault F)) (new : Held F) → map kept_fault new.kept.items ≡ take most found → 1 ≤ length new.kept.items
      → found ≢ []
  nothing-kept most found new kept some none =
      let size = length-map new.kept.items (kept_fault {F = F}) in
      let same : map kept_fault new.kept.items ≡ [] = kept ∙ ap (take most) none ∙ take-none most in
      let sizes = ap length same in
      absurd (omega arith)

  -- and where something is, there is one
  pub enough-some : (most : ℕ) (old new : Held F) (faults : List (Fault F)) → Holds most old [] → FindsEnough old new faults
      → 1 ≤ length new.kept.items → faults ≢ []
  enough-some most old new faults before finds some none =
      let found : finds.found ≡ [] = (both-none finds.found finds.left (sym finds.faults_are ∙ none)).0 in
      nothing-kept most finds.found new (finds.holds most [] before).kept some found

  -- where one is wanted the first is kept
  pub enough-first : {A : Type 0} (old new : Held F) (faults : List (Fault F)) (value : A) (none : FaultAt F) → Holds 1 old [] → FindsEnough old new faults
      → 1 ≤ length new.kept.items → Err (slice_index_or new.kept.items 0 none).fault ≡ first_or faults value
  enough-first old new faults value none before finds some =
      first-held new finds.found value none (finds.holds 1 [] before) some ∙ begins finds.found (nothing-kept 1 finds.found new (finds.holds 1 [] before).kept some)
      ∙ ap (λ fs. first_or fs value) (sym finds.faults_are)
    where
      begins : (found : List (Fault F)) → found ≢ [] → first_or found value ≡ first_or (found ++ finds.left) value
      begins [] not = absurd (not refl)
      begins (f ∷ more) not = refl

  -- where more are wanted, all of them
  pub enough-whole : (most : ℕ) (old new : Held F) (faults : List (Fault F)) → 2 ≤ most → Holds most old [] → FindsEnough old new faults
      → Holds most new faults
  enough-whole most old new faults many before finds =
      let held = finds.holds most [] before in
      let limit = held.limit in
      let left = none-left finds.left (λ some. let one = (finds.enough some).0 in omega arith) in
      let all : faults ≡ finds.found = finds.faults_are ∙ rw left (append-nil finds.found) in
      rw all held
