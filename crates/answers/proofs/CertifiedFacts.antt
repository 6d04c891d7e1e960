-- What certificates come to, one after the other.
use Rattle.std.proofs.Common.{◌≡◌, ◌≢◌, ◌<◌, ◌≤◌, ◌+◌, ◌∷◌, ◌∙◌, [], ⊎_elim, ℕ, zero, suc, true, false, List, Option, Some}
use Rattle.std.proofs.Common.{Result, Ok, Err, ap, arith, length, map, refl, replicate, slice_index_or, subst, sym, take}
use Rattle.std.proofs.Common.{inl, inr, ◌==◌, ◌⊎◌, IfErr, OnOk, slice_get, option_map}
use Rattle.std.specs.List.{AllZip}
use Rattle.std.proofs.lemmas.Bool.{cases_lt, eq-eqb, ne_eqb}
use Rattle.std.proofs.lemmas.List.{get_or_default, length-map}
use Rattle.auction_terms.specs.declared.bids.Choice.{Choice}
use Rattle.bid_desk.specs.Closing.{Closing}
use Rattle.group_compiler.specs.Compiled.{Compiling, compiling, program_without}
use Rattle.optimality.specs.Answers.{IsLimit}
use Rattle.optimality.specs.Sizes.{IsLargeAt}
use Rattle.optimality.specs.Verdict.{certificate_fault}
use Rattle.program_rows.specs.declared.certificate_fault.CertificateFault.{CertificateFault}
use Rattle.program_rows.specs.declared.certificate_fault.CertificateFaultKind.{CertificateFaultKind}
use Rattle.program_rows.specs.declared.certificate_fault.CertificateFaultKind.TheVariants as kind
use Rattle.answers.specs.Certified.{Bound, IsTooWide, bounds_of, certified, shown}
use Rattle.auction_input.specs.Refused.{Refuses}
use Rattle.auction_input.specs.declared.refusal.Refusal.{Refusal}
use Rattle.auction_input.specs.Settled.{held}
use Rattle.answers.specs.inside.Judging.{AllShown, AreFine, IsFirstFaulty, IsJudged, IsJudgedIfBegun, bounds_by, bound_held}
use Rattle.auction_terms.specs.Lines.{bytes_of}
use Rattle.auction_terms.specs.Stages.{and_then, each_in_turn, unless}
use Rattle.auction_input.specs.declared.auction.Auction as declared
use Rattle.answers.specs.declared.certified.ClaimedBound as code
use Rattle.auction_input.specs.declared.part_kind.PartKind.TheVariants as part
use Rattle.auction_input.specs.declared.refusal.Refusal.TheVariants as refusal
use Rattle.auction_input.proofs.InputTextFacts.{Text}
use Rattle.auction_input.proofs.StageFacts.{stop}

abbrev Verdict : Type 0
Verdict = Result (Unit {0}) CertificateFault

abbrev ok : Verdict
ok = Ok tt

-- a certificate whose verdict is Ok shows what it is to
shown-ok : (book : Closing) (n : ℕ) (b : code.ClaimedBound) → IsJudged book b ok → shown n (bound_held book b) ≡ Ok tt
shown-ok book n b judged = ap (λ (f : Option (ℕ × CertificateFaultKind)). unless
    (option_map (λ (f : ℕ × CertificateFaultKind). refusal.Certificate n (record { line = f.0; kind = f.1 })) f) (Ok tt)) judged.is

-- where the certificates after the first are fine too
fine-after : (book : Closing) (b : code.ClaimedBound) (bounds : List code.ClaimedBound) (count : ℕ) → AreFine book (b ∷ bounds) (suc count)
    → AreFine book bounds count
fine-after book b bounds count fine = λ k d small. fine (suc k) d (omega arith)

-- as many as there are
pub all-shown : (book : Closing) (n : ℕ) (bounds : List code.ClaimedBound) → AreFine book bounds (length bounds)
    → each_in_turn shown n (map (bound_held book) bounds) ≡ Ok (replicate (length bounds) tt)
all-shown book n [] fine = refl
all-shown book n (b ∷ bounds) fine =
    rw (shown-ok book n b (fine 0 b (omega arith)), all-shown book (n + 1) bounds (fine-after book b bounds (length bounds) fine)) refl

-- how a list of bounds ends at the first fault, which has number m
data Stops (n : ℕ) (bounds : List Bound) (before : ℕ) (f : CertificateFault) : Type 0 where
  by_memory : f.kind ≡ kind.OutOfMemory → Stops n bounds before f
  by_width : f.kind ≡ kind.TooLarge → (bound : Bound) → slice_get bounds before ≡ Some bound → IsLargeAt bound.program bound.least bound.certificate f.line
      → each_in_turn shown n (take before bounds) ≡ Ok (replicate before tt) → Stops n bounds before f
  by_fault : each_in_turn shown n bounds ≡ Err (refusal.Certificate (n + before) f) → Stops n bounds before f

first-stops : (book : Closing) (n : ℕ) (b : code.ClaimedBound) (bounds : List Bound) (f : CertificateFault)
    → IsLimit f.kind ⊎ (certificate_fault (program_without book b.group.now) b.least b.certificate.now ≡ Some (f.line, f.kind))
    → (f.kind ≡ kind.TooLarge → IsLargeAt (program_without book b.group.now) b.least b.certificate.now f.line) → Stops n (bound_held book b ∷ bounds) 0 f
first-stops book n b bounds f (inl (inl memory)) large = by_memory memory
first-stops book n b bounds f (inl (inr wide)) large = by_width wide (bound_held book b) refl (large wide) refl
first-stops book n b bounds f (inr found) large =
    let parsed : shown n (bound_held book b) ≡ Err (refusal.Certificate n f) = ap
    (λ (o : Option (ℕ × CertificateFaultKind)). unless (option_map
    (λ (f : ℕ × CertificateFaultKind). refusal.Certificate n (record { line = f.0; kind = f.1 })) o) (Ok tt)) found in
    let here : n + 0 ≡ n = omega arith in
    by_fault (rw (parsed, here) refl)

later-stops : (book : Closing) (n : ℕ) (b : code.ClaimedBound) (bounds : List Bound) (before : ℕ) (f : CertificateFault)
    → IsJudged book b ok → Stops (n + 1) bounds before f → Stops n (bound_held book b ∷ bounds) (suc before) f
later-stops book n b bounds before f first (by_memory memory) = by_memory memory
later-stops book n b bounds before f first (by_width wide bound at large all) = by_width wide bound at large (rw (shown-ok book n b first, all) refl)
later-stops book n b bounds before f first (by_fault parsed) =
    let count : n + 1 + before ≡ n + suc before = omega arith in
    by_fault (rw (shown-ok book n b first, parsed, count) refl)

stops : (book : Closing) (n : ℕ) (bounds : List code.ClaimedBound) (before : ℕ) (f : CertificateFault) → before < length bounds
    → AreFine book bounds before → ((d : code.ClaimedBound) → IsJudged book (slice_index_or bounds before d) (Err f))
    → Stops n (map (bound_held book) bounds) before f
stops book n [] before f within fine faulty = absurd (omega arith)
stops book n (b ∷ bounds) zero f within fine faulty = first-stops book n b (map (bound_held book) bounds) f (faulty b).is (faulty b).large
stops book n (b ∷ bounds) (suc before) f within fine faulty =
    later-stops book n b (map (bound_held book) bounds) before f (fine 0 b (omega arith))
    (stops book (n + 1) bounds before f (omega arith) (fine-after book b bounds before fine) faulty)

abbrev pub EndsChecks : List Bound → Refusal → Type 0
EndsChecks bounds r = Refuses (each_in_turn shown 1 bounds) r ⊎ IsTooWide bounds r

refusal-at : (bounds : List Bound) (before : ℕ) (line : ℕ) (k : CertificateFaultKind)
    → Stops 1 bounds before (record { line = line; kind = k })
    → EndsChecks bounds (refusal.Certificate (before + 1) (record { line = line; kind = k }))
refusal-at bounds before line k (by_memory memory) = inl (inr (rw memory refl))
refusal-at bounds before line k (by_width wide bound at large all) = inr (before, line, bound, at, (replicate before tt, all), large, rw wide refl)
refusal-at bounds before line k (by_fault parsed) =
    let count : 1 + before ≡ before + 1 = omega arith in
    inl (inl (rw count at parsed))

-- the first fault ends the checks
pub ends-checks : (book : Closing) (bounds : List code.ClaimedBound) (r : Refusal) → IsFirstFaulty book bounds r → EndsChecks (map (bound_held book) bounds) r
ends-checks book bounds (refusal.Certificate n f) (before, within, fine, faulty, number) =
    let stopped = stops book 1 bounds before f within fine faulty in
    subst (λ (m : ℕ). EndsChecks (map (bound_held book) bounds) (refusal.Certificate m f)) (sym number)
    (refusal-at (map (bound_held book) bounds) before f.line f.kind stopped)
ends-checks book bounds r is = absurd is

-- where no certificate has a fault, all show what they are to
pub all-checked : (book : Closing) (bounds : List code.ClaimedBound) (r : Result (Unit {0}) Refusal)
    → OnOk r (AreFine book bounds (length bounds)) → OnOk r (AllShown (map (bound_held book) bounds))
all-checked book bounds (Ok u) fine = (replicate (length bounds) tt, all-shown book 1 bounds fine)
all-checked book bounds (Err r) fine = tt

-- a verdict at its place
pub verdict-at : (book : Closing) (bounds : List code.ClaimedBound) (verdicts : List (Option Verdict)) (k : ℕ) (b : code.ClaimedBound)
    (v : Option Verdict) → AllZip (IsJudgedIfBegun book) bounds verdicts → k < length bounds
    → IsJudgedIfBegun book (slice_index_or bounds k b) (slice_index_or verdicts k v)
verdict-at book [] verdicts k b v each within = absurd (omega arith)
verdict-at book (x ∷ bounds) [] k b v each within = absurd each
verdict-at book (x ∷ bounds) (y ∷ verdicts) zero b v each within = each.0
verdict-at book (x ∷ bounds) (y ∷ verdicts) (suc k) b v each within = verdict-at book bounds verdicts k b v each.1 (omega arith)

-- one more certificate without a fault
pub fine-more : (book : Closing) (bounds : List code.ClaimedBound) (count : ℕ) (b : code.ClaimedBound) → count < length bounds
    → b ≡ slice_index_or bounds count b → AreFine book bounds count → IsJudged book b ok → AreFine book bounds (count + 1)
fine-more book bounds count b within is fine own = λ k d small. ⊎_elim
    (λ (before : k < count). fine k d before)
    (λ (here : count ≤ k).
    let at : count ≡ k = omega arith in
    subst (λ (n : ℕ). IsJudged book (slice_index_or bounds n d) ok) at
    (subst (λ (x : code.ClaimedBound). IsJudged book x ok) (is ∙ get_or_default bounds count b d within) own))
    (cases_lt k count)

-- ---- the certificates of an auction

module _ (auction : declared.Auction) (won : List (List Choice)) where
  abbrev texts : List (List ℕ)
  texts = bytes_of auction.certificates.items

  -- what is judged by the auction's compiler are the auction's bounds
  pub bounds-are : (compiler : Compiling) (judged bounds : List code.ClaimedBound) (certificates : List Text)
      → compiler ≡ compiling auction.book auction.groups → judged ≡ bounds → certificates ≡ auction.certificates.items
      → map (bound_held auction.book) bounds ≡ bounds_by auction.book auction.groups won (bytes_of certificates)
      → map (bound_held compiler.book) judged ≡ bounds_of (held auction) won
  bounds-are compiler judged bounds certificates own same each made =
      ap (λ (k : Compiling). map (bound_held k.book) judged) own ∙ ap (λ (bs : List code.ClaimedBound). map (bound_held auction.book) bs) same ∙ made
      ∙ ap (λ (xs : List Text). bounds_by auction.book auction.groups won (bytes_of xs)) each

  pub certificates-miscounted : length auction.certificates.items ≢ length auction.groups
      → Refuses (certified (held auction) won) (refusal.PartCount part.Certificate)
  certificates-miscounted other =
      let differ : (length texts == length auction.groups) ≡ false =
      ne_eqb _ _ (λ same. other (sym (length-map auction.certificates.items (λ (text : Text). text.now)) ∙ same)) in
      inl (rw differ refl)

  module _ (each : length auction.certificates.items ≡ length auction.groups) where
    pub counted-so : length texts ≡ length auction.groups
    counted-so = length-map auction.certificates.items (λ (text : Text). text.now) ∙ each

    goes-over : certified (held auction) won ≡ and_then (each_in_turn shown 1 (bounds_of (held auction) won)) (λ all. Ok won)
    goes-over = (let equal : (length texts == length auction.groups) ≡ true = eq-eqb _ _ counted-so in rw equal refl)

    pub are-certified : (bounds : List Bound) → bounds ≡ bounds_of (held auction) won → AllShown bounds → certified (held auction) won ≡ Ok won
    are-certified bounds same (all, parsed) = goes-over ∙ ap (λ (r : Result (List (Unit {0})) Refusal). and_then r (λ units. Ok won)) (rw same at parsed)

    pub are-refused : (bounds : List Bound) (r : Refusal) → bounds ≡ bounds_of (held auction) won → EndsChecks bounds r
        → Refuses (certified (held auction) won) r ⊎ ((length (held auction).certificates ≡ length auction.groups) × IsTooWide (bounds_of (held auction) won) r)
    are-refused bounds r same (inl refused) = inl (subst (λ (parsed : Result (List (List Choice)) Refusal). Refuses parsed r)
        (sym goes-over) (stop _ _ r (subst (λ (bs : List Bound). Refuses (each_in_turn shown 1 bs) r) same refused)))
    are-refused bounds r same (inr wide) = inr (counted-so, subst (λ (bs : List Bound). IsTooWide bs r) same wide)

    pub are-certified-by : (bounds : List Bound) (r : Result (Unit {0}) Refusal) → bounds ≡ bounds_of (held auction) won
        → OnOk r (AllShown bounds) → OnOk r (certified (held auction) won ≡ Ok won)
    are-certified-by bounds (Ok u) same all = are-certified bounds same all
    are-certified-by bounds (Err e) same all = tt

    pub are-refused-by : (bounds : List Bound) (r : Result (Unit {0}) Refusal) → bounds ≡ bounds_of (held auction) won → IfErr r (EndsChecks bounds)
        → IfErr r (λ e. Refuses (certified (held auction) won) e ⊎ ((length (held auction).certificates ≡ length auction.groups) × IsTooWide
        (bounds_of (held auction) won) e))
    are-refused-by bounds (Ok u) same ends = tt
    are-refused-by bounds (Err e) same ends = are-refused bounds e same ends
