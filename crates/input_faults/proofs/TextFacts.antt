-- What texts describe, and all faults of each.
use Rattle.std.proofs.Common.{◌≡◌, ◌≢◌, ◌≤◌, ◌<◌, ◌++◌, ◌∷◌, ℕ, Bool, List, [], None, Result, Ok, Err, ap, arith, length, refl, inl, inr}
use Rattle.std.specs.Prelude.{if◌then◌else◌, nat_lt}
use Rattle.std.proofs.lemmas.Bool.Decides.{leb_tells}
use Rattle.auction_input.specs.ParsedTexts.{parsed_terms}
use Rattle.auction_input.specs.declared.refusal.Refusal.{Refusal}
use Rattle.auction_terms.specs.Judged.{IsReading, fault_of_whole}
use Rattle.auction_terms.specs.Judged.{Fault as Judged}
use Rattle.auction_terms.specs.declared.judge.All.{All}
use Rattle.auction_terms.specs.Terms.{Terms}
use Rattle.auction_terms.specs.declared.limits.TheConstants.{TEXT_LIMIT}
use Rattle.input_faults.proofs.BeginFacts.{none-reported}
use Rattle.input_faults.proofs.MergeFacts.{finds-none}
use Rattle.input_faults.specs.FaultsAs.{BeginWith, judged_as, judged_of_sized}
use Rattle.input_faults.specs.inside.Finding.{FindsMore}
use Rattle.input_faults.specs.InputFaults.{faults_of_rules, faults_of_texts, faults_under, refusal_of, where_read}
use Rattle.input_faults.specs.declared.fault.Fault.{Fault}

-- where a value is parsed there is nothing more to keep
pub nothing-more : {A : Type 0} (held : All Fault) (faults : List (Judged Fault)) (reported : Result A Refusal) (x : A)
    → BeginWith (judged_as refusal_of faults) reported → reported ≡ Ok x → FindsMore held held faults
nothing-more held faults reported x are is = rw (none-reported refusal_of faults reported x are is) (finds-none held)

-- what a text gives that is judged, whatever its size
pub judged-sized : {A F : Type 0} (too_large : F) (text : List ℕ) (described : Result A F) (faults : List (Judged F)) (given : Result A (All F))
    → (TEXT_LIMIT < length text → IsReading (Err too_large) (fault_of_whole too_large None ∷ []) given)
    → (length text ≤ TEXT_LIMIT → IsReading described faults given)
    → IsReading (if nat_lt TEXT_LIMIT (length text) then Err too_large else described) (judged_of_sized too_large text faults) given
judged-sized too_large text described faults given large small =
    elim (leb_tells 4194305 (length text)) [ inl (is, more) ↦ rw is (large (omega arith)) | inr (is, few) ↦ rw is (small (omega arith)) ]

-- a text that has faults is refused
pub some-refused : {A F : Type 0} (part : F → Fault) (faults : List (Judged F)) (reported : Result A Refusal)
    → BeginWith (judged_as refusal_of (judged_as part faults)) reported → faults ≢ [] → (r : Refusal) × (reported ≡ Err r)
some-refused part faults (Err r) begin some = (r, refl)
some-refused part [] (Ok x) begin some = absurd (some refl)
some-refused part (f ∷ more) (Ok x) begin some = cc begin

-- ---- texts together

pub texts-kept : (old new : All Fault) (last_wins : Bool) (t : Terms) (rules rules' : List ℕ) (numbers : List ℕ) (forms : List (List ℕ))
    (groups : List ℕ) → rules ≡ rules' → parsed_terms rules ≡ Ok t
    → FindsMore old new (faults_of_rules rules ++ faults_under last_wins numbers forms groups t)
    → FindsMore old new (faults_of_texts last_wins rules' numbers forms groups)
texts-kept old new last_wins t text text' numbers forms groups same_text reported kept =
    let whole : faults_of_texts last_wins text numbers forms groups
    ≡ faults_of_rules text ++ faults_under last_wins numbers forms groups t = ap
    (λ (r : Result Terms Refusal). faults_of_rules text ++ where_read r (faults_under last_wins numbers forms groups)) reported in
    rw (← same_text, whole) kept
