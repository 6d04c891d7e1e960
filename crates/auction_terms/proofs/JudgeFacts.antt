-- What is told a judge, one fault after the other; and what the judges keep.
use Rattle.std.proofs.Common.{◌≡◌, ◌≢◌, ◌≤◌, ◌<◌, ◌+◌, ◌-◌, ◌∷◌, ◌++◌, ◌∙◌, ℕ, List, [], refl, sym, ap, arith, append_assoc, append-nil}
use Rattle.std.proofs.Common.{slice_index_or, length, length-append, length-take, map, take}
use Rattle.std.proofs.lemmas.List.{length-map, map-append, take-append-le}
use Rattle.std.specs.Prelude.{◌^◌, min, Bool, Option, Some, None, Err, option_to_list}
use Rattle.auction_terms.proofs.AllFaultsFacts.{take-more}
use Rattle.auction_terms.specs.AllFaults.{or_else}
use Rattle.auction_terms.specs.FirstFault.{first_failed}
use Rattle.auction_terms.specs.inside.FirstFault.{Gives}
use Rattle.auction_terms.specs.Judged.{Fault, Holds, HoldsMore, fault_of, first_or, kept_fault}
use Rattle.auction_terms.specs.declared.judge.All.{All}
use Rattle.auction_terms.specs.declared.judge.FaultAt.{FaultAt}

pub holds-none : {F : Type 0} (held : All F) → HoldsMore held held []
holds-none held most faults holds = rw (append-nil faults) holds

pub holds-both : {F : Type 0} (first second third : All F) (some others : List (Fault F)) → HoldsMore first second some → HoldsMore second third others
    → HoldsMore first third (some ++ others)
holds-both first second third some others front back most faults holds = rw (← append_assoc faults some others) (back most (faults ++ some) (front most faults holds))

-- nothing is kept only where nothing was found
pub none-held : {F : Type 0} (most : ℕ) (held : All F) (faults : List (Fault F)) → 1 ≤ most → Holds most held faults → length held.kept.items ≡ 0 → faults ≡ []
none-held most held [] some holds none = refl
none-held {F} most held (fault ∷ more) some holds none =
    let size = length-map held.kept.items (kept_fault {F = F}) in
    let n = ap length holds.kept in
    let m = length-take most (fault ∷ more) in
    absurd (omega arith)

-- and else the first that was
pub first-held : {A F : Type 0} (held : All F) (faults : List (Fault F)) (value : A) (none : FaultAt F) → Holds 1 held faults
    → 1 ≤ length held.kept.items → Err (slice_index_or held.kept.items 0 none).fault ≡ first_or faults value
first-held {A} {F} held faults value none holds some = by held.kept.items faults holds.kept some
  where
    by : (kept : List (FaultAt F)) (faults : List (Fault F)) → map kept_fault kept ≡ take 1 faults → 1 ≤ length kept
        → Err (slice_index_or kept 0 none).fault ≡ first_or faults value
    by [] faults is some = absurd (omega arith)
    by (at ∷ rest) [] is some = cc is
    by (at ∷ rest) (fault ∷ more) is some = let same : kept_fault at ≡ fault = cc is in rw (← same) refl

-- where some were found, some are kept
pub some-held : {F : Type 0} (most : ℕ) (held : All F) (faults : List (Fault F)) → 1 ≤ most → Holds most held faults → faults ≢ [] → 1 ≤ length held.kept.items
some-held {F} most held [] room holds some = absurd (some refl)
some-held {F} most held (fault ∷ more) room holds some =
    let size = length-map held.kept.items (kept_fault {F = F}) in
    let n = ap length holds.kept in
    let m = length-take most (fault ∷ more) in
    omega arith

-- and where some are kept, some were found
pub found-some : {F : Type 0} (most : ℕ) (held : All F) (faults : List (Fault F)) → Holds most held faults → (length held.kept.items ≡ 0 → ⊥) → faults ≢ []
found-some {F} most held [] holds some none =
    let faults : List (Fault F) = [] in
    let size = length-map held.kept.items (kept_fault {F = F}) in
    let n = ap length holds.kept in
    some (let m = length-take most faults in omega arith)
found-some most held (fault ∷ more) holds some none = cc none

-- faults of which some are kept, so that what rests on their absence isn't looked at
pub held-some : {F : Type 0} (most : ℕ) (held : All F) (faults others : List (Fault F)) → Holds most held faults → (length held.kept.items ≡ 0 → ⊥)
    → Holds most held (or_else faults others) × (or_else faults others ≢ [])
held-some {F} most held [] others holds some =
    let faults : List (Fault F) = [] in
    let size = length-map held.kept.items (kept_fault {F = F}) in
    let n = ap length holds.kept in
    absurd (some (let m = length-take most faults in omega arith))
held-some most held (fault ∷ more) others holds some = (holds, λ e. cc e)

-- a value that is given where there are no faults is given where there are no others
pub gives-same : {T F : Type 0} (some others : List (Fault F)) (result : Option T) (value : T) → Gives some result value → some ≡ [] → others ≡ []
    → Gives others result value
gives-same some others None value gives none empty = absurd (gives none)
gives-same some others (Some x) value gives none empty = (empty, gives.1)

-- ---------- of all faults ----------

pub holds-more : {F : Type 0} (most : ℕ) (old new : All F) (faults : List (Fault F)) (at : FaultAt F) → Holds most old faults → length old.kept.items < old.most → new.most ≡ old.most
    → new.kept.items ≡ old.kept.items ++ at ∷ [] → new.more ≡ old.more → Holds most new (faults ++ kept_fault at ∷ [])
holds-more {F} most old new faults at holds room limit added same =
    let size = length-map old.kept.items (kept_fault {F = F}) in
    let sizes = ap length holds.kept in
    let own = holds.limit in
    let short : length (take most faults) < most = omega arith in
    let n = length-take most faults in
    let m = length-append faults (kept_fault at ∷ []) in
    let more = holds.more in
    let own = holds.limit in
    record {
      limit = limit ∙ holds.limit;
      kept = ap (map kept_fault) added ∙ map-append kept_fault old.kept.items (at ∷ []) ∙ ap (λ xs. xs ++ kept_fault at ∷ []) holds.kept
          ∙ sym (take-more most faults (kept_fault at) short);
      more = omega arith;
    }

pub holds-count : {F : Type 0} (most : ℕ) (old new : All F) (faults : List (Fault F)) (f : Fault F) → Holds most old faults → old.most ≤ length old.kept.items → new.most ≡ old.most
    → new.kept.items ≡ old.kept.items → new.more ≡ min (old.more + 1) (2 ^ 64 - 1) → Holds most new (faults ++ f ∷ [])
holds-count {F} most old new faults f holds full limit same counted =
    let size = length-map old.kept.items (kept_fault {F = F}) in
    let sizes = ap length holds.kept in
    let n = length-take most faults in
    let m = length-append faults (f ∷ []) in
    let more = holds.more in
    let own = holds.limit in
    record {
      limit = limit ∙ holds.limit;
      kept = ap (map kept_fault) same ∙ holds.kept ∙ sym (take-append-le most faults (f ∷ []) (omega arith));
      more = omega arith;
    }

-- ---------- checks ----------

-- a fault is reported just where a check fails
pub none-failed : {F : Type 0} (checks : List (Bool × Fault F)) → fault_of checks ≡ [] → first_failed checks ≡ None
none-failed {F} checks none = by (first_failed checks) none
  where
    by : (o : Option (Fault F)) → option_to_list o ≡ [] → o ≡ None
    by None none = refl
    by (Some f) none = cc none

pub failed-none : {F : Type 0} (checks : List (Bool × Fault F)) → first_failed checks ≡ None → fault_of checks ≡ []
failed-none checks none = rw none refl
