-- Faults of a text that are added to those of an input.
use Rattle.std.proofs.Common.{◌≡◌, ◌≤◌, ◌+◌, ◌-◌, ◌++◌, ◌∷◌, ◌∙◌, ℕ, zero, suc, List, [], ap, append_assoc, append-nil, arith, length, length-append}
use Rattle.std.proofs.Common.{length-take, refl, sym, take}
use Rattle.std.proofs.Common.{map}
use Rattle.std.proofs.lemmas.List.{length-map, map-append, take-map, take-take}
use Rattle.std.specs.Prelude.{◌^◌, min}
use Rattle.auction_terms.specs.declared.limits.TheConstants.{MOST_FAULTS}
use Rattle.auction_terms.specs.Judged.{Fault, Holds, HoldsMore, kept_fault, reported_as}
use Rattle.auction_terms.specs.declared.judge.All.{All}
use Rattle.auction_terms.specs.declared.judge.FaultAt.{FaultAt}
use Rattle.input_faults.specs.FaultsAs.{judged_as}
use Rattle.input_faults.specs.inside.Finding.{FindsMore}

-- none
pub finds-none : {F : Type 0} (held : All F) → FindsMore held held []
finds-none held faults holds = rw (append-nil faults) holds

-- some, and then others
pub finds-both : {F : Type 0} (first second third : All F) (some others : List (Fault F)) → FindsMore first second some
    → FindsMore second third others → FindsMore first third (some ++ others)
finds-both first second third some others front back faults holds = rw (← append_assoc faults some others) (back (faults ++ some) (front faults holds))

-- the front of a list and of the front of another
take-both : {X : Type 0} (n k : ℕ) (xs ys : List X) → n ≤ k → take n (xs ++ take k ys) ≡ take n (xs ++ ys)
take-both n k [] ys few = take-take n k ys few
take-both zero k (x ∷ xs) ys few = refl
take-both (suc n) k (x ∷ xs) ys few = ap (λ zs. x ∷ zs) (take-both n k xs ys (omega arith))

-- where the first of these faults were added, and the others counted, all of them were found
finds-all : {G : Type 0} (old middle new : All G) (kept faults : List (Fault G)) (more : ℕ) → kept ≡ take MOST_FAULTS faults
    → more ≡ min (length faults - MOST_FAULTS) (2 ^ 64 - 1) → FindsMore old middle kept → new.most ≡ middle.most
    → new.kept.items ≡ middle.kept.items → new.more ≡ min (middle.more + more) (2 ^ 64 - 1) → FindsMore old new faults
finds-all old middle new kept faults others front counted adds limit same count before holds =
    let first = rw front at (adds before holds) in
    let a = length-append before (take MOST_FAULTS faults) in
    let b = length-append before faults in
    let t = length-take MOST_FAULTS faults in
    let m = first.more in
    record {
      limit = limit ∙ first.limit;
      kept = ap (map kept_fault) same ∙ first.kept ∙ take-both MOST_FAULTS MOST_FAULTS before faults (omega arith);
      more = omega arith;
    }

-- ---------- faults with their bytes ----------

abbrev pub kept_as : {F G : Type 0} → (F → G) → List (FaultAt F) → List (Fault G)
kept_as whole faults = map (λ at. reported_as (whole at.fault) (kept_fault at)) faults

kept-as : {F G : Type 0} (whole : F → G) (faults : List (FaultAt F)) → kept_as whole faults ≡ judged_as whole (map kept_fault faults)
kept-as whole [] = refl
kept-as whole (at ∷ more) = ap (λ fs. reported_as (whole at.fault) (kept_fault at) ∷ fs) (kept-as whole more)

pub holds-others : {F G : Type 0} (whole : F → G) (old middle new : All G) (held : All F) (faults : List (Fault F))
    → Holds MOST_FAULTS held faults → FindsMore old middle (kept_as whole held.kept.items)
    → new.most ≡ middle.most → new.kept.items ≡ middle.kept.items → new.more ≡ min (middle.more + held.more) (2 ^ 64 - 1)
    → FindsMore old new (judged_as whole faults)
holds-others {F} {G} whole old middle new held faults holds adds limit same count =
    let as_many = length-map faults (λ (at : Fault F). reported_as (whole at.fault) at) in
    let h = holds.more in
    finds-all old middle new (kept_as whole held.kept.items) (judged_as whole faults) held.more
    (kept-as whole held.kept.items ∙ ap (judged_as whole) holds.kept
    ∙ sym (take-map (λ (at : Fault F). reported_as (whole at.fault) at) MOST_FAULTS faults)) (omega arith) adds limit same count

-- one more of the kept faults is added
pub merged-more : {F G : Type 0} (whole : F → G) (old middle new : All G) (yielded rest rest' all : List (FaultAt F)) (at : FaultAt F) (told : FaultAt G)
    → FindsMore old middle (kept_as whole yielded) → yielded ++ rest ≡ all → rest ≡ at ∷ rest'
    → kept_fault told ≡ reported_as (whole at.fault) (kept_fault at) → HoldsMore middle new (kept_fault told ∷ [])
    → FindsMore old new (kept_as whole (yielded ++ at ∷ [])) × ((yielded ++ at ∷ []) ++ rest' ≡ all)
merged-more whole old middle new yielded rest rest' all at told finds are next same adds = (
  rw (map-append (λ at. reported_as (whole at.fault) (kept_fault at)) yielded (at ∷ []), ← same) (finds-both _ _ _ _ _ finds (adds MOST_FAULTS)),
  append_assoc yielded (at ∷ []) rest' ∙ ap (λ xs. yielded ++ xs) (sym next) ∙ are,
)

-- and all are
pub merged-all : {F G : Type 0} (whole : F → G) (old middle : All G) (yielded rest all : List (FaultAt F)) → FindsMore old middle (kept_as whole yielded)
    → yielded ++ rest ≡ all → length rest ≡ 0 → FindsMore old middle (kept_as whole all)
merged-all whole old middle yielded [] all finds are none = rw (← are, append-nil yielded) finds
merged-all whole old middle yielded (x ∷ rest) all finds are none = absurd (omega arith)
