-- All faults begin with the first one, stage by stage.
use Rattle.std.proofs.Common.{◌≡◌, ◌+◌, ◌++◌, ◌∷◌, ◌∙◌, ℕ, List, [], Option, None, Some, Result, Ok, Err, ap, refl}
use Rattle.std.proofs.lemmas.List.{map-append}
use Rattle.auction_terms.specs.AllFaults.{accepted_with, all_faults}
use Rattle.auction_terms.specs.Judged.{Fault, reported_as}
use Rattle.auction_terms.specs.Stages.{and_then, each_in_turn, refused_as, unless}
use Rattle.input_faults.specs.FaultsAs.{BeginWith, fault_as, judged_as}

-- where a value is parsed there is no fault
pub none-reported : {A F G : Type 0} (whole : F → G) (faults : List (Fault F)) (reported : Result A G) (x : A)
    → BeginWith (judged_as whole faults) reported → reported ≡ Ok x → faults ≡ []
none-reported whole [] reported x are is = refl
none-reported whole (at ∷ more) (Ok y) x are is = cc
none-reported whole (at ∷ more) (Err f) x are is = cc

-- one fault, if there is one
pub begin-fault : {A F G H : Type 0} (part : F → G) (whole : G → H) (fault : Option F) (x : A)
    → BeginWith (judged_as whole (fault_as part fault)) (refused_as (λ f. whole (part f)) (unless fault (Ok x)))
begin-fault part whole None x = refl
begin-fault part whole (Some f) x = (_, [], refl, refl)

-- a stage, and what is reported after it
pub begin-next : {A B F G : Type 0} (whole : F → G) (some others : List (Fault F)) (reported : Result A G) (next : A → Result B G)
    → BeginWith (judged_as whole some) reported
    → ((x : A) → reported ≡ Ok x → BeginWith (judged_as whole others) (next x)) → BeginWith (judged_as whole (some ++ others)) (and_then reported next)
begin-next whole [] others (Ok x) next are after = after x refl
begin-next whole (at ∷ some) others (Ok x) next are after = cc
begin-next whole some others (Err f) next (first, more, are, is) after = (
  first,
  more ++ judged_as whole others,
  map-append (λ at. reported_as (whole at.fault) at) some others ∙ ap (λ faults. faults ++ judged_as whole others) are,
  is,
)

-- the same faults, where more is made of what is reported
pub begin-more : {A B F : Type 0} (faults : List (Fault F)) (reported : Result A F) (make : A → B) → BeginWith faults reported
    → BeginWith faults (and_then reported (λ x. Ok (make x)))
begin-more faults (Ok x) make are = are
begin-more faults (Err f) make are = are

-- items one after the other
pub begin-each : {X A F G : Type 0} (whole : F → G) (faults_of : ℕ → X → List (Fault F)) (parse : ℕ → X → Result A G)
    → ((n : ℕ) (x : X) → BeginWith (judged_as whole (faults_of n x)) (parse n x))
    → (n : ℕ) (before items : List X) → BeginWith (judged_as whole (all_faults (λ k accepted x. faults_of k x) n before items)) (each_in_turn parse n items)
unfolding all_faults
begin-each whole faults_of parse each n before [] = refl
begin-each {X} {A} {F} {G} whole faults_of parse each n before (x ∷ items) =
    begin-next whole (faults_of n x) (all_faults (λ k accepted y. faults_of k y) (n + 1) (accepted_with (faults_of n x) before x) items) (parse n x)
    (λ reported. and_then (each_in_turn parse (n + 1) items) (λ more. Ok (reported ∷ more))) (each n x)
    (λ reported is. begin-more _ (each_in_turn parse (n + 1) items) (λ more. reported ∷ more)
    (begin-each whole faults_of parse each (n + 1) (accepted_with (faults_of n x) before x) items))
