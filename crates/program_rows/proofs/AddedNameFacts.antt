-- A set of names that gets one name after the other.
use Rattle.std.proofs.Common.{◌≡◌, ℕ, zero, suc, ◌+◌, Bool, false, ◌||◌, List, [], ◌∷◌, ◌++◌, Some, slice_get, take, refl, ap, ap₂, ◌∙◌}
use Rattle.std.specs.Prelude.{bytes_eq}
use Rattle.std.specs.List.{IsDistinct, list_any}
use Rattle.std.proofs.lemmas.List.{map-append, take_more}
use Rattle.std.proofs.lemmas.Map.Keys.{IsDistinct-head, IsDistinct-tail}
use Rattle.std.proofs.lemmas.Option.{get_or_from_slice_get, slice_get_within}
use denote.Ref.{Bor}
use Rattle.indexmap.specs.IndexSet.{insert_key}
use Rattle.auction_terms.specs.Lines.{bytes_of}
use Rattle.program_rows.proofs.EachFacts.{at_place}
use Rattle.program_rows.proofs.NamedItemFacts.{bytes_flip}

-- a name isn't among those before it
fresh : (names : List (List ℕ)) (i : ℕ) (name : List ℕ) → IsDistinct bytes_eq names → slice_get names i ≡ Some name
    → list_any (bytes_eq name) (take i names) ≡ false
fresh [] i name d e = cc e
fresh (c ∷ names) zero name d e = refl
fresh (c ∷ names) (suc i) name d e =
    ap₂ (λ a b. a || b) (bytes_flip c name (at_place (λ y. bytes_eq c y ≡ false) names i name (IsDistinct-head bytes_eq c names d) e))
    (fresh names i name (IsDistinct-tail bytes_eq c names d) e)

among_bytes : (name : List ℕ) (keys : List (Bor (List ℕ))) → list_any (λ k. bytes_eq name k.now) keys ≡ list_any (bytes_eq name) (bytes_of keys)
among_bytes name [] = refl
among_bytes name (k ∷ keys) = ap (λ b. bytes_eq name k.now || b) (among_bytes name keys)

abbrev same_bytes : Bor (List ℕ) → Bor (List ℕ) → Bool
same_bytes x y = bytes_eq x.now y.now

-- the set of the names so far gets the next one
pub one_more : (names : List (List ℕ)) (keys new : List (Bor (List ℕ))) (name : Bor (List ℕ)) (i : ℕ) → IsDistinct bytes_eq names
    → bytes_of keys ≡ take i names → slice_get names i ≡ Some name.now → new ≡ insert_key same_bytes keys name
    → bytes_of new ≡ take (i + 1) names
one_more names keys new name i distinct so_far at is =
    let absent : list_any (same_bytes name) keys ≡ false =
    among_bytes name.now keys ∙ ap (list_any (bytes_eq name.now)) so_far ∙ fresh names i name.now distinct at in
    let pushed : new ≡ keys ++ name ∷ [] = is ∙ rw absent refl in
    rw (
      pushed,
      map-append (λ (k : Bor (List ℕ)). k.now) keys (name ∷ []),
      so_far,
      take_more names i name.now (slice_get_within names i
          name.now at),
      get_or_from_slice_get names i name.now name.now at,
    ) refl
