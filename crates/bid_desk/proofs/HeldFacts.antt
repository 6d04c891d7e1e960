-- What is kept of a call, by its caller and under the lock.
use Rattle.std.proofs.Common.{◌≡◌, ◌+◌, ◌++◌, ◌∷◌, ◌∙◌, [], List, ℕ, ap, arith, length, length-append, map, vec_len}
use Rattle.std.proofs.lemmas.List.{map-append}
use Rattle.std.specs.declared.sync.Arc.{Arc}
use Rattle.std.specs.declared.vec.Vec.{Vec}
use Rattle.bid_book.specs.declared.call.Call.{Call}
use Rattle.bid_book.specs.declared.reply.Reply.{Reply}
use Rattle.bid_desk.specs.Holding.{pair_value}

-- a caller keeps one pair more, if there was room for it
pub one-pair-more : {X Z : Type 0} (own reserved own' : List (Call (Arc X Z) × Reply (Arc X Z))) (pair : Call (Arc X Z) × Reply (Arc X Z))
    (value : Call X × Reply X) → reserved ≡ own → own' ≡ reserved ++ pair ∷ []
    → pair_value pair ≡ value → map (λ (p : Call (Arc X Z) × Reply (Arc X Z)). pair_value p) own'
    ≡ map (λ (p : Call (Arc X Z) × Reply (Arc X Z)). pair_value p) own ++ value ∷ []
one-pair-more {X} {Z} own reserved own' pair value same pushed is =
    let values = map (λ (p : Call (Arc X Z) × Reply (Arc X Z)). pair_value p) in
    ap values (pushed ∙ ap (λ (xs : List (Call (Arc X Z) × Reply (Arc X Z))). xs ++ pair ∷ []) same)
    ∙ map-append (λ (p : Call (Arc X Z) × Reply (Arc X Z)). pair_value p) own (pair ∷ []) ∙ ap (λ (v : Call X × Reply X). values own ++ v ∷ []) is

-- and its share is as much as it keeps
pub share-is : {X Z : Type 0} (own reserved own' : Vec X Z) (pair : X) (share share' : ℕ) → reserved.items ≡ own.items
    → own'.items ≡ reserved.items ++ pair ∷ [] → share' ≡ share + 1 → share ≡ vec_len own
    → share' ≡ vec_len own'
share-is own reserved own' pair share share' same pushed more is =
    let kept = own.ok.0 in
    let count = own'.ok.0 in
    omega (arith, kept, count, more, is, ap length same, ap length pushed, length-append reserved.items (pair ∷ []))
