use Rattle.std.proofs.Common.{◌≡◌, ◌∙◌, ◌+◌, ◌<◌, ◌++◌, ◌∷◌, [], ℕ, Bool, List, ap, arith, false, get_or, length, map, refl, sym, true}
use Rattle.std.specs.Prelude.{◌&&◌, filter}
use Rattle.std.proofs.lemmas.Bool.{and_from}
use Rattle.auction_terms.specs.Groups.{has}
use Rattle.byte_sinks.specs.Objects.{Scalar, scalar_seen}
use Rattle.byte_sinks.specs.Objects.Scalar.{Number}
use Rattle.award_objects.proofs.ListFacts.{filter_more, filter_same, map_more, numbered_pair, numbered_pairs}
use Rattle.award_objects.proofs.payments.bound_by.Goals.{then-has+then-bound-place, else-has, else-has-via-then-has+else-bound-place, else-has-via-else-has}
use Rattle.award_objects.proofs.payments.bound_by.Goals as goal

not_first : (a b : Bool) → a ≡ false → (a && b) ≡ false
not_first a b e = rw e refl

not_second : (a b : Bool) → a ≡ true → b ≡ false → (a && b) ≡ false
not_second a b e f = rw (e, f) refl

pub loop-place-preserved : goal.loop-place-preserved
loop-place-preserved c =
    let groups = c.args.groups.now in
    let bound = c.args.bound.now in
    let at = c.loop-place.place in
    let b = get_or bound at false in
    let group = c.group.result.now in
    let bidder = c.args.bidder in
    let number = λ (e : ℕ × (List ℕ × Bool)). e.0 in
    let wanted = λ (e : ℕ × (List ℕ × Bool)). has e.1.0 bidder && e.1.1 in
    let same = c.requires in
    let count = c.count-place-end.ensures.count in
    let test = c.loop-place-test.true in
    let within : at < length groups = omega arith in
    let inside : at < length bound = omega arith in
    let listed : group ≡ get_or groups at [] = c.group.ensures ∙ ap (λ (n : ℕ). get_or groups n []) (omega arith) in
    let further = numbered_pair 1 groups bound at (at + 1) [] group false b listed refl within inside (omega arith) in
    let few = c.loop-place.invariant.few in
    elim c.if-has.branch [
      | then-has+then-bound-place w ↦
          let is : c.if-has.numbers.items ≡ w.push.new.self.items = cc in
          let passes : wanted (at + 1, (group, b)) ≡ true = and_from (has group bidder) b (sym c.has.ensures.member ∙ w.if-has.true) w.if-bound-place.true in
          let kept = filter_more wanted _ _ (at + 1, (group, b)) passes further in
          let numbers = map_more number _ _ (at + 1, (group, b)) kept in
          let shown = map_more Number _ _ (at + 1) numbers in
          let pushed = map_more scalar_seen c.loop-place.numbers.items c.if-has.numbers.items _ (is ∙ w.push.ensures.items) in
          let longer = w.push.ensures.len in
          let as_long = ap length is in
          record {
            numbers = pushed ∙ ap (λ (all : List Scalar). all ++ Number (at + 1) ∷ []) c.loop-place.invariant.numbers ∙ sym shown;
            few = omega arith;
          }
      | else-has w ↦
          let is : c.if-has.numbers.items ≡ c.loop-place.numbers.items = cc in
          let fails : wanted (at + 1, (group, b)) ≡ false = elim w.else-has.branch [
            | else-has-via-then-has+else-bound-place v ↦ not_second (has group bidder) b (sym c.has.ensures.member ∙ v.if-has.true) v.if-bound-place.false
            | else-has-via-else-has v ↦ not_first (has group bidder) b (sym c.has.ensures.member ∙ v.if-has.false)
          ] in
          let left = filter_same wanted _ _ (at + 1, (group, b)) fails further in
          let as_long = ap length is in
          record {
            numbers = ap (map scalar_seen) is ∙ c.loop-place.invariant.numbers ∙ ap (λ (all : List (ℕ × (List ℕ × Bool))). map Number (map number all)) (sym left);
            few = omega arith;
          }
    ]

pub returns : goal.returns
returns c =
    let bidder = c.args.bidder in
    let end = c.loop-place-test.false in
    let count = c.count-place-end.ensures.count in
    c.loop-place.invariant.numbers ∙ ap (λ (all : List (ℕ × (List ℕ × Bool))). map Number (map (λ (e : ℕ × (List ℕ × Bool)). e.0)
    (filter (λ (e : ℕ × (List ℕ × Bool)). has e.1.0 bidder && e.1.1) all))) (numbered_pairs 1 c.args.groups.now c.args.bound.now c.loop-place.place (omega arith))
