use Rattle.std.proofs.Common.{◌≡◌, ◌∙◌, ◌<◌, ◌≤◌, ◌++◌, ◌∷◌, [], ℕ, List, ap, ap₂, arith, false, get_or, length, map, refl, rules, sym, true}
use Rattle.std.proofs.lemmas.Bool.Decides.{nat_tests}
use Rattle.std.proofs.lemmas.List.{get_or-map, length-map}
use Rattle.std.specs.Prelude.{filter, nat_lt}
use Rattle.auction_terms.specs.declared.rules.Category.{Category}
use Rattle.byte_sinks.specs.Objects.{count_seen}
use Rattle.award_objects.proofs.ListFacts.{filter_more, filter_same, map_more, pair_more, zip_end}
use Rattle.award_objects.proofs.winners.lots_by_name.Goals.{then-quantities-place-gt0, else-quantities-place-gt0}
use Rattle.award_objects.proofs.winners.lots_by_name.Goals as goal

some_lots : (q : ℕ) → 0 < q → nat_lt 0 q ≡ true
some_lots q h = grind (arith, nat_tests)

no_lots : (q : ℕ) → q ≤ 0 → nat_lt 0 q ≡ false
no_lots q h = grind (arith, nat_tests)

pub loop-place-preserved : goal.loop-place-preserved
loop-place-preserved c =
    let categories = c.args.categories.now in
    let quantities = c.args.quantities.now in
    let name = λ (category : Category). category.name in
    let names = map name categories in
    let at = c.loop-place.place in
    let q = get_or quantities at 0 in
    let has_lots = λ (lots : List ℕ × ℕ). nat_lt 0 lots.1 in
    let end = c.min-place-end.ensures in
    let test = c.loop-place-test.true in
    let inside : at < length quantities = omega arith in
    let listed : at < length categories = omega arith in
    let count = length-map categories name in
    let within : at < length names = omega arith in
    let few = c.loop-place.invariant.few in
    elim c.if-quantities-place-gt0.branch [
      | then-quantities-place-gt0 w ↦
          let category = w.index-categories-place.result in
          let is : c.if-quantities-place-gt0.lots.items ≡ w.push.new.self.items = cc in
          let named : name category ≡ get_or names at [] = ap name w.index-categories-place.is ∙ sym (get_or-map name categories at category [] listed) in
          let further = pair_more names quantities at [] (name category) 0 q named refl within inside in
          let kept = filter_more has_lots _ _ (name category, q) (some_lots q w.if-quantities-place-gt0.true) further in
          let pushed = map_more count_seen c.loop-place.lots.items c.if-quantities-place-gt0.lots.items _ (is ∙ w.push.ensures.items) in
          let bytes : w.as_bytes.result.now ≡ name category = search rules in
          let seen : ◌≡◌ {A = List ℕ × ℕ} (w.as_bytes.result.now, w.from.result) (name category, q) = ap₂ (λ (n : List ℕ) (k : ℕ). (n, k)) bytes w.from.ensures in
          let longer = w.push.ensures.len in
          let same = ap length is in
          record {
            lots = pushed ∙ ap₂ (λ (all : List (List ℕ × ℕ)) (it : List ℕ × ℕ). all ++ it ∷ []) c.loop-place.invariant.lots seen ∙ sym kept;
            few = omega arith;
          }
      | else-quantities-place-gt0 w ↦
          let is : c.if-quantities-place-gt0.lots.items ≡ c.loop-place.lots.items = cc in
          let further = pair_more names quantities at [] (get_or names at []) 0 q refl refl within inside in
          let left = filter_same has_lots _ _ (get_or names at [], q) (no_lots q w.if-quantities-place-gt0.false) further in
          let same = ap length is in
          record {
            lots = ap (map count_seen) is ∙ c.loop-place.invariant.lots ∙ sym left;
            few = omega arith;
          }
    ]

pub returns : goal.returns
returns c =
    let name = λ (category : Category). category.name in
    let names = map name c.args.categories.now in
    let count = length-map c.args.categories.now name in
    let end = c.min-place-end.ensures in
    let test = c.loop-place-test.false in
    c.loop-place.invariant.lots ∙ ap (filter (λ (lots : List ℕ × ℕ). nat_lt 0 lots.1)) (zip_end names c.args.quantities.now c.loop-place.place (omega arith))
