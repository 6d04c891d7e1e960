use Rattle.std.proofs.Common.{◌≡◌, ◌+◌, ◌++◌, ◌∙◌, ap, arith, length, map, refl, take}
use Rattle.std.specs.List.{range_with_len}
use Rattle.std.proofs.lemmas.List.{length-map}
use Rattle.auction_terms.specs.declared.rules.Category as declared
use Rattle.auction_terms.specs.Offers.{offer_of}
use Rattle.auction_terms.specs.Terms.{lots_in}
use Rattle.program_rows.specs.declared.subject.Subject.TheVariants.{Category}
use Rattle.program_rows.specs.Rows.{entries_from}
use Rattle.program_rows.proofs.BuildFacts.{entry_end, entry_step}
use Rattle.program_rows.proofs.entries.write_categories.Goals as goal

pub loop-place-init : goal.loop-place-init
loop-place-init c =
    let here : c.args.first + 0 ≡ c.args.first = omega arith in (
      ap (λ n. take c.args.start c.args.entries.now ++ entries_from (lots_in c.args.rules.now) n
          (map Category (range_with_len 0 (length (lots_in c.args.rules.now).supply))) (offer_of c.args.bid)) here,
      omega arith,
      refl,
    )

pub weight-requires-clause-there : goal.weight-requires-clause-there
weight-requires-clause-there c =
    let many = length-map c.args.rules.now.categories (λ (category : declared.Category). category.supply) in
    let listed = ap (λ xs. length xs) c.categories.ensures.value in
    omega arith

pub loop-place-preserved : goal.loop-place-preserved
loop-place-preserved c =
    let many = length-map c.args.rules.now.categories (λ (category : declared.Category). category.supply) in
    let listed = ap (λ xs. length xs) c.categories.ensures.value in
    let put = c.put_weight-count.ensures in (
      entry_step (lots_in c.args.rules.now) (λ place. Category place) (length (lots_in c.args.rules.now).supply) (offer_of c.args.bid)
          (take c.loop-place.count c.loop-place.entries) (take c.put_weight-count.result c.put_weight-count.new.entries) _ c.args.first
          c.loop-place.place c.weight.result (omega arith) c.loop-place.invariant.0 c.weight.ensures.weight
          (rw c.from.ensures at put.entries),
      omega arith,
      put.length ∙ c.loop-place.invariant.2,
    )

pub returns-clause-entries : goal.returns-clause-entries
returns-clause-entries c =
    let many = length-map c.args.rules.now.categories (λ (category : declared.Category). category.supply) in
    let listed = ap (λ xs. length xs) c.categories.ensures.value in
    entry_end (lots_in c.args.rules.now) (λ place. Category place) (length (lots_in c.args.rules.now).supply) (offer_of c.args.bid)
    (take c.loop-place.count c.loop-place.entries) _ (c.args.first + c.loop-place.place) c.loop-place.place (omega arith)
    c.loop-place.invariant.0
