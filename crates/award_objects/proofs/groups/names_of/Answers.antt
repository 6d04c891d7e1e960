use Rattle.std.proofs.Common.{◌∙◌, ◌++◌, ◌∷◌, [], List, ap, ap₂, arith, get_or, length, rules, sym}
use Rattle.std.proofs.lemmas.List.{take_more}
use Rattle.bid_desk.specs.Sale.{bidder_name, sale_of}
use Rattle.byte_sinks.specs.Objects.{Scalar, scalar_seen}
use Rattle.byte_sinks.specs.Objects.Scalar.{Text}
use Rattle.award_objects.proofs.ListFacts.{map_more}
use Rattle.award_objects.proofs.SmallFacts.{small_group}
use Rattle.award_objects.proofs.groups.names_of.Goals as goal

pub push-requires : goal.push-requires
push-requires c =
    let few = small_group c.args.group.now c.numbers-numbers.ensures.group in
    let same = ap length c.numbers-numbers.ensures.numbers in
    let so_far = c.loop-bidder.invariant.count in
    let test = c.loop-bidder-test.true in
    (search rules, omega arith)

pub loop-bidder-preserved : goal.loop-bidder-preserved
loop-bidder-preserved c =
    let numbers = c.numbers-numbers.result.now in
    let at = c.loop-bidder.bidder-index in
    let name = bidder_name (sale_of c.args.book.now).names in
    let pushed = map_more scalar_seen c.loop-bidder.names.items c.push.new.self.items _ c.push.ensures.items in
    let further = take_more numbers at 0 c.loop-bidder-test.true in
    let named = map_more name _ _ (get_or numbers at 0) further in
    let shown = map_more Text _ _ (name (get_or numbers at 0)) named in
    let count = c.loop-bidder.invariant.count in
    let longer = c.push.ensures.len in
    record {
      names = pushed ∙ ap₂ (λ (all : List Scalar) (it : Scalar). all ++ it ∷ []) c.loop-bidder.invariant.names (ap Text c.name_of.ensures) ∙ sym shown;
      count = omega arith;
    }
