use Rattle.std.proofs.Common.{◌≡◌, ◌+◌, ◌-◌, ◌++◌, ◌∷◌, [], ◌==◌, ◌∙◌, List, ap, arith, cond, drop, get_or, length-drop, map, refl, rules, sym, take, w64}
use Rattle.std.proofs.Common.{pos, neg_ℤ, ◌-ℤ◌}
use mir.Val.{of_z, to_z}
use Rattle.std.proofs.lemmas.Bool.{cond-false, cond-true, eq-eqb, ne_eqb}
use Rattle.std.proofs.lemmas.List.{take_all}
use Rattle.std.proofs.lemmas.Option.{slice_get-get_or}
use Rattle.auction_terms.specs.Offers.{offer_of, offers}
use Rattle.auction_terms.specs.Domination.{net}
use Rattle.auction_terms.specs.Terms.{lots_in}
use Rattle.program_rows.specs.Spelling.{bid_name}
use Rattle.program_rows.specs.declared.column.Bounds.TheVariants.{ZeroOrOne}
use Rattle.program_rows.specs.declared.subject.Subject.TheVariants.{Bidder}
use Rattle.program_rows.specs.Program.{TableColumn}
use Rattle.program_rows.specs.Rows.{column_of, weight}
use Rattle.program_rows.specs.inside.Building.{built_column}
use Rattle.program_rows.proofs.KeptFacts.{are_offers}
use Rattle.program_rows.proofs.BuiltFacts.{at_most_next, column_step, last_is_there, last_within, place_found, stands_first, stands_next}
use Rattle.program_rows.proofs.building.columns.Goals.{then-weight-eq0, else-weight-eq0}
use Rattle.program_rows.proofs.building.columns.Goals as goal

pub loop-bid-init : goal.loop-bid-init
loop-bid-init c = (
  omega arith,
  stands_first (offers c.args.kept.now),
  ap (λ (cs : List TableColumn). cs ++ map
      (column_of (lots_in c.args.rules.now) c.args.subjects.now) (offers c.args.kept.now)) c.new-columns.ensures,
)

pub bounds-subjects-place : goal.bounds-subjects-place
bounds-subjects-place c = last_within (lots_in c.args.rules.now) c.args.kept.now c.args.subjects.now c.requires.subjects c.loop-bid.place
    c.loop-bid.bid-index c.loop-bid-test.true c.loop-bid.invariant.1

pub weight-requires-clause-there : goal.weight-requires-clause-there
weight-requires-clause-there c =
    let lots = lots_in c.args.rules.now in
    let kept = c.args.kept.now in
    let subjects = c.args.subjects.now in
    let place = c.loop-bid.place in
    let within = last_within lots kept subjects c.requires.subjects place c.loop-bid.bid-index c.loop-bid-test.true c.loop-bid.invariant.1 in
    last_is_there lots kept subjects c.requires.subjects place c.loop-bid.bid-index (get_or subjects place (Bidder 0))
    c.loop-bid-test.true c.loop-bid.invariant.1 (slice_get-get_or subjects place (Bidder 0) within)

pub loop-bid-preserved : goal.loop-bid-preserved
loop-bid-preserved c =
    let lots = lots_in c.args.rules.now in
    let kept = c.args.kept.now in
    let subjects = c.args.subjects.now in
    let i = c.loop-bid.bid-index in
    let place = c.loop-bid.place in
    let next = c.if-weight-eq0.place in
    let bid = c.bid-item.result in
    let before = c.loop-bid.invariant in
    let last = get_or subjects place (Bidder 0) in
    let within = last_within lots kept subjects c.requires.subjects place i c.loop-bid-test.true before.1 in
    let step : next ≡ cond (weight lots last (offer_of bid) == 0) (place + 1) place = elim c.if-weight-eq0.branch [
      | then-weight-eq0 w ↦ w.place-is ∙ sym (cond-true (weight lots last (offer_of bid) == 0) (place + 1) place
          (eq-eqb _ _ (sym c.weight.ensures.weight ∙ w.if-weight-eq0.true)))
      | else-weight-eq0 w ↦ w.place-is ∙ sym (cond-false (weight lots last (offer_of bid) == 0) (place + 1) place
          (ne_eqb _ _ (λ e. w.if-weight-eq0.false (c.weight.ensures.weight ∙ e))))
    ] in
    let here = place_found lots kept subjects c.requires.subjects place next i bid last c.loop-bid-test.true c.bid-item.is
    before.1 (slice_get-get_or subjects place (Bidder 0) within) step in
    let written = c.write_bid_name-start.new.name in
    let start = c.write_bid_name-start.result in
    let name : take (12 - start) (drop start written) ≡ bid_name bid.bidder bid.bid =
    take_all (12 - start) (drop start written) (omega (arith, length-drop start written, c.write_bid_name-start.array_long))
    ∙ c.write_bid_name-start.ensures.name in
    let cost : to_z w64 (of_z w64 (pos 0 -ℤ to_z w64 (of_z w64 c.net-cost.result))) ≡ neg_ℤ (net lots bid.offer.now) = search rules in
    let column : record {
      name = take (12 - start) (drop start written);
      bounds = ZeroOrOne;
      cost = to_z w64 (of_z w64 (pos 0 -ℤ to_z w64 (of_z w64 c.net-cost.result)));
      entries = take c.write_entries-count.result c.write_entries-count.new.entries;
    } ≡ built_column lots c.args.first next (offer_of bid) =
    rw (name, cost, c.write_entries-count.ensures.entries) refl in
    let added : c.push.new.self ≡ c.loop-bid.columns ++ built_column lots c.args.first next (offer_of bid) ∷ [] =
    c.in_ok-push.ensures.ok ∙ ap (λ (t : TableColumn). c.loop-bid.columns ++ t ∷ []) column in (
      at_most_next (weight lots last (offer_of bid) == 0) place next i step before.0,
      stands_next _ next _ _ here,
      column_step lots kept subjects c.requires.subjects c.loop-bid.columns c.push.new.self _ i next c.args.first bid _
          (are_offers c.args.rules.now kept c.requires.sized c.requires.kept) c.requires.first c.loop-bid-test.true c.bid-item.is here
          before.2 added,
    )
