use Rattle.std.proofs.Common.{◌∙◌, ap, arith, length, map, refl}
use Rattle.auction_terms.specs.Offers.{offers}
use Rattle.auction_terms.specs.Terms.{lots_in}
use Rattle.std.proofs.lemmas.Result.{IfOk-weaker}
use Rattle.program_rows.specs.Rows.{bidder_subjects, column_of, row_of, subjects}
use Rattle.program_rows.proofs.KeptFacts.{are_offers}
use Rattle.program_rows.proofs.BuiltFacts.{few_bidders, listed}
use Rattle.program_rows.proofs.building.build_bids.Goals as goal

pub parts-requires-clause-rows : goal.parts-requires-clause-rows
parts-requires-clause-rows c =
    let few = few_bidders (lots_in c.args.rules.now) (offers c.args.kept.now)
    (are_offers c.args.rules.now c.args.kept.now c.requires.sized c.bids-kept.ensures.kept) in
    let count = c.len-first.ensures ∙ c.in_ok-subjects.subjects.ok.0 ∙ ap (λ ss. length ss) c.in_ok-subjects.ensures
    ∙ ap (λ ks. length (bidder_subjects (offers ks))) c.bids-kept.ensures.bids in
    omega arith

pub parts-requires-clause-subjects : goal.parts-requires-clause-subjects
parts-requires-clause-subjects c =
    c.deref.ensures.value ∙ listed c.args.rules.now (offers c.bids-kept.result.now) _ _ _ _ _ c.in_ok-subjects.ensures refl c.in_ok-add_lots.ensures refl refl

pub returns : goal.returns
returns c =
    let lots = lots_in c.args.rules.now in
    let kept = c.bids-kept.ensures.bids in
    let listed_is = c.deref.ensures.value ∙ listed c.args.rules.now (offers c.args.kept.now) _ _ _ _ _
    (c.in_ok-subjects.ensures ∙ ap (λ ks. bidder_subjects (offers ks)) kept) refl c.in_ok-add_lots.ensures refl refl in
    record {
      objective = c.parts.ensures.objective;
      rows = IfOk-weaker c.parts.result _ _ (λ parts h. h ∙ ap (λ ss. map (row_of lots) ss) listed_is) c.parts.ensures.rows;
      columns = IfOk-weaker c.parts.result _ _ (λ parts h. h ∙ ap (λ ss. map (column_of lots ss) (offers c.bids-kept.result.now)) listed_is
          ∙ ap (λ ks. map (column_of lots (subjects lots (offers c.args.kept.now))) (offers ks)) kept) c.parts.ensures.columns;
    }
