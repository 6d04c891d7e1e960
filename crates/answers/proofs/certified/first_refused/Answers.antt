use Rattle.std.proofs.Common.{◌∙◌, Err, None, arith, refl, subst}
use Rattle.std.proofs.lemmas.List.{get_or_default}
use Rattle.answers.specs.declared.certified.ClaimedBound.{ClaimedBound}
use Rattle.answers.specs.inside.Judging.{IsJudged, IsJudgedIfBegun}
use Rattle.answers.proofs.CertifiedFacts.{verdict-at}
use Rattle.std.proofs.lemmas.Slice.Zip.{AllZip-long}
use Rattle.answers.proofs.certified.first_refused.Goals as goal

pub bounds-verdicts-place : goal.bounds-verdicts-place
bounds-verdicts-place c = (let long = AllZip-long (IsJudgedIfBegun c.args.programs.now) c.args.bounds.now c.args.verdicts.now c.requires in
    let within = c.loop-place-test.true in omega arith)

pub settled-verdict-requires : goal.settled-verdict-requires
settled-verdict-requires c =
    let bounds = c.args.bounds.now in
    let bound = c.index-bounds-place.result in
    let here = verdict-at c.args.programs.now bounds c.args.verdicts.now c.loop-place.place bound None c.requires c.loop-place-test.true in
    rw c.index-bounds-place.is here

pub returns-in-Err-clause-first : goal.returns-in-Err-clause-first
returns-in-Err-clause-first c =
    let bounds = c.args.bounds.now in
    let bound = c.index-bounds-place.result in
    let place = c.loop-place.place in (
      place,
      c.loop-place-test.true,
      c.loop-place.invariant,
      λ d. subst (λ (b : ClaimedBound). IsJudged c.args.programs.now b
          (Err c.in-Err.fault)) (c.index-bounds-place.is ∙ get_or_default bounds place bound d c.loop-place-test.true) c.in-Err.ensures,
      refl,
    )
