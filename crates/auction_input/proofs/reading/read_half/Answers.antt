use Rattle.std.proofs.Common.{ap, ◌∙◌, sym, subst}
use Rattle.std.specs.List.{AllZip}
use Rattle.rayon.proofs.ListFacts.{IfOk-then}
use Rattle.rayon.proofs.ToStd.{slice-AllZip}
use Rattle.auction_input.specs.inside.InputTexts.{IsAnswer}
use Rattle.auction_input.proofs.reading.read_half.Goals as goal

pub returns : goal.returns
returns g c =
    let slice = ap (λ it. it.base.slice.now) c.map.ensures.base ∙ ap (λ it. it.slice.now) c.with_min_len.ensures.base ∙ c.par_iter.ensures in
    IfOk-then c.collect.result _ _ c.collect.ensures (λ v h.
    let chain = rw c.map.ensures.f at h.1 in
    subst (AllZip (IsAnswer c.args.rules.now) c.args.texts.now) (sym h.2)
    (slice-AllZip chain.0 c.args.texts.now (chain.1 ∙ slice) (IsAnswer c.args.rules.now) h.0 chain.2))
