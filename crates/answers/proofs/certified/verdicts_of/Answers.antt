use Rattle.std.proofs.Common.{ap, ◌∙◌, sym, subst}
use Rattle.std.specs.List.{AllZip}
use Rattle.rayon.proofs.ListFacts.{IfOk-then}
use Rattle.rayon.proofs.ToStd.{slice-AllZip}
use Rattle.bid_desk.specs.Closing.{Closing}
use Rattle.answers.specs.inside.Judging.{IsJudgedIfBegun}
use Rattle.answers.proofs.certified.verdicts_of.Goals as goal

pub returns : goal.returns
returns g c =
    let slice = ap (λ it. it.base.slice.now) c.map.ensures.base ∙ ap (λ it. it.slice.now) c.with_min_len.ensures.base ∙ c.par_iter.ensures in
    let lent = ap (λ f. f.1.now) c.map.ensures.f in
    IfOk-then c.collect.result _ _ c.collect.ensures (λ v h.
    let chain = h.1 in
    let judged = slice-AllZip chain.0 c.args.bounds.now (chain.1 ∙ slice) (IsJudgedIfBegun c.map.result.f.1.now) h.0 chain.2 in
    subst (λ (book : Closing). AllZip (IsJudgedIfBegun book) c.args.bounds.now v.items) lent
    (subst (AllZip (IsJudgedIfBegun c.map.result.f.1.now) c.args.bounds.now) (sym h.2) judged))
