use Rattle.std.proofs.Common.{◌≡◌, ◌<◌, ℕ, List, true, ap, arith, length, slice_index, slice_index_or, subst, sym, ◌∙◌}
use Rattle.std.proofs.lemmas.List.{get_or_default}
use Rattle.presolve.specs.declared.order.SizedBid.{SizedBid}
use Rattle.presolve.specs.declared.sieve.Level.{Level}
use Rattle.presolve.specs.inside.Sieves.{HasPlace, IsMarked, IsSieve}
use Rattle.presolve.specs.inside.Sizes.{beats}
use Rattle.presolve.proofs.search.level_at.Goals as goal

pub returns-clause-sifts : goal.returns-clause-sifts
returns-clause-sifts c = λ rivals x are within is i d inside beaten.
    let sieve = c.index-sieves-min.result in
    let place = c.args.place in
    let number : c.min.result < length c.args.sieves.now = omega (arith, c.requires.some, c.min.ensures) in
    let its : IsSieve rivals sieve = subst (IsSieve rivals) (sym c.index-sieves-min.is) (are c.min.result sieve number) in
    let there : HasPlace place sieve = its.places place within in
    let level = c.index-2.result.now in
    let rank = c.index.ensures ∙ get_or_default sieve.ranks.items place c.index.result.now 0 there.ranked in
    let at : level ≡ slice_index_or sieve.levels.items (slice_index sieve.ranks.items place) level =
    c.index-2.ensures ∙ ap (λ (n : ℕ). slice_index_or sieve.levels.items n level) (c.from.ensures ∙ rank) in
    subst (λ (words : List ℕ). IsMarked words i) (sym (c.deref.ensures.value ∙ ap (λ (l : Level). l.words.items) at))
    (its.sifts place x level within i d inside (subst (λ (s : SizedBid). beats s (slice_index_or rivals i d) ≡ true) is beaten))
