use Rattle.std.proofs.Common.{◌≡◌, ◌+◌, ◌∙◌, ℕ, None, Some, ap, rules, sym, true}
use Rattle.std.specs.Prelude.{int_le, option_map, pos}
use Rattle.std.specs.Option.{option_or}
use Rattle.auction_terms.specs.Terms.{lots_in}
use Rattle.presolve.specs.Reasons.{over_cap, over_supply}
use Rattle.presolve.specs.declared.reason.Reason.TheVariants as reason
use Rattle.presolve.proofs.RivalFacts.{why-first}
use Rattle.presolve.proofs.reason.why_left_out.Goals as goal

pub returns-in_err-first : goal.returns-in_err-first
returns-in_err-first c = λ form bid are.
    let x = c.index-rivals-place.result in
    let fits : option_or (over_supply (lots_in c.args.rules.now) x.bid.now.package) (over_cap (lots_in c.args.rules.now) x.bid.now.package)
    ≡ None = search rules in
    let worth : int_le (pos 0) x.net ≡ true = search rules in
    let none : c.first_beating.result ≡ None = search rules in
    let left : c.from_residual.result ≡ None = search rules in
    left ∙ ap (option_map (λ (first : ℕ). reason.Dominated (first + 1))) (sym none ∙ c.first_beating.ensures.first)
    ∙ why-first (lots_in c.args.rules.now) form c.args.rivals.now c.args.place x bid are c.requires.within c.index-rivals-place.is fits worth

pub returns : goal.returns
returns c = λ form bid are.
    let x = c.index-rivals-place.result in
    let fits : option_or (over_supply (lots_in c.args.rules.now) x.bid.now.package) (over_cap (lots_in c.args.rules.now) x.bid.now.package)
    ≡ None = search rules in
    let worth : int_le (pos 0) x.net ≡ true = search rules in
    let some : c.first_beating.result ≡ Some c.in_ok-first.first = search rules in
    ap (option_map (λ (first : ℕ). reason.Dominated (first + 1))) (sym some ∙ c.first_beating.ensures.first)
    ∙ why-first (lots_in c.args.rules.now) form c.args.rivals.now c.args.place x bid are c.requires.within c.index-rivals-place.is fits worth
