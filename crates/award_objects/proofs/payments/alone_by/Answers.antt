use Rattle.std.proofs.Common.{◌≡◌, ◌∙◌, ◌<◌, ◌≤◌, ◌^◌, ℕ, ap, ap₂, pos, rules, subst, sym}
use Rattle.std.specs.Prelude.{unsigned_abs}
use Rattle.std.specs.Int.{int_max}
use Rattle.auction_terms.specs.Terms.{lots_in}
use Rattle.bid_desk.specs.Closing.{book_of}
use Rattle.outcome.specs.Report.{cost}
use Rattle.award_objects.proofs.SmallFacts.{small_cost, small_greater}
use mir.Syntax.{w128}
use mir.Val.{of_z, to_z}
use Rattle.award_objects.proofs.payments.alone_by.Goals as goal

pub returns-clause-small : goal.returns-clause-small
returns-clause-small c =
    let book = c.args.book.now in
    let it = cost (lots_in book.rules) (book_of book) c.args.first.now c.args.group.now c.args.without.now in
    let high = small_cost (lots_in book.rules) (book_of book) c.args.first.now c.args.group.now c.args.without.now
    c.within_limits.ensures.lots c.within_limits.ensures.book c.choices-rising.ensures.rising c.choices-rising_too.ensures.rising in
    let whole : to_z w128 (of_z w128 c.cost-cost.result) ≡ c.cost-cost.result = search rules in
    let whole_too : to_z w128 (of_z w128 c.from-reserve.result) ≡ c.from-reserve.result = search rules in
    let whole_max : to_z w128 (of_z w128 c.max.result) ≡ c.max.result = search rules in
    let reserve : c.reserve_of.result < 2 ^ 64 = search rules in
    let value : c.unsigned_abs.result ≡ unsigned_abs (int_max it (pos c.reserve_of.result)) = c.unsigned_abs.ensures.value
    ∙ ap unsigned_abs (whole_max ∙ c.max.ensures.value ∙ ap₂ int_max (whole ∙ c.cost-cost.ensures) (whole_too ∙ c.from-reserve.ensures)) in
    let most : unsigned_abs (int_max it (pos c.reserve_of.result)) ≤ 2 ^ 64 = small_greater it c.reserve_of.result high reserve in
    subst (λ (n : ℕ). n ≤ 2 ^ 64) (sym value) most
