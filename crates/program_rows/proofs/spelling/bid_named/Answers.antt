use Rattle.std.proofs.Common.{◌≡◌, ◌-◌, ◌∙◌, ◌<◌, ◌^◌, ℕ, List, arith, drop, length, length-drop, refl, sym, rules, take}
use Rattle.std.proofs.lemmas.List.{take_all}
use Rattle.std.proofs.lemmas.Bool.{eqb-true}
use Rattle.program_rows.proofs.NumeralFacts.{is_some, no_name, other_letter, without_bar, other_bidder, other_bid, is_named}
use Rattle.program_rows.proofs.NumeralFacts.{read_as, out_of_range, front_is, back_is, bar_at_end, bar_within}
use Rattle.program_rows.proofs.spelling.bid_named.Goals as goal

-- what follows the letter
abbrev rest : List ℕ → List ℕ
rest name = take (length name - 1) (drop 1 name)

rest_is : (name : List ℕ) → rest name ≡ drop 1 name
rest_is name = take_all (length name - 1) (drop 1 name) (omega (arith, length-drop 1 name))

pub returns-then-is_empty : goal.returns-then-is_empty
returns-then-is_empty c = no_name c.args.name.now (eqb-true _ 0 (sym c.is_empty.ensures ∙ c.if-is_empty.true))

pub returns-then-name-ne88 : goal.returns-then-name-ne88
returns-then-name-ne88 c = other_letter c.args.name.now c.if-name-ne88.true

pub returns-then-bar-numbers : goal.returns-then-bar-numbers
returns-then-bar-numbers c = without_bar c.args.name.now (bar_at_end c.args.name.now (rest c.args.name.now) c.bar_in-bar.result
    (rest_is c.args.name.now) c.bar_in-bar.ensures.value c.if-bar-numbers.true)

pub returns-in_default : goal.returns-in_default
returns-in_default c =
    other_bidder c.args.name.now (take c.bar_in-bar.result (rest c.args.name.now)) (front_is c.args.name.now (rest c.args.name.now) c.bar_in-bar.result
    (rest_is c.args.name.now) c.bar_in-bar.ensures.value _ refl) c.in_default.ensures

pub returns-in_default-number_spelled : goal.returns-in_default-number_spelled
returns-in_default-number_spelled c =
    other_bid c.args.name.now c.after.result.now (back_is c.args.name.now (rest c.args.name.now) c.bar_in-bar.result
    (rest_is c.args.name.now) c.bar_in-bar.ensures.value _ c.after.ensures) c.in_default-number_spelled.ensures

pub returns-then-not-is_bid : goal.returns-then-not-is_bid
returns-then-not-is_bid c =
    let b : c.in-Some.bidder < 2 ^ 64 = search rules in
    let j : c.in-Some-number_spelled.bid < 2 ^ 64 = search rules in
    let after = rest_is c.args.name.now in
    let at = c.bar_in-bar.ensures.value in
    out_of_range c.args.name.now c.in-Some.bidder c.in-Some-number_spelled.bid b j
    (is_named c.args.name.now c.in-Some.bidder c.in-Some-number_spelled.bid (is_some _ (sym c.is_empty.ensures ∙ c.if-is_empty.false)) c.if-name-ne88.false
    (bar_within c.args.name.now (rest c.args.name.now) c.bar_in-bar.result after at c.bar_in-bar.ensures.within c.if-bar-numbers.false)
    (c.in-Some.ensures ∙ front_is c.args.name.now (rest c.args.name.now) c.bar_in-bar.result after at _ refl)
    (c.in-Some-number_spelled.ensures ∙ back_is c.args.name.now (rest c.args.name.now) c.bar_in-bar.result after at _
    c.after.ensures))
    (sym c.is_bid.ensures ∙ c.if-not-is_bid.true)

pub returns : goal.returns
returns c =
    let after = rest_is c.args.name.now in
    let at = c.bar_in-bar.ensures.value in
    read_as c.args.name.now c.in-Some.bidder c.in-Some-number_spelled.bid
    (is_named c.args.name.now c.in-Some.bidder c.in-Some-number_spelled.bid (is_some _ (sym c.is_empty.ensures ∙ c.if-is_empty.false)) c.if-name-ne88.false
    (bar_within c.args.name.now (rest c.args.name.now) c.bar_in-bar.result after at c.bar_in-bar.ensures.within c.if-bar-numbers.false)
    (c.in-Some.ensures ∙ front_is c.args.name.now (rest c.args.name.now) c.bar_in-bar.result after at _ refl)
    (c.in-Some-number_spelled.ensures ∙ back_is c.args.name.now (rest c.args.name.now) c.bar_in-bar.result after at _
    c.after.ensures))
    (sym c.is_bid.ensures ∙ c.if-not-is_bid.false)
