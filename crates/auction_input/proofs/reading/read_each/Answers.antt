use Rattle.std.proofs.Common.{◌≡◌, ◌++◌, ap₂, ◌∙◌, take-append-drop}
use Rattle.std.specs.List.{AllZip}
use Rattle.rayon.proofs.ListFacts.{AllZip-append}
use Rattle.auction_input.specs.inside.InputTexts.{IsAnswer}
use Rattle.auction_input.proofs.reading.read_each.Goals as goal

pub returns : goal.returns
returns g c =
    let rules = c.args.rules.now in
    let texts = c.args.texts.now in
    let first = c.split_at.result.0.now in
    let second = c.split_at.result.1.now in
    let front : AllZip (IsAnswer rules) first c.in_ok-answers.answers.items = rw c.in_ok-answers.was at c.join-front.ensures.first in
    let back : AllZip (IsAnswer rules) second c.in_ok-others.others.items = rw c.in_ok-others.was at c.join-front.ensures.second in
    let whole : first ++ second ≡ texts = ap₂ (λ xs ys. xs ++ ys) c.split_at.ensures.front c.split_at.ensures.back ∙ take-append-drop _ texts in
    rw (c.in_ok-append.ensures.items, ← whole) (AllZip-append (IsAnswer rules) first second c.in_ok-answers.answers.items
    c.in_ok-others.others.items front back)
