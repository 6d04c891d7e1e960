use Rattle.std.proofs.Common.{◌≡◌, ◌++◌, List, Ok, map}
use Rattle.bid_forms.specs.Offers.{Offers}
use Rattle.auction_input.proofs.reading.add_forms.Given as goal

abbrev pub invariant-loop-answer : goal.invariant-loop-answer
invariant-loop-answer l = (more : List Offers) × (l.forms.items ≡ l.fn.forms.items ++ more)
    × (map (λ form. Ok form) more ++ l.answer-iterator.rest.items ≡ l.fn.answers.items)
