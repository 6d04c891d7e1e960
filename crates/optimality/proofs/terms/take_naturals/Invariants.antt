use Rattle.std.proofs.Common.{◌≡◌, ◌++◌, ◌-◌, length}
use Rattle.std.specs.Prelude.{Ok}
use Rattle.auction_terms.specs.LineFields.{fields}
use Rattle.auction_terms.specs.Stages.{and_then}
use Rattle.optimality.specs.LineMeaning.{parsed_naturals}
use Rattle.optimality.proofs.TermFacts.{Read}
use Rattle.optimality.proofs.terms.take_naturals.Given as goal

-- the numbers so far, and those of the fields that are left
abbrev pub invariant-loop-i : goal.invariant-loop-i
invariant-loop-i l = (length l.numbers.items ≡ l.i) × (and_then {B = Read} (parsed_naturals (l.count - l.i) (fields l.rest))
    (λ (more : Read). Ok (l.numbers.items ++ more.0, more.1)) ≡ parsed_naturals l.count (fields l.fn.text))
