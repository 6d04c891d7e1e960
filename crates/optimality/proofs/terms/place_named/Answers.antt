use Rattle.std.proofs.Common.{◌∙◌, ap, sym, List, ℕ}
use Rattle.std.specs.Prelude.{bytes_eq, position}
use Rattle.optimality.proofs.TermFacts.{place-is}
use Rattle.optimality.proofs.terms.place_named.Goals as goal

pub returns-in-Rows : goal.returns-in-Rows
returns-in-Rows c =
    rw c.in-Rows.is (c.place_of.ensures.index ∙ sym (place-is c.args.name.now c.args.checker.now.rows.keys)
    ∙ ap (λ (names : List (List ℕ)). position (bytes_eq c.args.name.now) names) c.requires.rows)
