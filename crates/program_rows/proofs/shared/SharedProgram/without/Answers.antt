use Rattle.std.proofs.Common.{◌∙◌, ◌<◌, ap, length, subst, sym}
use Rattle.std.specs.List.{AllByRecursion}
use Rattle.auction_terms.specs.Groups.{has}
use Rattle.program_rows.specs.Parts.{IsProgram}
use Rattle.program_rows.specs.Selections.{numbers_left, places_left, selection_of, shared}
use Rattle.program_rows.proofs.SelectionFacts.{places_there, selection_is_legal}
use Rattle.program_rows.proofs.shared.SharedProgram.without.Goals as goal

pub of-requires-clause-program : goal.of-requires-clause-program
of-requires-clause-program c =
    let group = has c.args.group.now in
    let program = c.self.inside.program in
    let rows = c.in_ok-rows.ensures ∙ ap (places_left group 0) c.as_slice.ensures.value in
    let columns = c.in_ok-columns.ensures ∙ ap (places_left group 0) c.as_slice-2.ensures.value in
    let numbers = c.in_ok-numbers.ensures ∙ ap (numbers_left group 0) c.as_slice-3.ensures.value in
    subst IsProgram (sym (λ i. selection_of program (rows i) (columns i) (numbers i)))
    (selection_is_legal (shared program c.self.inside.rows.items c.self.inside.columns.items) group c.self.invariant)

pub of-requires-clause-there : goal.of-requires-clause-there
of-requires-clause-there c =
    let group = has c.args.group.now in
    let program = c.self.inside.program in
    let rows = c.in_ok-rows.ensures ∙ ap (places_left group 0) c.as_slice.ensures.value in
    let columns = c.in_ok-columns.ensures ∙ ap (places_left group 0) c.as_slice-2.ensures.value in
    let there = places_there (shared program c.self.inside.rows.items c.self.inside.columns.items) group c.self.invariant in
    (subst (AllByRecursion (λ i. i < length program.rows)) (sym rows) there.0, subst (AllByRecursion (λ i. i < length program.columns)) (sym columns) there.1)
