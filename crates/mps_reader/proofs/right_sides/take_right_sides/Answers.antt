use Rattle.std.proofs.Common.{rules, ◌≡◌, ◌∷◌, ◌∙◌, ap, sym, List, ℕ, ℤ, Some, None, false}
use Rattle.std.specs.Prelude.{bytes_eq, if◌then◌else◌}
use Rattle.std.specs.List.{list_any}
use Rattle.std.specs.Option.{option_map_or}
use Rattle.program_rows.specs.MpsProgram.{value, first_free, number_beside}
use Rattle.mps_reader.specs.inside.Rows.{names_of}
use Rattle.mps_reader.proofs.NameFacts.{or-false}
use Rattle.mps_reader.proofs.AnswerFacts.{handed-on}
use Rattle.mps_reader.proofs.LinePairFacts.{at, one-pair, two-pairs, first-pair, the-other, two-stamps, one-number, two-numbers}
use Rattle.mps_reader.proofs.PairFaultFacts.{begins, second, not-repeated, has_row}
use Rattle.mps_reader.proofs.SideFacts.{checks-are, rows-same}
use Rattle.mps_reader.proofs.right_sides.take_right_sides.Goals as goal

pub returns-in_err-take_right_side-clause-fault : goal.returns-in_err-take_right_side-clause-fault
returns-in_err-take_right_side-clause-fault c = λ lines earlier d o s.
    handed-on (Unit {0}) c.from_residual.result c.in_err-take_right_side.field-0.0 _ _ (search rules)
    (λ kind h. begins lines (first_free lines) earlier _ _ _ _ _ (Some kind) (first-pair c.args.fields.now c.requires.even).1 (d _)
    (checks-are lines _ _ _ _ _ _ (o _) h))
    (c.in_err-take_right_side.ensures.fault (has_row earlier) s)

pub returns-in_err-take_right_side-2-clause-fault : goal.returns-in_err-take_right_side-2-clause-fault
returns-in_err-take_right_side-2-clause-fault c = λ lines earlier d o s.
    let kept : names_of c.take_right_side.new.rows.names ≡ names_of c.args.rows.now.names = ap names_of c.in_ok-take_right_side.ensures.names in
    handed-on (Unit {0}) c.from_residual-in_err-take_right_side-2.result c.in_err-take_right_side-2.field-0.0 _ _ (search rules)
    (λ kind h. second lines (first_free lines) earlier _ _ _ _ _ _ _ (two-pairs c.args.fields.now c.if-fields-eq4.true) (d _)
    (d _ ∙ ap (list_any (bytes_eq _)) (sym kept)) (checks-are lines _ _ _ _ _ _ (o _) (c.in_ok-take_right_side.ensures.fault (has_row earlier) s))
    ∙ checks-are lines _ _ _ _ _ _ (o _ ∙ ap (λ x. option_map_or (λ other. bytes_eq (at c.args.fields.now 2) other.now) x false)
    (sym c.in_ok-take_right_side.ensures.objective)) h)
    (c.in_err-take_right_side-2.ensures.fault (has_row ((at c.args.fields.now 0, at c.args.fields.now 1) ∷ earlier))
    (rw kept (c.in_ok-take_right_side.ensures.stamps (has_row earlier) s)))

pub returns-then-fields-eq4-clause-fault : goal.returns-then-fields-eq4-clause-fault
returns-then-fields-eq4-clause-fault c = λ lines earlier d o s.
    let kept : names_of c.take_right_side.new.rows.names ≡ names_of c.args.rows.now.names = ap names_of c.in_ok-take_right_side.ensures.names in
    second lines (first_free lines) earlier _ _ _ _ _ _ _ (two-pairs c.args.fields.now c.if-fields-eq4.true) (d _)
    (d _ ∙ ap (list_any (bytes_eq _)) (sym kept)) (checks-are lines _ _ _ _ _ _ (o _) (c.in_ok-take_right_side.ensures.fault (has_row earlier) s))
    ∙ checks-are lines _ _ _ _ _ _ (o _ ∙ ap (λ x. option_map_or (λ other. bytes_eq (at c.args.fields.now 2) other.now) x false)
    (sym c.in_ok-take_right_side.ensures.objective))
    (c.in_ok-take_right_side-2.ensures.fault (has_row ((at c.args.fields.now 0, at c.args.fields.now 1) ∷ earlier))
    (rw kept (c.in_ok-take_right_side.ensures.stamps (has_row earlier) s)))

pub returns-then-fields-eq4-clause-stamps : goal.returns-then-fields-eq4-clause-stamps
returns-then-fields-eq4-clause-stamps c = λ earlier s.
    let kept : names_of c.take_right_side.new.rows.names ≡ names_of c.args.rows.now.names = ap names_of c.in_ok-take_right_side.ensures.names in
    two-stamps _ _ _ _ (at c.args.fields.now 3) _ c.args.stamp _ earlier (two-pairs c.args.fields.now c.if-fields-eq4.true)
    (rw (← kept) (c.in_ok-take_right_side-2.ensures.stamps (has_row ((at c.args.fields.now 0, at c.args.fields.now 1) ∷ earlier))
    (rw kept (c.in_ok-take_right_side.ensures.stamps (has_row earlier) s))))

pub returns-then-fields-eq4-clause-rows : goal.returns-then-fields-eq4-clause-rows
returns-then-fields-eq4-clause-rows c = λ earlier lines s h.
    let kept : names_of c.take_right_side.new.rows.names ≡ names_of c.args.rows.now.names = ap names_of c.in_ok-take_right_side.ensures.names in
    let none = c.in_ok-take_right_side-2.ensures.fault (has_row ((at c.args.fields.now 0, at c.args.fields.now 1) ∷ earlier))
    (rw kept (c.in_ok-take_right_side.ensures.stamps (has_row earlier) s)) in
    let first : List ℕ → ℤ = λ n. if bytes_eq n (at c.args.fields.now 0) then value (at c.args.fields.now 1) else number_beside earlier n in
    c.in_ok-take_right_side-2.ensures.rows first lines (c.in_ok-take_right_side.ensures.rows (number_beside earlier) lines h)
    ∙ rows-same _ _ lines (two-numbers _ _ _ _ _ earlier (two-pairs c.args.fields.now c.if-fields-eq4.true) (or-false _ _ (not-repeated _ _ _ none)).0)

pub returns-clause-fault : goal.returns-clause-fault
returns-clause-fault c = λ lines earlier d o s.
    begins lines (first_free lines) earlier _ _ _ _ _ None (one-pair c.args.fields.now (the-other 2 4 _ c.requires.even c.if-fields-eq4.false)) (d _)
    (checks-are lines _ _ _ _ _ _ (o _) (c.in_ok-take_right_side.ensures.fault (has_row earlier) s))

pub returns-clause-rows : goal.returns-clause-rows
returns-clause-rows c = λ earlier lines s h.
    c.in_ok-take_right_side.ensures.rows (number_beside earlier) lines h ∙ rows-same _ _ lines
    (one-number _ _ _ earlier (one-pair c.args.fields.now (the-other 2 4 _ c.requires.even c.if-fields-eq4.false)))
