use Rattle.std.proofs.Common.{rules, ◌≡◌, ◌∷◌, ◌∙◌, ap, sym, subst, List, ℕ, ℤ, Some, None}
use Rattle.std.specs.Prelude.{bytes_eq, if◌then◌else◌}
use Rattle.std.specs.List.{list_any}
use Rattle.program_rows.specs.MpsProgram.{value, number_beside}
use Rattle.mps_reader.specs.inside.Rows.{names_of, option_now, declared_row_names}
use Rattle.mps_reader.specs.inside.Tracking.{HoldsNumbers}
use Rattle.mps_reader.specs.declared.tables.Rows.{Rows}
use Rattle.mps_reader.proofs.NameFacts.{or-false}
use Rattle.mps_reader.proofs.AnswerFacts.{handed-on}
use Rattle.mps_reader.proofs.LinePairFacts.{at, one-after, two-after, first-after, the-other, two-stamps, one-number, two-numbers, open-same}
use Rattle.mps_reader.proofs.PairFaultFacts.{begins, second, not-repeated, has_row}
use Rattle.mps_reader.proofs.entries.take_entries.Goals as goal

pub returns-in_err-take_entry-clause-fault : goal.returns-in_err-take_entry-clause-fault
returns-in_err-take_entry-clause-fault c = λ lines earlier d s.
    handed-on (Unit {0}) c.from_residual.result c.in_err-take_entry.field-0.0 _ _ (search rules)
    (λ kind h. begins lines None earlier _ _ _ _ _ (Some kind) (first-after c.args.fields.now c.requires.count).1 (d _) h)
    (c.in_err-take_entry.ensures.fault (has_row earlier) s)

pub returns-clause-fault : goal.returns-clause-fault
returns-clause-fault c = λ lines earlier d s.
    begins lines None earlier _ _ _ _ _ None (one-after c.args.fields.now (the-other 3 5 _ c.requires.count c.if-fields-eq5.false)) (d _)
    (c.in_ok-take_entry.ensures.fault (has_row earlier) s)

pub returns-clause-stamps : goal.returns-clause-stamps
returns-clause-stamps c = λ earlier h.
    rw (one-after c.args.fields.now (the-other 3 5 _ c.requires.count c.if-fields-eq5.false)) (c.in_ok-take_entry.ensures.stamps (has_row earlier) h)

pub returns-clause-tells : goal.returns-clause-tells
returns-clause-tells c = λ fits earlier s h.
    open-same _ _ _ _ c.take_entry.new.column (one-number _ _ _ earlier (one-after c.args.fields.now (the-other 3 5 _ c.requires.count c.if-fields-eq5.false)))
    (c.in_ok-take_entry.ensures.tells fits (number_beside earlier) h)

pub returns-in_err-take_entry-2-clause-fault : goal.returns-in_err-take_entry-2-clause-fault
returns-in_err-take_entry-2-clause-fault c = λ lines earlier d s.
    let kept : names_of c.take_entry.new.rows.names ≡ names_of c.args.rows.now.names = ap (λ q. names_of q.names) c.in_ok-take_entry.ensures.frame in
    handed-on (Unit {0}) c.from_residual-in_err-take_entry-2.result c.in_err-take_entry-2.field-0.0 _ _ (search rules)
    (λ kind h. second lines None earlier _ _ _ _ _ _ _ (two-after c.args.fields.now c.if-fields-eq5.true) (d _)
    (d _ ∙ ap (list_any (bytes_eq _)) (sym kept)) (c.in_ok-take_entry.ensures.fault (has_row earlier) s) ∙ h)
    (c.in_err-take_entry-2.ensures.fault (has_row ((at c.args.fields.now 1, at c.args.fields.now 2) ∷ earlier))
    (rw kept (c.in_ok-take_entry.ensures.stamps (has_row earlier) s)))

pub returns-then-fields-eq5-clause-fault : goal.returns-then-fields-eq5-clause-fault
returns-then-fields-eq5-clause-fault c = λ lines earlier d s.
    let kept : names_of c.take_entry.new.rows.names ≡ names_of c.args.rows.now.names = ap (λ q. names_of q.names) c.in_ok-take_entry.ensures.frame in
    second lines None earlier _ _ _ _ _ _ _ (two-after c.args.fields.now c.if-fields-eq5.true) (d _) (d _ ∙ ap (list_any (bytes_eq _)) (sym kept))
    (c.in_ok-take_entry.ensures.fault (has_row earlier) s)
    ∙ (c.in_ok-take_entry-2.ensures.fault (has_row ((at c.args.fields.now 1, at c.args.fields.now 2) ∷ earlier))
    (rw kept (c.in_ok-take_entry.ensures.stamps (has_row earlier) s)))

pub returns-then-fields-eq5-clause-stamps : goal.returns-then-fields-eq5-clause-stamps
returns-then-fields-eq5-clause-stamps c = λ earlier s.
    let kept : names_of c.take_entry.new.rows.names ≡ names_of c.args.rows.now.names = ap (λ q. names_of q.names) c.in_ok-take_entry.ensures.frame in
    two-stamps _ _ _ _ (at c.args.fields.now 4) _ c.args.stamp _ earlier (two-after c.args.fields.now c.if-fields-eq5.true)
    (rw (← kept) (c.in_ok-take_entry-2.ensures.stamps (has_row ((at c.args.fields.now 1, at c.args.fields.now 2) ∷ earlier))
    (rw kept (c.in_ok-take_entry.ensures.stamps (has_row earlier) s))))

pub returns-then-fields-eq5-clause-tells : goal.returns-then-fields-eq5-clause-tells
returns-then-fields-eq5-clause-tells c = λ fits earlier s h.
    let kept : names_of c.take_entry.new.rows.names ≡ names_of c.args.rows.now.names = ap (λ q. names_of q.names) c.in_ok-take_entry.ensures.frame in
    let none = c.in_ok-take_entry-2.ensures.fault (has_row ((at c.args.fields.now 1, at c.args.fields.now 2) ∷ earlier))
    (rw kept (c.in_ok-take_entry.ensures.stamps (has_row earlier) s)) in
    let first : List ℕ → ℤ = λ n. if bytes_eq n (at c.args.fields.now 1) then value (at c.args.fields.now 2) else number_beside earlier n in
    open-same _ _ _ _ c.take_entry-then-fields-eq5.new.column (two-numbers _ _ _ _ _ earlier (two-after c.args.fields.now c.if-fields-eq5.true)
    (or-false _ _ (not-repeated _ _ _ none)).0)
    (subst (λ (q : Rows). HoldsNumbers (option_now q.objective) (declared_row_names q.rows.items)
    (λ n. if bytes_eq n (at c.args.fields.now 3) then value (at c.args.fields.now 4) else first n) c.take_entry-then-fields-eq5.new.column)
    c.in_ok-take_entry.ensures.frame
    (c.in_ok-take_entry-2.ensures.tells (c.in_ok-take_entry.ensures.entries fits) first
    (subst (λ (q : Rows). HoldsNumbers (option_now q.objective) (declared_row_names q.rows.items) first c.take_entry.new.column)
    (sym c.in_ok-take_entry.ensures.frame) (c.in_ok-take_entry.ensures.tells fits (number_beside earlier) h))))
