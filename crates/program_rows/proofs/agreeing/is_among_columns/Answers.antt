use Rattle.std.proofs.Common.{◌≡◌, ◌∙◌, ◌&&◌, Bool, ap, map, sym, arith, true, false, refl, rules, tests, w64}
use Rattle.std.specs.Prelude.{bytes_eq, nat_eq}
use Rattle.std.specs.List.{list_all}
use Rattle.std.specs.Ordering.{int_eq}
use Rattle.std.proofs.lemmas.Iterator.{YieldsList-from_slice}
use Rattle.std.proofs.lemmas.Iterator.Search.{all_from_yields_List}
use mir.Val.{of_z}
use Rattle.program_rows.specs.Program.{TableColumn}
use Rattle.program_rows.specs.Parts.{shown_row, shown_column}
use Rattle.program_rows.specs.inside.Comparing.{column_agrees, entry_stands, same_bounds}
use Rattle.program_rows.proofs.LookupFacts.{stand_found, stand_none}
use Rattle.program_rows.proofs.NamedItemFacts.{bounds_test}
use Rattle.program_rows.proofs.agreeing.is_among_columns.Goals.{then-eq, else-eq}
use Rattle.program_rows.proofs.agreeing.is_among_columns.Goals as goal

pub returns-then-column-other : goal.returns-then-column-other
returns-then-column-other c =
    let column = c.args.column.now in
    let other = c.column-other.result in
    let rows = map shown_row c.args.rows.now in
    let others = map shown_row c.args.others.now in
    let bounds : same_bounds column.bounds other.bounds ≡ c.eq.result = sym (bounds_test column.bounds other.bounds) ∙ sym c.eq.ensures in
    let costs : nat_eq (of_z w64 column.cost) (of_z w64 other.cost) ≡ int_eq column.cost other.cost = search rules in
    let front : (same_bounds column.bounds other.bounds && int_eq column.cost other.cost) ≡ true = elim c.if-eq.branch [
      | then-eq w ↦ rw (bounds, w.if-eq.true) (sym costs ∙ sym w.value-is ∙ c.if-column-other.true)
      | else-eq w ↦ cc
    ] in
    let all : c.all.result ≡ list_all (entry_stands rows others (shown_column other)) column.entries.now =
    all_from_yields_List _ _ _ c.all.result c.all.ensures.ran (YieldsList-from_slice column.entries.now cc) (λ x b q k. search (rules, tests)) in
    all ∙ sym (ap (λ (b : Bool). b && list_all (entry_stands rows others (shown_column other)) column.entries.now) front)
    ∙ stand_found (λ (k : TableColumn). bytes_eq column.name.now k.name)
    (column_agrees rows others (shown_column column))
    c.args.columns.now c.column_place-place.result (shown_column other) c.column_place-place.ensures c.column-other.ensures

pub returns-else-column-other : goal.returns-else-column-other
returns-else-column-other c =
    let column = c.args.column.now in
    let other = c.column-other.result in
    let rows = map shown_row c.args.rows.now in
    let others = map shown_row c.args.others.now in
    let bounds : same_bounds column.bounds other.bounds ≡ c.eq.result = sym (bounds_test column.bounds other.bounds) ∙ sym c.eq.ensures in
    let front : (same_bounds column.bounds other.bounds && int_eq column.cost other.cost) ≡ false = elim c.if-eq.branch [
      | then-eq w ↦
          let costs : nat_eq (of_z w64 column.cost) (of_z w64 other.cost) ≡ int_eq column.cost other.cost = search rules in
          rw (bounds, w.if-eq.true) (sym costs ∙ sym w.value-is ∙ c.if-column-other.false)
      | else-eq w ↦ rw (bounds, w.if-eq.false) refl
    ] in
    c.if-column-other.false ∙ sym (ap (λ (b : Bool). b && list_all (entry_stands rows others (shown_column other)) column.entries.now) front)
    ∙ stand_found (λ (k : TableColumn). bytes_eq column.name.now k.name)
    (column_agrees rows others (shown_column column))
    c.args.columns.now c.column_place-place.result (shown_column other) c.column_place-place.ensures c.column-other.ensures

pub returns : goal.returns
returns c =
    stand_none (λ (k : TableColumn). bytes_eq c.args.column.now.name.now k.name)
    (column_agrees (map shown_row c.args.rows.now) (map shown_row c.args.others.now) (shown_column c.args.column.now))
    c.args.columns.now c.column_place-place.result c.column_place-place.ensures (omega arith)
