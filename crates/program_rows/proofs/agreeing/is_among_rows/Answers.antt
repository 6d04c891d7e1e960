use Rattle.std.proofs.Common.{◌≡◌, ◌∙◌, ℕ, List, ap, map, sym, arith, true, false, rules, w64}
use Rattle.std.specs.Prelude.{bytes_eq, nat_eq}
use Rattle.std.specs.List.{position_or_len}
use Rattle.std.proofs.lemmas.List.{length-map}
use mir.Val.{of_z}
use Rattle.program_rows.specs.Program.{TableRow}
use Rattle.program_rows.specs.Parts.{shown_row}
use Rattle.program_rows.specs.inside.Comparing.{row_agrees, same_kind}
use Rattle.program_rows.proofs.LookupFacts.{stand_found, stand_none}
use Rattle.program_rows.proofs.NamedItemFacts.{kind_test}
use Rattle.program_rows.proofs.agreeing.is_among_rows.Goals as goal

pub returns-then-eq : goal.returns-then-eq
returns-then-eq c =
    let row = c.args.row.now in
    let other = c.row_at-other.result.now in
    let kind : same_kind row.kind other.kind ≡ true = sym (kind_test row.kind other.kind) ∙ sym c.eq.ensures ∙ c.if-eq.true in
    let agree : nat_eq (of_z w64 row.right_side) (of_z w64 other.right_side) ≡ row_agrees (shown_row row) (shown_row other) = rw kind (search rules) in
    agree
    ∙ stand_found (λ (r : TableRow). bytes_eq row.name.items r.name) (row_agrees (shown_row row))
    (map shown_row c.args.others.now) c.row_place-place.result (shown_row other)
    (c.row_place-place.ensures ∙ ap (λ (n : List ℕ). position_or_len (λ (r : TableRow). bytes_eq n r.name)
    (map shown_row c.args.others.now)) c.as_slice.ensures.value) c.row_at-other.ensures

pub returns-else-eq : goal.returns-else-eq
returns-else-eq c =
    let row = c.args.row.now in
    let other = c.row_at-other.result.now in
    let kind : same_kind row.kind other.kind ≡ false = sym (kind_test row.kind other.kind) ∙ sym c.eq.ensures ∙ c.if-eq.false in
    let agree : c.eq.result ≡ row_agrees (shown_row row) (shown_row other) = rw kind c.if-eq.false in
    agree
    ∙ stand_found (λ (r : TableRow). bytes_eq row.name.items r.name) (row_agrees (shown_row row))
    (map shown_row c.args.others.now) c.row_place-place.result (shown_row other)
    (c.row_place-place.ensures ∙ ap (λ (n : List ℕ). position_or_len (λ (r : TableRow). bytes_eq n r.name)
    (map shown_row c.args.others.now)) c.as_slice.ensures.value) c.row_at-other.ensures

pub returns : goal.returns
returns c =
    let count = length-map c.args.others.now shown_row in
    stand_none (λ (r : TableRow). bytes_eq c.args.row.now.name.items r.name) (row_agrees (shown_row c.args.row.now))
    (map shown_row c.args.others.now) c.row_place-place.result (c.row_place-place.ensures ∙ ap
    (λ (n : List ℕ). position_or_len (λ (r : TableRow). bytes_eq n r.name) (map shown_row c.args.others.now)) c.as_slice.ensures.value)
    (omega arith)
