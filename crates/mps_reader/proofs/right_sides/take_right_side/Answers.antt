use Rattle.std.proofs.Common.{refl, ap, ◌∙◌, length, arith, Some, rules, ◌≡◌, sym, subst, ℕ, false, map, w64}
use Rattle.std.proofs.lemmas.List.{length-set}
use Rattle.mps_reader.specs.inside.Rows.{names_of, declared_row_names, rows_by, with_side}
use Rattle.mps_reader.proofs.NameFacts.{placed, distinct-rows}
use Rattle.mps_reader.proofs.PairStepFacts.{place-within, place-here, length-names}
use Rattle.mps_reader.proofs.FitFacts.{sided-fit, same-names, side-count}
use Rattle.std.specs.Prelude.{bytes_eq, slice_get, if◌then◌else◌}
use Rattle.std.specs.List.{list_any, IsDistinct, AllByRecursion}
use Rattle.std.specs.Option.{option_map_or}
use Rattle.std.proofs.lemmas.Int.{to_z-of_z}
use mir.Val.{SFits, to_z, of_z}
use Rattle.auction_terms.specs.LineFields.{field}
use Rattle.program_rows.specs.MpsProgram.{value}
use Rattle.mps_reader.proofs.AnswerFacts.{handed-on}
use Rattle.mps_reader.proofs.PairFacts.{stamped-are, row-at, free-apart}
use Rattle.mps_reader.proofs.SideFacts.{row-names-by, none-by, side-by, early-refused}
use Rattle.mps_reader.proofs.right_sides.take_right_side.Goals as goal

pub index-requires : goal.index-requires
index-requires c =
    omega (arith, place-within c.args.rows.now c.in_ok-index.index c.args.row.now c.requires.fit c.in_ok-index.ensures.index, c.args.rows.now.places.ok)

pub set_right_side-requires : goal.set_right_side-requires
set_right_side-requires c =
    let here = place-here c.args.rows.now c.in_ok-index.index c.args.row.now c.index.result.now c.requires.fit c.in_ok-index.ensures.index
    c.index.ensures ∙ ap (λ o. Some o) c.in-Some.is in
    let there = placed 0 (names_of c.args.rows.now.names) c.args.rows.now.places.items (declared_row_names c.args.rows.now.rows.items)
    c.in_ok-index.index c.in-Some.place c.requires.fit.places here in
    omega (arith, length-names c.args.rows.now.rows.items)

pub returns-clause-fit : goal.returns-clause-fit
returns-clause-fit c =
    sided-fit c.args.rows.now _ c.requires.fit refl refl refl (ap length c.in_ok-index.ensures.stamped ∙ length-set c.args.rows.now.stamps.items
    c.in_ok-index.index c.args.stamp)
    (same-names c.in-Some.place _ c.set_right_side.new.rows.items c.args.rows.now.rows.items c.set_right_side.ensures)

pub returns-clause-count : goal.returns-clause-count
returns-clause-count c = side-count c.in-Some.place _ c.set_right_side.new.rows.items c.args.rows.now.rows.items c.set_right_side.ensures

pub returns-in_err-index-clause-fault : goal.returns-in_err-index-clause-fault
returns-in_err-index-clause-fault c = λ has s.
    handed-on ℕ c.from_residual.result c.in_err-index.field-0.0 _ _ (search rules)
    (λ kind. early-refused (list_any (bytes_eq c.args.row.now) (names_of c.args.rows.now.names)) (has c.args.row.now)
    (option_map_or (λ name. bytes_eq c.args.row.now name.now) c.args.rows.now.objective false) c.args.token.now kind)
    (c.in_err-index.ensures.fault has s)

pub returns-in_default-clause-stamps : goal.returns-in_default-clause-stamps
returns-in_default-clause-stamps c = λ has h.
    rw c.in_ok-index.ensures.stamped (stamped-are c.args.stamp has c.args.rows.now.stamps.items (names_of c.args.rows.now.names) c.in_ok-index.index
    c.args.row.now c.requires.fit.distinct c.in_ok-index.ensures.index h)

pub returns-clause-stamps : goal.returns-clause-stamps
returns-clause-stamps c = λ has h.
    rw c.in_ok-index.ensures.stamped (stamped-are c.args.stamp has c.args.rows.now.stamps.items (names_of c.args.rows.now.names) c.in_ok-index.index
    c.args.row.now c.requires.fit.distinct c.in_ok-index.ensures.index h)

pub returns-in_default-clause-rows : goal.returns-in_default-clause-rows
returns-in_default-clause-rows c = λ side lines h.
    let found : slice_get c.args.rows.now.places.items c.in_ok-index.index ≡ Some c.index.result.now =
    place-here c.args.rows.now c.in_ok-index.index c.args.row.now c.index.result.now c.requires.fit c.in_ok-index.ensures.index c.index.ensures in
    let names : declared_row_names c.args.rows.now.rows.items ≡ map (field 1) lines = row-names-by c.args.rows.now.rows.items side lines h in
    let free = free-apart 0 (names_of c.args.rows.now.names) c.args.rows.now.places.items (declared_row_names c.args.rows.now.rows.items)
    c.in_ok-index.index c.args.row.now c.requires.fit.places c.requires.fit.distinct c.in_ok-index.ensures.index
    (found ∙ ap (λ o. Some o) c.in_default.is) in
    h ∙ none-by side c.args.row.now (value c.args.token.now) lines (subst (λ ns. AllByRecursion (λ n. bytes_eq c.args.row.now n ≡ false) ns) names free)

pub returns-clause-rows : goal.returns-clause-rows
returns-clause-rows c = λ side lines h.
    let found : slice_get c.args.rows.now.places.items c.in_ok-index.index ≡ Some c.index.result.now =
    place-here c.args.rows.now c.in_ok-index.index c.args.row.now c.index.result.now c.requires.fit c.in_ok-index.ensures.index c.index.ensures in
    let names : declared_row_names c.args.rows.now.rows.items ≡ map (field 1) lines = row-names-by c.args.rows.now.rows.items side lines h in
    let fits : SFits w64 c.in_ok-value.value = search rules in
    let same : to_z w64 (of_z w64 c.in_ok-value.value) ≡ c.in_ok-value.value = to_z-of_z w64 c.in_ok-value.value fits in
    let stands = row-at 0 (names_of c.args.rows.now.names) c.args.rows.now.places.items (declared_row_names c.args.rows.now.rows.items)
    c.in_ok-index.index c.in-Some.place c.args.row.now c.requires.fit.places c.in_ok-index.ensures.index
    (found ∙ ap (λ o. Some o) (c.in-Some.is ∙ ap (λ n. Some n) (omega arith))) in
    c.set_right_side.ensures ∙ ap (with_side c.in-Some.place _) h
    ∙ side-by side c.args.row.now _ c.in-Some.place lines (subst (λ ns. IsDistinct bytes_eq ns) names
    (distinct-rows 0 (names_of c.args.rows.now.names) c.args.rows.now.places.items (declared_row_names c.args.rows.now.rows.items)
    c.requires.fit.places c.requires.fit.distinct)) (subst (λ ns. slice_get ns c.in-Some.place ≡ Some c.args.row.now) names stands)
    ∙ ap (λ z. rows_by (λ n. if bytes_eq n c.args.row.now then z else side n) lines) (same ∙ sym c.in_ok-value.ensures.value)
