use Rattle.std.proofs.Common.{refl, arith, ◌≡◌, ◌∙◌, ap, sym, subst, Some, false, not, rules, w64}
use Rattle.std.proofs.lemmas.Option.{slice_get-get_or}
use Rattle.mps_reader.specs.inside.Rows.{names_of, declared_row_names, option_now}
use Rattle.mps_reader.proofs.NameFacts.{no-cost}
use Rattle.mps_reader.proofs.PairStepFacts.{place-within, stamp-within, place-here, pair-fits}
use Rattle.std.specs.Option.{option_map_or}
use Rattle.std.specs.Prelude.{bytes_eq, slice_get, if◌then◌else◌}
use Rattle.program_rows.specs.Parts.{IsName}
use Rattle.std.proofs.lemmas.Int.{to_z-of_z}
use mir.Val.{SFits, to_z, of_z}
use Rattle.mps_reader.specs.inside.Columns.{put_entries}
use Rattle.mps_reader.specs.inside.Tracking.{HoldsNumbers}
use Rattle.mps_reader.proofs.PairFacts.{stamped-are, open-put, all-at}
use Rattle.mps_reader.proofs.entries.take_entry.Goals.{then-is_none, else-is_none}
use Rattle.mps_reader.proofs.entries.take_entry.Goals as goal

pub index-requires : goal.index-requires
index-requires c =
    omega (arith, place-within c.args.rows.now c.in_ok-index.index c.args.row.now c.requires.fit c.in_ok-index.ensures.index, c.args.rows.now.places.ok)

pub returns-clause-entries : goal.returns-clause-entries
returns-clause-entries c = λ fits.
    pair-fits c.args.rows.now _ c.args.column.now c.put.new.column c.args.stamp c.in_ok-index.index c.args.row.now c.if-is_none.is_cost
    c.index.result.now _ c.requires.fit c.in_ok-index.ensures.index
    (place-here c.args.rows.now c.in_ok-index.index c.args.row.now c.index.result.now c.requires.fit c.in_ok-index.ensures.index
    c.index.ensures) c.in_ok-index.ensures.fresh refl refl c.in_ok-index.ensures.stamped c.in_ok-put.ensures.entries fits

pub returns-clause-stamps : goal.returns-clause-stamps
returns-clause-stamps c = λ has h.
    rw c.in_ok-index.ensures.stamped (stamped-are c.args.stamp has c.args.rows.now.stamps.items (names_of c.args.rows.now.names) c.in_ok-index.index
    c.args.row.now c.requires.fit.distinct c.in_ok-index.ensures.index h)

pub returns-clause-tells : goal.returns-clause-tells
returns-clause-tells c = λ fits number h.
    let here : slice_get c.args.rows.now.places.items c.in_ok-index.index ≡ Some c.index.result.now =
    place-here c.args.rows.now c.in_ok-index.index c.args.row.now c.index.result.now c.requires.fit c.in_ok-index.ensures.index
    c.index.ensures in
    let fits_number : SFits w64 c.in_ok-value.value = search rules in
    let same : to_z w64 (of_z w64 c.in_ok-value.value) ≡ c.in_ok-value.value = to_z-of_z w64 c.in_ok-value.value fits_number in
    let cost : c.if-is_none.is_cost ≡ option_map_or (λ name. bytes_eq c.args.row.now name.now) c.args.rows.now.objective false = elim c.if-is_none.branch [
      | then-is_none w ↦ w.is_cost-is ∙ w.is_objective-is_cost.ensures
      | else-is_none w ↦ w.is_cost-is ∙ w.if-is_none.false ∙ sym (no-cost c.args.rows.now.objective (names_of c.args.rows.now.names)
          c.args.rows.now.places.items (declared_row_names c.args.rows.now.rows.items) c.in_ok-index.index c.args.row.now c.index.result.now
          c.requires.fit.places c.requires.fit.objective c.in_ok-index.ensures.index here
          (c.is_none.ensures ∙ ap not w.if-is_none.false))
    ] in
    let stamped = slice_get-get_or c.args.rows.now.stamps.items c.in_ok-index.index 0
    (stamp-within c.args.rows.now _ c.args.row.now c.requires.fit c.in_ok-index.ensures.index) in
    subst (λ v. HoldsNumbers (option_now c.args.rows.now.objective) (declared_row_names c.args.rows.now.rows.items)
    (λ name. if bytes_eq name c.args.row.now then v else number name) c.put.new.column) (sym c.in_ok-value.ensures.value)
    (open-put c.args.rows.now.objective (names_of c.args.rows.now.names) c.args.rows.now.places.items (declared_row_names c.args.rows.now.rows.items)
    number c.args.column.now c.put.new.column c.in_ok-index.index c.args.row.now c.if-is_none.is_cost c.index.result.now c.in_ok-value.value
    c.requires.fit.distinct (all-at IsName (names_of c.args.rows.now.names) c.in_ok-index.index c.args.row.now c.in_ok-index.ensures.index
    c.requires.fit.plain) c.requires.fit.places c.requires.fit.objective c.in_ok-index.ensures.index here
    (λ p e. fits.apart c.in_ok-index.index p _ (here ∙ ap (λ o. Some o) e) stamped (c.in_ok-index.ensures.fresh _ stamped))
    cost (c.in_ok-put.ensures.cost ∙ ap (λ z. if c.if-is_none.is_cost then z else c.args.column.now.cost) same)
    (c.in_ok-put.ensures.entries ∙ ap (λ z. put_entries c.if-is_none.is_cost c.index.result.now z c.args.column.now.entries.items) same) h)
