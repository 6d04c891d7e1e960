use Rattle.std.proofs.Common.{◌<◌, ◌∙◌, ap, arith, get_or, length, pos, rules, slice_get, sym, w64}
use Rattle.std.proofs.lemmas.Int.{to_z-of_z}
use Rattle.std.specs.Option.{option_map}
use mir.Val.{SFits}
use Rattle.program_rows.proofs.SeenFacts.{length-seen, numbered-entry, own-entry}
use Rattle.program_rows.proofs.selected_entries.Entries.entry.Goals as goal

pub returns-in-None : goal.returns-in-None
returns-in-None c =
    let entries = c.self.inside.entries.now in
    let numbers = option_map (λ numbers. numbers.now) c.self.inside.numbers in
    let within : c.args.place < length entries = omega (arith, c.requires, ap length c.self.view_is, length-seen numbers entries) in
    let fits : SFits w64 (get_or entries c.args.place (0, pos 0)).1 = search rules in
    simp to_z-of_z (ap (λ es. slice_get es c.args.place) (sym c.self.view_is)
    ∙ own-entry numbers entries c.args.place (0, pos 0) (ap (λ ns. option_map (λ numbers. numbers.now) ns) c.in-None.is) within)

pub returns-in-Some : goal.returns-in-Some
returns-in-Some c =
    let entries = c.self.inside.entries.now in
    let numbers = option_map (λ numbers. numbers.now) c.self.inside.numbers in
    let within : c.args.place < length entries = omega (arith, c.requires, ap length c.self.view_is, length-seen numbers entries) in
    let fits : SFits w64 (get_or entries c.args.place (0, pos 0)).1 = search rules in
    simp to_z-of_z (ap (λ es. slice_get es c.args.place) (sym c.self.view_is)
    ∙ numbered-entry numbers c.in-Some.numbers.now entries c.args.place c.number_at.result (0, pos 0)
    (ap (λ ns. option_map (λ numbers. numbers.now) ns) c.in-Some.is) within c.number_at.ensures)
