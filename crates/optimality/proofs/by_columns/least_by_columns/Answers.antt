use Rattle.std.proofs.Common.{◌≡◌, ◌∙◌, List, ℕ, ℤ, ap, arith, length, pos, subst, sym, rules}
use Rattle.std.proofs.lemmas.List.{take_at}
use Rattle.std.proofs.lemmas.Int.{to_z-of_z}
use Rattle.std.proofs.lemmas.Option.{IfSome_then}
use mir.Syntax.{w64, w128}
use mir.Val.{SFits}
use Rattle.optimality.specs.Adding.{AreGivenMore, AreNone, number_at}
use Rattle.optimality.specs.inside.Adding.{HaveAll, HaveRows, cuts_given, least_with}
use Rattle.optimality.specs.Holding.{cuts_of}
use Rattle.optimality.proofs.LeafFacts.{all-have, given-is}
use Rattle.optimality.proofs.by_columns.least_by_columns.Goals as goal

pub returns : goal.returns
returns c =
    let p = c.args.checker.now.program.now in
    let leaf = c.args.leaf.now in
    let ys = leaf.multipliers.items in
    let cuts = cuts_of c.args.splits.now in
    let rows = c.args.rows.now in
    let count = c.in_ok-given.given.len in
    let none = c.as_mut_slice.result.now in
    let before = c.add_cuts.new.sums in
    let after = c.add_rows.new.sums in
    let numbers = c.as_slice-2.result.now in
    let long : length before ≡ count = omega (arith, c.add_cuts.auto.sums, c.as_mut_slice.ensures.len) in
    let between : c.as_mut_slice-2.result.now ≡ before = c.as_mut_slice-2.ensures.value ∙ take_at before _ count long in
    let longer : length after ≡ count = omega (arith, c.add_rows.auto.sums, ap length between, long) in
    let held : numbers ≡ after = c.as_slice-2.ensures.value ∙ take_at after _ count longer in
    let empty : AreNone none = subst AreNone (sym c.as_mut_slice.ensures.value) c.in_ok-given.ensures in
    let of_cuts = subst (λ (zs : List ℕ). AreGivenMore (cuts_given zs cuts) none before) c.as_slice.ensures.value c.in_ok-add_cuts.ensures in
    let of_rows = subst (λ (ns : List ℤ). HaveRows p rows ns after) between c.in_ok-add_rows.ensures in
    let given : HaveAll p ys cuts rows numbers = subst (λ (ns : List ℤ). HaveAll p ys cuts rows ns) (sym held)
    (all-have p ys cuts rows none before after empty of_cuts of_rows) in
    let fits : SFits w64 c.in_ok-scale.scale = search rules in
    let fits_from : SFits w128 c.from.result = search rules in
    let narrow = simp to_z-of_z at c.in_ok-scale.ensures in
    let scale : c.in_ok-scale.scale ≡ pos leaf.scale = narrow ∙ c.from.ensures in
    let least = simp to_z-of_z at c.least_given.ensures in
    IfSome_then c.least_given.result least (λ n e. e ∙ ap (λ (k : ℤ). least_with k (number_at numbers) p.columns) scale ∙ given-is p
    leaf.scale ys cuts rows numbers given)
