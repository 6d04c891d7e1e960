use Rattle.std.proofs.Common.{ap, false, refl, rules, ◌∙◌}
use Rattle.std.proofs.lemmas.Int.{to_z-of_z}
use mir.Syntax.{w64, w128}
use mir.Val.{SFits}
use Rattle.auction_terms.specs.LineFields.{fields}
use Rattle.optimality.specs.inside.LineMeaning.{split_after}
use Rattle.optimality.specs.declared.checker.OpenSplit.{OpenSplit}
use Rattle.optimality.specs.inside.Branches.{branches_of}
use Rattle.optimality.proofs.AlikeFacts.{split-opened}
use Rattle.optimality.proofs.BranchFacts.{branches_push}
use Rattle.optimality.proofs.lines.take_split_line.Goals as goal

pub returns-clause-value : goal.returns-clause-value
returns-clause-value c =
    let p = c.args.checker.now.program.now in
    let fits : SFits w64 c.in_ok-parsed.parsed.most = search rules in
    let fits_from : SFits w128 c.from.result = search rules in
    let most = simp to_z-of_z at c.from.ensures in
    let split : OpenSplit = record { form = c.in_ok-form.form; most = c.from.result; is_high = false } in
    split-opened p c.args.checker.now.least (branches_of c.args.splits.now.items) (branches_of c.push.new.self.items)
    (split_after p (fields c.args.text.now)) c.in_ok-parsed.parsed.form.items c.in_ok-parsed.parsed.most split c.in_ok-parsed.ensures
    (rw c.as_slice.ensures.value at c.in_ok-form.ensures.alike) (rw c.as_slice.ensures.value at c.in_ok-form.ensures.size) most refl
    (ap branches_of (simp to_z-of_z at c.in_ok-push.ensures.items) ∙ branches_push c.args.splits.now.items split)
