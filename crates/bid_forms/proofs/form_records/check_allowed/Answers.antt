use Rattle.std.proofs.Common.{◌∙◌, sym}
use Rattle.std.proofs.lemmas.Bool.{lt-leb}
use Rattle.bid_forms.specs.Offers.{points_of}
use Rattle.bid_forms.proofs.form_records.check_allowed.Goals as goal

pub returns-clause-told : goal.returns-clause-told
returns-clause-told c =
    let over = lt-leb (points_of c.args.categories.now c.args.quantities.now) c.args.eligibility
    (rw c.points_of-points.ensures at c.if-points-eligibility.false) in
    rw (sym c.is_empty_package.ensures ∙ c.if-is_empty_package.false, over)
    (rw (c.of_whole-2.ensures, c.points_of-points.ensures) at c.in_ok-add-2.ensures)
