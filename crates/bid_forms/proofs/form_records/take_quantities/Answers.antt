use Rattle.std.proofs.Common.{refl}
use Rattle.csv.specs.Records.{fields_of}
use Rattle.auction_terms.proofs.JudgeFacts.{holds-both}
use Rattle.bid_forms.proofs.BidFacts.{or_else-some}
use Rattle.bid_forms.proofs.PackageFacts.{seen-before}
use Rattle.bid_forms.specs.FormText.{quantity_faults}
use Rattle.bid_forms.proofs.form_records.take_quantities.Goals as goal

pub returns-in_ok-add_ranges-in-None-clause-told : goal.returns-in_ok-add_ranges-in-None-clause-told
returns-in_ok-add_ranges-in-None-clause-told c =
    rw (or_else-some (quantity_faults c.args.entry.now.place (fields_of c.args.entry.now.row.now)) _ c.in-None.ensures.none)
    (holds-both _ _ _ _ _ c.in_ok-add_texts-in-None.ensures c.in_ok-add_ranges-in-None.ensures)

pub returns-then-not-branch-clause-kept : goal.returns-then-not-branch-clause-kept
returns-then-not-branch-clause-kept c =
    seen-before _ _ c.args.before.now (record { «package» = c.as_slice-lots.result.now; amount = 0 })
    (c.in_ok-check_package-in-Some.ensures.seen (record { «package» = c.as_slice-lots.result.now; amount = 0 }) refl)

pub returns-else-not-branch-clause-kept : goal.returns-else-not-branch-clause-kept
returns-else-not-branch-clause-kept c =
    seen-before _ _ c.args.before.now (record { «package» = c.as_slice-lots.result.now; amount = 0 })
    (c.in_ok-check_package-in-Some.ensures.seen (record { «package» = c.as_slice-lots.result.now; amount = 0 }) refl)

pub returns-else-not-branch-clause-seen : goal.returns-else-not-branch-clause-seen
returns-else-not-branch-clause-seen c bid is = c.in_ok-check_package-in-Some.ensures.seen bid (rw c.as_slice-lots.ensures.value is)
