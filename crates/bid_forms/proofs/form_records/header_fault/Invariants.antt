use Rattle.std.proofs.Common.{◌≡◌, ◌+◌, drop}
use Rattle.csv.specs.Records.{fields_of}
use Rattle.auction_terms.specs.FirstFault.{first_failed}
use Rattle.bid_forms.specs.FormText.{column_checks}
use Rattle.bid_forms.proofs.form_records.header_fault.Given as goal

abbrev pub invariant-loop-place : goal.invariant-loop-place
invariant-loop-place l =
    first_failed (column_checks (l.place + 2) (drop l.place l.categories) (fields_of l.header))
    ≡ first_failed (column_checks 2 l.categories (fields_of l.header))
