use Rattle.std.proofs.Common.{◌≡◌, ◌+◌, ◌++◌, List, drop}
use Rattle.csv.specs.Records.{fields_of}
use Rattle.auction_terms.specs.Judged.{Fault, HoldsMore}
use Rattle.auction_terms.specs.Causes.{limits_cause}
use Rattle.bid_forms.specs.FormText.{field_faults, is_small_text}
use Rattle.bid_forms.specs.declared.form_text.FormFault.{FormFault}
use Rattle.auction_terms.specs.declared.limits.TheConstants.{GREATEST_QUANTITY}
use Rattle.bid_forms.specs.declared.form_text.FormFault.TheVariants as fault
use Rattle.bid_forms.proofs.form_records.add_ranges.Given as goal

abbrev pub invariant-loop-n : goal.invariant-loop-n
invariant-loop-n l = (so_far : List (Fault FormFault))
    × (field_faults is_small_text (fault.QuantityRange l.place) (limits_cause 0 GREATEST_QUANTITY) 2 (drop 1 (fields_of l.row)) ≡ so_far
    ++ field_faults is_small_text (fault.QuantityRange l.place) (limits_cause 0 GREATEST_QUANTITY) (l.n + 1) (drop l.n (fields_of l.row)))
    × HoldsMore l.initial.faults l.faults so_far
