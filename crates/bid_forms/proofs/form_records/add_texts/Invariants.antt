use Rattle.std.proofs.Common.{◌≡◌, ◌+◌, ◌++◌, List, drop}
use Rattle.std.specs.Prelude.{codes}
use Rattle.csv.specs.Records.{fields_of}
use Rattle.auction_terms.specs.Judged.{Fault, HoldsMore}
use Rattle.bid_forms.specs.FormText.{field_faults, is_number_text}
use Rattle.bid_forms.specs.declared.form_text.FormFault.{FormFault}
use Rattle.bid_forms.specs.declared.form_text.FormFault.TheVariants as fault
use Rattle.bid_forms.proofs.form_records.add_texts.Given as goal

abbrev pub invariant-loop-n : goal.invariant-loop-n
invariant-loop-n l = (so_far : List (Fault FormFault))
    × (field_faults is_number_text (fault.QuantityText l.place) (codes "isn't 1 to 18 digits") 2 (drop 1 (fields_of l.row)) ≡ so_far
    ++ field_faults is_number_text (fault.QuantityText l.place) (codes "isn't 1 to 18 digits") (l.n + 1) (drop l.n (fields_of l.row)))
    × HoldsMore l.initial.faults l.faults so_far
