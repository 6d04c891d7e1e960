use Rattle.csv.specs.Records.{fields_of}
use Rattle.bid_forms.proofs.RecordFacts.{QuantitiesSoFar}
use Rattle.bid_forms.proofs.form_records.read_quantities.Given as goal

abbrev pub invariant-loop-n : goal.invariant-loop-n
invariant-loop-n l = QuantitiesSoFar (fields_of l.row) l.n l.quantities.items
