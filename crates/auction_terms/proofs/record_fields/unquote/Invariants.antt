use Rattle.std.proofs.Common.{◌≡◌, ◌≤◌, ℕ, List, length}
use Rattle.csv.specs.Machine.{next_record}
use Rattle.csv.specs.Reading.{default_config}
use Rattle.csv.specs.declared.parser.State.TheVariants as st
use Rattle.auction_terms.proofs.record_fields.unquote.Given as goal

-- with the field so far, what is left reads as the whole does
abbrev pub invariant-loop-mark : goal.invariant-loop-mark
invariant-loop-mark l = record {
  same : (fields : List (List ℕ)) → next_record default_config st.InQuoted fields l.initial.field.items l.bytes
      ≡ next_record default_config st.InQuoted fields l.field.items l.left;
  shorter : length l.left ≤ length l.bytes;
}

abbrev pub decreases-loop-mark : goal.decreases-loop-mark
decreases-loop-mark l = length l.left
