use Rattle.std.proofs.Common.{◌≡◌, ◌++◌, ◌≤◌, length}
use Rattle.std.specs.Prelude.{take}
use Rattle.std.specs.List.{list_all}
use Rattle.auction_terms.specs.LineFields.{fields}
use Rattle.auction_terms.specs.Lines.{bytes_of}
use Rattle.mps_reader.specs.inside.Reading.{is_text_byte}
use Rattle.mps_reader.proofs.fields.first_fields.Given as goal

-- the fields so far come before those of the rest, up to the sixth, and the line is one of text if the rest is
abbrev pub invariant-loop-field : goal.invariant-loop-field
invariant-loop-field l = record {
  few : length l.fields.items ≤ 6;
  front : take 6 (fields l.line) ≡ take 6 (bytes_of l.fields.items ++ fields l.rest);
  text : list_all is_text_byte l.line ≡ list_all is_text_byte l.rest;
}

abbrev pub decreases-loop-field : goal.decreases-loop-field
decreases-loop-field l = length l.rest
