use Rattle.std.proofs.Common.{◌≡◌, ◌-◌, ◌^◌, ◌<◌, ◌≤◌, true, length, take}
use Rattle.std.specs.List.{list_all}
use Rattle.std.specs.Char.{is_ascii_digit}
use Rattle.std.specs.Str.Parse.{digits_value_after}
use Rattle.auction_terms.proofs.decimals.few_digits.Given as goal

-- the value of the digits so far
abbrev pub invariant-loop-i : goal.invariant-loop-i
invariant-loop-i l = record {
  within : l.i ≤ length l.bytes;
  digits : list_all is_ascii_digit (take l.i l.bytes) ≡ true;
  value : l.value ≡ digits_value_after 10 0 (take l.i l.bytes);
  low : l.value < 10 ^ l.i;
}

abbrev pub decreases-loop-i : goal.decreases-loop-i
decreases-loop-i l = length l.bytes - l.i
