use Rattle.std.proofs.Common.{◌≡◌, ◌<◌, ◌^◌, drop}
use Rattle.std.specs.Str.Parse.{AllDigits, digits_value, digits_value_after}
use Rattle.dav_wire.proofs.size_line.number_of.Given as goal

-- the digits that are left go on from the value so far
abbrev pub invariant-loop-byte : goal.invariant-loop-byte
invariant-loop-byte l = record {
  few : l.value < 16 ^ l.byte-index;
  left : AllDigits 16 (drop l.byte-index l.digits);
  so_far : digits_value_after 16 l.value (drop l.byte-index l.digits) ≡ digits_value 16 l.digits;
}
