use Rattle.std.proofs.Common.{◌≡◌, ◌<◌, ◌^◌, drop, IsTrue}
use Rattle.std.specs.Char.{is_ascii_digit}
use Rattle.std.specs.List.{list_all}
use Rattle.std.specs.Str.Parse.{digits_value, digits_value_after}
use Rattle.dav_wire.proofs.announcing.number.Given as goal

-- the digits that are left go on from the value so far
abbrev pub invariant-loop-byte : goal.invariant-loop-byte
invariant-loop-byte l = record {
  few : l.value < 10 ^ l.byte-index;
  left : IsTrue (list_all is_ascii_digit (drop l.byte-index l.text));
  so_far : digits_value_after 10 l.value (drop l.byte-index l.text) ≡ digits_value 10 l.text;
}
