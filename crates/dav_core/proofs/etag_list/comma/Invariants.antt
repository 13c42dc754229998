use Rattle.std.proofs.Common.{◌≡◌, ◌+◌, drop, false}
use Rattle.dav_core.specs.Commas.{comma_place}
use Rattle.dav_core.proofs.etag_list.comma.Given as goal

abbrev pub invariant-loop-byte : goal.invariant-loop-byte
invariant-loop-byte l = record {
  count : l.count ≡ l.byte-index;
  so_far : comma_place false l.text ≡ l.count + comma_place l.quoted (drop l.byte-index l.text);
}
