use Rattle.std.proofs.Common.{◌≡◌, ◌≤◌, true, [], map, take, length}
use Rattle.http_header.specs.HeaderMap.{append_all, value_count}
use Rattle.dav_wire.specs.Fields.{ArePlain}
use Rattle.dav_wire.specs.Heads.{kept_span}
use Rattle.dav_wire.proofs.head.read_fields.Given as goal

abbrev pub invariant-loop-span : goal.invariant-loop-span
invariant-loop-span l = record {
  names : length l.headers ≤ l.span-index;
  values : value_count l.headers ≤ l.span-index;
  so_far : l.headers ≡ append_all [] (map (kept_span l.buf) (take l.span-index l.spans));
  plain : l.plain ≡ true → ArePlain l.headers;
}
