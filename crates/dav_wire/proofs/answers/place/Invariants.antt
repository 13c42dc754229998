use Rattle.std.proofs.Common.{◌≡◌, ◌+◌, drop}
use Rattle.dav_wire.specs.Answers.{place}
use Rattle.dav_wire.proofs.answers.place.Given as goal

-- each field so far stands before the place
abbrev pub invariant-loop-field : goal.invariant-loop-field
invariant-loop-field l = record {
  count : l.count ≡ l.field-index;
  so_far : place l.name l.fields ≡ l.count + place l.name (drop l.field-index l.fields);
}
