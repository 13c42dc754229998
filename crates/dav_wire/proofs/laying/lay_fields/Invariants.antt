use Rattle.std.proofs.Common.{◌≡◌, ◌+◌, ◌++◌, length, take}
use Rattle.dav_wire.specs.Answers.{field_lines}
use Rattle.dav_wire.proofs.laying.lay_fields.Given as goal

abbrev pub invariant-loop-field : goal.invariant-loop-field
invariant-loop-field l = record {
  end : l.end ≡ l.fn.at + length (field_lines (take l.field-index l.fields));
  len : length l.text ≡ length l.fn.text;
  laid : take l.end l.text ≡ take l.fn.at l.fn.text ++ field_lines (take l.field-index l.fields);
}
