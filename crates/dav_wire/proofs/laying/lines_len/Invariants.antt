use Rattle.std.proofs.Common.{◌≡◌, ◌-◌, ◌^◌, length, min, take}
use Rattle.dav_wire.specs.Answers.{field_lines}
use Rattle.dav_wire.proofs.laying.lines_len.Given as goal

abbrev pub invariant-loop-field : goal.invariant-loop-field
invariant-loop-field l = l.len ≡ min (length (field_lines (take l.field-index l.fields))) (2 ^ 64 - 1)
