use Rattle.std.proofs.Common.{◌≡◌, drop}
use Rattle.dav_model.specs.Announced.{value_of as the_value_of}
use Rattle.dav_fetch.proofs.judging.value_of.Given as goal

abbrev pub invariant-loop-field : goal.invariant-loop-field
invariant-loop-field l = the_value_of l.name (drop l.field-index l.fields) ≡ the_value_of l.name l.fields
