use Rattle.std.proofs.Common.{ap, length, arith}
use Rattle.std.proofs.lemmas.List.Folds.{length-flat_map-take}
use Rattle.dav_io.specs.declared.fields.Field.{Field}
use Rattle.dav_wire.specs.Answers.{field_line}
use Rattle.dav_wire.proofs.laying.lay_fields.Goals as goal

-- each line has its room, as all lines together have
pub lay_field-end-requires : goal.lay_field-end-requires
lay_field-end-requires c =
    let here = ap (λ (x : Field). length (field_line x)) c.field-item.is in
    let within = length-flat_map-take field_line c.args.fields.now c.loop-field.field-index c.field-item.result c.loop-field-test.true in
    omega (arith, here, within, c.requires, c.loop-field.invariant.end, c.loop-field.invariant.len)
