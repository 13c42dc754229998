use Rattle.std.proofs.Common.{◌∙◌, ap, arith, subst, sym}
use Rattle.std.proofs.lemmas.Grind.{common_steps}
use Rattle.std.specs.Prelude.{slice_index}
use Rattle.dav_wire.specs.Fields.{ArePlain, is_apart}
use Rattle.dav_wire.proofs.FieldLemmas.{length-append_field, value_count-append_field}
use Rattle.dav_wire.proofs.PlainFields.{stays_plain}
use Rattle.dav_wire.proofs.head.read_fields.Goals as goal
use Rattle.dav_wire.proofs.head.read_fields.Goals.{then-not-begins_apart, else-not-begins_apart}

pub loop-span-preserved : goal.loop-span-preserved
loop-span-preserved c = record {
  names = grind (arith, common_steps, length-append_field, value_count-append_field);
  values = grind (arith, common_steps, length-append_field, value_count-append_field);
  so_far = grind (arith, common_steps, length-append_field, value_count-append_field);
  plain = λ same. elim c.if-not-begins_apart.branch [
    | then-not-begins_apart w ↦ cc
    | else-not-begins_apart w ↦
        let apart = ap (λ name. is_apart (slice_index name 0)) (sym c.of.ensures) ∙ sym c.begins_apart.ensures ∙ w.if-not-begins_apart.false in
        subst ArePlain (sym c.in_ok-add_span.ensures)
        (stays_plain c.loop-span.headers _ _ apart (c.loop-span.invariant.plain (sym w.plain-is ∙ same)))
  ];
}
