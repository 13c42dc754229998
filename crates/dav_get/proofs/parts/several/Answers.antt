use Rattle.std.proofs.Common.{◌≤◌, ap, ◌∷◌, [], ◌++◌, ◌∙◌, arith, take_all, length}
use Rattle.dav_get.specs.declared.part.BodyPart.TheVariants.{Text}
use Rattle.dav_model.specs.Head.{two_parts}
use Rattle.dav_get.proofs.Several.{several_more, several_end}
use Rattle.dav_get.proofs.parts.several.Goals as goal

pub loop-part-preserved : goal.loop-part-preserved
loop-part-preserved c = record {
  parts = λ number. several_more (two_parts c.args.kind.now number c.args.len) _ _ c.args.slices.now c.loop-part.part-index (record { start = 0; count = 0 }) c.loop-part-test.true (c.loop-part.invariant.parts number) (c.in_ok-add_part.ensures.parts number);
  sound = c.in_ok-add_part.ensures.sound c.loop-part.invariant.sound;
}

pub returns-clause-parts : goal.returns-clause-parts
returns-clause-parts c = λ number. let over : length c.args.slices.now ≤ c.loop-part.part-index = omega arith in
    several_end _ number _ c.loop-part.part-index _ _ _ over (c.loop-part.invariant.parts number) (c.in_ok-push.ensures.items ∙ ap (λ z. c.loop-part.parts.items ++ Text z ∷ []) (c.new-end.ensures ∙ c.in_ok-from_slice.ensures.items)) (take_all _ _ over)
