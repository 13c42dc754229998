use Rattle.std.proofs.Common.{◌≡◌, map}
use Rattle.dav_get.specs.declared.part.BodyPart.TheVariants.{Text}
use Rattle.dav_get.proofs.autoindex.text_parts.Given as goal

abbrev pub invariant-loop-text : goal.invariant-loop-text
invariant-loop-text l = l.parts.items ≡ map Text l.yielded
