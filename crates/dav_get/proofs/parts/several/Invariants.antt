use Rattle.std.proofs.Common.{◌≡◌, ℕ, true, take}
use Rattle.std.specs.List.{flat_map, list_all}
use Rattle.dav_model.specs.Head.{two_parts}
use Rattle.dav_get.specs.Bodies.{is_part, parts_of}
use Rattle.dav_get.proofs.parts.several.Given as goal

abbrev pub invariant-loop-part : goal.invariant-loop-part
invariant-loop-part l = record {
  parts : (number : ℕ) → parts_of number l.parts.items ≡ flat_map (two_parts l.kind number l.len) (take l.part-index l.slices);
  sound : list_all is_part l.parts.items ≡ true;
}
