use Rattle.std.proofs.Common.{inl, inr}
use Rattle.dav_wire.proofs.BodyDecided.{found, body, refused, unfinished}
use Rattle.dav_wire.proofs.laws.bodies_are_decided.Goals as goal

pub returns : goal.returns
returns c = λ announced text. elim (found announced text) [
  | body bytes rest is ↦ inl (bytes, rest, is)
  | refused flaw is ↦ inr (inl (flaw, is))
  | unfinished is ↦ inr (inr is)
]
