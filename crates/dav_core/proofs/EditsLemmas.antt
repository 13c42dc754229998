-- An edit of a world, and then what changes nothing, is that edit.
use Rattle.std.proofs.Common.{◌≡◌, ◌≤◌, ℕ, inl, inr, ◌∙◌, arith}
use Rattle.dav_core.specs.declared.time.FileTime.{FileTime}
use Rattle.dav_core.specs.Edits.{Becomes, Edit, Edited, IsNew, fills, makes, moves, takes}
use Rattle.dav_core.specs.World.{SameBesidesOpens, World}
use Rattle.dav_core.proofs.UnchangedLemmas.{same_besides_then}

pub becomes_then : (v x m w : World) → Becomes v x m → SameBesidesOpens m w → Becomes v x w
becomes_then v x m w b s = record {
  tree = s.tree ∙ b.tree;
  files = λ number held.
      (let (there, same) = s.files number held in
      let (before, made) = b.files number there in
      (before, same ∙ made));
  script = s.script ∙ b.script;
  greatest = (let g = s.greatest in let h = b.greatest in omega arith);
  latest = rw s.latest b.latest;
}

pub new_then : (v : World) (t : FileTime) (m w : World) → IsNew v t m → SameBesidesOpens m w → IsNew v t w
new_then v t m w n s = record { later = n.later; used = rw s.latest n.used; nanos = n.nanos }

pub edit_then : (edit : Edit) (v m w : World) → Edited edit v m → SameBesidesOpens m w → Edited edit v w
edit_then (makes path kind bytes) v m w (number, t, u, next, new, touched, b) s =
    (number, t, u, record { above = next.above; used = (let g = s.greatest in let h = next.used in omega arith) }, new_then v t m w new s, new_then v u m w touched s, becomes_then v _ m w b s)
edit_then (fills number bytes) v m w (inl e) s = inl (e.0, same_besides_then v m w e.1 s)
edit_then (fills number bytes) v m w (inr e) s = inr (e.0, e.1, new_then v e.1 m w e.2 s, becomes_then v _ m w e.3 s)
edit_then (takes path) v m w (t, new, b) s = (t, new_then v t m w new s, becomes_then v _ m w b s)
edit_then (moves from to) v m w (t, u, new, more, b) s = (t, u, new_then v t m w new s, new_then v u m w more s, becomes_then v _ m w b s)
