use Rattle.std.proofs.Common.{[], ◌∷◌}
use Rattle.std.proofs.lemmas.List.Elements.{All-append, All-cons, All-nil}
use Rattle.dav_disk.specs.declared.mem_disk.MemDisk.{MemDisk}
use Rattle.dav_disk.specs.Failing.{mem_state}
use Rattle.dav_sessions.specs.declared.session.Session.{Session}
use Rattle.session_rows.specs.Told.{IsToldOf}
use Rattle.session_rows.proofs.told.add_sessions.Goals as goal

abbrev IsFit : Session MemDisk → Type 0
IsFit s = IsToldOf (mem_state s.disk) s.steps

pub loop-i-preserved : goal.loop-i-preserved
loop-i-preserved c =
    rw c.in_ok-push.ensures.items (All-append IsFit c.loop-i.sessions.items (c.in_ok-told_session.field-0 ∷ []) c.loop-i.invariant
    (All-cons IsFit c.in_ok-told_session.field-0 [] c.in_ok-told_session.ensures (All-nil IsFit)))
