-- A body that was given is ended again.
use Rattle.std.proofs.Common.{ℕ, Option, None, Some, subst, sym}
use Rattle.dav_core.specs.Disk.{DiskState}
use Rattle.dav_core.specs.Unchanged.{Keeps}
use Rattle.dav_core.proofs.UnchangedLemmas.{but_then, closed_again}
use Rattle.dav_get.specs.declared.open_at.OpenAt.{OpenAt}
use Rattle.dav_get.specs.Bodies.{Closes}
use Rattle.dav_get.specs.Lives.{OpensOnly}

-- the file of a body was closed again
pub undone : {F : Type 0} (handle : F → ℕ) (s m t : DiskState) (file : Option (OpenAt F)) → OpensOnly handle s file m → Closes handle m file t → Keeps s t
undone handle s m t None opens e = subst (Keeps s) (sym e) opens
undone handle s m t (Some f) opens closes = closed_again (handle f.file) s t (but_then (handle f.file) s m t opens.0 closes.keeps) opens.1 closes.live
