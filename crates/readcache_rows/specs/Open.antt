-- What a row has open, from one step to the next.
use Rattle.std.specs.Prelude.{IsSome}
use Rattle.dav_core.specs.Disk.{DiskState}
use Rattle.dav_store.specs.FileView.{FileView}
use Rattle.dav_get.specs.Bodies.{IsHeld}
use Rattle.readcache_rows.specs.declared.opened.Opened.{Opened}
use Rattle.readcache_rows.specs.declared.opened.Opened.TheVariants.{Nothing, File, Body}

-- The file is live, and may be moved, read and written.
pub record IsOpenFile {F : Type 0} (view : FileView F) (f : F) (s : DiskState) : Type 0 where
  pub live : IsSome (s.live (view.handle f))
  pub reads : view.reads_from f s

-- What is open may be used on the disk.
abbrev pub IsFor : {F : Type 0} → FileView F → Opened F → DiskState → Type 0
IsFor view Nothing s = Unit {0}
IsFor view (File f) s = IsOpenFile view f s
IsFor view (Body b) s = IsHeld view s b
