-- What a GET asks for, and what a poll may touch, where uploads are to be left alone.
use Rattle.std.specs.Prelude.{◌≡◌, ℕ, false, Option, None, Some}
use Rattle.dav_core.specs.DavPath.{WebPath}
use Rattle.dav_core.specs.Disk.{DiskState}
use Rattle.dav_core.specs.Tree.{is_linked}
use Rattle.dav_core.specs.World.{World}
use Rattle.dav_model.specs.Play.{read_file}
use Rattle.dav_get.specs.declared.open_at.OpenAt.{OpenAt}
use Rattle.dav_upload.specs.Names.{is_hidden_path}

-- The path's last name isn't hidden, and no link stands on the way to it.
pub record IsShownAt (w : World) (path : WebPath) : Type 0 where
  pub shows : is_hidden_path path.names ≡ false
  pub clear : is_linked w.tree path.names ≡ false

-- the handle of a body's file, where it has one
abbrev pub handle_of : {F : Type 0} → (F → ℕ) → Option (OpenAt F) → Option ℕ
handle_of handle None = None
handle_of handle (Some h) = Some (handle h.file)

-- A body's file is live, regular and opened for reading, as a GET leaves it.
abbrev pub IsRead : {F : Type 0} → (F → ℕ) → DiskState → Option (OpenAt F) → Type 0
IsRead handle s None = Unit {0}
IsRead handle s (Some h) = s.live (handle h.file) ≡ Some read_file
