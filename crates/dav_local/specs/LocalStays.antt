-- What others do leaves the number and the place of an open file: a law that the local file cites.
use Rattle.std.specs.Prelude.{◌≡◌, ℕ, None, Some, Option, refl}
use Rattle.dav_io.specs.Told.{Both}
use Rattle.dav_core.specs.Disk.{DiskState, Live}
use Rattle.dav_core.specs.Unchanged.{SameOpen}
use Rattle.dav_core.specs.World.{World, OpenFile}
use Rattle.dav_store.specs.Files.{LeavesOpen, SameSeen}
use Rattle.dav_local.specs.declared.file.LocalFsFile.{LocalFsFile}
use Rattle.dav_local.specs.Standing.{seen_with}
use Rattle.dav_local.specs.Files.{seen_by}

same_file : (v w : World) (l : Live) (h : ℕ) (a b : Option OpenFile) → v.opens h ≡ a → w.opens h ≡ b → b ≡ a
    → SameSeen (seen_with (Some v) (Some l) h) (seen_with (Some w) (Some l) h)
same_file v w l h None b e f g = rw (e, f, g) tt
same_file v w l h (Some o) b e f g = rw (e, f, g) (refl, refl)

stays_with : (h : ℕ) (a b : Option World) (k l : Option Live) → Both a b (SameOpen h) → l ≡ k
    → SameSeen (seen_with a k h) (seen_with b l h)
stays_with h None None k l same e = tt
stays_with h None (Some w) k l same e = absurd same
stays_with h (Some v) None k l same e = absurd same
stays_with h (Some v) (Some w) None l same e = rw e tt
stays_with h (Some v) (Some w) (Some k) l same e = rw e (same_file v w k h (v.opens h) (w.opens h) refl refl same)

-- what others do leaves a file's number and place
pub local_stays : (f : LocalFsFile) (s t : DiskState) → LeavesOpen f.handle.0 s t → SameSeen (seen_by f s) (seen_by f t)
local_stays f s t leaves = stays_with f.handle.0 s.told t.told (s.live f.handle.0)
    (t.live f.handle.0) leaves.opened leaves.live
