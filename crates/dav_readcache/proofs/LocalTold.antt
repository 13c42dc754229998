-- What the local store's disk tells through a reader's calls.
use Rattle.std.specs.Prelude.{◌≡◌, Some, Option, refl}
use Rattle.std.specs.Borrow.{GName}
use Rattle.dav_core.specs.DavPath.{WebPath}
use Rattle.dav_core.specs.Disk.{DiskState}
use Rattle.dav_core.specs.World.{World}
use Rattle.dav_memory.specs.Memory.{MemoryState}
use Rattle.dav_local.specs.declared.fs.LocalFs.{LocalFs}
use Rattle.dav_local.proofs.LocalView.{at, local_view}
use Rattle.dav_readcache.specs.Sound.{IsWorldThere, OpensTold}
use Rattle.dav_readcache.proofs.LocalWorlds.{opens_told, world_there}

module _ {D R : Type 0} (state : D → DiskState) (loan : D → Option GName) (memory : R → MemoryState) where
  pub local_there : (s : LocalFs D R) (w : World) (path : WebPath) → (state s.disk).told ≡ Some w → IsWorldThere (local_view state loan memory) s tt path w
  local_there s w path told = world_there (local_view state loan memory) (at state loan memory) (λ s. refl) (λ file s. refl) (λ s t x path r h. h.0) (λ s t x path r h. h.0) (λ s t x path r h. h.0) s tt w path told

  pub local_opens : (s : LocalFs D R) (w : World) (path : WebPath) → (state s.disk).told ≡ Some w → OpensTold (local_view state loan memory) s tt path w
  local_opens s w path told = opens_told (local_view state loan memory) (at state loan memory) (λ s. refl) (λ file s. refl) (λ s t x path r h. h.0) (λ s t x path r h. h.0) (λ s t x path r h. h.0) s tt w path told
