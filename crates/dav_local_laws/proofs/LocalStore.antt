-- What each call of a local store comes to, by its view and its listings.
use Rattle.std.specs.Prelude.{◌≡◌, Some, Option, refl}
use Rattle.std.specs.Borrow.{GName}
use Rattle.std.proofs.Common.{ap}
use Rattle.dav_core.specs.Disk.{DiskState}
use Rattle.dav_core.specs.World.{IsWorld, World}
use Rattle.dav_memory.specs.Memory.{MemoryState}
use Rattle.dav_local.specs.Places.{place_of}
use Rattle.dav_local.specs.Writing.{WritesAll}
use Rattle.dav_local.proofs.LocalView.{local_lists, local_view}
use Rattle.dav_local_laws.specs.LocalStore.{IsLocalStore}

module _ {D R : Type 0} (state : D → DiskState) (loan : D → Option GName) (memory : R → MemoryState) where
  pub local_store : ((d : D) (w : World) → (state d).told ≡ Some w → IsWorld w)
      → IsLocalStore (local_view state loan memory) (local_lists state loan memory) (λ f s bytes r g t. WritesAll f.handle.0 s bytes r t × (g ≡ f)) (λ s. s.ways) (λ s. memory s.memory) (λ s. s.moment)
  local_store worlds = record {
    worlds = λ s w told. worlds s.disk w told;
    folding = λ s. refl;
    looks = λ s t c path r h. (h.0, h.1.0, h.1.2, h.2);
    looks_at_link = λ s t c path r h. (h.0, h.1.0, h.1.2);
    opens = λ s t c path how r h. (h.0, h.1.0, h.1.2);
    opens_once = λ s t c path how r h. h.2;
    handle = λ f. refl;
    seen = refl;
    once = tt;
    writes_file = λ f g s t bytes r h. h;
    makes_dir = λ s t c path r h. (h.0, h.1.0, h.1.2);
    removes_dir = λ s t c path r h. (h.0, h.1.0, h.1.2);
    removes_file = λ s t c path r h. (h.0, h.1.0, h.1.2);
    renames = λ s t c from to r h. (h.0, h.1.0, h.1.2);
    copies = λ s t c from to r h. (h.0, h.1.0, h.1.2);
    begins = λ s t c path how r h. (h.0, h.1.0, h.1.2);
    begins_once = λ s t c path how r h. h.2;
    goes_on = λ s t l k r h. (s.moment, h.0, refl, h.1.2);
    ends = λ s t l h. (h.0, ap (place_of state memory) h.1);
    called = λ e. refl;
    says = λ s t e r h. h;
    lends = λ s t h. ap (place_of state memory) h;
  }
