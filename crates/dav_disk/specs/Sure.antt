-- What a disk in memory tells that has no schedule of faults.
use Rattle.std.specs.Prelude.{◌≡◌, ◌↔◌, ℕ, Bool, Result, true}
use Rattle.std.specs.Result.{IsErrOf}
use Rattle.dav_io.specs.Counts.{one_more}
use Rattle.dav_core.specs.declared.handle.DiskError.{DiskError}
use Rattle.dav_core.specs.declared.handle.DiskError.TheVariants.{Failed}
use Rattle.dav_core.specs.Allowed.{Allowed}
use Rattle.dav_core.specs.Disk.{DiskState}
use Rattle.dav_core.specs.World.{World}
use Rattle.dav_disk.specs.Calls.{Known, state_of}
use Rattle.dav_disk.specs.Making.{MakesAt, is_spent}
use Rattle.dav_disk.specs.Memory.{known_of}
use Rattle.dav_disk.specs.declared.sure_disk.SureDisk.{SureDisk}

abbrev pub sure_state : SureDisk → DiskState
sure_state d = state_of (known_of d.memory) d.met d.asked true

-- its world, and what is known of its live handles
abbrev pub sure_known : SureDisk → Known
sure_known d = known_of d.memory

abbrev pub sure_world : SureDisk → World
sure_world d = (sure_known d).world

-- how often a listing was asked for
abbrev pub listings_of : SureDisk → ℕ
listings_of d = d.listings

-- A call that makes something fails exactly where it needs a next number or a next tick that isn't left. Only then the
-- count of faults rises, by one.
pub record FailsOnly
    {T : Type 0} (spent : Bool) (old : SureDisk) (result : Result T DiskError) (new : SureDisk)
    : Type 0 where
  pub fails : IsErrOf result Failed ↔ (spent ≡ true)
  pub once : IsErrOf result Failed → new.met ≡ one_more old.met
  pub quiet : (IsErrOf result Failed → ⊥) → new.met ≡ old.met

-- A call to which the tree allows this: it fails only where a next number or a next tick isn't left, and else it is
-- made, whole. It asks for no listing.
pub record Makes (allowed : Allowed) (old : SureDisk) (result : Result Unit DiskError) (new : SureDisk) : Type 0 where
  pub fails : FailsOnly (is_spent allowed (sure_world old)) old result new
  pub made : MakesAt allowed (sure_known old) result (sure_known new)
  pub listings : listings_of new ≡ listings_of old
