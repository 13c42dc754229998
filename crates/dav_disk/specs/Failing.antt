-- What a disk in memory tells, and when it fails.
use Rattle.std.specs.Prelude.{◌≡◌, ◌==◌, ◌↔◌, ◌⊎◌, ℕ, List, Bool, true, length, Contains, Result, Err, OnErr}
use Rattle.std.specs.Result.{IsErrOf}
use Rattle.dav_io.specs.Counts.{one_more}
use Rattle.dav_core.specs.declared.handle.DiskError.{DiskError}
use Rattle.dav_core.specs.declared.handle.DiskError.TheVariants.{Failed}
use Rattle.dav_core.specs.Allowed.{Allowed}
use Rattle.dav_core.specs.Disk.{DiskState}
use Rattle.dav_core.specs.World.{World}
use Rattle.dav_disk.specs.Calls.{Known, state_of}
use Rattle.dav_disk.specs.Making.{MakesAt, is_spent}
use Rattle.dav_disk.specs.Memory.{known_of}
use Rattle.dav_disk.specs.declared.mem_disk.MemDisk.{MemDisk}

abbrev pub is_empty : List ℕ → Bool
is_empty lens = length lens == 0

-- Reads are whole where no short length is left.
abbrev pub mem_state : MemDisk → DiskState
mem_state d = state_of (known_of d.memory) d.faults.met d.faults.asked (is_empty d.lens.items)

-- its world, and what is known of its live handles
abbrev pub mem_known : MemDisk → Known
mem_known d = known_of d.memory

abbrev pub mem_world : MemDisk → World
mem_world d = (mem_known d).world

-- the numbers, from 1, of the calls that fail
abbrev pub fails_at : MemDisk → List ℕ
fails_at d = d.faults.fail.items

-- the most bytes that each of the next reads gives
abbrev pub lens_left : MemDisk → List ℕ
lens_left d = d.lens.items

-- how often a listing was asked for
abbrev pub listings_of : MemDisk → ℕ
listings_of d = d.listings

-- The call fails exactly where its number is one of those that fail. Then it meets one fault, and else none.
pub record Follows {T : Type 0} (old : MemDisk) (result : Result T DiskError) (new : MemDisk) : Type 0 where
  pub fails : IsErrOf result Failed ↔ Contains (fails_at old) (one_more old.faults.asked)
  pub once : IsErrOf result Failed → new.faults.met ≡ one_more old.faults.met
  pub quiet : (IsErrOf result Failed → ⊥) → new.faults.met ≡ old.faults.met
  pub stays : fails_at new ≡ fails_at old

-- The call fails exactly where its number is one of those that fail, or where it needs a next number or a next tick
-- that isn't left. Then it meets one fault, and else none. Where it is refused the world stays whole.
pub record FollowsOr
    {T : Type 0} (spent : Bool) (old : MemDisk) (result : Result T DiskError) (new : MemDisk)
    : Type 0 where
  pub fails : IsErrOf result Failed ↔ (Contains (fails_at old) (one_more old.faults.asked) ⊎ (spent ≡ true))
  pub once : IsErrOf result Failed → new.faults.met ≡ one_more old.faults.met
  pub quiet : (IsErrOf result Failed → ⊥) → new.faults.met ≡ old.faults.met
  pub stays : fails_at new ≡ fails_at old
  pub leaves : OnErr result (mem_world new ≡ mem_world old)

-- A call that is refused with a fault changes nothing. Of every other call this is said.
abbrev pub UnlessFault : {T : Type 0} → Result T DiskError → Known → Known → Type 0 → Type 0
UnlessFault (Err Failed) k n said = n ≡ k
UnlessFault result k n said = said

-- A call to which the tree allows this: it fails where its number is one of those that fail, or where a next number or a
-- next tick isn't left, and else it is made, whole. It uses up no length, and asks for no listing.
pub record Makes (allowed : Allowed) (old : MemDisk) (result : Result Unit DiskError) (new : MemDisk) : Type 0 where
  pub schedule : FollowsOr (is_spent allowed (mem_world old)) old result new
  pub made : UnlessFault result (mem_known old) (mem_known new) (MakesAt allowed (mem_known old) result (mem_known new))
  pub lens : lens_left new ≡ lens_left old
  pub listings : listings_of new ≡ listings_of old
