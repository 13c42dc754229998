-- What a local store saves by the cache of paths in its memory, and what it keeps there, where the memory tells it.
use Rattle.std.specs.Prelude.{◌≡◌, ◌≢◌, ◌⊎◌, ◌<◌, ◌++◌, ℕ, List, [], ◌∷◌, Bool, true, false, None, Some, IfSome, Result, Ok, Err, IfOk}
use Rattle.std.specs.Map.{lookup}
use Rattle.dav_io.specs.Counts.{RefusedNothing}
use Rattle.dav_io.specs.declared.clock.Moment.{Moment}
use Rattle.dav_core.specs.declared.error.FsError.{FsError}
use Rattle.dav_core.specs.declared.error.FsError.TheVariants.{NoMemory}
use Rattle.dav_core.specs.declared.handle.DiskError.{DiskError}
use Rattle.dav_core.specs.declared.tree.Row.{Row}
use Rattle.dav_core.specs.Path.{Names}
use Rattle.dav_core.specs.Tree.{is_linked, look}
use Rattle.dav_core.specs.World.{World}
use Rattle.dav_store.specs.Files.{AsksOnce}
use Rattle.dav_memory.specs.declared.entry.PathEntry.{PathEntry}
use Rattle.dav_memory.specs.Entries.{PathCache, Paths, whole_seconds}
use Rattle.dav_memory.specs.Memory.{MemoryState}
use Rattle.dav_memory.specs.Trees.{same_path}
use Rattle.dav_model.specs.Folds.{fold_path}
use Rattle.dav_local.specs.Places.{Place}

-- An entry of the cache has the folded path, and a row stands at the entry's path, with no link on the way.
pub record IsRemembered (p : Place) (names at : Names) : Type 0 where
  pub cache : PathCache
  pub tells : p.memory.paths ≡ Some cache
  pub entry : PathEntry
  pub holds : lookup (same_path (fold_path names)) cache.entries ≡ Some entry
  pub place : entry.path ≡ at
  pub world : World
  pub told : p.disk.told ≡ Some world
  pub row : Row
  pub stands : look world.tree at ≡ Ok row
  pub clear : is_linked world.tree at ≡ false

-- The disk is asked once, and this place is answered; or memory was wanting before it was asked.
abbrev pub AnswersAtOnce : Names → Place → Result Names FsError → Place → Type 0
AnswersAtOnce at p result q = ((result ≡ Ok at) × AsksOnce p.disk q.disk)
    ⊎ ((result ≡ Err NoMemory) × (q.disk ≡ p.disk))

-- Where the disk refuses nothing, a path that is remembered costs one call of it.
abbrev pub SavesCalls : Place → Names → Result Names FsError → Place → Type 0
SavesCalls p names result q = RefusedNothing p.disk.faults q.disk.faults → (at : Names) → IsRemembered p names at
    → AnswersAtOnce at p result q

-- work saved, with folding
abbrev pub SavesWork : Place → Names → Result Names FsError → Place → Type 0
SavesWork p names result q = p.ways.folds ≡ true → p.ways.alone ≡ None → SavesCalls p names result q

-- No row stands at the path as it is asked, and one stands at this place, with no link on the way or at it.
pub record StandsElsewhere (p : Place) (names at : Names) : Type 0 where
  pub world : World
  pub told : p.disk.told ≡ Some world
  pub error : DiskError
  pub missing : look world.tree names ≡ Err error
  pub row : Row
  pub stands : look world.tree at ≡ Ok row
  pub clear : is_linked world.tree at ≡ false

-- The first entry has the folded path and this place.
abbrev pub IsFirst : Names → Names → Paths → Type 0
IsFirst names at [] = ⊥
IsFirst names at (e ∷ es) = (e.0 ≡ fold_path names) × (e.1.path ≡ at)

-- the first entry of the cache, where the memory tells it
abbrev pub HasFirst : Names → Names → MemoryState → Type 0
HasFirst names at memory = IfSome memory.paths (λ c. IsFirst names at c.entries)

-- The first entry is what is remembered of this path at this moment, in whole seconds.
abbrev pub IsNewFirst : Moment → Names → Paths → Type 0
IsNewFirst now at [] = ⊥
IsNewFirst now at (e ∷ es) = (e.0 ≡ fold_path at) × (e.1 ≡ record { path = at; secs = whole_seconds now.0 })

-- the first entry of the cache, where the memory tells it
abbrev pub HasNewFirst : Moment → Names → MemoryState → Type 0
HasNewFirst now at memory = IfSome memory.paths (λ c. IsNewFirst now at c.entries)

-- Work kept: with folding, what is found elsewhere than it is asked is the first entry of the cache afterwards.
abbrev pub KeepsWork : Place → Names → Result Names FsError → Place → Type 0
KeepsWork p names result q = p.ways.folds ≡ true → p.ways.alone ≡ None → (c : PathCache) → p.memory.paths ≡ Some c
    → IfOk result (λ at. StandsElsewhere p names at
    → (d : PathCache) × (q.memory.paths ≡ Some d) × IsFirst names at d.entries)

-- The directory's entry is the first, or the second behind that of the path in it.
abbrev pub IsNext : Names → Names → Paths → Type 0
IsNext dir names [] = ⊥
IsNext dir names (e ∷ es) = IsFirst dir dir (e ∷ es) ⊎ ((e.0 ≡ fold_path names) × IsFirst dir dir es)

-- the same, where the memory tells its cache and it has room for both
abbrev pub HasNext : Names → Names → MemoryState → Type 0
HasNext dir names memory = IfSome memory.paths (λ c. 1 < c.size → IsNext dir names c.entries)

-- No row stands at the path as it is asked. The place has a directory above it that isn't the root, and that stands. No
-- link is met on either way.
pub record IsFoundIn (p : Place) (names at dir : Names) : Type 0 where
  pub world : World
  pub told : p.disk.told ≡ Some world
  pub error : DiskError
  pub missing : look world.tree names ≡ Err error
  pub way : is_linked world.tree names ≡ false
  pub name : List ℕ
  pub place : at ≡ dir ++ name ∷ []
  pub deep : dir ≢ []
  pub row : Row
  pub stands : look world.tree dir ≡ Ok row
  pub clear : is_linked world.tree dir ≡ false

-- The memory had the path at another place, or not at all.
abbrev pub IsUnheld : MemoryState → Names → Names → Type 0
IsUnheld memory names at = IfSome memory.paths (λ c. (e : PathEntry)
    → lookup (same_path (fold_path names)) c.entries ≡ Some e → e.path ≢ at)

-- The directory above a path that the memory hadn't is remembered before the path itself.
abbrev pub KeepsAbove : Place → Names → Result Names FsError → Place → Type 0
KeepsAbove p names result q = p.ways.folds ≡ true → p.ways.alone ≡ None
    → IfOk result (λ at. (dir : Names) → IsFoundIn p names at dir → IsUnheld p.memory names at → HasNext dir names q.memory)

-- The test holds of each path in the cache.
abbrev pub AllPaths : (Names → Bool) → Paths → Type 0
AllPaths test [] = Unit {0}
AllPaths test (e ∷ es) = (test e.1.path ≡ true) × AllPaths test es

-- the same, where the memory tells its cache
abbrev pub AllRemembered : (Names → Bool) → MemoryState → Type 0
AllRemembered test memory = IfSome memory.paths (λ c. AllPaths test c.entries)

-- Only what stands, or where a link is met, is remembered anew: what holds of each path at which a row stands, of each
-- on the way to which or at which a link stands, and of each path remembered before, holds of each that is remembered.
abbrev pub RemembersRows : Place → Place → Type 0
RemembersRows p q = (w : World) (test : Names → Bool) → p.disk.told ≡ Some w
    → ((path : Names) (row : Row) → look w.tree path ≡ Ok row → test path ≡ true)
    → ((path : Names) → is_linked w.tree path ≡ true → test path ≡ true)
    → AllRemembered test p.memory → AllRemembered test q.memory
