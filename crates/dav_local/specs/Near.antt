-- Paths that are found by few calls of the disk, where names fold: what the memory has, what stands as it is asked, and
-- what is sought in the directory above it, where that is found so.
use Rattle.std.specs.Prelude.{◌≡◌, ◌≢◌, ◌⊎◌, ◌+◌, ◌++◌, ℕ, [], ◌∷◌, length, false, Option, None, Some, Result, Ok, Err, IfOk}
use Rattle.std.specs.Map.{lookup}
use Rattle.std.specs.Option.{is_some}
use Rattle.dav_io.specs.Counts.{RefusedNothing}
use Rattle.dav_io.specs.Told.{Both}
use Rattle.dav_core.specs.declared.error.FsError.{FsError}
use Rattle.dav_core.specs.declared.error.FsError.TheVariants.{NoMemory}
use Rattle.dav_core.specs.declared.handle.DiskError.{DiskError}
use Rattle.dav_core.specs.declared.tree.Row.{Row}
use Rattle.dav_core.specs.Disk.{DiskState}
use Rattle.dav_core.specs.Listing.{names_in}
use Rattle.dav_core.specs.Path.{Names}
use Rattle.dav_core.specs.Tree.{is_linked, look}
use Rattle.dav_core.specs.World.{World}
use Rattle.dav_store.specs.Files.{AsksOnce}
use Rattle.dav_memory.specs.Entries.{PathCache}
use Rattle.dav_memory.specs.Memory.{MemoryState}
use Rattle.dav_memory.specs.Trees.{same_path}
use Rattle.dav_model.specs.Calls.{AsksAtMost, more_by}
use Rattle.dav_model.specs.Folds.{Name, fold_path}
use Rattle.dav_local.specs.Calls.{AfterFound}
use Rattle.dav_local.specs.Places.{Place}
use Rattle.dav_local.specs.Remembering.{IsRemembered}
use Rattle.dav_local.specs.Walking.{IsAlikeIn}
use Rattle.dav_local.specs.Ways.{is_judged}

-- so many calls of the disk
abbrev pub Calls : ℕ → DiskState → DiskState → Type 0
Calls n s t = t.asked ≡ more_by n s.asked

-- at most so many
abbrev pub CallsAtMost : ℕ → DiskState → DiskState → Type 0
CallsAtMost n s t = AsksAtMost n s.asked t.asked

-- ---- what is found by one call

-- The memory tells its cache, which hasn't the path.
pub record IsUnkept (memory : MemoryState) (names : Names) : Type 0 where
  pub cache : PathCache
  pub tells : memory.paths ≡ Some cache
  pub none : lookup (same_path (fold_path names)) cache.entries ≡ None

-- A row stands there, with no link on the way.
pub record StandsClear (s : DiskState) (names : Names) : Type 0 where
  pub world : World
  pub told : s.told ≡ Some world
  pub row : Row
  pub stands : look world.tree names ≡ Ok row
  pub clear : is_linked world.tree names ≡ false

-- The memory hasn't the path, and it stands as it is asked.
abbrev pub IsAsAsked : Place → Names → Type 0
IsAsAsked p names = IsUnkept p.memory names × StandsClear p.disk names

-- The memory has the path at this place, or it stands there as it is asked.
abbrev pub IsAtOnce : Place → Names → Names → Type 0
IsAtOnce p names at = IsRemembered p names at ⊎ (IsAsAsked p names × (at ≡ names))

-- A path that the memory hasn't is missed with nothing asked.
abbrev pub MissesUnasked : {A : Type 0} → Place → Names → Result (Option A) FsError → Place → Type 0
MissesUnasked p names result q = IsUnkept p.memory names
    → IfOk result (λ found. (q.disk ≡ p.disk) × (q.memory.paths ≡ p.memory.paths) × (is_some found ≡ false))

-- Where nothing is refused, a path that stands as it is asked is found there by one call.
abbrev pub FindsHere : Place → Names → Result (Option Names) FsError → Place → Type 0
FindsHere p names result q = RefusedNothing p.disk.faults q.disk.faults → StandsClear p.disk names
    → (result ≡ Ok None) × AsksOnce p.disk q.disk

-- It is looked at by one call, unless the rules for macOS judge it, and the memory stays.
abbrev pub SeesThere : Place → Names → Place → Type 0
SeesThere p names q = RefusedNothing p.disk.faults q.disk.faults → StandsClear p.disk names
    → is_judged p.ways names ≡ false → AsksOnce p.disk q.disk × (q.memory ≡ p.memory)

-- It is looked at and opened.
abbrev pub OpensThereByTwo : Place → Names → Place → Type 0
OpensThereByTwo p names q = RefusedNothing p.disk.faults q.disk.faults → StandsClear p.disk names
    → Calls 2 p.disk q.disk

-- Where nothing is refused, a path that is found at once is found by one call at most.
abbrev pub FindsAtOnce : Place → Names → Place → Type 0
FindsAtOnce p names q = RefusedNothing p.disk.faults q.disk.faults → (at : Names) → IsAtOnce p names at
    → CallsAtMost 1 p.disk q.disk

-- The memory has each path where it had it, or hasn't it still.
abbrev pub KeepsPaths : MemoryState → MemoryState → Type 0
KeepsPaths old new = Both old.paths new.paths (λ a b. (names : Names)
    → lookup (same_path (fold_path names)) b.entries ≡ lookup (same_path (fold_path names)) a.entries)

-- So it is where a path is asked for that is found at once.
abbrev pub KeepsAsked : Place → Names → Place → Type 0
KeepsAsked p names q = RefusedNothing p.disk.faults q.disk.faults → (at : Names) → IsAtOnce p names at
    → KeepsPaths p.memory q.memory

-- It is so behind a look, unless the rules for macOS judge its place.
abbrev pub KeepsSeen : Place → Names → Place → Type 0
KeepsSeen p names q = RefusedNothing p.disk.faults q.disk.faults → (at : Names) → IsAtOnce p names at
    → is_judged p.ways at ≡ false → KeepsPaths p.memory q.memory

-- ---- the directory above

-- The directory is found at this place by one call, or memory was wanting.
abbrev pub IsFoundAt : Names → DiskState → Result (Option Names) FsError → DiskState → Type 0
IsFoundAt at s result t = ((result ≡ Ok (Some at)) × AsksOnce s t) ⊎ ((result ≡ Err NoMemory) × CallsAtMost 1 s t)

-- The memory is asked for the directory: where it has it, it is found there, and else where it stands as it is asked.
abbrev pub FindsDir : Place → Names → Result (Option Names) FsError → Place → Type 0
FindsDir p dir result q = RefusedNothing p.disk.faults q.disk.faults → dir ≢ [] → (at : Names) → IsAtOnce p dir at
    → IsFoundAt at p.disk result q.disk

-- The directory is looked at where it is asked.
abbrev pub FindsDirHere : Place → Names → Result (Option Names) FsError → Place → Type 0
FindsDirHere p dir result q = RefusedNothing p.disk.faults q.disk.faults → StandsClear p.disk dir
    → IsFoundAt dir p.disk result q.disk

-- The memory hasn't the path, which doesn't stand as it is asked. The directory above it isn't the root, and is found
-- at once at this place. No link is met.
pub record IsIn (p : Place) (names dir at : Names) (name : Name) : Type 0 where
  pub path : names ≡ dir ++ name ∷ []
  pub deep : dir ≢ []
  pub once : IsAtOnce p dir at
  pub unkept : IsUnkept p.memory names
  pub world : World
  pub told : p.disk.told ≡ Some world
  pub clear : is_linked world.tree at ≡ false
  pub error : DiskError
  pub missing : look world.tree names ≡ Err error
  pub way : is_linked world.tree names ≡ false

-- how many names stand in the directory
abbrev pub members_at : World → Names → ℕ
members_at w at = length (names_in w.tree at)

-- Such a path is sought there, by so many calls beside one for each name in the directory. What is found folds like it.
abbrev pub SoughtIn : ℕ → Place → Names → Result Names FsError → Place → Type 0
SoughtIn n p names result q = RefusedNothing p.disk.faults q.disk.faults → (dir at : Names) (name : Name)
    → (e : IsIn p names dir at name)
    → IfOk result (λ found. IsAlikeIn at name found) × CallsAtMost (members_at e.world at + n) p.disk q.disk

-- It is sought so, and a call follows at the place found.
pub record SeeksIn {T : Type 0} (n : ℕ) (p : Place) (at : Names) (name : Name) (w : World)
    (call : Names → Place → Result T FsError → Place → Type 0) (result : Result T FsError) (q : Place) : Type 0 where
  pub found : Result Names FsError
  pub then : Place
  pub there : IfOk found (λ place. IsAlikeIn at name place)
  pub few : CallsAtMost (members_at w at + n) p.disk then.disk
  pub after : AfterFound found then call result q

abbrev pub SeeksNear : {T : Type 0} → ℕ → Place → Names → (Names → Place → Result T FsError → Place → Type 0)
    → Result T FsError → Place → Type 0
SeeksNear n p names call result q = RefusedNothing p.disk.faults q.disk.faults → (dir at : Names) (name : Name)
    → (e : IsIn p names dir at name) → SeeksIn n p at name e.world call result q

-- ---- the listing of a directory

-- A search of a directory asks its beginning, one call for each name at most, and its end.
abbrev pub SearchesFew : DiskState → Names → DiskState → Type 0
SearchesFew s at t = (w : World) → s.told ≡ Some w → is_linked w.tree at ≡ false
    → CallsAtMost (members_at w at + 2) s t

-- The names that a listing has to come are asked for, and its end.
abbrev pub ReadsFew : DiskState → ℕ → DiskState → Type 0
ReadsFew s l t = (w : World) (names : Names) → s.told ≡ Some w → w.listings l ≡ Some names
    → CallsAtMost (length names + 1) s t
