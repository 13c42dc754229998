-- What a local store saves by its memory of absent names, and what it keeps there, where the rules for macOS hold.
use Rattle.std.specs.Prelude.{◌≡◌, ◌⊎◌, List, [], ◌∷◌, Some, false, Result, Err}
use Rattle.dav_core.specs.declared.error.FsError.{FsError}
use Rattle.dav_core.specs.declared.error.FsError.TheVariants.{NoMemory, NotFound}
use Rattle.dav_core.specs.Info.{Info}
use Rattle.dav_core.specs.Listing.{or_empty}
use Rattle.dav_core.specs.DavPath.{last_name}
use Rattle.dav_core.specs.Path.{Names, parent_of}
use Rattle.dav_core.specs.Tree.{is_linked}
use Rattle.dav_core.specs.World.{World}
use Rattle.dav_store.specs.Files.{AsksOnce}
use Rattle.dav_store.specs.Members.{Answered}
use Rattle.dav_model.specs.Folds.{dir_time}
use Rattle.dav_memory.specs.declared.sealed.Sealed.{Sealed}
use Rattle.dav_memory.specs.declared.sealed.Sealed.TheVariants.{Done, Last, NoMemory as Starved}
use Rattle.dav_memory.specs.Builder.{BuilderState, with_name}
use Rattle.dav_memory.specs.declared.key.DuEntry.{DuEntry}
use Rattle.dav_memory.specs.Entries.{DotCache, dir_key, name_key, same_key, stands}
use Rattle.std.specs.Map.{lookup}
use Rattle.dav_memory.specs.Memory.{MemoryState, SealsIn}
use Rattle.dav_core.specs.declared.time.FileTime.{FileTime}
use Rattle.dav_io.specs.declared.clock.Moment.{Moment}
use Rattle.dav_local.specs.Places.{Place}

-- The directory above the path has the time of its entry, and the name doesn't stand with the entry's number.
pub record IsKnownAbsent (p : Place) (path : Names) : Type 0 where
  pub world : World
  pub told : p.disk.told ≡ Some world
  pub clear : is_linked world.tree (parent_of path) ≡ false
  pub cache : DotCache
  pub tells : p.memory.dots ≡ Some cache
  pub entry : DuEntry
  pub holds : lookup (same_key (dir_key (parent_of path))) cache.entries ≡ Some entry
  pub time : dir_time world.tree (parent_of path) ≡ Some entry.time
  pub absent : stands cache.entries (name_key (parent_of path) (or_empty (last_name path))) entry.number ≡ false

-- The disk is asked once, and nothing is found; or memory was wanting before it was asked.
abbrev pub DeniedAtOnce : Place → Result Info FsError → Place → Type 0
DeniedAtOnce p result q = ((result ≡ Err NotFound) × AsksOnce p.disk q.disk)
    ⊎ ((result ≡ Err NoMemory) × (q.disk ≡ p.disk))

-- what is gathered after these answers
abbrev pub gathered : List Answered → BuilderState → BuilderState
gathered [] b = b
gathered (a ∷ answers) b = gathered answers (with_name a.name b)

-- memory for all of it was had
abbrev pub IsWhole : Sealed → Type 0
IsWhole Done = Unit {0}
IsWhole Last = Unit {0}
IsWhole Starved = ⊥

-- The memory was sealed with what was gathered, for this time of its directory.
abbrev pub SealedWith : MemoryState → BuilderState → FileTime → Moment → MemoryState → Type 0
SealedWith old b time now new = (result : Sealed) × IsWhole result
    × SealsIn old (dir_key b.dir) time b.names now result new
