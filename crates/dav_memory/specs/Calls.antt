-- What the calls that ask a disk leave. Where an entry stands the disk is asked exactly one call, and else nothing.
use Rattle.std.specs.Prelude.{◌≡◌, ◌⊎◌, ◌<◌, ◌≤◌, ◌+◌, ◌&&◌, ℕ, Bool, true, false, List, length, Option, Some, None, Result, Ok, Err, is_ok, if◌then◌else◌}
use Rattle.dav_core.specs.declared.handle.Handle.{Handle}
use Rattle.dav_core.specs.declared.handle.Meta.{Meta}
use Rattle.dav_core.specs.declared.handle.DiskError.{DiskError}
use Rattle.dav_core.specs.declared.handle.DiskError.TheVariants as disk
use Rattle.dav_core.specs.Disk.{DiskState, Metas, Opens}
use Rattle.dav_core.specs.Writing.{reading}
use Rattle.dav_core.specs.Tree.{is_dir}
use Rattle.dav_io.specs.Counts.{greatest}
use Rattle.dav_io.specs.declared.clock.Moment.{Moment}
use Rattle.dav_memory.specs.declared.sealed.Sealed.{Sealed}
use Rattle.dav_memory.specs.declared.sealed.Sealed.TheVariants.{Done, Last, NoMemory}
use Rattle.dav_memory.specs.Trees.{Name, Names, FileTime, same_path, fold_path}
use Rattle.dav_memory.specs.Entries.{PathEntry, Paths, PathCache, without, promoted, DuKey, DuEntry, DotCache, dir_key, same_key, concludes, sealed, is_time}

-- the entry comes to the front where something stood at its path, and goes where nothing did
abbrev pub probed : Bool → Names → PathEntry → Paths → Paths
probed true key e entries = promoted key (Some e) entries
probed false key e entries = without (same_path key) entries

-- the path and what was answered there
abbrev pub found_by : {A : Type 0} → Names → Result A DiskError → Option (Names × A)
found_by path (Ok answer) = Some (path, answer)
found_by path (Err e) = None

-- a look-up of a path whose entry is given, by a call of the disk at the entry's path
abbrev pub LooksBy : {A : Type 0} → (DiskState → Names → Result A DiskError → DiskState → Type 0) → Option PathEntry
    → PathCache → Names → DiskState → Option (Names × A) → PathCache → DiskState → Type 0
LooksBy call None old asked before found new after = (found ≡ None) × (new ≡ old) × (after ≡ before)
LooksBy call (Some e) old asked before found new after =
    (answer : Result _ DiskError) × call before e.path answer after × (found ≡ found_by e.path answer)
    × (new ≡ record old { entries = probed (is_ok answer) (fold_path asked) e old.entries })

-- what stands at a path
abbrev pub Seeing : DiskState → Names → Result Meta DiskError → DiskState → Type 0
Seeing before path answer after = Metas before path answer after

-- whether a call was refused for want of memory
abbrev pub is_starved : {A : Type 0} → Result A DiskError → Bool
is_starved (Ok answer) = false
is_starved (Err disk.NotFound) = false
is_starved (Err disk.Exists) = false
is_starved (Err disk.NotDir) = false
is_starved (Err disk.IsDir) = false
is_starved (Err disk.NotEmpty) = false
is_starved (Err disk.Failed) = false
is_starved (Err disk.NoMemory) = true

-- an opening of a path for reading, for which memory wasn't wanting
abbrev pub Opening : DiskState → Names → Result Handle DiskError → DiskState → Type 0
Opening before path answer after = Opens before path reading answer after × (is_starved answer ≡ false)

-- Memory was wanting before the disk was asked, or for the one opening that it was asked.
abbrev pub LacksMemory : DiskState → DiskState → Type 0
LacksMemory before after = (after ≡ before)
    ⊎ ((path : Names) × Opens before path reading (Err disk.NoMemory) after)

-- a look-up by what stands there
abbrev pub Looks : Option PathEntry → PathCache → Names → DiskState → Option (Names × Meta) → PathCache → DiskState
    → Type 0
Looks entry old asked before found new after = LooksBy Seeing entry old asked before found new after

-- ---- whether a name is absent

-- the directory stands with this time
abbrev pub has_time : FileTime → Result Meta DiskError → Bool
has_time time (Ok meta) = is_dir meta.kind && is_time time meta.modified
has_time time (Err e) = false

-- without the directory's entry
abbrev pub dropped : Names → DotCache → DotCache
dropped dir old = record old { entries = without (same_key (dir_key dir)) old.entries }

-- a name that is asked about, where the directory's entry is given
abbrev pub Denies : Option DuEntry → DotCache → Names → Name → DiskState → Bool → DotCache → DiskState → Type 0
Denies None old dir name before absent new after = (absent ≡ false) × (new ≡ old) × (after ≡ before)
Denies (Some e) old dir name before absent new after =
    (answer : Result Meta DiskError) × Metas before dir answer after
    × (absent ≡ (has_time e.time answer && concludes old.entries dir name e.number))
    × (new ≡ (if has_time e.time answer then old else dropped dir old))

-- ---- sealing a listing

-- a seal of which so many puts find memory
abbrev pub sealed_within : DotCache → DuKey → FileTime → Moment → List Name → ℕ → DotCache
sealed_within old dir time now names room = record {
  entries =
      sealed old.size (record { dir = dir.dir; time = time; moment = now; number = old.next }) names room old.entries;
  size = old.size;
  next = old.next + 1;
}

-- At the greatest number nothing more is remembered. Where memory was refused a put was not made
abbrev pub Seals : DotCache → DuKey → FileTime → Moment → List Name → Sealed → DotCache → Type 0
Seals old dir time now names Done new =
    (old.next < greatest) × (new ≡ sealed_within old dir time now names (length names + 1))
Seals old dir time now names Last new = (greatest ≤ old.next) × (new ≡ old)
Seals old dir time now names NoMemory new =
    (old.next < greatest) × (room : ℕ) × (room ≤ length names) × (new ≡ sealed_within old dir time now names room)
