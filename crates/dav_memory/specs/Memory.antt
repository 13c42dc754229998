-- What a store remembers between its calls, as contracts see it.
use Rattle.std.specs.Prelude.{◌≡◌, ◌⊎◌, Bool, true, false, IsTrue, List, Option, Some, None, IfSome, Result, Ok, Err, if◌then◌else◌}
use Rattle.std.specs.List.{list_any}
use Rattle.std.specs.Map.{lookup}
use Rattle.dav_io.specs.Told.{Both}
use Rattle.dav_io.specs.declared.clock.Moment.{Moment}
use Rattle.dav_core.specs.declared.handle.Handle.{Handle}
use Rattle.dav_core.specs.declared.handle.Meta.{Meta}
use Rattle.dav_core.specs.declared.handle.DiskError.{DiskError}
use Rattle.dav_core.specs.Disk.{DiskState, Metas}
use Rattle.dav_core.specs.Tree.{is_dir}
use Rattle.dav_memory.specs.declared.sealed.Sealed.{Sealed}
use Rattle.dav_memory.specs.Trees.{Name, Names, FileTime, same_name, same_time, same_path, fold_path}
use Rattle.dav_memory.specs.Entries.{Dots, DuKey, DuEntry, PathCache, DotCache, inserted, purged, is_old_path, is_old_dot, dir_key, name_key, same_key, stands}
use Rattle.dav_memory.specs.Calls.{LooksBy, Seeing, Opening, Denies, Seals}

-- what is known of a directory at a time: which names that begin with `._` it has
abbrev pub Known : Type 0
Known = Option (Name → Bool)

pub record MemoryState : Type 0 where
  -- the two caches, where the memory tells them
  pub paths : Option PathCache
  pub dots : Option DotCache
  -- what it knows of a directory path at a time
  pub knows : Names → FileTime → Known
  -- It may also call a name absent where it is open for the path and the time.
  pub is_open : Names → FileTime → Bool

-- ---- knowledge

-- this was known
abbrev pub WasKnown : MemoryState → Names → FileTime → (Name → Bool) → Type 0
WasKnown old dir time has = (had : Name → Bool) × (old.knows dir time ≡ Some had) × ((x : Name) → has x ≡ had x)

-- What is known after a call was known before it, and for no other path and time is it open.
pub record LearnsNothing (old new : MemoryState) : Type 0 where
  pub known : (dir : Names) (time : FileTime) (has : Name → Bool) → new.knows dir time ≡ Some has
      → WasKnown old dir time has
  pub same_open : (dir : Names) (time : FileTime) → new.is_open dir time ≡ old.is_open dir time

-- it knows names for the path and the time, without this one, or is open
abbrev pub MayDeny : MemoryState → Names → FileTime → Name → Type 0
MayDeny m dir time name =
    ((has : Name → Bool) × (m.knows dir time ≡ Some has) × (has name ≡ false)) ⊎ (m.is_open dir time ≡ true)

-- ---- the calls

-- the disk was asked at most one such call, and nothing else
abbrev pub AsksOnceBy : {A : Type 0} → (DiskState → Names → Result A DiskError → DiskState → Type 0) → DiskState
    → DiskState → Type 0
AsksOnceBy call before after =
    (after ≡ before) ⊎ ((path : Names) × (answer : Result _ DiskError) × call before path answer after)

-- the disk was asked at most one `meta`, and nothing else
abbrev pub AsksMeta : DiskState → DiskState → Type 0
AsksMeta before after = AsksOnceBy Seeing before after

-- A path is looked up by a call of the disk. It is found only where the disk answered that call there, and it folds
-- like the one asked. Where none is found, the disk wasn't asked, or refused it.
pub record GetsBy {A : Type 0} (call : DiskState → Names → Result A DiskError → DiskState → Type 0) (old : MemoryState)
    (path : Names) (before : DiskState) (found : Option (Names × A)) (new : MemoryState) (after : DiskState)
    : Type 0 where
  pub asks : AsksOnceBy call before after
  pub stood : IfSome found (λ f. call before f.0 (Ok f.1) after)
  pub refused : found ≡ None
      → (after ≡ before) ⊎ ((path : Names) × (error : DiskError) × call before path (Err error) after)
  pub folds : IfSome found (λ f. fold_path f.0 ≡ fold_path path)
  pub paths : Both old.paths new.paths
      (λ a b. LooksBy call (lookup (same_path (fold_path path)) a.entries) a path before found b after)
  pub dots : new.dots ≡ old.dots
  pub learns : LearnsNothing old new

-- by what stands there
abbrev pub Gets : MemoryState → Names → DiskState → Option (Names × Meta) → MemoryState → DiskState → Type 0
Gets old path before found new after = GetsBy Seeing old path before found new after

-- by an opening for reading
abbrev pub GetsOpen : MemoryState → Names → DiskState → Option (Names × Handle) → MemoryState → DiskState → Type 0
GetsOpen old path before found new after = GetsBy Opening old path before found new after

pub record Inserts (old : MemoryState) (path : Names) (now : Moment) (new : MemoryState) : Type 0 where
  pub paths : Both old.paths new.paths (λ a b. b ≡ record a { entries = inserted a.size path now a.entries })
  pub dots : new.dots ≡ old.dots
  pub learns : LearnsNothing old new

-- the disk found the directory with a time for which the memory knew names without this one, or was open
abbrev pub Denied : MemoryState → Names → Name → DiskState → DiskState → Type 0
Denied old dir name before after =
    (meta : Meta) × (time : FileTime) × Metas before dir (Ok meta) after × (is_dir meta.kind ≡ true)
    × (meta.modified ≡ Some time) × MayDeny old dir time name

pub record Negates (old : MemoryState) (dir : Names) (name : Name) (before : DiskState) (absent : Bool)
    (new : MemoryState) (after : DiskState) : Type 0 where
  pub asks : AsksMeta before after
  pub denied : IsTrue absent → Denied old dir name before after
  pub dots : Both old.dots new.dots
      (λ a b. Denies (lookup (same_key (dir_key dir)) a.entries) a dir name before absent b after)
  pub paths : new.paths ≡ old.paths
  pub learns : LearnsNothing old new

-- What is known after a seal was known before it, or is the sealed names.
pub record SealsIn (old : MemoryState) (dir : DuKey) (time : FileTime) (names : List Name) (now : Moment)
    (result : Sealed) (new : MemoryState) : Type 0 where
  pub dots : Both old.dots new.dots (λ a b. Seals a dir time now names result b)
  pub paths : new.paths ≡ old.paths
  pub known : (d : Names) (t : FileTime) (has : Name → Bool) → new.knows d t ≡ Some has
      → WasKnown old d t has ⊎ ((d ≡ dir.dir) × (t ≡ time) × ((x : Name) → has x ≡ list_any (same_name x) names))
  pub same_open : (d : Names) (t : FileTime) → new.is_open d t ≡ old.is_open d t

pub record Purges (old : MemoryState) (now : Moment) (new : MemoryState) : Type 0 where
  pub paths : Both old.paths new.paths (λ a b. b ≡ record a { entries = purged (is_old_path now) a.entries })
  pub dots : Both old.dots new.dots (λ a b. b ≡ record a { entries = purged (is_old_dot now) a.entries })
  pub learns : LearnsNothing old new

-- ---- a memory of its own

-- the names that stand with the number of the directory's entry, where the entry has the time
abbrev pub known_at : Dots → Names → FileTime → Option DuEntry → Known
known_at dots dir time None = None
known_at dots dir time (Some e) =
    if same_time e.time time then Some (λ x. stands dots (name_key dir x) e.number) else None

abbrev pub known_by : Dots → Names → FileTime → Known
known_by dots dir time = known_at dots dir time (lookup (same_key (dir_key dir)) dots)

pub record OwnedState : Type 0 where
  pub paths : PathCache
  pub dots : DotCache

-- it tells both caches, and is never open
abbrev pub memory_of : OwnedState → MemoryState
memory_of o =
    record { paths = Some o.paths; dots = Some o.dots; knows = known_by o.dots.entries; is_open = λ dir time. false }

-- it tells nothing, and knows nothing
abbrev pub nothing_kept : MemoryState
nothing_kept = record { paths = None; dots = None; knows = λ dir time. None; is_open = λ dir time. false }
