-- A listing that gathers the names to be sealed, as contracts see it.
use Rattle.std.specs.Prelude.{◌≡◌, ◌||◌, Bool, true, false, List, [], Option, Some, None, Result, Ok, Err, IsOk, IsErr, if◌then◌else◌}
use Rattle.dav_io.specs.declared.clock.Moment.{Moment}
use Rattle.dav_core.specs.declared.handle.Meta.{Meta}
use Rattle.dav_core.specs.declared.handle.DiskError.{DiskError}
use Rattle.dav_core.specs.Disk.{DiskState, Metas}
use Rattle.dav_core.specs.Tree.{is_dir}
use Rattle.dav_memory.specs.declared.sealed.Sealed.{Sealed}
use Rattle.dav_memory.specs.declared.sealed.Sealed.TheVariants.{Done, Last, NoMemory}
use Rattle.dav_memory.specs.Trees.{Name, Names, FileTime, is_dot}
use Rattle.dav_memory.specs.Entries.{dir_key, kept, one_time}
use Rattle.dav_memory.specs.Memory.{MemoryState, SealsIn}

pub record BuilderState : Type 0 where
  pub dir : Names
  -- the directory's time when the listing began
  pub before : Option FileTime
  -- the names that begin with `._`, in order and each once
  pub names : List Name
  -- a listing fault was noted
  pub faulted : Bool
  pub finished : Bool

-- the time of a directory that was found
abbrev pub time_found : Result Meta DiskError → Option FileTime
time_found (Ok meta) = if is_dir meta.kind then meta.modified else None
time_found (Err e) = None

abbrev pub started : Names → Option FileTime → BuilderState
started dir before = record { dir = dir; before = before; names = []; faulted = false; finished = false }

-- the directory's time is asked
abbrev pub Starts : DiskState → Names → BuilderState → DiskState → Type 0
Starts before dir b after =
    (answer : Result Meta DiskError) × Metas before dir answer after × (b ≡ started dir (time_found answer))

-- with one more name, where it begins with `._`
abbrev pub with_name : Name → BuilderState → BuilderState
with_name name b = if is_dot name then record b { names = kept name b.names } else b

-- the time that the names may be sealed with, if the directory still has it
abbrev pub may_settle : BuilderState → Option FileTime
may_settle b = if b.finished || b.faulted then None else b.before

-- want of memory is told, and nothing else
abbrev pub TellsSealed : {E : Type 0} → Sealed → Result Unit E → Type 0
TellsSealed Done result = IsOk result
TellsSealed Last result = IsOk result
TellsSealed NoMemory result = IsErr result

-- what the end of a listing works on: the listing, its disk, and the memory that it is sealed into
pub record Site (M : Type 0) : Type 0 where
  pub builder : BuilderState
  pub disk : DiskState
  pub memory : M

module _ {M E : Type 0} (state : M → MemoryState) where
  -- what the memory is told of a listing, by the time that is settled
  abbrev pub Settles : Option FileTime → BuilderState → Moment → M → Result Unit E → M → Type 0
  Settles None b now old result new = IsOk result × (new ≡ old)
  Settles (Some time) b now old result new =
      (sealed : Sealed) × SealsIn (state old) (dir_key b.dir) time b.names now sealed (state new)
      × TellsSealed sealed result

  -- The first end asks the directory's time again, and seals where both times are known and equal and no fault was
  -- noted. A second does nothing.
  abbrev pub Finishes : Bool → Site M → Moment → Result Unit E → Site M → Type 0
  Finishes true old now result new =
      IsOk result × (new.builder ≡ old.builder) × (new.disk ≡ old.disk) × (new.memory ≡ old.memory)
  Finishes false old now result new =
      (answer : Result Meta DiskError) × Metas old.disk old.builder.dir answer new.disk
      × (new.builder ≡ record old.builder { finished = true })
      × Settles (one_time (may_settle old.builder) (time_found answer)) old.builder now old.memory result new.memory
