-- What each call of a disk does, as a relation between the disk before and after it.
use Rattle.std.specs.Prelude.{◌≡◌, ◌≤◌, ◌+◌, ◌&&◌, ◌||◌, ℕ, List, [], length, take, drop, min, Bool, true, false, IsTrue, Option, None, Some, IsSome, Result, Ok, Err, IfOk, IfErr, OnErr, IsOk}
use Rattle.std.specs.Result.{IsErrOf}
use Rattle.std.specs.Option.{option_map, is_some}
use Rattle.dav_io.specs.Counts.{Rose, one_more}
use Rattle.dav_io.specs.Told.{Both}
use Rattle.dav_core.specs.declared.tree.Row.{Row}
use Rattle.dav_core.specs.declared.tree.Kind.{Kind}
use Rattle.dav_core.specs.declared.handle.Meta.{Meta}
use Rattle.dav_core.specs.declared.handle.Handle.{Handle}
use Rattle.dav_core.specs.declared.handle.OpenOptions.{OpenOptions}
use Rattle.dav_core.specs.declared.handle.DiskError.{DiskError}
use Rattle.dav_core.specs.declared.handle.DiskError.TheVariants.{NotFound, Exists, NotDir, IsDir, NotEmpty, Failed, NoMemory}
use Rattle.dav_core.specs.Path.{Names, parent_of}
use Rattle.dav_core.specs.Tree.{look, row_at, is_linked, is_file}
use Rattle.dav_core.specs.World.{World, OpenFile, Holds, SameHeld, SameBesidesOpens, put, bytes_of, time_of}
use Rattle.dav_core.specs.Changes.{turned}
use Rattle.dav_core.specs.Edits.{Edit, EditedBy, SameOpens}
use Rattle.dav_core.specs.Allowed.{opening}

-- what every disk knows of a live handle: what stands behind it, and how it was opened
pub record Live : Type 0 where
  pub kind : Kind
  pub how : OpenOptions

-- A disk as contracts see it.
pub record DiskState : Type 0 where
  -- the world, where it is told
  pub told : Option World
  pub faults : ℕ
  pub asked : ℕ
  -- it tells that a read gives all bytes that stand there and fit
  pub whole : Bool
  -- the live handles
  pub live : ℕ → Option Live
  -- the live listers, each with a bound on the names that it has still to give
  pub listers : ℕ → Option ℕ

-- What is open in a told world is what is live.
pub record TellsLive (s : DiskState) : Type 0 where
  pub opens : (w : World) → s.told ≡ Some w → (h : ℕ) → is_some (w.opens h) ≡ is_some (s.live h)
  pub listings : (w : World) → s.told ≡ Some w → (l : ℕ) → is_some (w.listings l) ≡ is_some (s.listers l)

-- A call that is counted: a fault is answered only where one was met.
pub record IsCounted {T : Type 0} (result : Result T DiskError) (old new : DiskState) : Type 0 where
  pub counts : old.faults ≤ new.faults
  pub rose : IsErrOf result Failed → Rose old.faults new.faults
  pub asked : new.asked ≡ one_more old.asked
  pub more : old.asked ≤ new.asked
  pub whole : IsTrue old.whole → IsTrue new.whole

-- A counted call of no listing.
pub record Asks {T : Type 0} (result : Result T DiskError) (old new : DiskState) : Type 0 where
  pub counted : IsCounted result old new
  pub open counted use *
  pub listers : new.listers ≡ old.listers

-- The tree calls for this refusal, or a fault or want of memory was met.
abbrev pub Refused : {T : Type 0} → DiskError → Result T DiskError → Type 0
Refused Failed found = Unit {0}
Refused NoMemory found = Unit {0}
Refused e found = found ≡ Err e

-- what stands at a path, as it is told
pub record IsMetaOf (w : World) (row : Row) (meta : Meta) : Type 0 where
  pub kind : meta.kind ≡ row.kind
  pub number : meta.number ≡ row.number
  pub len : meta.len ≡ length (bytes_of w row.number)
  pub modified : meta.modified ≡ Some row.time

abbrev pub MetaIn : Names → Result Meta DiskError → World → Type 0
MetaIn path (Ok meta) w = (row : Row) × (look w.tree path ≡ Ok row) × IsMetaOf w row meta
MetaIn path (Err e) w = Refused e (look w.tree path)

-- the refusals of a look at a path
abbrev pub MayRefuseMeta : DiskError → Type 0
MayRefuseMeta NotFound = Unit {0}
MayRefuseMeta NotDir = Unit {0}
MayRefuseMeta Failed = Unit {0}
MayRefuseMeta e = ⊥

-- The way on which no link may stand: the whole path where a link at its end is followed, and else what comes before
-- its last name.
abbrev pub way_to : Bool → Names → Names
way_to true path = path
way_to false path = parent_of path

-- What stands at a path is asked, where `follows` says so with a link at its end followed.
pub record MetasBy (follows : Bool) (old : DiskState) (path : Names) (result : Result Meta DiskError) (new : DiskState)
    : Type 0 where
  pub asks : Asks result old new
  pub only : IfErr result MayRefuseMeta
  pub world : new.told ≡ old.told
  pub live : new.live ≡ old.live
  pub told : (w : World) → old.told ≡ Some w → is_linked w.tree (way_to follows path) ≡ false → MetaIn path result w

-- what stands at a path, links followed
abbrev pub Metas : DiskState → Names → Result Meta DiskError → DiskState → Type 0
Metas old path result new = MetasBy true old path result new

-- what stands at a path, a link at its end not followed
abbrev pub LinkMetas : DiskState → Names → Result Meta DiskError → DiskState → Type 0
LinkMetas old path result new = MetasBy false old path result new

-- an open file of this number at its first byte
abbrev pub at_start : ℕ → OpenFile
at_start number = record { number = number; place = 0 }

abbrev pub with_opens : World → (ℕ → Option OpenFile) → World
with_opens w opens = record w { opens = opens }

-- What is opened is what stands at the path, at its first byte. Also behind a link it is a file that somebody holds.
abbrev pub OpenedIn : Names → Result Handle DiskError → Option Kind → World → World → Type 0
OpenedIn path (Ok h) kind v w = (number : ℕ) × (w ≡ with_opens v (put h.0 (Some (at_start number)) v.opens))
    × Holds v number
    × (is_linked v.tree path ≡ false → (row : Row) × (look v.tree path ≡ Ok row) × (row.number ≡ number)
    × (kind ≡ Some row.kind))
OpenedIn path (Err e) kind v w = (w ≡ v) × (is_linked v.tree path ≡ false → Refused e (look v.tree path))

-- the kind of what a live handle has open
abbrev pub kind_at : DiskState → ℕ → Option Kind
kind_at s h = option_map (λ l. l.kind) (s.live h)

-- the kind that the answered handle has
abbrev pub kind_opened : Result Handle DiskError → DiskState → Option Kind
kind_opened (Ok h) s = kind_at s h.0
kind_opened (Err e) s = None

abbrev pub LiveAfterOpen : OpenOptions → Result Handle DiskError → (ℕ → Option Live) → (ℕ → Option Live) → Type 0
LiveAfterOpen how (Ok h) old new = (kind : Kind) × (old h.0 ≡ None)
    × (new ≡ put h.0 (Some (record { kind = kind; how = how })) old)
LiveAfterOpen how (Err e) old new = new ≡ old

-- an opening that may change what stands there, or make it
abbrev pub may_change : OpenOptions → Bool
may_change how = how.write || (how.append || (how.truncate || (how.create || how.create_new)))

-- the refusals of opening, by whether it may change something
abbrev pub MayRefuseOpen : Bool → DiskError → Type 0
MayRefuseOpen may NotFound = Unit {0}
MayRefuseOpen may NotDir = Unit {0}
MayRefuseOpen may Failed = Unit {0}
MayRefuseOpen may NoMemory = Unit {0}
MayRefuseOpen may NotEmpty = ⊥
MayRefuseOpen true e = Unit {0}
MayRefuseOpen false e = ⊥

-- The handle has what stands at the path open, at its first byte, after the edit that opening makes there; all else
-- that is open stays. Nothing more is said where a link stands on the way.
abbrev pub OpenedOver : Names → OpenOptions → Result Handle DiskError → Option Kind → World → World → Type 0
OpenedOver path how (Ok h) kind v w = (number : ℕ) × (w.opens ≡ put h.0 (Some (at_start number)) v.opens)
    × (w.listings ≡ v.listings) × Holds w number
    × (is_linked v.tree path ≡ false → (edit : Option Edit) × (row : Row) × (opening v.tree path how ≡ Ok edit)
    × EditedBy edit v w × (row_at w.tree path ≡ Some row) × (row.number ≡ number) × (kind ≡ Some row.kind))
OpenedOver path how (Err e) kind v w = SameOpens v w
    × (is_linked v.tree path ≡ false → SameBesidesOpens v w × Refused e (opening v.tree path how))

abbrev pub OpenedBy : Bool → Names → OpenOptions → Result Handle DiskError → Option Kind → World → World → Type 0
OpenedBy false path how result kind v w = OpenedIn path result kind v w
OpenedBy true path how result kind v w = OpenedOver path how result kind v w

-- A file or directory is opened.
pub record Opens (old : DiskState) (path : Names) (how : OpenOptions) (result : Result Handle DiskError)
    (new : DiskState) : Type 0 where
  pub asks : Asks result old new
  pub only : IfErr result (MayRefuseOpen (may_change how))
  pub live : LiveAfterOpen how result old.live new.live
  pub told : Both old.told new.told (OpenedBy (may_change how) path how result (kind_opened result new))

abbrev pub FileMetaIn : ℕ → Result Meta DiskError → World → Type 0
FileMetaIn h (Ok meta) w = (o : OpenFile) × (w.opens h ≡ Some o) × (meta.number ≡ o.number)
    × (meta.len ≡ length (bytes_of w o.number))
    × (is_file meta.kind ≡ true → meta.modified ≡ time_of w o.number)
FileMetaIn h (Err e) w = Unit {0}

pub record FileMetas (old : DiskState) (h : ℕ) (result : Result Meta DiskError) (new : DiskState) : Type 0 where
  pub asks : Asks result old new
  pub only : OnErr result (result ≡ Err Failed)
  pub world : new.told ≡ old.told
  pub live : new.live ≡ old.live
  pub kind : IfOk result (λ meta. kind_at old h ≡ Some meta.kind)
  pub told : (w : World) → old.told ≡ Some w → FileMetaIn h result w

-- The place of an open file is set.
abbrev pub placed : World → ℕ → OpenFile → ℕ → World
placed w h o place = with_opens w (put h (Some (record o { place = place })) w.opens)

abbrev pub SoughtIn : ℕ → ℕ → Result Unit DiskError → World → World → Type 0
SoughtIn h place (Ok x) v w = (o : OpenFile) × (v.opens h ≡ Some o) × (w ≡ placed v h o place)
SoughtIn h place (Err e) v w = w ≡ v

pub record Seeks (old : DiskState) (h place : ℕ) (result : Result Unit DiskError) (new : DiskState) : Type 0 where
  pub asks : Asks result old new
  pub only : OnErr result (result ≡ Err Failed)
  pub live : new.live ≡ old.live
  pub told : Both old.told new.told (SoughtIn h place result)

-- the bytes from a file's place on
abbrev pub rest_of : World → OpenFile → List ℕ
rest_of w o = drop o.place (bytes_of w o.number)

abbrev pub ReadIn : Bool → ℕ → List ℕ → Result ℕ DiskError → World → World → Type 0
ReadIn whole h buffer (Ok n) v w = (o : OpenFile) × (v.opens h ≡ Some o) × (n ≤ length (rest_of v o))
    × (take n buffer ≡ take n (rest_of v o))
    × (n ≡ 0 → rest_of v o ≡ []) × (whole ≡ true → n ≡ min (length buffer) (length (rest_of v o)))
    × (w ≡ placed v h o (o.place + n))
ReadIn whole h buffer (Err e) v w = w ≡ v

-- a regular file that was opened for reading
abbrev pub can_read : Option Live → Bool
can_read None = false
can_read (Some l) = is_file l.kind && l.how.read

abbrev pub MayRefuseRead : DiskError → Type 0
MayRefuseRead IsDir = Unit {0}
MayRefuseRead Failed = Unit {0}
MayRefuseRead e = ⊥

pub record Reads (old : DiskState) (h : ℕ) (buffer : List ℕ) (result : Result ℕ DiskError) (new : DiskState)
    : Type 0 where
  pub asks : Asks result old new
  pub within : IfOk result (λ n. n ≤ length buffer)
  pub only : IfErr result MayRefuseRead
  -- a regular file that was opened for reading is refused only by a fault
  pub refused : can_read (old.live h) ≡ true → OnErr result (result ≡ Err Failed)
  -- and over a told disk nothing else is read
  pub readable : IsSome old.told → IsOk result → can_read (old.live h) ≡ true
  pub live : new.live ≡ old.live
  pub told : Both old.told new.told (ReadIn old.whole h buffer result)

-- The handle has nothing open. The bytes of a file that nobody holds then may be forgotten.
abbrev pub ClosedIn : ℕ → World → World → Type 0
ClosedIn h v w = SameHeld (with_opens v (put h None v.opens)) w

pub record Closes (old : DiskState) (h : ℕ) (new : DiskState) : Type 0 where
  pub counts : new.faults ≡ old.faults
  pub asked : new.asked ≡ old.asked
  pub whole : IsTrue old.whole → IsTrue new.whole
  pub listers : new.listers ≡ old.listers
  pub live : new.live ≡ put h None old.live
  pub told : Both old.told new.told (ClosedIn h)

-- The next batch is made. The bytes of a file that nobody holds then may be forgotten.
abbrev pub TurnedIn : {E : Type 0} → Result Unit E → World → World → Type 0
TurnedIn (Ok x) v w = SameHeld (turned v) w
TurnedIn (Err e) v w = w ≡ v

pub record Turns {E : Type 0} (old : DiskState) (result : Result Unit E) (new : DiskState) : Type 0 where
  pub counts : new.faults ≡ old.faults
  pub asked : new.asked ≡ old.asked
  pub whole : IsTrue old.whole → IsTrue new.whole
  pub listers : new.listers ≡ old.listers
  pub live : new.live ≡ old.live
  pub told : Both old.told new.told (TurnedIn result)
