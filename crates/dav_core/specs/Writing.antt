-- What the writing calls of a disk do, as relations between the disk before and after.
use Rattle.std.specs.Prelude.{◌≡◌, ◌≤◌, ◌<◌, ◌+◌, ◌-◌, ◌&&◌, ◌||◌, ◌++◌, ◌⊎◌, ℕ, List, length, take, drop, replicate, Bool, true, false, Option, None, Some, Result, Ok, Err, IfOk, IfErr, OnErr}
use Rattle.dav_io.specs.Told.{Both}
use Rattle.dav_core.specs.declared.handle.DiskError.{DiskError}
use Rattle.dav_core.specs.declared.handle.DiskError.TheVariants.{NotFound, Exists, NotDir, IsDir, NotEmpty, Failed, NoMemory}
use Rattle.dav_core.specs.Path.{Names}
use Rattle.dav_core.specs.Tree.{is_file, is_linked}
use Rattle.dav_core.specs.World.{World, OpenFile, SameBesidesOpens, put, bytes_of}
use Rattle.dav_core.specs.Disk.{Live, DiskState, Asks, Refused}
use Rattle.dav_core.specs.Edits.{Edit, fills, Edited, EditedBy, IsPart, SameOpens}
use Rattle.dav_core.specs.Allowed.{Allowed, making_dir, taking_dir, taking_file, moving, copying}
use Rattle.dav_core.specs.declared.handle.OpenOptions.{OpenOptions}

-- What a refused call may leave: the world as it was, and where `may` says so a part of its edit.
abbrev pub LeftBy : Bool → Allowed → World → World → Type 0
LeftBy true (Ok (Some e)) v w = SameBesidesOpens v w ⊎ ((part : Edit) × IsPart e part × Edited part v w)
LeftBy may allowed v w = SameBesidesOpens v w

-- A call does what is allowed. It is refused as the tree calls for it, or for a fault or want of memory.
abbrev pub DoesIn : Bool → Allowed → Result Unit DiskError → World → World → Type 0
DoesIn may allowed (Ok x) v w = (edit : Option Edit) × (allowed ≡ Ok edit) × EditedBy edit v w
DoesIn may allowed (Err e) v w = Refused e allowed × LeftBy may allowed v w

-- What the calls that name paths have in common: a refusal is one of theirs, what is open stays, and the told world is
-- what the call makes of it.
pub record Does (may : DiskError → Type 0) (In : World → World → Type 0) (old : DiskState)
    (result : Result Unit DiskError) (new : DiskState) : Type 0 where
  pub asks : Asks result old new
  pub only : IfErr result may
  pub live : new.live ≡ old.live
  pub opens : Both old.told new.told SameOpens
  pub told : Both old.told new.told In

abbrev pub MayRefuseMake : DiskError → Type 0
MayRefuseMake IsDir = ⊥
MayRefuseMake NotEmpty = ⊥
MayRefuseMake e = Unit {0}

abbrev pub MayRefuseTakeDir : DiskError → Type 0
MayRefuseTakeDir Exists = ⊥
MayRefuseTakeDir IsDir = ⊥
MayRefuseTakeDir e = Unit {0}

abbrev pub MayRefuseTakeFile : DiskError → Type 0
MayRefuseTakeFile Exists = ⊥
MayRefuseTakeFile NotEmpty = ⊥
MayRefuseTakeFile e = Unit {0}

abbrev pub MayRefuseMove : DiskError → Type 0
MayRefuseMove Exists = ⊥
MayRefuseMove e = Unit {0}

abbrev pub MayRefuseCopy : DiskError → Type 0
MayRefuseCopy Exists = ⊥
MayRefuseCopy NotEmpty = ⊥
MayRefuseCopy e = Unit {0}

-- What is made of the world is said where no link stands on the way.
abbrev pub CreatesDir : DiskState → Names → Result Unit DiskError → DiskState → Type 0
CreatesDir old path result new = Does MayRefuseMake
    (λ v w. is_linked v.tree path ≡ false → DoesIn false (making_dir v.tree path) result v w) old result new

abbrev pub RemovesDir : DiskState → Names → Result Unit DiskError → DiskState → Type 0
RemovesDir old path result new = Does MayRefuseTakeDir
    (λ v w. is_linked v.tree path ≡ false → DoesIn false (taking_dir v.tree path) result v w) old result new

abbrev pub RemovesFile : DiskState → Names → Result Unit DiskError → DiskState → Type 0
RemovesFile old path result new = Does MayRefuseTakeFile
    (λ v w. is_linked v.tree path ≡ false → DoesIn false (taking_file v.tree path) result v w) old result new

-- Where it met a fault, what it moves may have been moved.
abbrev pub Renames : DiskState → Names → Names → Result Unit DiskError → DiskState → Type 0
Renames old from to result new = Does MayRefuseMove
    (λ v w. is_linked v.tree from ≡ false → is_linked v.tree to ≡ false
    → DoesIn true (moving v.tree from to) result v w)
    old result new

-- Where it met a fault, a front of the bytes may stand there.
abbrev pub Copies : DiskState → Names → Names → Result Unit DiskError → DiskState → Type 0
Copies old from to result new = Does MayRefuseCopy
    (λ v w. is_linked v.tree from ≡ false → is_linked v.tree to ≡ false → DoesIn true (copying v from to) result v w)
    old result new

-- bytes with others in them from a place on; a gap before the place is filled with zeros
abbrev pub written : ℕ → List ℕ → List ℕ → List ℕ
written at from bytes = take at bytes ++ (replicate (at - length bytes) 0 ++ (from ++ drop (at + length from) bytes))

-- a file that was opened to be written, or to be written at its end
abbrev pub can_write : Option Live → Bool
can_write None = false
can_write (Some l) = is_file l.kind && (l.how.write || l.how.append)

abbrev pub appends : Option Live → Bool
appends None = false
appends (Some l) = l.how.append

-- the place at which a file is written: its end, where it was opened to append
abbrev pub write_place : Bool → World → OpenFile → ℕ
write_place true w o = length (bytes_of w o.number)
write_place false w o = o.place

-- This many bytes of the front of `from` stand in the file, and its place is behind them.
abbrev pub WroteIn : Bool → ℕ → List ℕ → ℕ → World → World → Type 0
WroteIn append h from n v w = (o : OpenFile) × (v.opens h ≡ Some o) × (0 < n) × (n ≤ length from)
    × Edited (fills o.number (written (write_place append v o) (take n from) (bytes_of v o.number))) v w
    × (w.opens ≡ put h (Some (record o { place = write_place append v o + n })) v.opens) × (w.listings ≡ v.listings)

-- A write of what isn't open for it leaves all. One that met a fault or want of memory may have written a front.
abbrev pub WrittenIn : Option Live → ℕ → List ℕ → Result ℕ DiskError → World → World → Type 0
WrittenIn l h from (Ok n) v w = (can_write l ≡ true) × WroteIn (appends l) h from n v w
WrittenIn l h from (Err IsDir) v w = (can_write l ≡ false) × SameBesidesOpens v w × SameOpens v w
WrittenIn l h from (Err e) v w = (SameBesidesOpens v w × SameOpens v w)
    ⊎ ((can_write l ≡ true) × (n : ℕ) × WroteIn (appends l) h from n v w)

abbrev pub MayRefuseWrite : DiskError → Type 0
MayRefuseWrite IsDir = Unit {0}
MayRefuseWrite Failed = Unit {0}
MayRefuseWrite NoMemory = Unit {0}
MayRefuseWrite e = ⊥

pub record Writes (old : DiskState) (h : ℕ) (from : List ℕ) (result : Result ℕ DiskError) (new : DiskState)
    : Type 0 where
  pub asks : Asks result old new
  pub within : IfOk result (λ n. (0 < n) × (n ≤ length from))
  pub only : IfErr result MayRefuseWrite
  -- a file that was opened for it is never refused as a directory
  pub refused : can_write (old.live h) ≡ true → OnErr result ((result ≡ Err Failed) ⊎ (result ≡ Err NoMemory))
  pub live : new.live ≡ old.live
  pub told : Both old.told new.told (WrittenIn (old.live h) h from result)

-- ---- how files are opened

-- for reading alone
abbrev pub reading : OpenOptions
reading = record { read = true; write = false; append = false; truncate = false; create = false; create_new = false }
