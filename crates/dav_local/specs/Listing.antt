-- What a listing of a disk answers that is read in batches, by what the disk answers.
use Rattle.std.specs.Prelude.{◌≡◌, ◌≤◌, ◌+◌, ◌||◌, ℕ, suc, List, [], ◌∷◌, ◌++◌, length, Bool, true, false, Option, None, Some, Result, Ok, Err}
use Rattle.std.specs.Option.{is_some}
use Rattle.dav_core.specs.declared.error.FsError.{FsError}
use Rattle.dav_core.specs.declared.error.FsError.TheVariants as fs
use Rattle.dav_core.specs.declared.handle.DiskError.{DiskError}
use Rattle.dav_core.specs.declared.handle.DiskError.TheVariants.{NoMemory}
use Rattle.dav_core.specs.declared.handle.Lister.{Lister}
use Rattle.dav_core.specs.declared.handle.Meta.{Meta}
use Rattle.dav_core.specs.Disk.{DiskState, MetasBy}
use Rattle.dav_core.specs.Errors.{fs_error_of}
use Rattle.dav_core.specs.Listing.{Lists, ListsOn}
use Rattle.dav_core.specs.Path.{Names}
use Rattle.dav_core.specs.Unchanged.{Keeps}
use Rattle.dav_store.specs.declared.entry.ReadDirMeta.{ReadDirMeta}
use Rattle.dav_store.specs.declared.entry.ReadDirMeta.TheVariants as wanted
use Rattle.dav_store.specs.Listings.{GoesOn}
use Rattle.dav_local.specs.declared.entry.EntryMeta.{EntryMeta}
use Rattle.dav_local.specs.declared.entry.EntryMeta.TheVariants.{Read, At}
use Rattle.dav_local.specs.declared.entry.LocalFsDirEntry.{LocalFsDirEntry}
use Rattle.dav_local.specs.Files.{said_by}

-- A listing as contracts see it: the disk's lister, the path of the directory, what is read of each entry, the entries
-- that were read and are to be given, what is answered once behind them, and whether the disk is asked no more.
pub record ListingState : Type 0 where
  pub lister : Lister
  pub path : Names
  pub wanted : ReadDirMeta
  pub batch : List LocalFsDirEntry
  pub refused : Option FsError
  pub over : Bool

abbrev pub dir_of : Names → ReadDirMeta → Result Lister DiskError → Result ListingState FsError
dir_of path wanted (Ok l) = Ok (record {
  lister = l;
  path = path;
  wanted = wanted;
  batch = [];
  refused = None;
  over = false;
})
dir_of path wanted (Err e) = Err (fs_error_of e)

abbrev pub Begins : DiskState → Names → ReadDirMeta → Result ListingState FsError → DiskState → Type 0
Begins s path wanted result t = (answer : Result Lister DiskError) × Lists s path answer t
    × (result ≡ dir_of path wanted answer)

-- ---- an entry

-- What the disk said at this path was read, where `follows` says so with a link followed.
abbrev pub WasRead : Bool → EntryMeta → DiskState → Names → DiskState → Type 0
WasRead follows (Read answer) s path t = (said : Result Meta DiskError) × MetasBy follows s path said t
    × (answer ≡ said_by said)
WasRead follows (At place) s path t = ⊥

-- It is to be asked at this path, and nothing was read.
abbrev pub IsAsked : EntryMeta → DiskState → Names → DiskState → Type 0
IsAsked (Read answer) s path t = ⊥
IsAsked (At place) s path t = (place ≡ path) × (t ≡ s)

-- An entry's metadata was read at its path, links followed or not, or is to be asked there: as the listing wants it.
abbrev pub IsKnown : EntryMeta → ReadDirMeta → DiskState → Names → DiskState → Type 0
IsKnown meta wanted.Data s path t = WasRead true meta s path t
IsKnown meta wanted.DataSymlink s path t = WasRead false meta s path t
IsKnown meta wanted.None s path t = IsAsked meta s path t

-- The entry of a name that the disk gave. Where memory for it is refused, the name is lost.
abbrev pub GivesEntry : List ℕ → Names → ReadDirMeta → DiskState → Result LocalFsDirEntry FsError → DiskState → Type 0
GivesEntry name path wanted s (Ok entry) t = (entry.name ≡ name) × IsKnown entry.meta wanted s (path ++ name ∷ []) t
GivesEntry name path wanted s (Err e) t = (e ≡ fs.NoMemory) × Keeps s t

-- ---- a batch

abbrev pub with_given : ListingState → Result LocalFsDirEntry FsError → ListingState
with_given d (Ok entry) = record d { batch = d.batch ++ entry ∷ [] }
with_given d (Err e) = record d { refused = Some e }

-- After a name comes its entry. A fault ends the listing, and so does its end; want of memory leaves it.
abbrev pub AfterName : Result (Option (List ℕ)) DiskError → DiskState → ListingState → DiskState → ListingState → Type 0
AfterName (Ok (Some name)) s d t e = (given : Result LocalFsDirEntry FsError)
    × GivesEntry name d.path d.wanted s given t × (e ≡ with_given d given)
AfterName (Ok None) s d t e = (t ≡ s) × (e ≡ record d { over = true })
AfterName (Err NoMemory) s d t e = (t ≡ s) × (e ≡ record d { refused = Some fs.NoMemory })
AfterName (Err f) s d t e = (t ≡ s) × (e ≡ record d { refused = Some (fs_error_of f); over = true })

-- One name is asked of the disk.
abbrev pub ReadsOne : DiskState → ListingState → DiskState → ListingState → Type 0
ReadsOne s d t e = (answer : Result (Option (List ℕ)) DiskError) × (m : DiskState) × ListsOn s d.lister.0 answer m
    × AfterName answer m d t e

-- nothing more is read for a batch
abbrev pub is_ended : ListingState → Bool
is_ended d = d.over || is_some d.refused

-- At most so many names are read, up to the listing's end or a refusal.
pub data Fills : ℕ → DiskState → ListingState → DiskState → ListingState → Type 0 where
  full : (s : DiskState) (d : ListingState) → Fills 0 s d s d
  ended : (n : ℕ) (s : DiskState) (d : ListingState) → is_ended d ≡ true → Fills n s d s d
  more : (n : ℕ) (s m t : DiskState) (d e f : ListingState) → is_ended d ≡ false → ReadsOne s d m e → Fills n m e t f
      → Fills (suc n) s d t f

-- Where no entry is left to be given, 256 names are read.
abbrev pub Refills : List LocalFsDirEntry → DiskState → ListingState → DiskState → ListingState → Type 0
Refills [] s d t e = Fills 256 s d t e
Refills (entry ∷ batch) s d t e = (t ≡ s) × (e ≡ d)

-- The first entry of a batch is given; behind the last what was refused, once; and then None.
abbrev pub Gives : List LocalFsDirEntry → Option FsError → ListingState → Result (Option LocalFsDirEntry) FsError
    → ListingState → Type 0
Gives (entry ∷ batch) refused d result e = (result ≡ Ok (Some entry)) × (e ≡ record d { batch = batch })
Gives [] (Some f) d result e = (result ≡ Err f) × (e ≡ record d { refused = None })
Gives [] None d result e = (result ≡ Ok None) × (e ≡ d)

abbrev pub NextEntry : DiskState → ListingState → Result (Option LocalFsDirEntry) FsError → DiskState → ListingState
    → Type 0
NextEntry s d result t e = (f : ListingState) × Refills d.batch s d t f × Gives f.batch f.refused f result e

-- It gives nothing more, and asks the disk no more.
abbrev pub stopped : ListingState → ListingState
stopped d = record d { batch = []; refused = None; over = true }

-- ---- how many answers are to come: the entries that were read, a fault, and as many as the disk has names to come

abbrev pub pending : Option FsError → ℕ
pending None = 0
pending (Some fs.NoMemory) = 0
pending (Some e) = 1

abbrev pub come : Bool → Option ℕ → ℕ
come true left = 0
come false None = 0
come false (Some k) = suc k

abbrev pub to_come : ListingState → Option ℕ → ℕ
to_come d left = length d.batch + (pending d.refused + come d.over left)

-- A batch was read: what that leaves.
pub record Filled (s : DiskState) (d : ListingState) (t : DiskState) (e : ListingState) : Type 0 where
  pub fills : Fills 256 s d t e
  pub goes : GoesOn s (Some d.lister.0) t
  pub lister : e.lister ≡ d.lister
  pub bound : to_come e (t.listers d.lister.0) ≤ to_come d (s.listers d.lister.0)

-- the same, where one was to be read
pub record Refilled (s : DiskState) (d : ListingState) (t : DiskState) (e : ListingState) : Type 0 where
  pub refills : Refills d.batch s d t e
  pub goes : GoesOn s (Some d.lister.0) t
  pub lister : e.lister ≡ d.lister
  pub bound : to_come e (t.listers d.lister.0) ≤ to_come d (s.listers d.lister.0)
