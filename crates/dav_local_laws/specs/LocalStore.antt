-- The calls of a local store, of its files and of its listings, by a view of it.
use Rattle.std.specs.Prelude.{◌≡◌, ℕ, true, false, List, Option, Some, Result}
use Rattle.dav_io.specs.declared.clock.Moment.{Moment}
use Rattle.dav_core.specs.declared.error.FsError.{FsError}
use Rattle.dav_core.specs.declared.handle.OpenOptions.{OpenOptions}
use Rattle.dav_core.specs.DavPath.{WebPath}
use Rattle.dav_core.specs.Disk.{DiskState}
use Rattle.dav_core.specs.Info.{Info}
use Rattle.dav_core.specs.Listing.{EndsListing}
use Rattle.dav_core.specs.World.{IsWorld, World}
use Rattle.dav_store.specs.declared.entry.ReadDirMeta.{ReadDirMeta}
use Rattle.dav_store.specs.View.{Listings, View}
use Rattle.dav_walks.specs.Pouring.{Writes}
use Rattle.dav_memory.specs.Memory.{MemoryState}
use Rattle.dav_local.specs.declared.entry.LocalFsDirEntry.{LocalFsDirEntry}
use Rattle.dav_local.specs.declared.file.LocalFsFile.{LocalFsFile}
use Rattle.dav_local.specs.Calls.{AsksToCopy, AsksToMake, AsksToMove, AsksToTakeDir, AsksToTakeFile, BeginsAt, Finds, IsOpening, Looks, Place}
use Rattle.dav_local.specs.Entries.{Says}
use Rattle.dav_local.specs.Files.{seen_by}
use Rattle.dav_local.specs.Saving.{SavesDir, SavesLook, SavesOpen}
use Rattle.dav_local.specs.declared.gathering.LocalFsReadDir.{LocalFsReadDir}
use Rattle.dav_local.specs.Gathering.{GivesNext}
use Rattle.dav_local.specs.declared.ways.Ways.{Ways}
use Rattle.dav_local.specs.Writing.{WritesAll}

module _ {S C : Type 0} (view : View S C LocalFsFile) (lists : Listings S C LocalFsReadDir LocalFsDirEntry)
    (writes : Writes LocalFsFile) (ways : S → Ways) (memory : S → MemoryState) (moment : S → Moment) where
  -- the store as its clauses see it
  abbrev pub place : S → Place
  place s = record { ways = ways s; memory = memory s; disk = view.state s; moment = moment s }

  -- All but the disk is as it was.
  abbrev pub Lends : S → S → Type 0
  Lends s t = place t ≡ record (place s) { disk = view.state t }

  -- How it finds paths stays, and the moment at which it remembers.
  pub record IsLocalStore : Type 0 where
    -- each world that the disk tells is one
    pub worlds : (s : S) (w : World) → (view.state s).told ≡ Some w → IsWorld w
    -- it folds names where its ways say so
    pub folding : (s : S) → view.folding s ≡ (ways s).folds
    pub looks : (s t : S) (c : C) (path : WebPath) (r : Result Info FsError) → view.looks s c path r t
        → Looks true (place s) path r (place t) × (ways t ≡ ways s) × (moment t ≡ moment s)
        × SavesLook (place s) path r (place t)
    pub looks_at_link : (s t : S) (c : C) (path : WebPath) (r : Result Info FsError)
        → view.looks_at_link s c path r t → Looks false (place s) path r (place t) × (ways t ≡ ways s) × (moment t ≡ moment s)
    pub opens : (s t : S) (c : C) (path : WebPath) (how : OpenOptions) (r : Result LocalFsFile FsError)
        → view.opens s c path how r t → IsOpening (place s) path how r (place t) × (ways t ≡ ways s) × (moment t ≡ moment s)
    pub opens_once : (s t : S) (c : C) (path : WebPath) (how : OpenOptions) (r : Result LocalFsFile FsError)
        → view.opens s c path how r t → SavesOpen (place s) path how r (place t)
    pub handle : (f : LocalFsFile) → view.file.handle f ≡ f.handle.0
    pub seen : view.file.seen ≡ seen_by
    -- each move and each read of a file asks its disk one call
    pub once : view.file.asks_once
    pub writes_file : (f g : LocalFsFile) (s t : DiskState) (bytes : List ℕ) (r : Result Unit FsError)
        → writes f s bytes r g t → WritesAll f.handle.0 s bytes r t × (g ≡ f)
    pub makes_dir : (s t : S) (c : C) (path : WebPath) (r : Result Unit FsError) → view.makes_dir s c path r t
        → AsksToMake (place s) path r (place t) × (ways t ≡ ways s) × (moment t ≡ moment s)
    pub removes_dir : (s t : S) (c : C) (path : WebPath) (r : Result Unit FsError) → view.removes_dir s c path r t
        → AsksToTakeDir (place s) path r (place t) × (ways t ≡ ways s) × (moment t ≡ moment s)
    pub removes_file : (s t : S) (c : C) (path : WebPath) (r : Result Unit FsError)
        → view.removes_file s c path r t → AsksToTakeFile (place s) path r (place t) × (ways t ≡ ways s) × (moment t ≡ moment s)
    pub renames : (s t : S) (c : C) (from to : WebPath) (r : Result Unit FsError) → view.renames s c from to r t
        → AsksToMove (place s) from to r (place t) × (ways t ≡ ways s) × (moment t ≡ moment s)
    pub copies : (s t : S) (c : C) (from to : WebPath) (r : Result Unit FsError) → view.copies s c from to r t
        → AsksToCopy (place s) from to r (place t) × (ways t ≡ ways s) × (moment t ≡ moment s)
    pub begins : (s t : S) (c : C) (path : WebPath) (how : ReadDirMeta) (r : Result LocalFsReadDir FsError)
        → lists.lists s c path how r t → Finds (place s) path.names (BeginsAt how) r (place t) × (ways t ≡ ways s) × (moment t ≡ moment s)
    pub begins_once : (s t : S) (c : C) (path : WebPath) (how : ReadDirMeta) (r : Result LocalFsReadDir FsError)
        → lists.lists s c path how r t → SavesDir (place s) path r (place t)
    pub goes_on : (s t : S) (l k : LocalFsReadDir) (r : Result (Option LocalFsDirEntry) FsError)
        → lists.lists_on s l r t k → (now : Moment) × GivesNext now (place s) l r (place t) k × (now ≡ moment s)
        × (moment t ≡ moment s)
    pub ends : (s t : S) (l : LocalFsReadDir) → lists.ends_list s l t
        → EndsListing (view.state s) l.reading.lister.0 (view.state t) × Lends s t
    pub called : (e : LocalFsDirEntry) → lists.called e ≡ e.name
    pub says : (s t : DiskState) (e : LocalFsDirEntry) (r : Result Info FsError) → lists.says e s r t
        → Says e.meta s r t
    pub lends : (s t : S) → view.lends s t → Lends s t
