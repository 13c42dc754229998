-- The local store by its view and its listings, as values that lemmas can name.
use Rattle.std.specs.Prelude.{◌≡◌, true, false, Some, Option}
use Rattle.std.specs.Borrow.{GName}
use Rattle.dav_core.specs.Disk.{DiskState}
use Rattle.dav_core.specs.Listing.{EndsListing}
use Rattle.dav_memory.specs.Memory.{MemoryState}
use Rattle.dav_store.specs.View.{Listings, View}
use Rattle.dav_local.specs.declared.entry.LocalFsDirEntry.{LocalFsDirEntry}
use Rattle.dav_local.specs.declared.file.LocalFsFile.{LocalFsFile}
use Rattle.dav_local.specs.declared.fs.LocalFs.{LocalFs}
use Rattle.dav_local.specs.declared.gathering.LocalFsReadDir.{LocalFsReadDir}
use Rattle.dav_local.specs.Calls.{AsksToCopy, AsksToMake, AsksToMove, AsksToTakeDir, AsksToTakeFile, BeginsAt, Finds, IsOpening, Looks}
use Rattle.dav_local.specs.Entries.{Says}
use Rattle.dav_local.specs.Gathering.{GivesNext, dir_to_come}
use Rattle.dav_local.specs.LocalFiles.{local_file}
use Rattle.dav_local.specs.Places.{Place, Stays, place_of}
use Rattle.dav_local.specs.Saving.{SavesDir, SavesLook, SavesOpen}

module _ {D R : Type 0} (state : D → DiskState) (loan : D → Option GName) (memory : R → MemoryState) where
  abbrev pub at : LocalFs D R → Place
  at s = place_of state memory s

  abbrev pub local_view : View (LocalFs D R) Unit LocalFsFile
  local_view = record {
    state = λ s. state s.disk;
    loan = λ s. loan s.disk;
    lends = λ s t. t ≡ record s { disk = t.disk };
    looks = λ s _ path result t. Looks true (at s) path result (at t) × Stays s t × SavesLook (at s) path result (at t);
    looks_at_link = λ s _ path result t. Looks false (at s) path result (at t) × Stays s t;
    opens = λ s _ path how result t. IsOpening (at s) path how result (at t) × Stays s t × SavesOpen (at s) path how result (at t);
    makes_dir = λ s _ path result t. AsksToMake (at s) path result (at t) × Stays s t;
    removes_dir = λ s _ path result t. AsksToTakeDir (at s) path result (at t) × Stays s t;
    removes_file = λ s _ path result t. AsksToTakeFile (at s) path result (at t) × Stays s t;
    renames = λ s _ from to result t. AsksToMove (at s) from to result (at t) × Stays s t;
    copies = λ s _ from to result t. AsksToCopy (at s) from to result (at t) × Stays s t;
    folding = λ s. s.ways.folds;
    file = local_file;
  }

  abbrev pub local_lists : Listings (LocalFs D R) Unit LocalFsReadDir LocalFsDirEntry
  local_lists = record {
    lister = λ d. Some d.reading.lister.0;
    to_come = dir_to_come;
    lists = λ s _ path wanted result t. Finds (at s) path.names (BeginsAt wanted) result (at t) × Stays s t
        × SavesDir (at s) path result (at t);
    lists_on = λ s d result t e. GivesNext s.moment (at s) d result (at t) e × Stays s t;
    ends_list = λ s d t. EndsListing (state s.disk) d.reading.lister.0 (state t.disk) × (t ≡ record s { disk = t.disk });
    called = λ e. e.name;
    says = λ e s result t. Says e.meta s result t;
  }
