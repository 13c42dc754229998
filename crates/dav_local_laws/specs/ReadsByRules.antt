-- A store over a local store's disk whose looks, openings for reading and listings are those of the rules, as far as an answer to a GET
-- or HEAD speaks of them.
use Rattle.std.specs.Prelude.{◌≡◌, ◌⊎◌, false, List, Option, Some, Result, Ok}
use Rattle.dav_core.specs.declared.error.FsError.{FsError}
use Rattle.dav_core.specs.declared.member.Member.{Member}
use Rattle.dav_core.specs.DavPath.{WebPath}
use Rattle.dav_core.specs.Disk.{DiskState}
use Rattle.dav_core.specs.Info.{Info}
use Rattle.dav_core.specs.Members.{members}
use Rattle.dav_core.specs.Path.{Names}
use Rattle.dav_core.specs.Tree.{is_linked}
use Rattle.dav_core.specs.World.{IsWorld, World}
use Rattle.dav_core.specs.Writing.{reading}
use Rattle.dav_store.specs.declared.entry.ReadDirMeta.TheVariants.{Data}
use Rattle.dav_store.specs.Files.{Spoiled}
use Rattle.dav_store.specs.Members.{ReadsThere, WasListed}
use Rattle.dav_store.specs.Shows.{OpensThere}
use Rattle.dav_store.specs.Standing.{Seen, Standing}
use Rattle.dav_store.specs.View.{Listings, View}
use Rattle.dav_model.specs.Finding.{EndsLoosely}
use Rattle.dav_memory.specs.Memory.{MemoryState}
use Rattle.dav_get.specs.Heard.{RefusesFew}
use Rattle.dav_get.specs.Told.{found_as}
use Rattle.dav_local.specs.declared.entry.LocalFsDirEntry.{LocalFsDirEntry}
use Rattle.dav_local.specs.declared.gathering.LocalFsReadDir.{LocalFsReadDir}
use Rattle.dav_local.specs.declared.ways.Ways.{Ways}
use Rattle.dav_local.specs.Shown.{ListsByRules, LooksByRules, knowledge_of, opened_by}
use Rattle.dav_local.specs.Standing.{HasNoLinks}

-- What was opened has the head of what stands there: all but its bytes.
pub record OpensAlike {F : Type 0} (seen : F → DiskState → Option Seen) (opened : Result Standing FsError)
    (s : DiskState) (o : Result F FsError) (t : DiskState) : Type 0 where
  pub stands : Result Standing FsError
  pub alike : found_as stands ≡ found_as opened
  pub there : OpensThere seen stands o t ⊎ Spoiled s o t

pub record OpensLoosely {F : Type 0} (seen : F → DiskState → Option Seen) (ways : Ways) (w : World) (path : WebPath)
    (s : DiskState) (o : Result F FsError) (t : DiskState) : Type 0 where
  pub end : Names
  pub loosely : EndsLoosely ways.alone ways.folds w.tree path.names end
  pub shows : is_linked w.tree end ≡ false → OpensAlike seen (opened_by ways w end path) s o t

pub record ReadsByRules {S C F : Type 0} (view : View S C F) (lists : Listings S C LocalFsReadDir LocalFsDirEntry)
    (ways : S → Ways) (memory : S → MemoryState) : Type 0 where
  pub worlds : (s : S) (w : World) → (view.state s).told ≡ Some w → IsWorld w
  pub few : RefusesFew view lists
  pub looks : (s t : S) (c : C) (path : WebPath) (r : Result Info FsError) (w : World)
      → (view.state s).told ≡ Some w → view.looks s c path r t
      → LooksByRules (ways s) (knowledge_of (memory s)) w path (view.state s) r (view.state t)
  pub ways_stay : (s t : S) (c : C) (path : WebPath) (r : Result Info FsError) → view.looks s c path r t
      → ways t ≡ ways s
  pub opens : (s t : S) (c : C) (path : WebPath) (o : Result F FsError) (w : World)
      → (view.state s).told ≡ Some w → view.opens s c path reading o t
      → OpensLoosely view.file.seen (ways s) w path (view.state s) o (view.state t)
  pub begins : (s t : S) (c : C) (path : WebPath) (r : Result LocalFsReadDir FsError) (w : World)
      → (view.state s).told ≡ Some w → lists.lists s c path Data r t
      → ListsByRules (ways s) w path (view.state s) r (view.state t)
  pub pages : (s t : S) (c : C) (path : WebPath) (read : List Member) (w : World) → (view.state s).told ≡ Some w
      → (was : WasListed view lists s c path read t) → HasNoLinks w was.listing.reading.path
      → ReadsThere (Ok (members w was.listing.reading.path)) (view.state s).faults read (view.state t).faults
