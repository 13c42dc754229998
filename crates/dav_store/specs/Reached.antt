-- What a store shows at a path throughout calls that write nothing.
use Rattle.std.specs.Prelude.{◌⊎◌, ℕ, List, Result}
use Rattle.dav_core.specs.declared.error.FsError.{FsError}
use Rattle.dav_core.specs.declared.member.Member.{Member}
use Rattle.dav_core.specs.DavPath.{WebPath}
use Rattle.dav_core.specs.Info.{Info}
use Rattle.dav_core.specs.Writing.{reading}
use Rattle.dav_core.specs.Unchanged.{Keeps, KeepsBut}
use Rattle.dav_store.specs.Files.{Spoiled}
use Rattle.dav_store.specs.Frames.{OpensOne}
use Rattle.dav_store.specs.Members.{WasListed}
use Rattle.dav_store.specs.Shows.{OpensThere}
use Rattle.dav_store.specs.Standing.{Standing}
use Rattle.dav_store.specs.View.{View, Listings}

module _ {S C F L E : Type 0} (view : View S C F) (lists : Listings S C L E) where
  -- The stores that a reader's calls lead to from here: looks, openings for reading, calls of an open file on the disk
  -- inside, and listings that were ended again.
  pub data Reached (s : S) (c : C) : S → Type 0 where
    by_none : Reached s c s
    by_look : (m n : S) (path : WebPath) (r : Result Info FsError) → Reached s c m → view.looks m c path r n
        → Keeps (view.state m) (view.state n) → Reached s c n
    by_look_at_link : (m n : S) (path : WebPath) (r : Result Info FsError) → Reached s c m
        → view.looks_at_link m c path r n → Keeps (view.state m) (view.state n) → Reached s c n
    by_opening : (m n : S) (path : WebPath) (o : Result F FsError) → Reached s c m → view.opens m c path reading o n
        → OpensOne view.file reading (view.state m) o (view.state n) → Reached s c n
    by_file : (m n : S) (h : ℕ) → Reached s c m → KeepsBut h (view.state m) (view.state n) → view.lends m n
        → Reached s c n
    by_listing : (m n : S) (path : WebPath) (members : List Member) → Reached s c m
        → WasListed view lists m c path members n → Keeps (view.state m) (view.state n) → Reached s c n

  -- Now and after such calls the store shows this where the path is opened for reading.
  abbrev pub ShowsOn : S → C → WebPath → Result Standing FsError → Type 0
  ShowsOn s c path opened = (m n : S) (o : Result F FsError) → Reached s c m → view.opens m c path reading o n
      → OpensThere view.file.seen opened o (view.state n) ⊎ Spoiled (view.state m) o (view.state n)
