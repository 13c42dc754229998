-- The stores that a reader's calls lead to. A listing is one step, from where it was begun to where it was ended.
use Rattle.std.specs.Prelude.{Option, Some, Result, Ok, Err}
use Rattle.dav_io.specs.Told.{Both}
use Rattle.dav_core.specs.declared.error.FsError.{FsError}
use Rattle.dav_core.specs.DavPath.{WebPath}
use Rattle.dav_core.specs.Info.{Info}
use Rattle.dav_core.specs.Writing.{reading}
use Rattle.dav_core.specs.Unchanged.{Keeps, SameBesidesOpens}
use Rattle.dav_store.specs.declared.entry.ReadDirMeta.{ReadDirMeta}
use Rattle.dav_store.specs.declared.entry.ReadDirMeta.TheVariants.{Data}
use Rattle.dav_store.specs.View.{Listings, View}

module _ {S C F L E : Type 0} (view : View S C F) (lists : Listings S C L E) where
  -- From a listing that was begun its calls lead here, whatever they answered. An entry that was given may be asked
  -- for its metadata, on the disk inside.
  pub data ListedOn (begin : S) (listing : L) : S → L → Type 0 where
    begun : ListedOn begin listing begin listing
    goes_on : (m n : S) (l k : L) (r : Result (Option E) FsError) → ListedOn begin listing m l
        → lists.lists_on m l r n k → ListedOn begin listing n k
    says : (m n o : S) (l k : L) (e : E) (r : Result Info FsError) → ListedOn begin listing m l
        → lists.lists_on m l (Ok (Some e)) n k → lists.says e (view.state n) r (view.state o) → view.lends n o
        → Keeps (view.state n) (view.state o) → ListedOn begin listing o k

  -- The directory at a path was listed: its listing was begun, gone on with however far, and ended.
  pub record ListedThrough (how : ReadDirMeta) (s : S) (c : C) (path : WebPath) (t : S) : Type 0 where
    pub begin : S
    pub listing : L
    pub begins : lists.lists s c path how (Ok listing) begin
    pub after : S
    pub over : L
    pub on : ListedOn begin listing after over
    pub ended : lists.ends_list after over t

module _ {S C F L E : Type 0} (view : View S C F) (lists : Listings S C L E) (c : C) where
  -- the told world is as it was, but for what is open
  abbrev pub LeavesWorld : S → S → Type 0
  LeavesWorld m n = Both (view.state m).told (view.state n).told SameBesidesOpens

  -- From a store calls that write nothing lead here: looks, openings for reading, listings, and calls of files on the
  -- disk inside. Each may have failed.
  pub data LeadsOn (s : S) : S → Type 0 where
    none : LeadsOn s s
    looks : (m n : S) (path : WebPath) (r : Result Info FsError) → LeadsOn s m → view.looks m c path r n
        → LeavesWorld m n → LeadsOn s n
    opens : (m n : S) (path : WebPath) (r : Result F FsError) → LeadsOn s m → view.opens m c path reading r n
        → LeavesWorld m n → LeadsOn s n
    unlisted : (m n : S) (path : WebPath) (e : FsError) → LeadsOn s m → lists.lists m c path Data (Err e) n
        → LeavesWorld m n → LeadsOn s n
    listed : (m n : S) (path : WebPath) → LeadsOn s m → ListedThrough view lists Data m c path n
        → LeavesWorld m n → LeadsOn s n
    lends : (m n : S) → LeadsOn s m → view.lends m n → LeavesWorld m n → LeadsOn s n
