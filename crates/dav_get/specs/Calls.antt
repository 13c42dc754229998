-- How often a GET or HEAD asks the disk of a store.
use Rattle.std.specs.Prelude.{◌≡◌, ◌≤◌, ℕ, List, Result, Ok, Err}
use Rattle.dav_io.specs.declared.fields.Field.{Field}
use Rattle.dav_core.specs.declared.error.FsError.{FsError}
use Rattle.dav_core.specs.declared.tree.Kind.{Kind}
use Rattle.dav_core.specs.DavPath.{WebPath}
use Rattle.dav_core.specs.Disk.{DiskState}
use Rattle.dav_core.specs.Info.{Info}
use Rattle.dav_core.specs.Unchanged.{Keeps}
use Rattle.dav_core.specs.Writing.{reading}
use Rattle.dav_core.specs.Statuses.{closes, status_of}
use Rattle.dav_store.specs.Files.{AsksToGive}
use Rattle.dav_store.specs.declared.entry.ReadDirMeta.TheVariants.{Data}
use Rattle.dav_store.specs.View.{View, Listings}
use Rattle.dav_model.specs.Calls.{AsksAtMost, more_by}
use Rattle.dav_model.specs.Conditions.{Fields}
use Rattle.dav_model.specs.Due.{Query, course, opening}
use Rattle.dav_model.specs.Head.{refusal}
use Rattle.dav_get.specs.Table.{Given}

-- A file is opened by so many calls. What isn't opened may be refused with fewer.
abbrev pub AsksToOpen : {F : Type 0} → ℕ → Result F FsError → DiskState → DiskState → Type 0
AsksToOpen calls (Ok file) s t = t.asked ≡ more_by calls s.asked
AsksToOpen calls (Err e) s t = AsksAtMost calls s.asked t.asked

-- How often a store asks its disk for a query from a state on, in calls behind which so many faults were counted at
-- most: once to look at the path, unless memory is refused; so often to open a file behind that look, and at most three
-- times where it refuses a listing behind it. Its files ask it once for each move.
pub record AsksFor {S C F L E : Type 0} (view : View S C F) (lists : Listings S C L E) (q : Query) (calls most : ℕ)
    (s : S) : Type 0 where
  pub looks : (t : S) (c : C) (r : Result Info FsError) → view.looks s c q.path r t
      → Keeps (view.state s) (view.state t) → (view.state t).faults ≤ most
      → AsksToGive r (view.state s) (view.state t)
  pub opens : (m t : S) (c : C) (r : Result Info FsError) (kind : Kind) (path : WebPath) (o : Result F FsError)
      → view.looks s c q.path r m → course q kind ≡ opening path → view.opens m c path reading o t
      → Keeps (view.state s) (view.state m) → (view.state m).faults ≤ (view.state t).faults
      → (view.state t).faults ≤ most → AsksToOpen calls o (view.state m) (view.state t)
  pub refuses_list : (m t : S) (c : C) (r : Result Info FsError) (e : FsError) → view.looks s c q.path r m
      → lists.lists m c q.path Data (Err e) t
      → Keeps (view.state s) (view.state m) → (view.state m).faults ≤ (view.state t).faults
      → (view.state t).faults ≤ most → AsksAtMost 3 (view.state m).asked (view.state t).asked
  pub files : view.file.asks_once

-- How often a store asks its disk at most for a query from a state on: so often for the look, and for the opening or the
-- refused listing behind it. Its files ask it once for each move.
pub record AsksAtMostFor {S C F L E : Type 0} (view : View S C F) (lists : Listings S C L E) (q : Query) (each : ℕ)
    (s : S) : Type 0 where
  pub looks : (t : S) (c : C) (r : Result Info FsError) → view.looks s c q.path r t
      → AsksAtMost each (view.state s).asked (view.state t).asked
  pub opens : (m t : S) (c : C) (r : Result Info FsError) (kind : Kind) (path : WebPath) (o : Result F FsError)
      → view.looks s c q.path r m → course q kind ≡ opening path → view.opens m c path reading o t
      → Keeps (view.state s) (view.state m) → AsksAtMost each (view.state m).asked (view.state t).asked
  pub refuses_list : (m t : S) (c : C) (r : Result Info FsError) (e : FsError) → view.looks s c q.path r m
      → lists.lists m c q.path Data (Err e) t
      → Keeps (view.state s) (view.state m) → AsksAtMost each (view.state m).asked (view.state t).asked
  pub files : view.file.asks_once

-- the status of an answer
abbrev pub status_given : {F : Type 0} → Given F → ℕ
status_given (Ok r) = r.0.status
status_given (Err e) = status_of e

-- the fields of an answer to a request with these
abbrev pub fields_given : {F : Type 0} → Fields → Given F → List Field
fields_given fields (Ok r) = r.0.fields
fields_given fields (Err e) = (refusal fields (status_of e) (closes e)).fields
