-- A store whose calls do to its told world what the tree allows at the paths as they are written, as far as uploads ask
-- for it: no name folds, and no file is served alone. Where a link stands on the way to a path nothing is said.
use Rattle.std.specs.Prelude.{◌≡◌, ◌≤◌, ℕ, List, length, Bool, true, false, Some, Result}
use Rattle.dav_io.specs.Told.{Both}
use Rattle.dav_core.specs.declared.error.FsError.{FsError}
use Rattle.dav_core.specs.declared.tree.Kind.TheVariants.{File}
use Rattle.dav_core.specs.declared.tree.Row.{Row}
use Rattle.dav_core.specs.Allowed.{moving, taking_file}
use Rattle.dav_core.specs.DavPath.{WebPath}
use Rattle.dav_core.specs.Info.{Info}
use Rattle.dav_core.specs.Tree.{is_linked, row_at}
use Rattle.dav_core.specs.World.{IsWorld, OpenFile, World, bytes_of}
use Rattle.dav_core.specs.Writing.{appends}
use Rattle.dav_store.specs.Leads.{LeadsOn}
use Rattle.dav_store.specs.View.{Listings, View}
use Rattle.dav_walks.specs.declared.child.Child.{Child}
use Rattle.dav_walks.specs.Pouring.{Writes, WritesFile}
use Rattle.dav_walks.specs.Reading.{HasMembers}
use Rattle.dav_upload.specs.Ends.{EndsAs, MakesFile, WritesAt}
use Rattle.dav_upload.specs.Pieces.{upload_options}

module _ {S C F : Type 0} (view : View S C F) (writes : Writes F) (c : C) where
  abbrev pub Told : S → S → (World → World → Type 0) → Type 0
  Told s t P = Both (view.state s).told (view.state t).told P

  -- `test` says of a store that it finds paths as they are written. Its calls keep that.
  pub record TakesUploads (test : S → Bool) : Type 0 where
    pub worlds : (s : S) (w : World) → (view.state s).told ≡ Some w → IsWorld w
    pub lends : (m n : S) → test m ≡ true → view.lends m n → test n ≡ true
    pub looks : (m n : S) (path : WebPath) (r : Result Info FsError) → test m ≡ true → view.looks m c path r n
        → test n ≡ true
    pub opens : (m n : S) (path : WebPath) (r : Result F FsError) → test m ≡ true
        → view.opens m c path upload_options r n → (test n ≡ true)
        × Told m n (λ v w. is_linked v.tree path.names ≡ false → MakesFile view.file.handle (view.state n).live path.names r v w)
    pub removes : (m n : S) (path : WebPath) (r : Result Unit FsError) → test m ≡ true
        → view.removes_file m c path r n → (test n ≡ true)
        × Told m n (λ v w. is_linked v.tree path.names ≡ false → EndsAs (taking_file v.tree path.names) r v w)
    -- (of what is no directory)
    pub moves : (m n : S) (from to : WebPath) (r : Result Unit FsError) → test m ≡ true
        → view.renames m c from to r n → (test n ≡ true)
        × Told m n (λ v w. is_linked v.tree from.names ≡ false → is_linked v.tree to.names ≡ false
        → (row : Row) → row_at v.tree from.names ≡ Some row → row.kind ≡ File
        → EndsAs (moving v.tree from.names to.names) r v w)
    -- (a file that isn't opened to append, and whose place isn't behind its end)
    pub writes_file : (m n : S) (f g : F) (bytes : List ℕ) (r : Result Unit FsError)
        → WritesFile view writes m f bytes r n g → appends ((view.state m).live (view.file.handle f)) ≡ false
        → Told m n (λ v w. (o : OpenFile) → v.opens (view.file.handle f) ≡ Some o
        → o.place ≤ length (bytes_of v o.number) → WritesAt (view.file.handle f) bytes r o v w)

module _ {S C F L E : Type 0} (view : View S C F) (lists : Listings S C L E) (c : C) where
  -- The reading of a directory leaves how paths are found.
  abbrev pub ReadsPlainly : (S → Bool) → Type 0
  ReadsPlainly test = (m n : S) (path : WebPath) (members : List Child) → test m ≡ true
      → HasMembers view lists m c path members n → test n ≡ true

  -- Calls that write nothing leave how paths are found.
  abbrev pub LeadsPlainly : (S → Bool) → Type 0
  LeadsPlainly test = (m n : S) → test m ≡ true → LeadsOn view lists c m n → test n ≡ true
