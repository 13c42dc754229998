-- What holds of each step of an upload, over a store of which `test` says that it finds paths as they are written, and
-- whichever handles count as those of bodies of files that are shown.
use Rattle.std.specs.Prelude.{◌≡◌, ◌++◌, ℕ, List, Bool, true, false, None, Some, Ok, Result}
use Rattle.dav_core.specs.declared.time.FileTime.{FileTime}
use Rattle.dav_core.specs.DavPath.{WebPath}
use Rattle.dav_core.specs.Tree.{is_linked, row_at}
use Rattle.dav_core.specs.World.{World}
use Rattle.dav_model.specs.declared.outcome.Outcome.{Outcome}
use Rattle.dav_model.specs.Conditions.{Fields}
use Rattle.dav_store.specs.View.{Listings, View}
use Rattle.dav_walks.specs.Pouring.{Writes}
use Rattle.dav_upload.specs.declared.error.UploadError.{UploadError}
use Rattle.dav_upload.specs.declared.upload.Upload.{Upload}
use Rattle.dav_upload.specs.Names.{hidden_beside}
use Rattle.dav_upload.specs.Others.{IsNot, IsNotHiddenIn, LeavesOthers}
use Rattle.dav_upload.specs.Shown.{SameShown}
use Rattle.dav_upload.specs.Standing.{StandsIn, pending}
use Rattle.dav_upload.specs.Steps.{Began, Committed, HasClearNames, IsBeside, IsClear, Pieced}
use Rattle.dav_upload.specs.Sweeping.{SweepsBefore}
use Rattle.dav_upload.specs.Uploading.{Aborts, Begins, Commits, Sweeps, WritesPiece}

module _ {S C F : Type 0} (view : View S C F) (writes : Writes F) (c : C) (test : S → Bool) (shown : ℕ → Bool) where
  -- A beginning, a piece and an abort leave what is shown, and a commit leaves it or makes its target a file of all
  -- pieces. At Ok an upload that begins stands, and a commit was made; a piece keeps its upload standing, with the piece
  -- behind the others or broken.
  pub record AreWhole : Type 0 where
    pub begins : (s t : S) (v w : World) (target : WebPath) (fields : Fields) (token : ℕ)
        (r : Result (Upload F) UploadError) → (view.state s).told ≡ Some v → (view.state t).told ≡ Some w
        → test s ≡ true → is_linked v.tree (hidden_beside target token).names ≡ false
        → Begins view c target fields token s r t → Began shown view.file.handle (view.state t).live r v w
    pub pieces : (u x : Upload F) (s t : S) (v w : World) (bytes pieces : List ℕ) (r : Result Unit UploadError)
        → (view.state s).told ≡ Some v → (view.state t).told ≡ Some w
        → StandsIn shown (view.state s).live v (pending view.file.handle u pieces)
        → WritesPiece view writes u bytes s r t x → Pieced shown (view.state t).live
        (pending view.file.handle x (pieces ++ bytes)) v w
    pub commits : (u : Upload F) (s t : S) (v w : World) (pieces : List ℕ) (fields : Fields)
        (r : Result Outcome UploadError) → (view.state s).told ≡ Some v → (view.state t).told ≡ Some w
        → test s ≡ true → StandsIn shown (view.state s).live v (pending view.file.handle u pieces)
        → IsBeside u.target.names u.hidden.names → IsClear v u.target.names u.hidden.names
        → Commits view c u fields s r t → Committed u.target.names u.broken pieces r v w
    pub aborts : (u : Upload F) (s t : S) (v w : World) (pieces : List ℕ) (r : Result Unit UploadError)
        → (view.state s).told ≡ Some v → (view.state t).told ≡ Some w → test s ≡ true
        → StandsIn shown (view.state s).live v (pending view.file.handle u pieces)
        → is_linked v.tree u.hidden.names ≡ false → Aborts view c u s r t → SameShown v w

  -- Each step leaves to others what they have: the bytes of each file but its own stay as long as somebody holds it,
  -- what another handle has open stays open, with its bytes where it counts, and each upload with another hidden path
  -- goes on standing.
  pub record LeaveOthers : Type 0 where
    pub begins : (s t : S) (v w : World) (target : WebPath) (fields : Fields) (token : ℕ)
        (r : Result (Upload F) UploadError) → (view.state s).told ≡ Some v → (view.state t).told ≡ Some w
        → test s ≡ true → is_linked v.tree (hidden_beside target token).names ≡ false
        → Begins view c target fields token s r t
        → LeavesOthers shown None (IsNot (hidden_beside target token).names) (view.state s).live (view.state t).live v w
    pub pieces : (u x : Upload F) (s t : S) (v w : World) (bytes pieces : List ℕ) (r : Result Unit UploadError)
        → (view.state s).told ≡ Some v → (view.state t).told ≡ Some w
        → StandsIn shown (view.state s).live v (pending view.file.handle u pieces)
        → WritesPiece view writes u bytes s r t x
        → LeavesOthers shown (Some (view.file.handle u.file)) (IsNot u.hidden.names) (view.state s).live
        (view.state t).live v w
    pub commits : (u : Upload F) (s t : S) (v w : World) (pieces : List ℕ) (fields : Fields)
        (r : Result Outcome UploadError) → (view.state s).told ≡ Some v → (view.state t).told ≡ Some w
        → test s ≡ true → StandsIn shown (view.state s).live v (pending view.file.handle u pieces)
        → IsBeside u.target.names u.hidden.names → IsClear v u.target.names u.hidden.names
        → Commits view c u fields s r t
        → LeavesOthers shown (Some (view.file.handle u.file)) (IsNot u.hidden.names) (view.state s).live
        (view.state t).live v w
    pub aborts : (u : Upload F) (s t : S) (v w : World) (pieces : List ℕ) (r : Result Unit UploadError)
        → (view.state s).told ≡ Some v → (view.state t).told ≡ Some w → test s ≡ true
        → StandsIn shown (view.state s).live v (pending view.file.handle u pieces)
        → is_linked v.tree u.hidden.names ≡ false → Aborts view c u s r t
        → LeavesOthers shown (Some (view.file.handle u.file)) (IsNot u.hidden.names) (view.state s).live
        (view.state t).live v w

  -- Nothing stands at the hidden name behind a commit and an abort that worked.
  pub record LeaveNoName : Type 0 where
    pub commits : (u : Upload F) (s t : S) (v w : World) (pieces : List ℕ) (fields : Fields) (outcome : Outcome)
        → (view.state s).told ≡ Some v → (view.state t).told ≡ Some w
        → test s ≡ true → StandsIn shown (view.state s).live v (pending view.file.handle u pieces)
        → IsBeside u.target.names u.hidden.names → IsClear v u.target.names u.hidden.names
        → Commits view c u fields s (Ok outcome) t → row_at w.tree u.hidden.names ≡ None
    pub aborts : (u : Upload F) (s t : S) (v w : World) (pieces : List ℕ)
        → (view.state s).told ≡ Some v → (view.state t).told ≡ Some w → test s ≡ true
        → StandsIn shown (view.state s).live v (pending view.file.handle u pieces)
        → is_linked v.tree u.hidden.names ≡ false → Aborts view c u s (Ok tt) t → row_at w.tree u.hidden.names ≡ None

module _ {S C F L E : Type 0} (view : View S C F) (lists : Listings S C L E) (c : C) (test : S → Bool) where
  -- A sweep leaves what is shown.
  abbrev pub SweepsAreUnseen : Type 0
  SweepsAreUnseen = (dir : WebPath) (s t : S) (v w : World) (r : Result ℕ UploadError)
      → (view.state s).told ≡ Some v → (view.state t).told ≡ Some w → test s ≡ true → HasClearNames v dir.names
      → Sweeps view lists c dir s r t → SameShown v w

  -- A sweep leaves to others what they have at all but the hidden names of its directory.
  abbrev pub SweepsLeaveOthers : (ℕ → Bool) → Type 0
  SweepsLeaveOthers shown = (dir : WebPath) (s t : S) (v w : World) (r : Result ℕ UploadError)
      → (view.state s).told ≡ Some v → (view.state t).told ≡ Some w → test s ≡ true → HasClearNames v dir.names
      → Sweeps view lists c dir s r t
      → LeavesOthers shown None (IsNotHiddenIn dir.names) (view.state s).live (view.state t).live v w

  -- A sweep of what was left before a time leaves what is shown.
  abbrev pub SweepsBeforeAreUnseen : Type 0
  SweepsBeforeAreUnseen = (dir : WebPath) (limit : FileTime) (s t : S) (v w : World) (r : Result ℕ UploadError)
      → (view.state s).told ≡ Some v → (view.state t).told ≡ Some w → test s ≡ true → HasClearNames v dir.names
      → SweepsBefore view lists c dir limit s r t → SameShown v w

  -- It leaves to others what they have at all but the hidden names of its directory.
  abbrev pub SweepsBeforeLeaveOthers : (ℕ → Bool) → Type 0
  SweepsBeforeLeaveOthers shown = (dir : WebPath) (limit : FileTime) (s t : S) (v w : World) (r : Result ℕ UploadError)
      → (view.state s).told ≡ Some v → (view.state t).told ≡ Some w → test s ≡ true → HasClearNames v dir.names
      → SweepsBefore view lists c dir limit s r t
      → LeavesOthers shown None (IsNotHiddenIn dir.names) (view.state s).live (view.state t).live v w
