-- What the steps of an upload make of a told world.
use Rattle.std.specs.Prelude.{◌≡◌, ◌≢◌, ◌⊎◌, ◌++◌, ℕ, List, [], ◌∷◌, Bool, true, false, Option, Result, Ok, Err}
use Rattle.dav_core.specs.Disk.{Live}
use Rattle.dav_core.specs.Path.{Names, parent_of}
use Rattle.dav_core.specs.Tree.{is_linked}
use Rattle.dav_core.specs.World.{World}
use Rattle.dav_model.specs.declared.outcome.Outcome.{Outcome}
use Rattle.dav_core.specs.declared.dav_error.DavError.TheVariants.{Fs}
use Rattle.dav_core.specs.declared.error.FsError.TheVariants.{GeneralFailure}
use Rattle.dav_upload.specs.declared.error.UploadError.{UploadError}
use Rattle.dav_upload.specs.declared.error.UploadError.TheVariants.{Dav, NoMemory}
use Rattle.dav_upload.specs.declared.upload.Upload.{Upload}
use Rattle.dav_upload.specs.Names.{is_hidden, is_hidden_path}
use Rattle.dav_upload.specs.Shown.{IsCommitted, SameShown}
use Rattle.dav_upload.specs.Standing.{Pending, StandsIn, pending}

-- The target of an upload is no hidden name, and its hidden path stands beside it.
pub record IsBeside (target hidden : Names) : Type 0 where
  pub shows : is_hidden_path target ≡ false
  pub beside : parent_of hidden ≡ parent_of target
  pub named : target ≢ []

-- no link stands on the way to the two paths
pub record IsClear (w : World) (target hidden : Names) : Type 0 where
  pub to_target : is_linked w.tree target ≡ false
  pub to_hidden : is_linked w.tree hidden ≡ false

-- Links stand on the way to the same paths.
abbrev pub SameLinks : World → World → Type 0
SameLinks v w = (path : Names) → is_linked w.tree path ≡ is_linked v.tree path

-- No link stands on the way to a hidden name of this directory, or at one.
abbrev pub HasClearNames : World → Names → Type 0
HasClearNames w dir = (name : List ℕ) → is_hidden name ≡ true → is_linked w.tree (dir ++ name ∷ []) ≡ false

-- What is shown stays where an upload begins. At Ok it stands, with no piece yet.
abbrev pub Began : {F : Type 0} → (ℕ → Bool) → (F → ℕ) → (ℕ → Option Live) → Result (Upload F) UploadError → World
    → World → Type 0
Began shown handle live (Ok u) v w = SameShown v w × SameLinks v w
    × StandsIn shown live w (pending handle u [])
Began shown handle live (Err e) v w = SameShown v w

-- The store met a fault, or memory was wanting.
abbrev pub is_fault : UploadError → Bool
is_fault (Dav (Fs GeneralFailure)) = true
is_fault NoMemory = true
is_fault e = false

-- At Ok the target is a file of all pieces. What is shown stays where a commit was refused; for a fault or want of
-- memory it may have been made.
abbrev pub Committed : Names → Bool → List ℕ → Result Outcome UploadError → World → World → Type 0
Committed target broken pieces (Ok outcome) v w = (broken ≡ false) × IsCommitted v target pieces w
Committed target true pieces (Err e) v w = SameShown v w
Committed target false pieces (Err e) v w = SameShown v w ⊎ ((is_fault e ≡ true) × IsCommitted v target pieces w)

-- A piece leaves what is shown, and its upload goes on standing, as it is behind the piece.
abbrev pub Pieced : (ℕ → Bool) → (ℕ → Option Live) → Pending → World → World → Type 0
Pieced shown live u v w = SameShown v w × SameLinks v w × StandsIn shown live w u
