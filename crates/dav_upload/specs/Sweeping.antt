-- A sweep of what was left before a time: which names are chosen, and what is made of them.
use Rattle.std.specs.Prelude.{◌≡◌, ◌≢◌, ◌+◌, ◌&&◌, ◌||◌, ℕ, List, [], ◌∷◌, Bool, false, map, nat_lt, int_lt, Option, None, Some, Result, Ok, Err, ◌⊎◌}
use Rattle.std.specs.List.{filter}
use Rattle.std.specs.Ordering.{int_eq}
use Rattle.dav_core.specs.declared.error.FsError.{FsError}
use Rattle.dav_core.specs.declared.error.FsError.TheVariants.{NotFound}
use Rattle.dav_core.specs.declared.member.Member.{Member}
use Rattle.dav_core.specs.declared.time.FileTime.{FileTime}
use Rattle.dav_core.specs.DavPath.{WebPath}
use Rattle.dav_core.specs.Tree.{is_file}
use Rattle.dav_core.specs.Unchanged.{Keeps}
use Rattle.dav_store.specs.declared.entry.ReadDirMeta.TheVariants.{Data}
use Rattle.dav_store.specs.Frames.{KeepsOpen}
use Rattle.dav_store.specs.Leads.{LeadsOn}
use Rattle.dav_store.specs.Members.{WasListed}
use Rattle.dav_store.specs.View.{Listings, View}
use Rattle.dav_upload.specs.declared.error.UploadError.{UploadError}
use Rattle.dav_upload.specs.declared.error.UploadError.TheVariants.{NoMemory}
use Rattle.dav_upload.specs.Names.{is_hidden}
use Rattle.dav_upload.specs.Uploading.{in_dir, refused_by}

-- ---- the choice

-- the first time is before the second
abbrev pub is_before : FileTime → FileTime → Bool
is_before time limit = int_lt time.secs limit.secs || (int_eq time.secs limit.secs && nat_lt time.nanos limit.nanos)

-- A time that isn't known is before none.
abbrev pub was_before : FileTime → Option FileTime → Bool
was_before limit None = false
was_before limit (Some time) = is_before time limit

-- a member is a regular file with a hidden name that was changed before a time, by what the disk tells of it
abbrev pub is_left_before : FileTime → Member → Bool
is_left_before limit m = is_file m.kind && (is_hidden m.name && was_before limit m.modified)

-- the paths of these members of a directory
abbrev pub left_before : FileTime → WebPath → List Member → List WebPath
left_before limit dir members = map (λ m. in_dir dir m.name) (filter (is_left_before limit) members)

module _ {S C F L E : Type 0} (view : View S C F) (lists : Listings S C L E) (c : C) where
  -- The directory was listed, and those of its members chosen; or the listing was refused, or memory.
  abbrev pub ChosenAs : WebPath → FileTime → S → Result (List WebPath) UploadError → S → Type 0
  ChosenAs dir limit s (Ok paths) t = (members : List Member) × WasListed view lists s c dir members t
      × (paths ≡ left_before limit dir members)
  ChosenAs dir limit s (Err error) t = (error ≡ NoMemory)
      ⊎ ((e : FsError) × lists.lists s c dir Data (Err e) t × (error ≡ refused_by e))

  -- What was left before a time is chosen. Nothing changes.
  pub record Chooses (dir : WebPath) (limit : FileTime) (s : S) (chosen : Result (List WebPath) UploadError) (t : S)
      : Type 0 where
    pub chosen_as : ChosenAs dir limit s chosen t
    pub keeps : Keeps (view.state s) (view.state t)
    pub leads : LeadsOn view lists c s t

-- ---- the removals

module _ {S C F : Type 0} (view : View S C F) (c : C) where
  -- A file is removed, and counted; or its name is gone, or its removal refused.
  abbrev pub TakesPath : WebPath → S → Result ℕ UploadError → S → Type 0
  TakesPath path s (Ok count) t = KeepsOpen (view.state s) (view.state t)
      × (((count ≡ 1) × view.removes_file s c path (Ok tt) t)
      ⊎ ((count ≡ 0) × view.removes_file s c path (Err NotFound) t))
  TakesPath path s (Err error) t = KeepsOpen (view.state s) (view.state t)
      × ((e : FsError) × (e ≢ NotFound) × view.removes_file s c path (Err e) t × (error ≡ refused_by e))

  -- The files at these paths are removed, so many behind others, up to the first refusal. A name that is gone is passed
  -- over.
  pub data TakesEach : List WebPath → ℕ → S → Result ℕ UploadError → S → Type 0 where
    done : (n : ℕ) (s : S) → TakesEach [] n s (Ok n) s
    goes : (path : WebPath) (paths : List WebPath) (n : ℕ) (s m t : S) (r : Result ℕ UploadError)
        → view.removes_file s c path (Ok tt) m → KeepsOpen (view.state s) (view.state m)
        → TakesEach paths (n + 1) m r t → TakesEach (path ∷ paths) n s r t
    gone : (path : WebPath) (paths : List WebPath) (n : ℕ) (s m t : S) (r : Result ℕ UploadError)
        → view.removes_file s c path (Err NotFound) m → KeepsOpen (view.state s) (view.state m)
        → TakesEach paths n m r t → TakesEach (path ∷ paths) n s r t
    stops : (path : WebPath) (paths : List WebPath) (n : ℕ) (s t : S) (e : FsError) → e ≢ NotFound
        → view.removes_file s c path (Err e) t → KeepsOpen (view.state s) (view.state t)
        → TakesEach (path ∷ paths) n s (Err (refused_by e)) t

module _ {S C F L E : Type 0} (view : View S C F) (lists : Listings S C L E) (c : C) where
  -- What follows a choice.
  abbrev pub TakesChosen : Result (List WebPath) UploadError → S → Result ℕ UploadError → S → Type 0
  TakesChosen (Ok paths) s result t = TakesEach view c paths 0 s result t
  TakesChosen (Err error) s result t = (t ≡ s) × (result ≡ Err error)

  -- What was left before a time in a directory is chosen, and removed.
  abbrev pub SweepsBefore : WebPath → FileTime → S → Result ℕ UploadError → S → Type 0
  SweepsBefore dir limit s result t = (chosen : Result (List WebPath) UploadError) × (m : S)
      × Chooses view lists c dir limit s chosen m × TakesChosen chosen m result t
