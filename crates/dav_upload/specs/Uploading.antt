-- The calls of an upload over the calls of any store: which are made one after the other, and what is answered.
use Rattle.std.specs.Prelude.{◌≡◌, ◌⊎◌, ◌+◌, ◌&&◌, ◌++◌, ℕ, List, [], ◌∷◌, Bool, true, false, not, cond, map, Result, Ok, Err}
use Rattle.std.specs.List.{filter}
use Rattle.dav_core.specs.declared.dav_error.DavError.{DavError}
use Rattle.dav_core.specs.declared.dav_error.DavError.TheVariants.{Body}
use Rattle.dav_core.specs.declared.error.FsError.{FsError}
use Rattle.dav_core.specs.declared.error.FsError.TheVariants as fs
use Rattle.dav_core.specs.DavPath.{WebPath}
use Rattle.dav_core.specs.Disk.{DiskState}
use Rattle.dav_core.specs.Statuses.{lacks_memory, of_fs}
use Rattle.dav_core.specs.Unchanged.{Keeps}
use Rattle.dav_store.specs.Frames.{KeepsOpen, OpensOne}
use Rattle.dav_store.specs.View.{View, Listings, Closes}
use Rattle.dav_model.specs.declared.outcome.Outcome.{Outcome}
use Rattle.dav_model.specs.Conditions.{Fields}
use Rattle.dav_walks.specs.declared.child.Child.{Child}
use Rattle.dav_methods.specs.Lines.{Given}
use Rattle.dav_walks.specs.Pouring.{Writes, WritesFile}
use Rattle.dav_methods.specs.Putting.{MayPut}
use Rattle.dav_walks.specs.Reading.{HasMembers, HasNoMembers}
use Rattle.dav_upload.specs.declared.error.UploadError.{UploadError}
use Rattle.dav_upload.specs.declared.error.UploadError.TheVariants.{Dav, Busy, Hidden, NoMemory}
use Rattle.dav_upload.specs.declared.names.Named.{Named}
use Rattle.dav_upload.specs.declared.upload.Upload.{Upload}
use Rattle.dav_upload.specs.Names.{hidden_beside, hidden_name, is_hidden, is_taken}
use Rattle.dav_upload.specs.Pieces.{IsMade, upload_options}

-- what a refusal of a PUT is, where want of memory is apart
abbrev pub refusal_of : DavError → UploadError
refusal_of e = cond (lacks_memory e) NoMemory (Dav e)

-- what a store's refusal is
abbrev pub refused_by : FsError → UploadError
refused_by e = refusal_of (of_fs e)

-- what a refused opening of the hidden name is
abbrev pub refused_opening : List ℕ → FsError → UploadError
refused_opening name fs.Exists = Busy name
refused_opening name e = refused_by e

-- an upload of a target, with its hidden file open and no piece yet
abbrev pub begun : {F : Type 0} → WebPath → ℕ → F → Upload F
begun target token file = record {
  target = target;
  hidden = hidden_beside target token;
  file = file;
  broken = false;
}

-- What an upload that begins leaves open: its file, and all that was open.
abbrev pub OpensUpload : {F : Type 0} → (F → ℕ) → DiskState → Result (Upload F) UploadError → DiskState → Type 0
OpensUpload handle s (Ok u) t = IsMade (handle u.file) s t
OpensUpload handle s (Err e) t = KeepsOpen s t

-- what names an upload of a target
abbrev pub named_for : WebPath → ℕ → Named
named_for target token = record {
  target = target;
  hidden = hidden_beside target token;
  name = hidden_name token;
}

-- what an opening of the hidden name is answered with
abbrev pub opened_as : {F : Type 0} → WebPath → ℕ → Result F FsError → Result (Upload F) UploadError
opened_as target token (Ok file) = Ok (begun target token file)
opened_as target token (Err e) = Err (refused_opening (hidden_name token) e)

-- what a call of the store that gives nothing is answered with
abbrev pub done_as : Result Unit FsError → Result Unit UploadError
done_as (Ok x) = Ok x
done_as (Err e) = Err (refused_by e)

abbrev pub is_refused : Result Unit FsError → Bool
is_refused (Ok x) = false
is_refused (Err e) = true

-- an upload behind a piece that was written, or refused
abbrev pub behind : {F : Type 0} → Upload F → Result Unit FsError → F → Upload F
behind u r file = record u { file = file; broken = is_refused r }

-- a member is a file with a hidden name
abbrev pub is_hidden_file : Child → Bool
is_hidden_file m = not m.dir && is_hidden m.name

-- the path of a file in a directory
abbrev pub in_dir : WebPath → List ℕ → WebPath
in_dir dir name = record dir { names = dir.names ++ name ∷ []; slash = false }

-- the paths of the files with hidden names of a directory, in the order of its members
abbrev pub hidden_files : WebPath → List Child → List WebPath
hidden_files dir members = map (λ m. in_dir dir m.name) (filter is_hidden_file members)

-- how an upload begins, from a store
abbrev pub Begun : (S F : Type 0) → Type 1
Begun S F = S → Result (Upload F) UploadError → S → Type 0

module _ {S C F : Type 0} (view : View S C F) (c : C) where
  -- ---- begin

  -- What follows where a PUT of the target was judged.
  abbrev pub AfterJudging : Given → WebPath → ℕ → Begun S F
  AfterJudging (Err e) target token s result t = (t ≡ s) × (result ≡ Err (refusal_of e))
  AfterJudging (Ok outcome) target token s result t = (opened : Result F FsError)
      × view.opens s c (hidden_beside target token) upload_options opened t
      × OpensOne view.file upload_options (view.state s) opened (view.state t)
      × (result ≡ opened_as target token opened)

  -- A PUT of the target is judged up to its precondition, and the hidden file is made.
  pub record Judges (target : WebPath) (fields : Fields) (token : ℕ) (s : S) (result : Result (Upload F) UploadError)
      (t : S) : Type 0 where
    pub may : Given
    pub judged : S
    pub judges : MayPut view c target fields s may judged
    pub keeps : Keeps (view.state s) (view.state judged)
    pub opens : AfterJudging may target token judged result t

  -- A target whose name begins as hidden ones do is refused first. Want of memory comes before anything is asked.
  abbrev pub BeginsAs : Bool → WebPath → Fields → ℕ → Begun S F
  BeginsAs true target fields token s result t = (t ≡ s) × (result ≡ Err Hidden)
  BeginsAs false target fields token s result t = ((t ≡ s) × (result ≡ Err NoMemory))
      ⊎ Judges target fields token s result t

  abbrev pub Begins : WebPath → Fields → ℕ → Begun S F
  Begins target = BeginsAs (is_taken target) target

  -- ---- commit

  -- The removal of the hidden name is tried. What it answers isn't looked at.
  abbrev pub TriesToRemove : WebPath → S → S → Type 0
  TriesToRemove hidden s t = (r : Result Unit FsError) × view.removes_file s c hidden r t
      × KeepsOpen (view.state s) (view.state t)

  -- how an upload ends
  abbrev pub Ended : Type 1
  Ended = S → Result Outcome UploadError → S → Type 0

  abbrev pub AfterMove : Result Unit FsError → Outcome → WebPath → Ended
  AfterMove (Ok x) outcome hidden s result t = (t ≡ s) × (result ≡ Ok outcome)
  AfterMove (Err e) outcome hidden s result t = TriesToRemove hidden s t × (result ≡ Err (refused_by e))

  abbrev pub AfterJudged : Given → WebPath → WebPath → Ended
  AfterJudged (Err e) target hidden s result t = TriesToRemove hidden s t × (result ≡ Err (refusal_of e))
  AfterJudged (Ok outcome) target hidden s result t = (r : Result Unit FsError) × (m : S)
      × view.renames s c hidden target r m × KeepsOpen (view.state s) (view.state m)
      × AfterMove r outcome hidden m result t

  -- A broken upload is refused before anything is judged.
  abbrev pub AfterClose : Bool → WebPath → WebPath → Fields → Ended
  AfterClose true target hidden fields s result t = TriesToRemove hidden s t × (result ≡ Err (Dav Body))
  AfterClose false target hidden fields s result t = (may : Given) × (m : S) × MayPut view c target fields s may m
      × Keeps (view.state s) (view.state m) × AfterJudged may target hidden m result t

  pub record Commits (u : Upload F) (fields : Fields) (s : S) (result : Result Outcome UploadError) (t : S)
      : Type 0 where
    pub closed : S
    pub closes : Closes view s u.file closed
    pub ends : AfterClose u.broken u.target u.hidden fields closed result t

  -- ---- abort

  pub record Aborts (u : Upload F) (s : S) (result : Result Unit UploadError) (t : S) : Type 0 where
    pub closed : S
    pub closes : Closes view s u.file closed
    pub answer : Result Unit FsError
    pub removes : view.removes_file closed c u.hidden answer t
    pub keeps : KeepsOpen (view.state closed) (view.state t)
    pub is : result ≡ done_as answer

-- ---- a piece

module _ {S C F : Type 0} (view : View S C F) (writes : Writes F) where
  -- On a broken upload nothing is asked.
  abbrev pub PieceOn : Bool → Upload F → List ℕ → S → Result Unit UploadError → S → Upload F → Type 0
  PieceOn true u bytes s result t v = (t ≡ s) × (v ≡ u) × (result ≡ Err (Dav Body))
  PieceOn false u bytes s result t v = (r : Result Unit FsError) × (file : F)
      × WritesFile view writes s u.file bytes r t file × (v ≡ behind u r file) × (result ≡ done_as r)

  abbrev pub WritesPiece : Upload F → List ℕ → S → Result Unit UploadError → S → Upload F → Type 0
  WritesPiece u = PieceOn u.broken u

-- ---- a sweep

module _ {S C F L E : Type 0} (view : View S C F) (lists : Listings S C L E) (c : C) where
  -- A member that is a file with a hidden name is removed, and counted.
  abbrev pub TakesMemberAs : Bool → WebPath → Child → S → Result ℕ UploadError → S → Type 0
  TakesMemberAs false dir m s result t = (t ≡ s) × (result ≡ Ok 0)
  TakesMemberAs true dir m s (Ok taken) t = (taken ≡ 1) × view.removes_file s c (in_dir dir m.name) (Ok tt) t
      × KeepsOpen (view.state s) (view.state t)
  TakesMemberAs true dir m s (Err error) t = ((t ≡ s) × (error ≡ NoMemory))
      ⊎ ((e : FsError) × view.removes_file s c (in_dir dir m.name) (Err e) t
      × KeepsOpen (view.state s) (view.state t) × (error ≡ refused_by e))

  abbrev pub TakesMember : WebPath → Child → S → Result ℕ UploadError → S → Type 0
  TakesMember dir m = TakesMemberAs (is_hidden_file m) dir m

  -- The files at these paths are removed, so many behind others, up to the first refusal.
  pub data TakesAll : List WebPath → ℕ → S → Result ℕ UploadError → S → Type 0 where
    done : (n : ℕ) (s : S) → TakesAll [] n s (Ok n) s
    short : (paths : List WebPath) (n : ℕ) (s : S) → TakesAll paths n s (Err NoMemory) s
    goes : (path : WebPath) (paths : List WebPath) (n : ℕ) (s m t : S) (r : Result ℕ UploadError)
        → view.removes_file s c path (Ok tt) m → KeepsOpen (view.state s) (view.state m)
        → TakesAll paths (n + 1) m r t → TakesAll (path ∷ paths) n s r t
    stops : (path : WebPath) (paths : List WebPath) (n : ℕ) (s t : S) (e : FsError)
        → view.removes_file s c path (Err e) t → KeepsOpen (view.state s) (view.state t)
        → TakesAll (path ∷ paths) n s (Err (refused_by e)) t

  -- The members of a directory are read, and the files with hidden names among them removed, in the order of names.
  abbrev pub Sweeps : WebPath → S → Result ℕ UploadError → S → Type 0
  Sweeps dir s result t = ((e : FsError) × HasNoMembers view lists s c dir e t × (result ≡ Err (refused_by e)))
      ⊎ ((members : List Child) × (m : S) × HasMembers view lists s c dir members m
      × Keeps (view.state s) (view.state m) × TakesAll (hidden_files dir members) 0 m result t)
