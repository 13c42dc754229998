-- What the methods that write may answer over a store that refuses few things, in any run: a failure only where a fault
-- was met.
use Rattle.std.specs.Prelude.{◌≡◌, ◌≤◌, ◌⊎◌, ℕ, Bool, true, false, List, Option, Some, Result, Ok, Err}
use Rattle.dav_io.specs.Counts.{Rose}
use Rattle.dav_core.specs.declared.error.FsError.{FsError}
use Rattle.dav_core.specs.declared.error.FsError.TheVariants as fs
use Rattle.dav_core.specs.declared.handle.OpenOptions.{OpenOptions}
use Rattle.dav_core.specs.declared.method.DavMethod.{DavMethod}
use Rattle.dav_core.specs.DavPath.{WebPath}
use Rattle.dav_core.specs.Disk.{DiskState}
use Rattle.dav_core.specs.Info.{Info}
use Rattle.dav_core.specs.Statuses.{closes, lacks_memory, status_of}
use Rattle.dav_store.specs.declared.entry.ReadDirMeta.{ReadDirMeta}
use Rattle.dav_store.specs.Members.{Answered, Walked}
use Rattle.dav_store.specs.View.{View, Listings}
use Rattle.dav_model.specs.Causes.{IsDueTo}
use Rattle.dav_model.specs.Conditions.{Fields}
use Rattle.dav_model.specs.WellFormed.{is_among}
use Rattle.dav_model.specs.Written.{MayEnd, halt_statuses, may_close}
use Rattle.dav_methods.specs.Lines.{Given, made, silent}
use Rattle.dav_walks.specs.Pouring.{Writes, WritesFile}

-- ---- stores that refuse few things

-- the refusals of a store over a disk
abbrev pub is_usual : FsError → Bool
is_usual fs.NotFound = true
is_usual fs.Forbidden = true
is_usual fs.Exists = true
is_usual fs.GeneralFailure = true
is_usual fs.NoMemory = true
is_usual other = false

-- a refusal of these, and a failure only where the count of faults rose
abbrev pub RefusedUsually : {T : Type 0} → DiskState → Result T FsError → DiskState → Type 0
RefusedUsually s (Ok x) t = Unit {0}
RefusedUsually s (Err e) t = (is_usual e ≡ true) × (e ≡ fs.GeneralFailure → Rose s.faults t.faults)

-- A call ends so, and no fault is forgotten.
pub record Usual {T : Type 0} (s : DiskState) (result : Result T FsError) (t : DiskState) : Type 0 where
  pub counts : s.faults ≤ t.faults
  pub refused : RefusedUsually s result t

module _ {S C F L E : Type 0} (view : View S C F) (lists : Listings S C L E) (writes : Writes F) (c : C) where
  abbrev pub UsualIn : {T : Type 0} → S → Result T FsError → S → Type 0
  UsualIn {T} s result t = Usual {T = T} (view.state s) result (view.state t)

  -- Each call of the store, of its files and of its listings ends so.
  pub record RefusesUsually : Type 0 where
    pub looks : (s t : S) (path : WebPath) (r : Result Info FsError) → view.looks s c path r t → UsualIn s r t
    pub looks_at_link : (s t : S) (path : WebPath) (r : Result Info FsError) → view.looks_at_link s c path r t
        → UsualIn s r t
    pub opens : (s t : S) (path : WebPath) (how : OpenOptions) (r : Result F FsError) → view.opens s c path how r t
        → UsualIn s r t
    pub writes_file : (s t : S) (f g : F) (bytes : List ℕ) (r : Result Unit FsError)
        → WritesFile view writes s f bytes r t g → UsualIn s r t
    pub makes_dir : (s t : S) (path : WebPath) (r : Result Unit FsError) → view.makes_dir s c path r t → UsualIn s r t
    pub removes_dir : (s t : S) (path : WebPath) (r : Result Unit FsError) → view.removes_dir s c path r t
        → UsualIn s r t
    pub removes_file : (s t : S) (path : WebPath) (r : Result Unit FsError) → view.removes_file s c path r t
        → UsualIn s r t
    pub renames : (s t : S) (from to : WebPath) (r : Result Unit FsError) → view.renames s c from to r t → UsualIn s r t
    pub copies : (s t : S) (from to : WebPath) (r : Result Unit FsError) → view.copies s c from to r t → UsualIn s r t
    pub begins : (s t : S) (path : WebPath) (how : ReadDirMeta) (r : Result L FsError) → lists.lists s c path how r t
        → UsualIn s r t
    -- What a listing gives, and what an entry of it tells, ends so by what was met since the listing was begun: a store
    -- may read ahead, and tell a fault later.
    pub goes_on : (b n s t : S) (path : WebPath) (how : ReadDirMeta) (first l k : L) (answers : List Answered)
        (r : Result (Option E) FsError)
        → lists.lists b c path how (Ok first) n → Walked view lists n first answers s l → lists.lists_on s l r t k
        → UsualIn b r t
    pub says : (b n s m t : S) (path : WebPath) (how : ReadDirMeta) (first l k : L) (answers : List Answered) (e : E)
        (r : Result Info FsError)
        → lists.lists b c path how (Ok first) n → Walked view lists n first answers s l
        → lists.lists_on s l (Ok (Some e)) m k
        → lists.says e (view.state m) r (view.state t) → UsualIn b r t
    pub goes_counts : (s t : S) (l k : L) (r : Result (Option E) FsError) → lists.lists_on s l r t k
        → (view.state s).faults ≤ (view.state t).faults
    pub says_counts : (s t : S) (e : E) (r : Result Info FsError) → lists.says e (view.state s) r (view.state t)
        → (view.state s).faults ≤ (view.state t).faults
    pub ends : (s t : S) (l : L) → lists.ends_list s l t → (view.state s).faults ≤ (view.state t).faults

-- ---- answers

-- Done, or a refusal with a status of the method's, where memory wasn't refused; 400 and 412 come only where the fields,
-- read under a prefix, are their cause, 500 only where the count of faults rose, and a close only with 405.
abbrev pub IsAnswer : DavMethod → List ℕ → Fields → Type 0 → Given → Type 0
IsAnswer method prefix fields rose (Ok outcome) = ((outcome ≡ made) × MayEnd method 201)
    ⊎ ((outcome ≡ silent) × MayEnd method 204)
IsAnswer method prefix fields rose (Err e) = (lacks_memory e ≡ true)
    ⊎ ((is_among (status_of e) (halt_statuses method) ≡ true) × (status_of e ≡ 500 → rose)
    × (closes e ≡ true → (status_of e ≡ 405) × (may_close method ≡ true)) × IsDueTo method prefix fields (status_of e))

-- the same of the answer of a method between two stores
abbrev pub Answers : {S C F : Type 0} → DavMethod → List ℕ → Fields → View S C F → S → Given → S → Type 0
Answers method prefix fields view s r t = IsAnswer method prefix fields (Rose (view.state s).faults (view.state t).faults) r
