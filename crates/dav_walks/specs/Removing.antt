-- How what stands at a path is removed over the calls of any store (RFC 4918, section 9.6): a directory's members before
-- it.
use Rattle.std.specs.Prelude.{◌≡◌, ◌⊎◌, ◌++◌, nat_lt, List, [], ◌∷◌, map, length, Bool, true, false, Result, Ok, Err}
use Rattle.dav_core.specs.declared.dav_error.DavError.{DavError}
use Rattle.dav_core.specs.declared.dav_error.DavError.TheVariants.{NoMemory, Status}
use Rattle.dav_core.specs.declared.error.FsError.{FsError}
use Rattle.dav_core.specs.DavPath.{WebPath}
use Rattle.dav_core.specs.Statuses.{of_fs}
use Rattle.dav_store.specs.View.{View, Listings}
use Rattle.dav_walks.specs.declared.child.Child.{Child}
use Rattle.dav_walks.specs.declared.work.Work.{Work}
use Rattle.dav_walks.specs.declared.work.Work.TheVariants.{Emptied, Whole}
use Rattle.dav_walks.specs.Lines.{Line}
use Rattle.dav_walks.specs.Reading.{HasMembers, HasNoMembers}

-- A directory whose path has more names isn't walked into.
abbrev pub is_deep : WebPath → Bool
is_deep path = nat_lt 65536 (length path.names)

abbrev pub work_of : Child → Work
work_of m = Whole m.path m.dir

-- a directory's members, then it itself, and then what is left of the work
abbrev pub works_in : WebPath → List Child → List Work → List Work
works_in path members works = map work_of members ++ Emptied path ∷ works

-- the line of a store's call
abbrev pub line_of : Result Unit FsError → Line
line_of (Ok x) = Ok tt
line_of (Err e) = Err (of_fs e)

module _ {S C F L E : Type 0} (view : View S C F) (lists : Listings S C L E) (c : C) where
  -- A directory isn't walked into: it is too deep, its members weren't read, or no memory was left for them.
  abbrev pub RefusesDir : WebPath → S → DavError → S → Type 0
  RefusesDir path s e t = ((is_deep path ≡ true) × (e ≡ Status 403) × (t ≡ s))
      ⊎ (((is_deep path ≡ false) × (refusal : FsError) × HasNoMembers view lists s c path refusal t
      × (e ≡ of_fs refusal))
      ⊎ ((is_deep path ≡ false) × (members : List Child) × HasMembers view lists s c path members t × (e ≡ NoMemory)))

  -- the first of the work is done: in place of a directory come its members, and it itself once it has lost them
  abbrev pub RemovesOne : Work → List Work → S → Line → S → List Work → Type 0
  RemovesOne (Whole path false) works s r t rest = (gone : Result Unit FsError) × view.removes_file s c path gone t
      × (r ≡ line_of gone) × (rest ≡ works)
  RemovesOne (Emptied path) works s r t rest = (gone : Result Unit FsError) × view.removes_dir s c path gone t
      × (r ≡ line_of gone) × (rest ≡ works)
  RemovesOne (Whole path true) works s (Ok x) t rest = (is_deep path ≡ false) × (members : List Child)
      × HasMembers view lists s c path members t
      × (rest ≡ works_in path members works)
  RemovesOne (Whole path true) works s (Err e) t rest = RefusesDir path s e t

  -- The removals that work is made of, one after the other, up to the first refusal.
  pub data Removes : List Work → S → Line → S → Type 0 where
    done : (s : S) → Removes [] s (Ok tt) s
    short : (works : List Work) (s : S) → Removes works s (Err NoMemory) s
    goes : (work : Work) (works rest : List Work) (s m t : S) (r : Line) → RemovesOne work works s (Ok tt) m rest
        → Removes rest m r t → Removes (work ∷ works) s r t
    stops : (work : Work) (works rest : List Work) (s t : S) (e : DavError) → RemovesOne work works s (Err e) t rest
        → Removes (work ∷ works) s (Err e) t
