-- How what stands at a path is copied over the calls of any store (RFC 4918, section 9.8.3): a directory before its
-- members.
use Rattle.std.specs.Prelude.{◌≡◌, ◌⊎◌, ◌++◌, List, [], ◌∷◌, map, Bool, true, false, Result, Ok, Err}
use Rattle.dav_core.specs.declared.dav_error.DavError.{DavError}
use Rattle.dav_core.specs.declared.dav_error.DavError.TheVariants.{NoMemory, Status}
use Rattle.dav_core.specs.declared.error.FsError.{FsError}
use Rattle.dav_core.specs.DavPath.{WebPath}
use Rattle.dav_core.specs.Statuses.{of_fs}
use Rattle.dav_store.specs.View.{View, Listings}
use Rattle.dav_walks.specs.declared.child.Child.{Child}
use Rattle.dav_walks.specs.declared.transfer.Transfer.{Transfer}
use Rattle.dav_walks.specs.Lines.{Line}
use Rattle.dav_walks.specs.Reading.{HasMembers, HasNoMembers, child_named}
use Rattle.dav_walks.specs.Removing.{is_deep, line_of}

-- A member keeps its name below another directory.
abbrev pub transfer_of : WebPath → Child → Transfer
transfer_of to m = record { from = m.path; to = (child_named to m.name m.dir).path; dir = m.dir }

-- a directory's members, and then what is left of the work
abbrev pub transfers_in : WebPath → List Child → List Transfer → List Transfer
transfers_in to members works = map (transfer_of to) members ++ works

-- from the work that is left and a store, the line of what is done first, the store that is left, and the work
abbrev pub Does : Type 0 → Type 1
Does S = List Transfer → S → Line → S → List Transfer → Type 0

module _ {S C F L E : Type 0} (view : View S C F) (lists : Listings S C L E) (c : C) where
  -- The members of a directory come before the work, unless they aren't read, or no memory is left for them.
  abbrev pub ReadsInto : Transfer → Does S
  ReadsInto x works s (Ok y) t rest = (members : List Child) × HasMembers view lists s c x.from members t
      × (rest ≡ transfers_in x.to members works)
  ReadsInto x works s (Err e) t rest = ((refusal : FsError) × HasNoMembers view lists s c x.from refusal t
      × (e ≡ of_fs refusal))
      ⊎ ((members : List Child) × HasMembers view lists s c x.from members t × (e ≡ NoMemory))

-- `alone` is whether a directory goes without its members.
module _ {S C F L E : Type 0} (view : View S C F) (lists : Listings S C L E) (c : C) (alone : Bool) where
  abbrev pub Enters : Bool → Transfer → Does S
  Enters true x works s r t rest = (t ≡ s) × (r ≡ Ok tt) × (rest ≡ works)
  Enters false x works s r t rest = ReadsInto view lists c x works s r t rest

  -- what follows the making of a directory
  abbrev pub AfterMaking : Result Unit FsError → Transfer → Does S
  AfterMaking (Err e) x works s r t rest = (t ≡ s) × (r ≡ Err (of_fs e))
  AfterMaking (Ok y) x works s r t rest = Enters alone x works s r t rest

  -- A directory is made, by whether it is too deep.
  abbrev pub CopiesDir : Bool → Transfer → Does S
  CopiesDir true x works s r t rest = (t ≡ s) × (r ≡ Err (Status 403))
  CopiesDir false x works s r t rest = (made : Result Unit FsError) × (m : S) × view.makes_dir s c x.to made m
      × AfterMaking made x works m r t rest

  -- by whether a directory is copied
  abbrev pub CopiesBy : Bool → Transfer → Does S
  CopiesBy true x works s r t rest = CopiesDir (is_deep x.from) x works s r t rest
  CopiesBy false x works s r t rest = (copied : Result Unit FsError) × view.copies s c x.from x.to copied t
      × (r ≡ line_of copied) × (rest ≡ works)

  -- the first of the work is done
  abbrev pub CopiesOne : Transfer → Does S
  CopiesOne x = CopiesBy x.dir x

  -- The copies that work is made of, one after the other, up to the first refusal.
  pub data Copies : List Transfer → S → Line → S → Type 0 where
    done : (s : S) → Copies [] s (Ok tt) s
    short : (works : List Transfer) (s : S) → Copies works s (Err NoMemory) s
    goes : (x : Transfer) (works rest : List Transfer) (s m t : S) (r : Line) → CopiesOne x works s (Ok tt) m rest
        → Copies rest m r t → Copies (x ∷ works) s r t
    stops : (x : Transfer) (works rest : List Transfer) (s t : S) (e : DavError) → CopiesOne x works s (Err e) t rest
        → Copies (x ∷ works) s (Err e) t
