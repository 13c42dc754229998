-- How the members of a directory are read before it is removed or copied: its listing is read to its end, links not
-- followed, and each entry is asked for its metadata. Nothing is passed over.
use Rattle.std.specs.Prelude.{◌≡◌, ◌⊎◌, ◌++◌, ℕ, Bool, List, [], ◌∷◌, None, Result, Ok, Err, IsOk}
use Rattle.std.specs.List.{AllByRecursion, flat_map}
use Rattle.std.specs.List.Sorted.{IsPermutation, IsSortedByKey}
use Rattle.std.specs.Cmp.Lexicographic.{slice_cmp}
use Rattle.std.specs.Ordering.{nat_cmp}
use Rattle.dav_core.specs.declared.error.FsError.{FsError}
use Rattle.dav_core.specs.declared.error.FsError.TheVariants.{NoMemory}
use Rattle.dav_core.specs.DavPath.{WebPath}
use Rattle.dav_core.specs.Info.{Info}
use Rattle.dav_core.specs.Tree.{is_dir}
use Rattle.dav_core.specs.Unchanged.{Keeps}
use Rattle.dav_store.specs.declared.entry.ReadDirMeta.TheVariants.{DataSymlink}
use Rattle.dav_store.specs.Members.{Answered, Walked}
use Rattle.dav_store.specs.View.{View, Listings}
use Rattle.dav_walks.specs.declared.child.Child.{Child}

-- the member of this name, by whether it is a directory
abbrev pub child_named : WebPath → List ℕ → Bool → Child
child_named path name dir = record {
  name = name;
  path = record path { names = path.names ++ name ∷ []; slash = dir };
  dir = dir;
}

-- the member that an entry tells of by its metadata
abbrev pub child_said : WebPath → List ℕ → Result Info FsError → List Child
child_said path name (Ok info) = child_named path name (is_dir info.kind) ∷ []
child_said path name (Err e) = []

abbrev pub children_said : WebPath → List Answered → List Child
children_said path answers = flat_map (λ a. child_said path a.name a.meta) answers

abbrev pub DidSay : Answered → Type 0
DidSay a = IsOk a.meta

-- each entry gave its metadata
abbrev pub AllSaid : List Answered → Type 0
AllSaid answers = AllByRecursion DidSay answers

-- an entry was asked for its metadata, and the member added that it told of
abbrev pub AddsChild : WebPath → List ℕ → Result Info FsError → List Child → Result Unit FsError → List Child → Type 0
AddsChild path name said old (Ok x) new = IsOk said × (new ≡ old ++ child_said path name said)
AddsChild path name said old (Err e) new = (said ≡ Err e) ⊎ (e ≡ NoMemory)

module _ {S C F L E : Type 0} (view : View S C F) (lists : Listings S C L E) where
  -- The listing came to its end, and told of these members.
  pub record ReadsAll (s : S) (l : L) (path : WebPath) (members : List Child) (t : S) (over : L) : Type 0 where
    pub answers : List Answered
    pub place : S
    pub left : L
    pub walk : Walked view lists s l answers place left
    pub said : AllSaid answers
    pub ends : lists.lists_on place left (Ok None) t over
    pub told : members ≡ children_said path answers

  -- The listing, or an entry that was asked for its metadata, was refused; or memory was, behind some entries.
  abbrev pub ReadRefused : S → L → FsError → S → L → Type 0
  ReadRefused s l e t over = ((e ≡ NoMemory) × (answers : List Answered) × Walked view lists s l answers t over)
      ⊎ (((answers : List Answered) × (place : S) × (left : L) × Walked view lists s l answers place left
      × AllSaid answers × lists.lists_on place left (Err e) t over)
      ⊎ ((answers : List Answered) × (name : List ℕ) × AllSaid answers
      × Walked view lists s l (answers ++ record { name = name; meta = Err e } ∷ []) t over))

  -- The directory at a path was listed to its end, which told of these members.
  pub record Listed (s : S) (c : C) (path : WebPath) (members : List Child) (t : S) : Type 0 where
    pub begin : S
    pub listing : L
    pub begins : lists.lists s c path DataSymlink (Ok listing) begin
    pub after : S
    pub over : L
    pub reads : ReadsAll begin listing path members after over
    pub ended : lists.ends_list after over t

  -- These are its members in the order of their names, by bytes.
  pub record HasMembers (s : S) (c : C) (path : WebPath) (members : List Child) (t : S) : Type 0 where
    pub listed : List Child
    pub was : Listed s c path listed t
    pub each_once : IsPermutation listed members
    pub in_order : IsSortedByKey (λ m. m.name) (slice_cmp nat_cmp) members

  -- The members were listed, and memory to order them was refused; or the listing was refused, at once or further on,
  -- where it was ended.
  abbrev pub MembersUnread : S → C → WebPath → FsError → S → Type 0
  MembersUnread s c path e t = ((e ≡ NoMemory) × (listed : List Child) × Listed s c path listed t)
      ⊎ (lists.lists s c path DataSymlink (Err e) t
      ⊎ ((begin after : S) × (listing over : L) × lists.lists s c path DataSymlink (Ok listing) begin
      × ReadRefused begin listing e after over × lists.ends_list after over t))

  -- The directory's members weren't read: nothing changed, and nothing is left open.
  pub record HasNoMembers (s : S) (c : C) (path : WebPath) (e : FsError) (t : S) : Type 0 where
    pub keeps : Keeps (view.state s) (view.state t)
    pub why : MembersUnread s c path e t
