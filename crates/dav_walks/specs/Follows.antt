-- A store that stands over a told disk by rules: what each of its calls does to the told world. Where a link stands on
-- the way to a path nothing is said.
use Rattle.std.specs.Prelude.{◌≤◌, ◌≡◌, ◌⊎◌, ◌+◌, ◌||◌, ℕ, List, map, take, length, Bool, true, false, Option, Some, Result, Ok, Err}
use Rattle.std.specs.List.{filter}
use Rattle.dav_io.specs.Told.{Both}
use Rattle.dav_core.specs.declared.error.FsError.{FsError}
use Rattle.dav_core.specs.declared.error.FsError.TheVariants.{Forbidden}
use Rattle.dav_core.specs.declared.handle.DiskError.TheVariants.{NotDir}
use Rattle.dav_core.specs.declared.handle.OpenOptions.{OpenOptions}
use Rattle.dav_core.specs.declared.tree.Row.{Row}
use Rattle.dav_core.specs.Allowed.{Allowed, copying, moving, taking_dir, taking_file}
use Rattle.dav_core.specs.DavPath.{WebPath}
use Rattle.dav_core.specs.Disk.{at_start, kind_at}
use Rattle.dav_core.specs.Edits.{Edit, Edited, EditedBy, fills}
use Rattle.dav_core.specs.Errors.{fs_error_of}
use Rattle.dav_core.specs.Info.{Info}
use Rattle.dav_core.specs.Listing.{name_of, stands_in}
use Rattle.dav_core.specs.Path.{Names}
use Rattle.dav_core.specs.Tree.{has_dir, is_dir, is_linked, look, row_at}
use Rattle.dav_core.specs.World.{World, OpenFile, IsWorld, SameBesidesOpens, bytes_of}
use Rattle.dav_core.specs.Writing.{LeftBy, appends, written}
use Rattle.dav_store.specs.declared.entry.ReadDirMeta.TheVariants.{DataSymlink}
use Rattle.dav_store.specs.Files.{Spoiled}
use Rattle.dav_store.specs.Leads.{ListedThrough}
use Rattle.dav_store.specs.View.{View, Listings, Closes}
use Rattle.dav_model.specs.Finding.{has_slash, is_clear, is_forbidden, resolved}
use Rattle.dav_model.specs.Head.{Stood}
use Rattle.dav_model.specs.Plans.{making, put_options, putting, stands}
use Rattle.dav_model.specs.Rules.{Knowledge, Rules}
use Rattle.dav_model.specs.Valid.{IsRegular, TellsApart}
use Rattle.dav_model.specs.Walks.{dir_first, in_order}
use Rattle.dav_walks.specs.declared.child.Child.{Child}
use Rattle.dav_walks.specs.Pouring.{Writes, WritesFile}
use Rattle.dav_walks.specs.Reading.{HasMembers, HasNoMembers, child_named}

-- ---- what a call finds

-- Metadata says all of what stands there that a precondition asks for.
pub record Agrees (info : Info) (there : Stood) : Type 0 where
  pub kind : info.kind ≡ there.kind
  pub modified : info.modified ≡ there.modified
  pub tag : info.tag ≡ there.tag

abbrev pub Finds : Result Stood FsError → Result Info FsError → Type 0
Finds (Ok there) (Ok info) = Agrees info there
Finds (Ok there) (Err e) = ⊥
Finds (Err e) (Ok info) = ⊥
Finds (Err e) (Err f) = f ≡ e

-- what the tree calls for, as a store says it
abbrev pub CallsFor : Allowed → FsError → Type 0
CallsFor (Ok edit) e = ⊥
CallsFor (Err d) e = e ≡ fs_error_of d

-- A directory is refused a place since a file stands there, which may be taken away.
abbrev pub MeetsFile : List Row → Names → Names → Type 0
MeetsFile tree from to = (moving tree from to ≡ Err NotDir) × (row : Row) × (look tree from ≡ Ok row)
    × (is_dir row.kind ≡ true) × (edit : Option Edit) × (taking_file tree to ≡ Ok edit)

-- the members of the directory at a place of a tree, that a path leads to, in the order of their names
abbrev pub child_of : WebPath → Row → Child
child_of path row = child_named path (name_of row) (is_dir row.kind)

abbrev pub children_in : List Row → Names → WebPath → List Child
children_in tree place path = map (child_of path) (in_order dir_first (filter (stands_in place) tree))

module _ {S C F L E : Type 0} (view : View S C F) (lists : Listings S C L E) (writes : Writes F) (c : C) where
  abbrev pub Told : S → S → (World → World → Type 0) → Type 0
  Told s t P = Both (view.state s).told (view.state t).told P

  -- The stores that calls lead to from here. A listing is one step, from where it was begun to where it was ended.
  pub data Reached (s : S) : S → Type 0 where
    here : Reached s s
    looks : (m n : S) (path : WebPath) (r : Result Info FsError) → Reached s m → view.looks m c path r n → Reached s n
    looks_at_link : (m n : S) (path : WebPath) (r : Result Info FsError) → Reached s m
        → view.looks_at_link m c path r n → Reached s n
    opens : (m n : S) (path : WebPath) (how : OpenOptions) (r : Result F FsError) → Reached s m
        → view.opens m c path how r n → Reached s n
    writes_file : (m n : S) (f g : F) (bytes : List ℕ) (r : Result Unit FsError) → Reached s m
        → WritesFile view writes m f bytes r n g → Reached s n
    ends_file : (m n : S) (f : F) → Reached s m → Closes view m f n → Reached s n
    makes_dir : (m n : S) (path : WebPath) (r : Result Unit FsError) → Reached s m → view.makes_dir m c path r n
        → Reached s n
    removes_dir : (m n : S) (path : WebPath) (r : Result Unit FsError) → Reached s m → view.removes_dir m c path r n
        → Reached s n
    removes_file : (m n : S) (path : WebPath) (r : Result Unit FsError) → Reached s m → view.removes_file m c path r n
        → Reached s n
    renames : (m n : S) (from to : WebPath) (r : Result Unit FsError) → Reached s m → view.renames m c from to r n
        → Reached s n
    copies : (m n : S) (from to : WebPath) (r : Result Unit FsError) → Reached s m → view.copies m c from to r n
        → Reached s n
    unlisted : (m n : S) (path : WebPath) (e : FsError) → Reached s m → lists.lists m c path DataSymlink (Err e) n
        → Reached s n
    listed : (m n : S) (path : WebPath) → Reached s m → ListedThrough view lists DataSymlink m c path n → Reached s n

  -- A look changes nothing. In a world of a valid run it finds what stands there, or was spoiled.
  abbrev pub LooksBy : Rules → Knowledge → WebPath → S → Result Info FsError → S → World → World → Type 0
  LooksBy rules k path m r n v w = SameBesidesOpens v w
      × (IsRegular rules k v → is_linked v.tree (resolved rules v.tree path.names) ≡ false
      → Finds (stands rules v path) r ⊎ Spoiled (view.state m) r (view.state n))

  -- A call that changes what stands does what is allowed; or the tree calls for its refusal; or a fault or want of
  -- memory was met, which may leave a part.
  abbrev pub Calls : Allowed → S → Result Unit FsError → S → World → World → Type 0
  Calls allowed m (Ok x) n v w = (edit : Option Edit) × (allowed ≡ Ok edit) × EditedBy edit v w
  Calls allowed m (Err e) n v w = (CallsFor allowed e × SameBesidesOpens v w)
      ⊎ (Spoiled {T = Unit} (view.state m) (Err e) (view.state n) × LeftBy true allowed v w)

  -- What was opened is open at its first byte, in a world in which the edit was made, and is of the kind that stands
  -- there.
  abbrev pub OpensBy : Rules → WebPath → S → Result F FsError → S → World → World → Type 0
  OpensBy rules path m (Ok f) n v w = (edit : Option Edit) × (row : Row) × (putting rules v path ≡ Ok edit)
      × EditedBy edit v w
      × (row_at w.tree (resolved rules v.tree path.names) ≡ Some row)
      × (w.opens (view.file.handle f) ≡ Some (at_start row.number))
      × (kind_at (view.state n) (view.file.handle f) ≡ Some row.kind)
  OpensBy rules path m (Err e) n v w = SameBesidesOpens v w
      × (CallsFor (putting rules v path) e ⊎ Spoiled {T = F} (view.state m) (Err e) (view.state n))

  -- The bytes were written from the file's place on, which is behind them now; or a front of them.
  abbrev pub WritesBy : ℕ → List ℕ → Result Unit FsError → OpenFile → World → World → Type 0
  WritesBy h bytes (Ok x) o v w = Edited (fills o.number (written o.place bytes (bytes_of v o.number))) v w
      × (w.opens h ≡ Some (record o { place = o.place + length bytes }))
  WritesBy h bytes (Err e) o v w = (n : ℕ) × Edited
      (fills o.number (written o.place (take n bytes) (bytes_of v o.number))) v w

  -- A directory is listed to its end: its members are those of the tree, where each path is found in one place. It fails
  -- to be listed only by a fault or want of memory.
  abbrev pub ListsBy : Rules → WebPath → List Child → World → World → Type 0
  ListsBy rules path members v w = SameBesidesOpens v w × (TellsApart rules v
      → is_clear v.tree (resolved rules v.tree path.names) ≡ true
      → members ≡ children_in v.tree (resolved rules v.tree path.names) path)

  abbrev pub FailsToList : Rules → WebPath → S → FsError → S → World → World → Type 0
  FailsToList rules path m e n v w = SameBesidesOpens v w × (TellsApart rules v
      → is_clear v.tree (resolved rules v.tree path.names) ≡ true
      → has_dir v.tree (resolved rules v.tree path.names) ≡ true → Spoiled {T = Unit} (view.state m) (Err e)
      (view.state n))

  -- A call that a store refuses by the path alone, before it asks its disk; else this is said of it.
  pub record UnlessShut {T : Type 0} (shut : Bool) (r : Result T FsError) (v w : World) (P : Type 0) : Type 0 where
    pub refused : shut ≡ true → (r ≡ Err Forbidden) × SameBesidesOpens v w
    pub called : shut ≡ false → P

  -- Each path is found in one place, and no link stands on the way to it.
  abbrev pub IfFound : Rules → World → WebPath → Type 0 → Type 0
  IfFound rules v path P = TellsApart rules v → is_linked v.tree (resolved rules v.tree path.names) ≡ false → P

  -- The same of two paths.
  abbrev pub IfBothFound : Rules → World → WebPath → WebPath → Type 0 → Type 0
  IfBothFound rules v from to P = TellsApart rules v → is_linked v.tree (resolved rules v.tree from.names) ≡ false
      → is_linked v.tree (resolved rules v.tree to.names) ≡ false → P

  -- A move does what is allowed. A directory isn't refused for the file that it meets: that is taken away, and then what
  -- is allowed is done; or a fault or want of memory was met before.
  abbrev pub MovesBy : Names → Names → S → Result Unit FsError → S → World → World → Type 0
  MovesBy from to m r n v w = (Calls (moving v.tree from to) m r n v w
      × (MeetsFile v.tree from to → Spoiled {T = Unit} (view.state m) r (view.state n)))
      ⊎ (MeetsFile v.tree from to × (x : World) × Calls (taking_file v.tree to) m (Ok tt) n v x
      × Calls (moving x.tree from to) m r n x w)

  -- From here on each call does to the told world what the rules say, where the memory knew so much. What it knows is
  -- asked for by looks alone, which come before what a request changes.
  pub record Follows (rules : Rules) (k : Knowledge) (s : S) : Type 0 where
    -- no count of faults falls
    pub counts : (n : S) → Reached s n → (view.state s).faults ≤ (view.state n).faults
    -- it folds names where the rules say so
    pub folds : (n : S) → Reached s n → view.folding n ≡ rules.folds
    -- the rows of each told world are a tree
    pub trees : (n : S) (w : World) → Reached s n → (view.state n).told ≡ Some w → IsWorld w
    pub looks : (m n : S) (path : WebPath) (r : Result Info FsError) → Reached s m → view.looks m c path r n
        → Told m n (LooksBy rules k path m r n)
    pub looks_at_link : (m n : S) (path : WebPath) (r : Result Info FsError) → Reached s m
        → view.looks_at_link m c path r n
        → Told m n (LooksBy rules k path m r n)
    pub makes_dir : (m n : S) (path : WebPath) (r : Result Unit FsError) → Reached s m → view.makes_dir m c path r n
        → Told m n (λ v w. UnlessShut (is_forbidden rules path) r v w
        (IfFound rules v path (Calls (making rules v path) m r n v w)))
    pub removes_dir : (m n : S) (path : WebPath) (r : Result Unit FsError) → Reached s m → view.removes_dir m c path r n
        → Told m n (λ v w. IfFound rules v path
        (Calls (taking_dir v.tree (resolved rules v.tree path.names)) m r n v w))
    pub removes_file : (m n : S) (path : WebPath) (r : Result Unit FsError) → Reached s m
        → view.removes_file m c path r n
        → Told m n (λ v w. UnlessShut (is_forbidden rules path || has_slash rules.alone path) r v w
        (IfFound rules v path (Calls (taking_file v.tree (resolved rules v.tree path.names)) m r n v w)))
    pub renames : (m n : S) (from to : WebPath) (r : Result Unit FsError) → Reached s m → view.renames m c from to r n
        → Told m n (λ v w. UnlessShut (is_forbidden rules from || is_forbidden rules to) r v w
        (IfBothFound rules v from to
        (MovesBy (resolved rules v.tree from.names) (resolved rules v.tree to.names) m r n v w)))
    pub copies : (m n : S) (from to : WebPath) (r : Result Unit FsError) → Reached s m → view.copies m c from to r n
        → Told m n (λ v w. UnlessShut (is_forbidden rules from || is_forbidden rules to) r v w
        (IfBothFound rules v from to
        (Calls (copying v (resolved rules v.tree from.names) (resolved rules v.tree to.names)) m r n v w)))
    pub opens : (m n : S) (path : WebPath) (r : Result F FsError) → Reached s m → view.opens m c path put_options r n
        → Told m n (λ v w. UnlessShut (is_forbidden rules path || has_slash rules.alone path) r v w
        (IfFound rules v path (OpensBy rules path m r n v w)))
    -- (a file that isn't opened to append, and whose place isn't behind its end)
    pub writes_file : (m n : S) (f g : F) (bytes : List ℕ) (r : Result Unit FsError) → Reached s m
        → WritesFile view writes m f bytes r n g
        → appends ((view.state m).live (view.file.handle f)) ≡ false
        → Told m n (λ v w. (o : OpenFile) → v.opens (view.file.handle f) ≡ Some o
        → o.place ≤ length (bytes_of v o.number) → WritesBy (view.file.handle f) bytes r o v w)
    pub members : (m n : S) (path : WebPath) (members : List Child) → Reached s m
        → HasMembers view lists m c path members n
        → Told m n (ListsBy rules path members)
    pub no_members : (m n : S) (path : WebPath) (e : FsError) → Reached s m → HasNoMembers view lists m c path e n
        → Told m n (FailsToList rules path m e n)
