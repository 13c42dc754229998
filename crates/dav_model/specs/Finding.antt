-- Where a path is found in a tree, and what is shown there.
use Rattle.std.specs.Prelude.{◌≡◌, ◌⊎◌, ◌&&◌, ◌||◌, ℕ, pos, List, [], ◌∷◌, ◌++◌, Bool, true, false, cond, not, codes, Option, None, Some, Result, Ok, Err}
use Rattle.std.specs.List.{filter, find, list_all, list_any}
use Rattle.std.specs.Option.{option_map}
use Rattle.std.specs.Str.{bytes_eq}
use Rattle.dav_core.specs.declared.error.FsError.{FsError}
use Rattle.dav_core.specs.declared.error.FsError.TheVariants.{NotFound, Forbidden}
use Rattle.dav_core.specs.declared.handle.DiskError.{DiskError}
use Rattle.dav_core.specs.declared.member.Member.{Member}
use Rattle.dav_core.specs.declared.time.FileTime.{FileTime}
use Rattle.dav_core.specs.declared.tree.Row.{Row}
use Rattle.dav_core.specs.declared.tree.Kind.TheVariants.{File}
use Rattle.dav_core.specs.DavPath.{WebPath, last_name}
use Rattle.dav_core.specs.Errors.{fs_error_of}
use Rattle.dav_core.specs.Listing.{listable, stands_in}
use Rattle.dav_core.specs.Members.{members}
use Rattle.dav_core.specs.Path.{Names, same_names, parent_of}
use Rattle.dav_core.specs.Tree.{row_at, look, is_file, is_linked}
use Rattle.dav_core.specs.World.{World}
use Rattle.dav_model.specs.Head.{Stood, stood_in}
use Rattle.dav_model.specs.Folds.{Name, folds_like, is_dot, dir_time}
use Rattle.dav_model.specs.Rules.{Rules, Knowledge, MayDeny}
use Rattle.dav_model.specs.Shown.{Shown}

-- ---- where a path is found

-- the row of this name in a directory, or one whose name folds like it
abbrev pub is_alike : Bool → Names → Name → Row → Bool
is_alike folds at name row = same_names (at ++ name ∷ []) row.path || (folds
    && (same_names (parent_of row.path) at && folds_like row.path (at ++ name ∷ [])))

-- The row of the name as asked; without one, the one that folds alike.
abbrev pub member_or : Option Row → Option Row → Option Names
member_or (Some row) other = Some row.path
member_or None other = option_map (λ (row : Row). row.path) other

abbrev pub member : Bool → List Row → Names → Name → Option Names
member folds tree at name = member_or (row_at tree (at ++ name ∷ [])) (find (is_alike folds at name) tree)

abbrev pub on_from : Option Names → Names → (Names → Names) → Names
on_from None rest on = rest
on_from (Some at) rest on = on at

-- Walks on from a directory. What isn't there is appended as asked.
abbrev pub resolved_from : Bool → List Row → Names → Names → Names
resolved_from folds tree at [] = at
resolved_from folds tree at (name ∷ names) = on_from (member folds tree at name) (at ++ name
    ∷ names) (λ next. resolved_from folds tree next names)

abbrev pub or_walk : Option Names → Names → Names
or_walk None walk = walk
or_walk (Some file) walk = file

abbrev pub resolved : Rules → List Row → Names → Names
resolved rules tree names = or_walk rules.alone (resolved_from rules.folds tree [] names)

abbrev pub IsOf : Row → List Row → Type 0
IsOf row [] = ⊥
IsOf row (r ∷ rows) = (row ≡ r) ⊎ IsOf row rows

-- A walk that at each directory may take any row that folds alike.
abbrev pub IsLoose : Bool → List Row → Names → Names → Names → Type 0
IsLoose folds tree at [] end = end ≡ at
IsLoose folds tree at (name ∷ names) end = ((next : Row) × IsOf next tree × (is_alike folds at name next ≡ true)
    × IsLoose folds tree next.path names end)
    ⊎ ((list_any (is_alike folds at name) tree ≡ false) × (end ≡ at ++ name ∷ names))

-- Where each kind of call finds a path, and which paths the memory calls absent.
pub record Finding : Type 0 where
  pub looks : Names → Names
  pub opens : Names → Names
  pub lists : Names → Names
  pub denies : Names → Bool

-- what is right in a valid run
abbrev pub exactly : Rules → List Row → Finding
exactly rules tree = record {
  looks = resolved rules tree;
  opens = resolved rules tree;
  lists = resolved rules tree;
  denies = λ path. false;
}

abbrev pub EndsLoosely : Option Names → Bool → List Row → Names → Names → Type 0
EndsLoosely None folds tree names end = IsLoose folds tree [] names end
EndsLoosely (Some file) folds tree names end = end ≡ file

-- A path is called absent only with the macOS rules, where the memory may deny its last name in its directory at the
-- time.
pub record Denies (k : Knowledge) (tree : List Row) (path : Names) : Type 0 where
  pub dir : Names
  pub name : Name
  pub is : path ≡ dir ++ name ∷ []
  pub dot : is_dot name ≡ true
  pub time : FileTime
  pub there : dir_time tree dir ≡ Some time
  pub may : MayDeny k dir time name

-- what a store may make of paths in any run
pub record MayFind (rules : Rules) (k : Knowledge) (tree : List Row) (f : Finding) : Type 0 where
  pub looks : (names : Names) → EndsLoosely rules.alone rules.folds tree names (f.looks names)
  pub opens : (names : Names) → EndsLoosely rules.alone rules.folds tree names (f.opens names)
  pub lists : (names : Names) → EndsLoosely rules.alone rules.folds tree names (f.lists names)
  pub denied : (path : Names) → f.denies path ≡ true → (rules.macos ≡ true) × Denies k tree path

-- ---- what is shown there

-- the two files that clients of macOS look for in the root, named without a final slash
abbrev pub is_virtual : Rules → WebPath → Bool
is_virtual rules path = rules.macos && (not path.slash && (same_names path.names (codes ".metadata_never_index"
    ∷ []) || same_names path.names (codes ".ql_disablethumbnails" ∷ [])))

abbrev pub is_named : List ℕ → Option Name → Bool
is_named name None = false
is_named name (Some last) = bytes_eq last name

abbrev pub is_localized : Names → Bool
is_localized names = is_named (codes ".localized") (last_name names)

-- an empty file of 959652000 s
abbrev pub empty_file : Stood
empty_file = record {
  kind = File;
  number = 0;
  len = 0;
  modified = Some (record { secs = pos 959652000; nanos = 0 });
  tag = None;
  address = None;
}

-- Whether a final slash is looked at: not where every path names one file.
abbrev pub has_slash : Option Names → WebPath → Bool
has_slash None path = path.slash
has_slash (Some file) path = false

abbrev pub stood_at : Bool → World → Result Row DiskError → Result Stood FsError
stood_at slash w (Ok row) = cond (slash && is_file row.kind) (Err Forbidden) (Ok (stood_in w row))
stood_at slash w (Err e) = Err (fs_error_of e)

-- The first line that fits decides.
abbrev pub looked_at : Rules → World → Finding → WebPath → Result Stood FsError
looked_at rules w f path = cond (is_virtual rules path) (Ok empty_file)
    (cond ((rules.macos && is_localized (f.looks path.names)) || f.denies (f.looks path.names)) (Err NotFound)
    (stood_at (has_slash rules.alone path) w (look w.tree (f.looks path.names))))

abbrev pub is_forbidden : Rules → WebPath → Bool
is_forbidden rules path = is_virtual rules path || (rules.macos && is_localized path.names)

abbrev pub opened_at : Rules → World → Finding → WebPath → Result Stood FsError
opened_at rules w f path = cond (is_forbidden rules path
    || has_slash rules.alone path) (Err Forbidden) (stood_at false w (look w.tree (f.opens path.names)))

abbrev pub members_or : World → Names → Result Row DiskError → Result (List Member) FsError
members_or w dir (Err e) = Err (fs_error_of e)
members_or w dir (Ok row) = Ok (members w dir)

-- Every member of a directory is listed.
abbrev pub listed_in : World → Names → Result (List Member) FsError
listed_in w dir = members_or w dir (listable (look w.tree dir))

-- What the store shows of a world, by what it makes of paths.
abbrev pub shown_by : Rules → World → Finding → Shown
shown_by rules w f = record {
  looked = looked_at rules w f;
  opened = opened_at rules w f;
  listed = λ path. listed_in w (f.lists path.names);
}

-- what it shows in a valid run
abbrev pub shown_in : Rules → World → Shown
shown_in rules w = shown_by rules w (exactly rules w.tree)

-- ---- links

-- Where a link stands on the way to a path or at it (`is_linked`) nothing is said of it. Of a listing nothing is said
-- where one stands in the directory, too.
abbrev pub is_clear : List Row → Names → Bool
is_clear tree dir = not (is_linked tree dir) && list_all (λ row. not (is_linked tree row.path))
    (filter (stands_in dir) tree)

-- What a store may show of a world in any run: by some finding, where no link is met.
pub record MayShowOf (rules : Rules) (k : Knowledge) (w : World) (shown : Shown) : Type 0 where
  pub finding : Finding
  pub may : MayFind rules k w.tree finding
  pub looked : (path : WebPath) → is_linked w.tree (finding.looks path.names) ≡ false
      → shown.looked path ≡ looked_at rules w finding path
  pub opened : (path : WebPath) → is_linked w.tree (finding.opens path.names) ≡ false
      → shown.opened path ≡ opened_at rules w finding path
  pub listed : (path : WebPath) → is_clear w.tree (finding.lists path.names) ≡ true
      → shown.listed path ≡ listed_in w (finding.lists path.names)

-- in any run, over a disk that tells or doesn't
abbrev pub MayShow : Rules → Knowledge → Option World → Shown → Type 0
MayShow rules k None shown = Unit {0}
MayShow rules k (Some w) shown = MayShowOf rules k w shown
