-- Over one file that is served alone, where a directory came in the file's place: each path is found as that, and where it went nothing
-- stands, so that a directory may be made there again and nothing can be moved from there.
use Rattle.std.proofs.Common.{◌≡◌, ◌<◌, ◌++◌, List, [], ◌∷◌, length, Bool, true, false, not, cond, None, Some, Ok, Err, refl, sym, ap, subst, ◌∙◌, arith, append_assoc, append-nil}
use Rattle.std.proofs.lemmas.Bool.{false_from_ne_true, not-true, not_from_false}
use Rattle.dav_core.specs.declared.handle.DiskError.TheVariants.{NotDir, NotEmpty, NotFound}
use Rattle.dav_core.specs.declared.tree.Kind.TheVariants.{Dir}
use Rattle.dav_core.specs.declared.tree.Row.{Row}
use Rattle.dav_core.specs.Allowed.{found_then, is_root, making_dir, may_go, moving, moving_to, place, taking_dir, taking_dir_row, taking_file}
use Rattle.dav_core.specs.Changes.{is_leaf, without}
use Rattle.dav_core.specs.DavPath.{WebPath}
use Rattle.dav_core.specs.Edits.{Edited, makes, takes}
use Rattle.dav_core.specs.Path.{Names, is_front, parent_of}
use Rattle.dav_core.specs.Tree.{has_dir, is_dir, is_dir_row, is_linked, look, look_from, row_at, standing}
use Rattle.dav_core.specs.World.{IsWorld, SameBesidesOpens, World}
use Rattle.dav_core.proofs.Paths.{front_itself, parent_and_last, parent_length}
use Rattle.dav_core.proofs.Elements.{In, filter_in, in_filter}
use Rattle.dav_model.specs.Plans.{edits_of, first, not_allowed, stays_full, taking, unless, when}
use Rattle.dav_model.specs.Rules.{Rules}
use Rattle.dav_model.specs.Valid.{TellsApart, no_twins}
use Rattle.dav_walks.proofs.calls.ActsJoined.{AllDone}
use Rattle.dav_walks.proofs.trees.StillApart.{takes_apart}
use Rattle.dav_walks.proofs.trees.OthersStay.{front_up, not_in_parent, parts_without, unlinked_from}
use Rattle.dav_walks.proofs.copies.CopyPlaces.{is_like, only_like}
use Rattle.dav_walks.proofs.trees.FreePlaces.{Free, making_free, none_at, none_of_free}
use Rattle.dav_walks.proofs.removals.RemovalsAllowed.{back_taken, taken_free, up_taken}
use Rattle.dav_walks.proofs.trees.TreeRows.{DirAt, Parts, above, at_row, below_dir, front_of, longer, look_row, not_both, parts_of}

-- ---- where nothing stands nothing is found

not_looked : (rows : List Row) (d : Row) (at names : Names) (last : List _) → Parts rows → In d rows → is_dir d.kind ≡ true → d.path ≡ at ++ names → row_at rows (at ++ (names ++ last ∷ [])) ≡ None
    → look_from rows at (names ++ last ∷ []) ≡ Err NotFound
not_looked rows d at [] last parts i dir e none =
    let here : row_at rows at ≡ Some d = ap (row_at rows) (sym (e ∙ append-nil at)) ∙ at_row rows d parts.once i in
    below_dir (row_at rows at) d (look_from rows (at ++ last ∷ []) []) here dir ∙ ap standing none
not_looked rows d at (name ∷ names) last parts i dir e none =
    let a = above rows d at parts i (front_of at d.path (name ∷ names) e) (λ f. longer at names name (f ∙ e)) in
    let here : row_at rows at ≡ Some a.row = ap (row_at rows) (sym a.at) ∙ at_row rows a.row parts.once a.in_tree in
    below_dir (row_at rows at) a.row (look_from rows (at ++ name ∷ []) (names ++ last ∷ [])) here a.dir
    ∙ not_looked rows d (at ++ name ∷ []) names last parts i dir (e ∙ sym (append_assoc at (name ∷ []) names))
    (ap (row_at rows) (append_assoc at (name ∷ []) (names ++ last ∷ [])) ∙ none)

-- A place where nothing stands, below a directory.
pub record Vacant (rows : List Row) (file : Names) : Type 0 where
  pub some : 0 < length file
  pub parts : Parts rows
  pub up : DirAt rows (parent_of file)
  pub free : Free file rows

-- Nothing is moved from there.
pub nothing_moved : (rows : List Row) (file to : Names) → Vacant rows file → moving rows file to ≡ Err NotFound
nothing_moved rows file to v = ap (found_then (λ row. moving_to rows row to (place rows to))) nowhere
  where
    nowhere : look rows file ≡ Err NotFound
    nowhere =
        let (last, is) = parent_and_last file v.some in
        ap (look rows) is
        ∙ not_looked rows v.up.row [] (parent_of file) last v.parts v.up.in_tree v.up.dir v.up.at (ap (row_at rows) (sym is) ∙ none_at rows file (none_of_free file rows v.free))

pub vacant_row : (rows : List Row) (file : Names) → Vacant rows file → row_at rows file ≡ None
vacant_row rows file v = none_at rows file (none_of_free file rows v.free)

pub dir_makes : (rows : List Row) (file : Names) → Vacant rows file → making_dir rows file ≡ Ok (Some (makes file Dir []))
dir_makes rows file v = making_free rows file v.parts v.some v.up (none_of_free file rows v.free)

-- ---- what stood there went

-- the directory above what stands
up_there : (tree : List Row) (file : Names) → Parts tree → 0 < length file → (d : DirAt tree file) → DirAt tree (parent_of file)
up_there tree file parts some d =
    above tree d.row (parent_of file) parts d.in_tree (subst (λ z. is_front (parent_of file) z ≡ true) (sym d.at) (front_up file)) (λ e. longer_than (e ∙ d.at))
  where
    longer_than : parent_of file ≡ file → ⊥
    longer_than e = omega (arith, some, ap length e, parent_length file)

pub vacant_without : (v : World) (file : Names) → IsWorld v → 0 < length file → DirAt v.tree file → Vacant (without file v.tree) file
vacant_without v file world some d =
    let parts = parts_of v.tree world.tree in
    let up = up_there v.tree file parts some d in
    record {
      some = some;
      parts = parts_without file v.tree some parts;
      up = record {
        row = up.row;
        in_tree = filter_in (λ row. not (is_front file row.path)) v.tree up.row (not_from_false (is_front file up.row.path) (subst (λ z. is_front file z ≡ false) (sym up.at) (not_in_parent file some))) up.in_tree;
        at = up.at;
        dir = up.dir;
      };
      free = λ r i. not-true (is_front file r.path) (in_filter (λ row. not (is_front file row.path)) v.tree r i).1;
    }

-- Nothing stands in its place now, nor a name that folds like its own, and no link is met.
pub record Gone (rules : Rules) (file : Names) (u : World) : Type 0 where
  pub vacant : Vacant u.tree file
  pub apart : TellsApart rules u
  pub lone : (r : Row) → In r u.tree → is_like rules.folds file r.path ≡ false
  pub clear : is_linked u.tree file ≡ false

pub gone_by : (rules : Rules) (file : Names) (v m u : World) → IsWorld v → IsWorld u → TellsApart rules v → 0 < length file → DirAt v.tree file → is_linked v.tree file ≡ false → Edited (takes file) v m
    → SameBesidesOpens m u → Gone rules file u
gone_by rules file v m u world now apart some d clear edited same =
    record { vacant = vacant; apart = λ folds. ap no_twins same.tree ∙ takes_apart file v m (apart folds) edited; lone = lone; clear = unlinked_from v.tree u.tree file (λ r i link. back r i) clear }
  where
    back : (r : Row) → In r u.tree → (o : Row) × In o v.tree × (o.path ≡ r.path) × (o.kind ≡ r.kind)
    back r i = back_taken file v m edited r (subst (In r) same.tree i)

    free : Free file u.tree
    free r i = taken_free file v m edited r (subst (In r) same.tree i)

    up : DirAt u.tree (parent_of file)
    up =
        let a = up_there v.tree file (parts_of v.tree world.tree) some d in
        let (s, j, at, kind) = up_taken file v m edited a.row a.in_tree (subst (λ z. is_front file z ≡ false) (sym a.at) (not_in_parent file some)) in
        record { row = s; in_tree = subst (In s) (sym same.tree) j; at = at ∙ a.at; dir = ap is_dir kind ∙ a.dir }

    vacant : Vacant u.tree file
    vacant = record { some = some; parts = parts_of u.tree now.tree; up = up; free = free }

    lone : (r : Row) → In r u.tree → is_like rules.folds file r.path ≡ false
    lone r i =
        let (o, j, at, kind) = back r i in
        false_from_ne_true (is_like rules.folds file r.path)
        (λ e. not_both (is_front file r.path)
        (subst (λ z. is_front file z ≡ true)
        (sym d.at ∙ (sym (only_like rules.folds v.tree apart o d.row j d.in_tree (subst (λ z. 0 < length z) (sym d.at) some)
        (ap (λ z. is_like rules.folds z o.path) d.at ∙ (ap (is_like rules.folds file) at ∙ e))) ∙ at))
        (front_itself file)) (free r i))

-- ---- what the removal did

some_long : (path : Names) → is_root path ≡ false → 0 < length path
some_long [] e = cc
some_long (name ∷ path) e = omega arith

-- Where all acts were done that take a directory from there, it went.
pub taken_so : (tree : List Row) (file : Names) (path : WebPath) (v w : World) → Parts tree → (d : DirAt tree file)
    → AllDone (unless (first (when (stays_full tree file path) 403 ∷ not_allowed (taking tree file) ∷ [])) (edits_of (taking tree file))) v w
    → (0 < length file) × (m : World) × Edited (takes file) v m × SameBesidesOpens m w
taken_so tree file path v w parts d done =
    by (stays_full tree file path) (may_go tree d.row) refl (subst (λ a. AllDone (unless (first (when (stays_full tree file path) 403 ∷ not_allowed a ∷ [])) (edits_of a)) v w) is done)
  where
    dir : has_dir tree file ≡ true
    dir = ap is_dir_row (ap (row_at tree) (sym d.at) ∙ at_row tree d.row parts.once d.in_tree) ∙ d.dir

    is : taking tree file ≡ cond (may_go tree d.row) (Ok (Some (takes d.row.path))) (Err NotEmpty)
    is =
        ap (λ b. cond b (taking_dir tree file) (taking_file tree file)) dir
        ∙ (ap (found_then (taking_dir_row tree)) (ap (look tree) (sym d.at) ∙ look_row tree d.row parts d.in_tree)
        ∙ ap (λ b. cond b (cond (may_go tree d.row) (Ok (Some (takes d.row.path))) (Err NotEmpty)) (Err NotDir)) d.dir)

    long : may_go tree d.row ≡ true → 0 < length file
    long e = subst (λ z. 0 < length z) d.at (by_root (is_root d.row.path) refl e)
      where
        by_root : (b : Bool) → is_root d.row.path ≡ b → cond b false (is_leaf d.row.path tree) ≡ true → 0 < length d.row.path
        by_root true f g = cc
        by_root false f g = some_long d.row.path f

    by : (full go : Bool) → may_go tree d.row ≡ go
        → AllDone (unless (first (when full 403 ∷ not_allowed (cond go (Ok (Some (takes d.row.path))) (Err NotEmpty)) ∷ [])) (edits_of (cond go (Ok (Some (takes d.row.path))) (Err NotEmpty)))) v w
        → (0 < length file) × (m : World) × Edited (takes file) v m × SameBesidesOpens m w
    by true go e done = absurd done
    by false false e done = absurd done
    by false true e (m, edited, same) = (long e, m, subst (λ z. Edited (takes z) v m) d.at edited, same)
