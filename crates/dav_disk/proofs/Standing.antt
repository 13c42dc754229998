-- Where nothing stands and a call may make something, the path is free; and what a change makes of it is the edit.
use Rattle.std.proofs.Common.{◌≡◌, ◌==◌, ◌&&◌, ◌||◌, ◌+◌, ◌∷◌, ◌++◌, ◌⊎◌, [], inl, inr, ℕ, List, Bool, true, false, cond, not, length, map, subst, nat_lt, Option, None, Some, Result, Ok, Err, OnOk, OnErr, refl, sym, ap, ◌∙◌, arith, append_assoc}
use Rattle.std.specs.Option.{is_none, is_some}
use Rattle.std.specs.Result.{is_err}
use Rattle.std.proofs.lemmas.Bool.{and_parts, and_from}
use Rattle.std.proofs.lemmas.Bool.Decides.{nat_tests}
use Rattle.dav_io.specs.Counts.{greatest}
use Rattle.dav_core.specs.declared.tree.Row.{Row}
use Rattle.dav_core.specs.declared.tree.Kind.{Kind}
use Rattle.dav_core.specs.declared.tree.Kind.TheVariants.{Dir, File, Link}
use Rattle.dav_core.specs.declared.time.FileTime.{FileTime}
use Rattle.dav_core.specs.declared.handle.DiskError.{DiskError}
use Rattle.dav_core.specs.declared.handle.DiskError.TheVariants.{NotDir, IsDir, NotEmpty, Failed, NoMemory}
use Rattle.dav_core.specs.Path.{Names, same_names, parent_of, is_front}
use Rattle.dav_core.specs.Tree.{row_at, is_dir, is_dir_row, has_dir, is_tree, look, standing}
use Rattle.dav_core.specs.World.{World}
use Rattle.dav_core.specs.Changes.{tick, touched_at, touched, then_touched, is_free_in, added_at, stored_in, made_or, dir_added, file_added, without, removed_found, is_leaf, yields, moved_row, renames_to, renamed_found, parents_touched}
use Rattle.dav_core.specs.Edits.{Edit, makes, takes, moves}
use Rattle.dav_core.specs.Allowed.{Allowed, place, place_from, through, through_kind, found_then, making_at, is_root, taking_dir_row, taking_dir, taking_file_row, taking_file, moving_over, moving_to, moving}
use Rattle.dav_disk.specs.Making.{MakesAt, edited, is_spent, row_is_left, move_is_left, tick_after}
use Rattle.dav_disk.specs.Calls.{Known}
use Rattle.dav_disk.proofs.Trees.{not_both, no_names}
use Rattle.dav_core.proofs.Rows.{row_at_in, tree_parts}
use Rattle.dav_core.proofs.LookLemmas.{look_there}
use Rattle.dav_core.proofs.Paths.{parent_pushed}

-- ---- places

kind_found : (k : Kind) (found : Result (Option Row) DiskError) (o : Option Row) → through_kind k found ≡ Ok o → (is_dir k ≡ true) × (found ≡ Ok o)
kind_found Dir found o e = (refl, e)
kind_found File found o e = cc
kind_found Link found o e = cc

row_found : (r : Option Row) (found : Result (Option Row) DiskError) (o : Option Row) → through r found ≡ Ok o → (is_dir_row r ≡ true) × (found ≡ Ok o)
row_found None found o e = cc
row_found (Some r) found o e = kind_found r.kind found o e

-- what a path's place has above it, and at it
pub record Found (tree : List Row) (path : Names) (o : Option Row) : Type 0 where
  pub above : has_dir tree (parent_of path) ≡ true
  pub here : row_at tree path ≡ o

found_from : (tree : List Row) (at : Names) (name : List ℕ) (names : Names) (o : Option Row) → place_from tree at (name ∷ names) ≡ Ok o → Found tree (at ++ name ∷ names) o
found_from tree at name [] o e =
    let t = row_found (row_at tree at) (place_from tree (at ++ name ∷ []) []) o e in
    record { above = ap (has_dir tree) (parent_pushed at name) ∙ t.0; here = (let h : row_at tree (at ++ name ∷ []) ≡ o = cc (t.1) in h) }
found_from tree at name (next ∷ names) o e =
    let t = row_found (row_at tree at) (place_from tree (at ++ name ∷ []) (next ∷ names)) o e in
    let f = found_from tree (at ++ name ∷ []) next names o t.1 in
    subst (λ path. Found tree path o) (append_assoc at (name ∷ []) (next ∷ names)) f

pub place_found : (tree : List Row) (path : Names) (o : Option Row) → (length path == 0) ≡ false → place tree path ≡ Ok o → Found tree path o
place_found tree [] o some e = cc
place_found tree (name ∷ names) o some e = found_from tree [] name names o e

none_is_dir : (o : Option Row) → o ≡ None → is_dir_row o ≡ true → ⊥
none_is_dir o e d = let t : false ≡ true = sym (ap is_dir_row e) ∙ d in cc

-- where nothing stands is no root
not_root : (tree : List Row) (path : Names) → is_tree tree ≡ true → place tree path ≡ Ok None → (length path == 0) ≡ false
not_root tree [] whole e = absurd (none_is_dir (row_at tree []) (let h : row_at tree [] ≡ None = cc in h) (tree_parts tree whole).root)
not_root tree (name ∷ names) whole e = grind (arith, nat_tests)

pub free_place : (tree : List Row) (path : Names) → is_tree tree ≡ true → place tree path ≡ Ok None → is_free_in tree path ≡ true
free_place tree path whole e =
    let some = not_root tree path whole e in
    let f = place_found tree path None some e in
    and_from (not (length path == 0)) (has_dir tree (parent_of path) && is_none (row_at tree path)) (ap not some)
    (and_from (has_dir tree (parent_of path)) (is_none (row_at tree path)) f.above (ap is_none f.here))

-- what a look finds stands at its path
pub look_path : (tree : List Row) (path : Names) (row : Row) → look tree path ≡ Ok row → row.path ≡ path
look_path tree path row e = (row_at_in tree path row (look_there tree [] path row e)).1

-- ---- what is left

tick_left : (path : Names) (w : World) (o : Option FileTime) → is_some o ≡ true → is_none (touched_at path o w) ≡ false
tick_left path w None e = cc
tick_left path w (Some t) e = refl

dir_left : (b : Bool) (path : Names) (w : World) (o : Option FileTime) → b ≡ true → is_some (tick_after o) ≡ true → is_none (then_touched (parent_of path) (cond b (added_at path Dir o w) None)) ≡ false
dir_left true path w None e f = cc
dir_left true path w (Some t) e f = tick_left (parent_of path) _ (tick t) f
dir_left false path w o e f = cc

dir_none : (b : Bool) (path : Names) (w : World) (o : Option FileTime) → (b && is_some (tick_after o)) ≡ false → is_none (then_touched (parent_of path) (cond b (added_at path Dir o w) None)) ≡ true
dir_none true path w None f = refl
dir_none true path w (Some t) f = none_then (tick t) f
  where
    none_then : (o : Option FileTime) → is_some o ≡ false → is_none (touched_at (parent_of path) o (record w { tree = w.tree ++ record { path = path; kind = Dir; number = w.greatest + 1; time = t } ∷ []; greatest = w.greatest + 1; latest = t })) ≡ true
    none_then None e = refl
    none_then (Some u) e = cc
dir_none false path w o f = refl

-- a row is left exactly where a directory can be made
pub dir_is_left : (w : World) (path : Names) → row_is_left w ≡ true → is_none (edited (makes path Dir []) w) ≡ false
dir_is_left w path e = let t = and_parts (nat_lt w.greatest greatest) (is_some (tick_after (tick w.latest))) e in dir_left (nat_lt w.greatest greatest) path w (tick w.latest) t.0 t.1

pub dir_is_none : (w : World) (path : Names) → row_is_left w ≡ false → is_none (edited (makes path Dir []) w) ≡ true
dir_is_none w path e = dir_none (nat_lt w.greatest greatest) path w (tick w.latest) e

tick_none : (path : Names) (w : World) (o : Option FileTime) → is_some o ≡ false → is_none (touched_at path o w) ≡ true
tick_none path w None e = refl
tick_none path w (Some t) e = cc

file_left : (b : Bool) (path : Names) (bytes : List ℕ) (w : World) (o : Option FileTime) → b ≡ true → is_some (tick_after o) ≡ true
    → is_none (then_touched (parent_of path) (stored_in bytes (cond b (added_at path File o w) None))) ≡ false
file_left true path bytes w None e f = cc
file_left true path bytes w (Some t) e f = tick_left (parent_of path) _ (tick t) f
file_left false path bytes w o e f = cc

-- or a file
pub file_is_left : (w : World) (path : Names) (bytes : List ℕ) → row_is_left w ≡ true → is_none (edited (makes path File bytes) w) ≡ false
file_is_left w path bytes e =
    let t = and_parts (nat_lt w.greatest greatest) (is_some (tick_after (tick w.latest))) e in
    file_left (nat_lt w.greatest greatest) path bytes w (tick w.latest) t.0 t.1

-- ---- what is made

pub some_made : (w v : World) (o : Option World) → is_none o ≡ false → v ≡ made_or w o → o ≡ Some v
some_made w v None e f = cc
some_made w v (Some u) e f = ap Some (sym f)

cond_made : (b : Bool) (w v : World) (o : Option World) → b ≡ true → is_none o ≡ false → v ≡ cond b (made_or w o) w → o ≡ Some v
cond_made true w v o e left f = some_made w v o left f
cond_made false w v o e left f = cc

-- what adding a directory makes is its edit
pub dir_made : (w v : World) (path : Names) → is_free_in w.tree path ≡ true → is_none (edited (makes path Dir []) w) ≡ false → v ≡ dir_added w path → edited (makes path Dir []) w ≡ Some v
dir_made w v path free left e = cond_made (is_free_in w.tree path) w v (edited (makes path Dir []) w) free left e

pub file_made : (w v : World) (path : Names) (bytes : List ℕ) → is_free_in w.tree path ≡ true → is_none (edited (makes path File bytes) w) ≡ false → v ≡ file_added w path bytes
    → edited (makes path File bytes) w ≡ Some v
file_made w v path bytes free left e = cond_made (is_free_in w.tree path) w v (edited (makes path File bytes) w) free left e

-- ---- what is taken

cond_taken : (b : Bool) (w v : World) (o : Option World) → b ≡ false → is_none o ≡ false → v ≡ cond b w (made_or w o) → o ≡ Some v
cond_taken true w v o e left f = cc
cond_taken false w v o e left f = some_made w v o left f

-- what may go: it stands there, and is no root
pub record MayGo (tree : List Row) (path : Names) : Type 0 where
  pub row : Row
  pub found : look tree path ≡ Ok row
  pub here : row.path ≡ path
  pub some : (length path == 0) ≡ false

pub taken_made : (w v : World) (path : Names) → MayGo w.tree path → is_none (edited (takes path) w) ≡ false → v ≡ removed_found (look w.tree path) w → edited (takes path) w ≡ Some v
taken_made w v path may left e =
    cond_taken (length path == 0) w v (edited (takes path) w) may.some left
    (e ∙ ap (λ found. removed_found found w) may.found
    ∙ ap (λ (p : Names). cond (length p == 0) w (made_or w (touched (parent_of p) (record w { tree = without p w.tree })))) may.here)

pub take_is_left : (w : World) (path : Names) → is_some (tick w.latest) ≡ true → is_none (edited (takes path) w) ≡ false
take_is_left w path e = tick_left (parent_of path) (record w { tree = without path w.tree }) (tick w.latest) e

pub take_is_none : (w : World) (path : Names) → is_some (tick w.latest) ≡ false → is_none (edited (takes path) w) ≡ true
take_is_none w path e = tick_none (parent_of path) (record w { tree = without path w.tree }) (tick w.latest) e

found_row : (tree : List Row) (judge : Row → Allowed) (path : Names) (x : Option Edit) (found : Result Row DiskError) → look tree path ≡ found → found_then judge found ≡ Ok x
    → (row : Row) × (look tree path ≡ Ok row) × (row.path ≡ path) × (judge row ≡ Ok x)
found_row tree judge path x (Ok row) e f = (row, e, look_path tree path row e, f)
found_row tree judge path x (Err y) e f = cc

dir_goes : (a b : Bool) (tree : List Row) (row : Row) (x : Option Edit) → cond a (cond (cond b false (is_leaf row.path tree)) (Ok (Some (takes row.path))) (Err NotEmpty)) (Err NotDir) ≡ Ok x → b ≡ false
dir_goes true true tree row x e = cc
dir_goes true false tree row x e = refl
dir_goes false b tree row x e = cc

dir_may_go : (tree : List Row) (path : Names) (x : Option Edit) → taking_dir tree path ≡ Ok x → MayGo tree path
dir_may_go tree path x e =
    let (row, found, here, judged) = found_row tree (taking_dir_row tree) path x (look tree path) refl e in
    record { row = row; found = found; here = here; some = sym (ap (λ (p : Names). length p == 0) here) ∙ dir_goes (is_dir row.kind) (is_root row.path) tree row x judged }

file_goes : (a : Bool) (row : Row) (x : Option Edit) → cond a (Err IsDir) (Ok (Some (takes row.path))) ≡ Ok x → a ≡ false
file_goes true row x e = cc
file_goes false row x e = refl

no_file_root : (tree : List Row) (path : Names) (row : Row) → is_tree tree ≡ true → look tree path ≡ Ok row → is_dir row.kind ≡ false → (b : Bool) → (length path == 0) ≡ b → b ≡ false
no_file_root tree path row whole found file true e =
    let top : has_dir tree [] ≡ true = (tree_parts tree whole).root in
    let root : path ≡ [] = no_names path e in
    let at : look tree [] ≡ Ok row = ap (look tree) (sym root) ∙ found in
    absurd (not_both (is_dir row.kind) (root_dir (row_at tree []) row top at) file)
  where
    root_dir : (o : Option Row) (row : Row) → is_dir_row o ≡ true → standing o ≡ Ok row → is_dir row.kind ≡ true
    root_dir None row d e = cc
    root_dir (Some r) row d e = (let same : r ≡ row = cc in rw (← same) d)
no_file_root tree path row whole found file false e = refl

file_may_go : (tree : List Row) (path : Names) (x : Option Edit) → is_tree tree ≡ true → taking_file tree path ≡ Ok x → MayGo tree path
file_may_go tree path x whole e =
    let (row, found, here, judged) = found_row tree taking_file_row path x (look tree path) refl e in
    record { row = row; found = found; here = here; some = no_file_root tree path row whole found (file_goes (is_dir row.kind) row x judged) (length path == 0) refl }

-- what either call may take
pub goes : (tree : List Row) (path : Names) → is_tree tree ≡ true → (taking_dir tree path ≡ Ok (Some (takes path))) ⊎ (taking_file tree path ≡ Ok (Some (takes path))) → MayGo tree path
goes tree path whole (inl e) = dir_may_go tree path (Some (takes path)) e
goes tree path whole (inr e) = file_may_go tree path (Some (takes path)) whole e

-- ---- what a call answers

-- a change that was made, or for which memory was refused, is what is allowed
pub make_at : (allowed : Allowed) (edit : Edit) (k n : Known) (v : World) (result : Result Unit DiskError) → allowed ≡ Ok (Some edit) → is_none (edited edit k.world) ≡ false
    → edited edit k.world ≡ Some v → OnOk result (n ≡ record k { world = v }) → OnErr result ((n ≡ k) × (result ≡ Err NoMemory)) → MakesAt allowed k result n
make_at allowed edit k n v (Ok x) e left made ok err =
    (Some edit, e, made ∙ ap (λ (n : Known). Some n.world) (sym ok), ok ∙ ap (λ (w : World). record k { world = w }) (ap (λ (n : Known). n.world) (sym ok)))
make_at allowed edit k n v (Err x) e left made ok err =
    let same : x ≡ NoMemory = (let f = err.1 in cc) in
    rw same (err.0, ap (λ a. is_spent a k.world) e ∙ left)

-- or as no number or tick is left
pub spent_at : (allowed : Allowed) (edit : Edit) (k : Known) → allowed ≡ Ok (Some edit) → is_none (edited edit k.world) ≡ true → MakesAt allowed k (Err Failed) k
spent_at allowed edit k e spent = (refl, ap (λ a. is_spent a k.world) e ∙ spent)

pub on_fine : {T E : Type 0} (r : Result T E) (P : Type 0) (b : Bool) → b ≡ is_err r → b ≡ false → OnOk r P → P
on_fine (Ok x) P b e f h = h
on_fine (Err x) P b e f h = absurd (let t : true ≡ false = sym e ∙ f in cc)

pub made_place : (found : Result (Option Row) DiskError) (path : Names) (x : Option Edit) → making_at found path ≡ Ok x → found ≡ Ok None
made_place (Err e) path x f = cc
made_place (Ok (Some row)) path x f = cc
made_place (Ok None) path x f = refl

-- ---- what is moved

pub moved_found : (w v : World) (row : Row) (from to : Names) → look w.tree from ≡ Ok row → row.path ≡ from → renames_to w row to ≡ true → is_none (edited (moves from to) w) ≡ false
    → v ≡ renamed_found (look w.tree from) to w → edited (moves from to) w ≡ Some v
moved_found w v row from to found here may left e =
    cond_made (renames_to w row to) w v (edited (moves from to) w) may left
    (e ∙ ap (λ f. renamed_found f to w) found
    ∙ ap (λ (p : Names). cond (renames_to w row to) (made_or w (parents_touched p to (record w { tree = map (moved_row p to) (without to w.tree) }))) w) here)

-- what a rename that is allowed has found
pub record MayMove (w : World) (from to : Names) : Type 0 where
  pub row : Row
  pub found : look w.tree from ≡ Ok row
  pub here : row.path ≡ from
  pub goes : renames_to w row to ≡ true

kinds_yield : (k : Kind) (there : Row) (tree : List Row) (x : Option Edit) (e : Edit)
    → cond (is_dir k) (cond (is_dir there.kind) (cond (is_leaf there.path tree) (Ok (Some e)) (Err NotEmpty)) (Err NotDir)) (cond (is_dir there.kind) (Err IsDir) (Ok (Some e))) ≡ Ok x
    → yields k (Some there) tree ≡ true
kinds_yield Dir there tree x e h = dirs (is_dir there.kind) (is_leaf there.path tree) h
  where
    dirs : (a b : Bool) → cond a (cond b (Ok (Some e)) (Err NotEmpty)) (Err NotDir) ≡ Ok x → (a && b) ≡ true
    dirs true true h = refl
    dirs true false h = cc
    dirs false b h = cc
kinds_yield File there tree x e h = files (is_dir there.kind) h
  where
    files : (a : Bool) → cond a (Err IsDir) (Ok (Some e)) ≡ Ok x → not a ≡ true
    files true h = cc
    files false h = refl
kinds_yield Link there tree x e h = links (is_dir there.kind) h
  where
    links : (a : Bool) → cond a (Err IsDir) (Ok (Some e)) ≡ Ok x → not a ≡ true
    links true h = cc
    links false h = refl

over_yields : (tree : List Row) (row : Row) (to : Names) (there : Option Row) (x : Option Edit) → moving_over tree row to there ≡ Ok x → yields row.kind there tree ≡ true
over_yields tree row to None x h = any_kind row.kind
  where
    any_kind : (k : Kind) → yields k None tree ≡ true
    any_kind Dir = refl
    any_kind File = refl
    any_kind Link = refl
over_yields tree row to (Some there) x h = kinds_yield row.kind there tree x (moves row.path to) h

-- the tests before
record Tested (a b c d : Bool) (over : Allowed) (x : Option Edit) : Type 0 where
  from : a ≡ false
  to : b ≡ false
  into : d ≡ false
  judged : over ≡ Ok x

tested : (a b c d : Bool) (over : Allowed) (e : Edit) → cond (a || b) (Err NotEmpty) (cond c (Ok None) (cond d (Err NotEmpty) over)) ≡ Ok (Some e) → Tested a b c d over (Some e)
tested true b c d over e h = cc
tested false true c d over e h = cc
tested false false true d over e h = cc
tested false false false true over e h = cc
tested false false false false over e h = record { from = refl; to = refl; into = refl; judged = h }

may_by : (w : World) (row : Row) (from to : Names) (e : Edit) (there : Result (Option Row) DiskError) → place w.tree to ≡ there → look w.tree from ≡ Ok row → row.path ≡ from
    → moving_to w.tree row to there ≡ Ok (Some e) → MayMove w from to
may_by w row from to e (Err y) at found here h = cc
may_by w row from to e (Ok there) at found here h =
    let t = tested (is_root row.path) (is_root to) (same_names row.path to) (is_front row.path to) (moving_over w.tree row to there) e h in
    let f = place_found w.tree to there t.to at in
    let y : yields row.kind (row_at w.tree to) w.tree ≡ true = ap (λ o. yields row.kind o w.tree) f.here ∙ over_yields w.tree row to there (Some e) t.judged in
    record {
      row = row;
      found = found;
      here = here;
      goes = and_from (not (length row.path == 0)) _ (ap not t.from) (and_from (not (length to == 0)) _ (ap not t.to) (and_from (not (is_front row.path to)) _ (ap not t.into)
          (and_from (has_dir w.tree (parent_of to)) _ f.above y)));
    }

pub may_move_of : (w : World) (from to : Names) (e : Edit) → moving w.tree from to ≡ Ok (Some e) → MayMove w from to
may_move_of w from to e h =
    let (row, found, here, judged) = found_row w.tree (λ row. moving_to w.tree row to (place w.tree to)) from (Some e) (look w.tree from) refl h in
    may_by w row from to e (place w.tree to) refl found here judged

then_left : (p q : Names) (w m : World) (o : Option FileTime) → is_some (tick_after o) ≡ true → is_none (then_touched q (touched_at p o m)) ≡ false
then_left p q w m None e = cc
then_left p q w m (Some t) e = tick_left q _ (tick t) e

then_none : (p q : Names) (w m : World) (o : Option FileTime) → is_some (tick_after o) ≡ false → is_none (then_touched q (touched_at p o m)) ≡ true
then_none p q w m None e = refl
then_none p q w m (Some t) e = tick_none q _ (tick t) e

move_left_by : (b : Bool) (p q : Names) (w m : World) (o : Option FileTime) → is_some (cond b o (tick_after o)) ≡ true → is_none (cond b (touched_at p o m) (then_touched q (touched_at p o m))) ≡ false
move_left_by true p q w m o e = tick_left p m o e
move_left_by false p q w m o e = then_left p q w m o e

move_none_by : (b : Bool) (p q : Names) (w m : World) (o : Option FileTime) → is_some (cond b o (tick_after o)) ≡ false → is_none (cond b (touched_at p o m) (then_touched q (touched_at p o m))) ≡ true
move_none_by true p q w m o e = tick_none p m o e
move_none_by false p q w m o e = then_none p q w m o e

pub move_left_is : (w : World) (from to : Names) → move_is_left from to w ≡ true → is_none (edited (moves from to) w) ≡ false
move_left_is w from to e =
    move_left_by (same_names (parent_of from) (parent_of to)) (parent_of from) (parent_of to) w (record w { tree = map (moved_row from to) (without to w.tree) }) (tick w.latest) e

pub move_none_is : (w : World) (from to : Names) → move_is_left from to w ≡ false → is_none (edited (moves from to) w) ≡ true
move_none_is w from to e =
    move_none_by (same_names (parent_of from) (parent_of to)) (parent_of from) (parent_of to) w (record w { tree = map (moved_row from to) (without to w.tree) }) (tick w.latest) e

-- what nothing is made of
pub none_at : (allowed : Allowed) (k : Known) → allowed ≡ Ok None → MakesAt allowed k (Ok tt) k
none_at allowed k e = (None, e, refl, refl)

pub on_fail : {T E : Type 0} (r : Result T E) (P : Type 0) (b : Bool) → b ≡ is_err r → b ≡ true → OnErr r P → P
on_fail (Ok x) P b e f h = absurd (let t : false ≡ true = sym e ∙ f in cc)
on_fail (Err x) P b e f h = h
