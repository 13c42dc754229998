-- A path that is moved, with all below it, leaves a tree.
use Rattle.std.proofs.Common.{zero, suc, ◌≡◌, ◌≤◌, ◌<◌, ◌==◌, ◌-◌, ◌+◌, ◌||◌, ◌⊎◌, ◌++◌, [], ℕ, List, Bool, true, false, cond, not, length, map, take, drop, Option, None, Some, Result, Ok, Err, inl, inr, refl, sym, ap, ◌∙◌, arith, append-nil}
use Rattle.std.proofs.lemmas.Bool.{and_parts, not-true, not_from_false, cases_Bool}
use Rattle.std.proofs.lemmas.Bool.Decides.{nat_tests}
use Rattle.std.proofs.lemmas.List.{take-take, drop-take, length-append, length-drop}
use Rattle.std.proofs.Math.Seq.{take-append_seam, take-append-add, drop-append_seam}
use Rattle.dav_core.specs.declared.tree.Row.{Row}
use Rattle.dav_core.specs.declared.tree.Kind.{Kind}
use Rattle.dav_core.specs.declared.tree.Kind.TheVariants.{Dir, File, Link}
use Rattle.dav_core.specs.declared.time.FileTime.{FileTime}
use Rattle.dav_core.specs.declared.change.Change.{Change}
use Rattle.dav_core.specs.declared.change.Change.TheVariants.{AddDir, AddFile, Cut, Remove, Rename}
use Rattle.dav_core.specs.declared.handle.DiskError.{DiskError}
use Rattle.dav_core.specs.Path.{Names, same_names, parent_of, is_front}
use Rattle.dav_core.specs.Tree.{row_at, is_dir, has_dir, is_tree, look}
use Rattle.dav_core.specs.World.{World, Stored}
use Rattle.dav_core.specs.Changes.{tick, timed_row, touched_at, touched, then_touched, made_or, without, moved_row, is_leaf, yields, renames_to, parents_touched, renamed_found, changed}
use Rattle.dav_disk.specs.Files.{IsStored}
use Rattle.dav_disk.proofs.Trees.{Maps, mapped_tree, dir_at, dir_stands, parent_row, not_both, front_yes, front_no, front_parent, front_length, no_front_parent, no_front_root, no_names, IsFront}
use Rattle.dav_disk.proofs.Changed.{Good, GoodIf, made_good, cond_good, touched_good, timed_good, timed_maps, without_good, without_tree, look_in, dir_added_good, file_added_good, cut_good, remove_good}
use Rattle.dav_core.proofs.Paths.{names_same, names_equal, parent_length, front_rest}
use Rattle.dav_core.proofs.Elements.{In, all_at, in_map, map_in, in_filter, filter_in}
use Rattle.dav_core.proofs.Rows.{IsTree, in_row_at, tree_parts}
use Rattle.dav_core.proofs.ChangedRows.{timed_path}

path_yes : (b : Bool) (r : Row) (path : Names) → b ≡ true → (cond b (record r { path = path }) r).path ≡ path
path_yes true r path e = refl
path_yes false r path e = cc

path_no : (b : Bool) (r : Row) (path : Names) → b ≡ false → (cond b (record r { path = path }) r).path ≡ r.path
path_no true r path e = cc
path_no false r path e = refl

pub kind_same : (b : Bool) (r : Row) (path : Names) → (cond b (record r { path = path }) r).kind ≡ r.kind
kind_same true r path = refl
kind_same false r path = refl

pub number_same : (b : Bool) (r : Row) (path : Names) → (cond b (record r { path = path }) r).number ≡ r.number
number_same true r path = refl
number_same false r path = refl

stored_same : (files : ℕ → Option Stored) (b : Bool) (r : Row) (path : Names) → IsStored files r → IsStored files (cond b (record r { path = path }) r)
stored_same files true r path h = h
stored_same files false r path h = h

abbrev new_path : Names → Names → Names → Names
new_path from to path = to ++ drop (length from) path

moved_yes : (from to : Names) (r : Row) → is_front from r.path ≡ true → (moved_row from to r).path ≡ new_path from to r.path
moved_yes from to r e = path_yes (is_front from r.path) r (new_path from to r.path) e

moved_no : (from to : Names) (r : Row) → is_front from r.path ≡ false → (moved_row from to r).path ≡ r.path
moved_no from to r e = path_no (is_front from r.path) r (new_path from to r.path) e

front_is : (front path : Names) → IsFront front path → is_front front path ≡ true
front_is front path e = names_equal front (take (length front) path) e

to_front : (to rest : Names) → IsFront to (to ++ rest)
to_front to rest = sym (take-append_seam to rest)

same_rest : (to x y : Names) → to ++ x ≡ to ++ y → x ≡ y
same_rest to x y e = sym (drop-append_seam to x) ∙ ap (drop (length to)) e ∙ drop-append_seam to y

-- what isn't below a path, is not where a row below it comes from
not_moved_there : (to path rest : Names) → not (is_front to path) ≡ true → to ++ rest ≡ path → ⊥
not_moved_there to path rest keep e = not_both (is_front to path) (front_is to path (to_front to rest ∙ ap (take (length to)) e)) (not-true (is_front to path) keep)

moved_apart : (from to : Names) (r s : Row) → not (is_front to r.path) ≡ true → not (is_front to s.path) ≡ true → (moved_row from to r).path ≡ (moved_row from to s).path
    → ((is_front from r.path ≡ true) ⊎ (is_front from r.path ≡ false)) → ((is_front from s.path ≡ true) ⊎ (is_front from s.path ≡ false)) → r.path ≡ s.path
moved_apart from to r s k l e (inl a) (inl b) =
    let rests = same_rest to (drop (length from) r.path) (drop (length from) s.path) (sym (moved_yes from to r a) ∙ e ∙ moved_yes from to s b) in
    front_rest from r.path a ∙ ap (λ rest. from ++ rest) rests ∙ sym (front_rest from s.path b)
moved_apart from to r s k l e (inl a) (inr b) = absurd (not_moved_there to s.path (drop (length from) r.path) l (sym (moved_yes from to r a) ∙ e ∙ moved_no from to s b))
moved_apart from to r s k l e (inr a) (inl b) = absurd (not_moved_there to r.path (drop (length from) s.path) k (sym (moved_yes from to s b) ∙ sym e ∙ moved_no from to r a))
moved_apart from to r s k l e (inr a) (inr b) = sym (moved_no from to r a) ∙ e ∙ moved_no from to s b

-- what a rename needs, of the paths and of the rows
pub record Fits (tree : List Row) (from to : Names) : Type 0 where
  pub some_from : (length from == 0) ≡ false
  pub some_to : (length to == 0) ≡ false
  pub not_into : is_front from to ≡ false
  pub parent : has_dir tree (parent_of to) ≡ true

abbrev kept : Names → Row → Bool
kept to row = not (is_front to row.path)

-- the directory above the new path stays where it is
to_parent : (tree : List Row) (from to : Names) → Fits tree from to → (d : Row) × In d (without to tree) × (d.kind ≡ Dir) × ((moved_row from to d).path ≡ parent_of to)
to_parent tree from to fits =
    let d = dir_at tree (parent_of to) fits.parent in
    let below : is_front to d.0.path ≡ false = front_no to d.0.path (λ f. no_front_parent to fits.some_to (f ∙ ap (take (length to)) d.2)) in
    let still : is_front from d.0.path ≡ false = front_no from d.0.path (λ f. not_both (is_front from to) (front_is from to (front_parent from to (f ∙ ap (take (length from)) d.2))) fits.not_into) in
    (d.0, filter_in (kept to) tree d.0 (not_from_false (is_front to d.0.path) below) d.1, d.3, moved_no from to d.0 still ∙ d.2)

length_zero : (path : Names) → (length path == 0) ≡ false → 0 < length path
length_zero path e = grind (arith, nat_tests)

-- the parent of a path below the one that is moved
parent_moved : (from to path : Names) → IsFront from path → (length (drop (length from) path) == 0) ≡ false
    → IsFront from (parent_of path) × (new_path from to (parent_of path) ≡ parent_of (new_path from to path))
parent_moved from to path front some =
    let rest = length_zero (drop (length from) path) some in
    let count = length-drop (length from) path in
    let fits : length from ≤ length path - 1 = omega arith in
    let left : ℕ = length (drop (length from) path) - 1 in
    let total : length path - 1 ≡ length from + (length (drop (length from) path) - 1) = omega arith in
    let sum = length-append to (drop (length from) path) in
    let more : length (to ++ drop (length from) path) - 1 ≡ length to + (length (drop (length from) path) - 1) = omega arith in (
      front ∙ sym (take-take (length from) (length path - 1) path fits),
      ap (λ n. to ++ drop (length from) (take n path)) total
          ∙ ap (λ rest. to ++ rest) (drop-take (length from) (length (drop (length from) path) - 1) path)
          ∙ sym (take-append-add to (drop (length from) path) (length (drop (length from) path) - 1))
          ∙ ap (λ n. take n (to ++ drop (length from) path)) (sym more),
    )

moved_parent : (tree : List Row) (from to : Names) (r : Row) → Fits tree from to → IsTree (without to tree) → In r (without to tree) → (length r.path == 0) ≡ false
    → ((is_front from r.path ≡ true) ⊎ (is_front from r.path ≡ false)) → ((length (drop (length from) r.path) == 0) ≡ true) ⊎ ((length (drop (length from) r.path) == 0) ≡ false)
    → (d : Row) × In d (without to tree) × (d.kind ≡ Dir) × ((moved_row from to d).path ≡ parent_of (moved_row from to r).path)
moved_parent tree from to r fits p i some (inl moves) (inl none) =
    let d = to_parent tree from to fits in
    let here = moved_yes from to r moves ∙ ap (λ rest. to ++ rest) (no_names (drop (length from) r.path) none) ∙ append-nil to in
    (d.0, d.1, d.2, d.3 ∙ ap parent_of (sym here))
moved_parent tree from to r fits p i some (inl moves) (inr more) =
    let d = parent_row (without to tree) r p i some in
    let steps = parent_moved from to r.path (front_yes from r.path moves) more in
    let front = front_is from d.0.path (steps.0 ∙ ap (take (length from)) (sym d.2)) in
    (d.0, d.1, d.3, moved_yes from to d.0 front ∙ ap (new_path from to) d.2 ∙ steps.1 ∙ ap parent_of (sym (moved_yes from to r moves)))
moved_parent tree from to r fits p i some (inr away) rest =
    let d = parent_row (without to tree) r p i some in
    let still : is_front from d.0.path ≡ false = front_no from d.0.path (λ f. not_both (is_front from r.path) (front_is from r.path (front_parent from r.path (f ∙ ap (take (length from)) d.2))) away) in
    (d.0, d.1, d.3, moved_no from to d.0 still ∙ d.2 ∙ ap parent_of (sym (moved_no from to r away)))

moved_top : (from to : Names) (r : Row) → (length to == 0) ≡ false → ((is_front from r.path ≡ true) ⊎ (is_front from r.path ≡ false)) → (length (moved_row from to r).path == 0) ≡ true → (length r.path == 0) ≡ true
moved_top from to r some (inl moves) none =
    let e : new_path from to r.path ≡ [] = no_names (new_path from to r.path) (sym (ap (λ (p : Names). length p == 0) (moved_yes from to r moves)) ∙ none) in
    let l = sym (length-append to (drop (length from) r.path)) ∙ ap length e in
    let n = length_zero to some in
    absurd (omega arith)
moved_top from to r some (inr away) none = sym (ap (λ (p : Names). length p == 0) (moved_no from to r away)) ∙ none

moved_root : (from to : Names) (r : Row) → (length from == 0) ≡ false → r.path ≡ [] → (moved_row from to r).path ≡ []
moved_root from to r some e = moved_no from to r (front_no from r.path (λ f. no_front_root from some (f ∙ ap (take (length from)) e))) ∙ e

pub moved_maps : (tree : List Row) (from to : Names) → is_tree tree ≡ true → Fits tree from to → Maps (without to tree) (moved_row from to)
moved_maps tree from to whole fits =
    let p = tree_parts (without to tree) (without_tree tree to whole fits.some_to) in record {
      kind = λ r. kind_same (is_front from r.path) r (new_path from to r.path);
      number = λ r. number_same (is_front from r.path) r (new_path from to r.path);
      apart = λ r s i j e. moved_apart from to r s (in_filter (kept to) tree r i).1 (in_filter (kept to) tree s j).1 e (cases_Bool (is_front from r.path)) (cases_Bool (is_front from s.path));
      root = λ r e. moved_root from to r fits.some_from e;
      top = λ r i e. moved_top from to r fits.some_to (cases_Bool (is_front from r.path)) e;
      parent = λ r i some. moved_parent tree from to r fits p i some (cases_Bool (is_front from r.path)) (cases_Bool (length (drop (length from) r.path) == 0));
    }

abbrev pub moved_world : World → Names → Names → World
moved_world w from to = record w { tree = map (moved_row from to) (without to w.tree) }

pub moved_good : (w : World) (from to : Names) → Good w → Fits w.tree from to → Good (moved_world w from to)
moved_good w from to g fits =
    let rest = without_good w to g fits.some_to in record {
      tree = mapped_tree (without to w.tree) (moved_row from to) rest.tree (moved_maps w.tree from to g.tree fits);
      stored = λ y i.
          (let (r, at, e) = in_map (moved_row from to) (without to w.tree) y i in
          rw e (stored_same w.files (is_front from r.path) r (new_path from to r.path) (rest.stored r at)));
      numbers = λ y i.
          (let (r, at, e) = in_map (moved_row from to) (without to w.tree) y i in
          rw (e, number_same (is_front from r.path) r (new_path from to r.path)) (rest.numbers r at));
    }

-- ---- the directories whose names changed

pub to_parent_stands : (w : World) (from to : Names) → Good w → Fits w.tree from to → has_dir (moved_world w from to).tree (parent_of to) ≡ true
to_parent_stands w from to g fits =
    let d = to_parent w.tree from to fits in
    let f = moved_row from to in
    dir_stands (map f (without to w.tree)) (f d.0) (parent_of to) (tree_parts (map f (without to w.tree)) (moved_good w from to g fits).tree).apart
    (map_in f (without to w.tree) d.0 d.1) (kind_same (is_front from d.0.path) d.0 (new_path from to d.0.path) ∙ d.2) d.3

some_length : (path : Names) (k n : ℕ) → length path ≡ k + suc n → (length path == 0) ≡ false
some_length path k n e = grind (arith, nat_tests)

-- each proper front of a row's path is a directory
fronts : (rows : List Row) (n k : ℕ) (r : Row) → IsTree rows → In r rows → length r.path ≡ k + suc n → (e : Row) × In e rows × (e.path ≡ take k r.path) × (e.kind ≡ Dir)
fronts rows zero k r p i len =
    let d = parent_row rows r p i (some_length r.path k 0 len) in
    let count : length r.path - 1 ≡ k = omega arith in
    (d.0, d.1, d.2 ∙ ap (λ n. take n r.path) count, d.3)
fronts rows (suc n) k r p i len =
    let d = parent_row rows r p i (some_length r.path k (suc n) len) in
    let l = parent_length r.path in
    let m = ap length d.2 in
    let shorter : length d.0.path ≡ k + suc n = omega arith in
    let fits : k ≤ length r.path - 1 = omega arith in
    let (e, at, path, kind) = fronts rows n k d.0 p d.1 shorter in
    (e, at, path ∙ ap (take k) d.2 ∙ take-take k (length r.path - 1) r.path fits, kind)

only_other : (a b : Bool) → a ≡ true → (not a || b) ≡ true → b ≡ true
only_other true b e f = f
only_other false b e f = cc

no_leaf : (tree : List Row) (path : Names) (row : Row) → In row tree → is_leaf path tree ≡ true → IsFront path row.path → (path ≡ row.path → ⊥) → ⊥
no_leaf tree path row i leaf front differs =
    let here = all_at (λ (row : Row). not (is_front path row.path) || same_names path row.path) tree row leaf i in
    differs (names_same path row.path (only_other (is_front path row.path) (same_names path row.path) (front_is path row.path front) here))

no_yield : (kind : Kind) (tree : List Row) (e row : Row) → In row tree → e.kind ≡ Dir → IsFront e.path row.path → (e.path ≡ row.path → ⊥) → yields kind (Some e) tree ≡ true → ⊥
no_yield Dir tree e row i dir front differs y = no_leaf tree e.path row i (and_parts (is_dir e.kind) (is_leaf e.path tree) y).1 front differs
no_yield File tree e row i dir front differs y = not_both (is_dir e.kind) (ap is_dir dir) (not-true (is_dir e.kind) y)
no_yield Link tree e row i dir front differs y = not_both (is_dir e.kind) (ap is_dir dir) (not-true (is_dir e.kind) y)

-- nothing is moved onto a path above it
not_above : (tree : List Row) (row : Row) (to : Names) → IsTree tree → In row tree → Fits tree row.path to → yields row.kind (row_at tree to) tree ≡ true → IsFront to (parent_of row.path) → ⊥
not_above tree row to p i fits y front =
    let l = front_length to (parent_of row.path) front in
    let m = parent_length row.path in
    let some = length_zero row.path fits.some_from in
    let len : length row.path ≡ length to + suc (length row.path - length to - 1) = omega arith in
    let above = front_parent to row.path front in
    let (e, at, path, dir) = fronts tree (length row.path - length to - 1) (length to) row p i len in
    let here : e.path ≡ to = path ∙ sym above in
    let found = ap (row_at tree) (sym here) ∙ in_row_at tree e p.apart at in
    no_yield row.kind tree e row i dir (ap (λ (p : Names). p) here ∙ above ∙ ap (λ n. take n row.path) (ap length (sym here)))
    (λ same. let lengths = ap length (sym here ∙ same) in omega arith)
    (ap (λ o. yields row.kind o tree) (sym found) ∙ y)

pub from_parent_stands : (w : World) (row : Row) (to : Names) → Good w → In row w.tree → Fits w.tree row.path to → yields row.kind (row_at w.tree to) w.tree ≡ true
    → has_dir (moved_world w row.path to).tree (parent_of row.path) ≡ true
from_parent_stands w row to g i fits y =
    let p = tree_parts w.tree g.tree in
    let d = parent_row w.tree row p i fits.some_from in
    let f = moved_row row.path to in
    let below : is_front to d.0.path ≡ false = front_no to d.0.path (λ front. not_above w.tree row to p i fits y (front ∙ ap (take (length to)) d.2)) in
    let still : is_front row.path d.0.path ≡ false = front_no row.path d.0.path (λ front. no_front_parent row.path fits.some_from (front ∙ ap (take (length row.path)) d.2)) in
    dir_stands (map f (without to w.tree)) (f d.0) (parent_of row.path) (tree_parts (map f (without to w.tree)) (moved_good w row.path to g fits).tree).apart
    (map_in f (without to w.tree) d.0 (filter_in (kept to) w.tree d.0 (not_from_false (is_front to d.0.path) below) d.1))
    (kind_same (is_front row.path d.0.path) d.0 (new_path row.path to d.0.path) ∙ d.3) (moved_no row.path to d.0 still ∙ d.2)

-- a directory stands where it stood, after a time was set
timed_dir : (w : World) (path other : Names) (t : FileTime) → Good w → has_dir w.tree path ≡ true → has_dir w.tree other ≡ true → has_dir (map (timed_row other t) w.tree) path ≡ true
timed_dir w path other t g dir there =
    let d = dir_at w.tree path dir in
    let f = timed_row other t in
    let m = timed_maps w.tree other t g.tree in
    dir_stands (map f w.tree) (f d.0) path (tree_parts (map f w.tree) (timed_good w other t g there).tree).apart (map_in f w.tree d.0 d.1) (m.kind d.0 ∙ d.3) (timed_path other t d.0 ∙ d.2)

then_good : (w : World) (path other : Names) (o : Option FileTime) → Good w → has_dir w.tree path ≡ true → has_dir w.tree other ≡ true → GoodIf (then_touched path (touched_at other o w))
then_good w path other None g dir there = tt
then_good w path other (Some t) g dir there =
    touched_good path (tick t) (record w { tree = map (timed_row other t) w.tree; latest = t }) (timed_good w other t g there) (timed_dir w path other t g dir there)

cond_if : (b : Bool) (x y : Option World) → GoodIf x → GoodIf y → GoodIf (cond b x y)
cond_if true x y h g = h
cond_if false x y h g = g

pub parents_good : (w : World) (from to : Names) → Good w → has_dir w.tree (parent_of from) ≡ true → has_dir w.tree (parent_of to) ≡ true → GoodIf (parents_touched from to w)
parents_good w from to g here there =
    cond_if (same_names (parent_of from) (parent_of to)) (touched (parent_of from) w) (then_touched (parent_of to) (touched (parent_of from) w))
    (touched_good (parent_of from) (tick w.latest) w g here)
    (then_good w (parent_of to) (parent_of from) (tick w.latest) g there here)

fits_of : (w : World) (row : Row) (to : Names) → renames_to w row to ≡ true → Fits w.tree row.path to × (yields row.kind (row_at w.tree to) w.tree ≡ true)
fits_of w row to e =
    let t = and_parts (not (length row.path == 0)) _ e in
    let u = and_parts (not (length to == 0)) _ t.1 in
    let v = and_parts (not (is_front row.path to)) _ u.1 in
    let x = and_parts (has_dir w.tree (parent_of to)) _ v.1 in (
      record {
        some_from = not-true (length row.path == 0) t.0;
        some_to = not-true (length to == 0) u.0;
        not_into = not-true (is_front row.path to) v.0;
        parent = x.0;
      },
      x.1,
    )

renamed_good : (w : World) (found : Result Row DiskError) (to : Names) → Good w → ((row : Row) → found ≡ Ok row → In row w.tree) → Good (renamed_found found to w)
renamed_good w (Err e) to g h = g
renamed_good w (Ok row) to g h =
    cond_good (renames_to w row to) (made_or w (parents_touched row.path to (moved_world w row.path to))) w (λ may.
    let (fits, y) = fits_of w row to may in
    let i = h row refl in
    made_good w (parents_touched row.path to (moved_world w row.path to)) g
    (parents_good (moved_world w row.path to) row.path to (moved_good w row.path to g fits) (from_parent_stands w row to g i fits y) (to_parent_stands w row.path to g fits)))
    (λ stays. g)

-- each change keeps what holds of a world
pub changed_good : (w : World) (change : Change) → Good w → Good (changed w change)
changed_good w (AddDir path) g = dir_added_good w path g
changed_good w (AddFile path bytes) g = file_added_good w path bytes g
changed_good w (Cut path len) g = cut_good w path len g
changed_good w (Remove path) g = remove_good w path g
changed_good w (Rename from to) g = renamed_good w (look w.tree from) to g (look_in w.tree from)
