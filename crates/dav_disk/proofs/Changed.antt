-- Each change of a batch keeps what holds of a disk's world: its rows are a tree, its files are stored, and no number is above the greatest.
use Rattle.std.proofs.Common.{◌≡◌, ◌≢◌, ◌≤◌, ◌==◌, ◌+◌, ◌&&◌, ◌||◌, ◌⊎◌, ◌∷◌, ◌++◌, [], ℕ, List, Bool, true, false, cond, not, length, map, take, nat_lt, Option, None, Some, Result, Ok, Err, inl, inr, refl, sym, ap, ◌∙◌, arith}
use Rattle.std.specs.List.{list_any}
use Rattle.std.specs.Option.{is_none, option_map}
use Rattle.std.proofs.lemmas.Bool.{and_parts, not-true, not_from_false}
use Rattle.std.proofs.lemmas.Bool.Decides.{nat_tests}
use Rattle.dav_io.specs.Counts.{greatest}
use Rattle.dav_core.specs.declared.tree.Row.{Row}
use Rattle.dav_core.specs.declared.tree.Kind.{Kind}
use Rattle.dav_core.specs.declared.tree.Kind.TheVariants.{Dir, File, Link}
use Rattle.dav_core.specs.declared.time.FileTime.{FileTime}
use Rattle.dav_core.specs.declared.handle.DiskError.{DiskError}
use Rattle.dav_core.specs.Path.{Names, same_names, parent_of, is_front}
use Rattle.dav_core.specs.Tree.{row_at, is_dir, is_dir_row, has_dir, is_tree, is_apart, look}
use Rattle.dav_core.proofs.LookLemmas.{look_all}
use Rattle.dav_core.specs.World.{World, Stored, put}
use Rattle.dav_core.proofs.UnchangedLemmas.{put_same, put_other}
use Rattle.dav_core.specs.Changes.{tick, timed_row, touched_at, touched, then_touched, is_free_in, added_at, added, stored_in, made_or, dir_added, file_added, cut_at_time, cut_kind, cut_found, without, removed_found}
use Rattle.dav_disk.specs.Files.{IsStored}
use Rattle.dav_disk.proofs.Added.{tree_more, dir_more}
use Rattle.dav_disk.proofs.Trees.{Maps, mapped_tree, filtered_tree, only_row, only_number, dir_stands, parent_row, differs, not_both, front_no, front_parent, no_front_parent, no_front_root, each_in}
use Rattle.dav_core.proofs.Paths.{names_same, names_equal}
use Rattle.dav_core.proofs.Elements.{In, in_map, in_filter, filter_in}
use Rattle.dav_core.proofs.Rows.{in_row_at, tree_parts}
use Rattle.dav_core.proofs.ChangedRows.{set_kind, set_number, set_path}

pub record Good (w : World) : Type 0 where
  pub tree : is_tree w.tree ≡ true
  pub stored : (r : Row) → In r w.tree → IsStored w.files r
  pub numbers : (r : Row) → In r w.tree → r.number ≤ w.greatest

abbrev pub GoodIf : Option World → Type 0
GoodIf None = Unit {0}
GoodIf (Some w) = Good w

pub made_good : (w : World) (o : Option World) → Good w → GoodIf o → Good (made_or w o)
made_good w None g h = g
made_good w (Some v) g h = h

pub cond_good : (b : Bool) (x y : World) → (b ≡ true → Good x) → (b ≡ false → Good y) → Good (cond b x y)
cond_good true x y h g = h refl
cond_good false x y h g = g refl

-- where a directory stands, no file does
pub dirs_only : (rows : List Row) (path : Names) (r : Row) → is_apart rows ≡ true → has_dir rows path ≡ true → In r rows → path ≡ r.path → is_dir r.kind ≡ true
dirs_only rows path r apart dir i e = sym (ap is_dir_row (ap (row_at rows) e ∙ in_row_at rows r apart i)) ∙ dir

-- ---- times

-- rows of which some get a time keep their places
pub set_maps : (rows : List Row) (set : Row → Bool) (t : FileTime) → is_tree rows ≡ true → Maps rows (λ r. cond (set r) (record r { time = t }) r)
set_maps rows set t tree = record {
  kind = λ r. set_kind (set r) t r;
  number = λ r. set_number (set r) t r;
  apart = λ r s i j e. sym (set_path (set r) t r) ∙ e ∙ set_path (set s) t s;
  root = λ r e. set_path (set r) t r ∙ e;
  top = λ r i e. sym (ap (λ (p : Names). length p == 0) (set_path (set r) t r)) ∙ e;
  parent = λ r i some.
      let d = parent_row rows r (tree_parts rows tree) i some in
      (d.0, d.1, d.3, set_path (set d.0) t d.0 ∙ d.2 ∙ ap parent_of (sym (set_path (set r) t r)));
}

pub timed_maps : (rows : List Row) (path : Names) (t : FileTime) → is_tree rows ≡ true → Maps rows (timed_row path t)
timed_maps rows path t tree = set_maps rows (λ r. same_names path r.path) t tree

file_is_no_dir : (k : Kind) → k ≡ File → is_dir k ≡ true → ⊥
file_is_no_dir Dir e f = cc
file_is_no_dir File e f = cc
file_is_no_dir Link e f = cc

timed_stored : (files : ℕ → Option Stored) (b : Bool) (t : FileTime) (r : Row) → IsStored files r → (b ≡ true → is_dir r.kind ≡ true) → IsStored files (cond b (record r { time = t }) r)
timed_stored files true t r s d file = absurd (file_is_no_dir r.kind file (d refl))
timed_stored files false t r s d file = s file

pub timed_good : (w : World) (path : Names) (t : FileTime) → Good w → has_dir w.tree path ≡ true → Good (record w { tree = map (timed_row path t) w.tree; latest = t })
timed_good w path t g dir = record {
  tree = mapped_tree w.tree (timed_row path t) g.tree (timed_maps w.tree path t g.tree);
  stored = λ y i.
      (let (r, at, e) = in_map (timed_row path t) w.tree y i in
      rw e (timed_stored w.files (same_names path r.path) t r (g.stored r at) (λ same. dirs_only w.tree path r (tree_parts w.tree g.tree).apart dir at (names_same path r.path same))));
  numbers = λ y i.
      (let (r, at, e) = in_map (timed_row path t) w.tree y i in
      rw (e, set_number (same_names path r.path) t r) (g.numbers r at));
}

pub touched_good : (path : Names) (o : Option FileTime) (w : World) → Good w → has_dir w.tree path ≡ true → GoodIf (touched_at path o w)
touched_good path None w g dir = tt
touched_good path (Some t) w g dir = timed_good w path t g dir

-- ---- rows more

pub in_more : (rows : List Row) (x y : Row) → In y (rows ++ x ∷ []) → In y rows ⊎ (y ≡ x)
in_more [] x y (inl e) = inr e
in_more [] x y (inr i) = absurd i
in_more (r ∷ rows) x y (inl e) = inl (inl e)
in_more (r ∷ rows) x y (inr i) = elim (in_more rows x y i) [ inl h ↦ inl (inr h) | inr e ↦ inr e ]

greater_number : (n g : ℕ) → n ≤ g → (g + 1 == n) ≡ false
greater_number n g le = grind (arith, nat_tests)

none_any : (a b : Bool) → a ≡ false → not b ≡ true → not (a || b) ≡ true
none_any true b e f = cc
none_any false b e f = f

pub new_number : (rows : List Row) (g : ℕ) → ((r : Row) → In r rows → r.number ≤ g) → not (list_any (λ row. g + 1 == row.number) rows) ≡ true
new_number [] g h = refl
new_number (x ∷ xs) g h = none_any (g + 1 == x.number) (list_any (λ row. g + 1 == row.number) xs) (greater_number x.number g (h x (inl refl))) (new_number xs g (λ r i. h r (inr i)))

more_numbers : (rows : List Row) (x y : Row) (g : ℕ) → ((r : Row) → In r rows → r.number ≤ g) → x.number ≡ g + 1 → In y rows ⊎ (y ≡ x) → y.number ≤ g + 1
more_numbers rows x y g h e (inl i) = let le = h y i in omega arith
more_numbers rows x y g h e (inr same) = let n = ap (λ (r : Row). r.number) same in omega arith

dir_stored : (rows : List Row) (files : ℕ → Option Stored) (x y : Row) → ((r : Row) → In r rows → IsStored files r) → x.kind ≡ Dir → In y rows ⊎ (y ≡ x) → IsStored files y
dir_stored rows files x y h dir (inl i) = h y i
dir_stored rows files x y h dir (inr same) = λ file. absurd (let k = ap (λ (r : Row). r.kind) same in let clash : File ≡ Dir = sym file ∙ k ∙ dir in cc)

other_number : (n g : ℕ) → n ≤ g → n ≢ g + 1
other_number n g le = λ e. omega arith

file_stored : (rows : List Row) (files : ℕ → Option Stored) (x y : Row) (g : ℕ) (bytes : List ℕ) → ((r : Row) → In r rows → IsStored files r) → ((r : Row) → In r rows → r.number ≤ g) → x.number ≡ g + 1
    → In y rows ⊎ (y ≡ x) → IsStored (put (g + 1) (Some (record { bytes = bytes; time = x.time })) files) y
file_stored rows files x y g bytes h numbers e (inl i) =
    λ file. ap (option_map (λ s. s.time)) (put_other (g + 1) y.number (Some (record { bytes = bytes; time = x.time })) files (other_number y.number g (numbers y i))) ∙ h y i file
file_stored rows files x y g bytes h numbers e (inr same) =
    λ file. ap (λ n. option_map (λ s. s.time) (put (g + 1) (Some (record { bytes = bytes; time = x.time })) files n)) (ap (λ (r : Row). r.number) same ∙ e)
    ∙ ap (option_map (λ s. s.time)) (put_same (g + 1) (Some (record { bytes = bytes; time = x.time })) files)
    ∙ ap (λ (r : Row). Some r.time) (sym same)

abbrev row_made : World → Names → Kind → FileTime → Row
row_made w path kind t = record { path = path; kind = kind; number = w.greatest + 1; time = t }

-- a world with a row more
abbrev with_made : World → Names → Kind → FileTime → World
with_made w path kind t = record w { tree = w.tree ++ row_made w path kind t ∷ []; greatest = w.greatest + 1; latest = t }

made_tree : (w : World) (path : Names) (kind : Kind) (t : FileTime) → Good w → is_free_in w.tree path ≡ true → is_tree (with_made w path kind t).tree ≡ true
made_tree w path kind t g free = tree_more w.tree (row_made w path kind t) g.tree free (new_number w.tree w.greatest g.numbers)

free_parent : (rows : List Row) (path : Names) → is_free_in rows path ≡ true → has_dir rows (parent_of path) ≡ true
free_parent rows path free =
    let f = and_parts (not (length path == 0)) (has_dir rows (parent_of path) && is_none (row_at rows path)) free in
    (and_parts (has_dir rows (parent_of path)) (is_none (row_at rows path)) f.1).0

made_parent : (w : World) (path : Names) (kind : Kind) (t : FileTime) → is_free_in w.tree path ≡ true → has_dir (with_made w path kind t).tree (parent_of path) ≡ true
made_parent w path kind t free = dir_more w.tree (row_made w path kind t) (parent_of path) (free_parent w.tree path free)

dir_made_good : (w : World) (path : Names) (t : FileTime) → Good w → is_free_in w.tree path ≡ true → Good (with_made w path Dir t)
dir_made_good w path t g free = record {
  tree = made_tree w path Dir t g free;
  stored = λ r i. dir_stored w.tree w.files (row_made w path Dir t) r g.stored refl (in_more w.tree (row_made w path Dir t) r i);
  numbers = λ r i. more_numbers w.tree (row_made w path Dir t) r w.greatest g.numbers refl (in_more w.tree (row_made w path Dir t) r i);
}

file_made_good : (w : World) (path : Names) (t : FileTime) (bytes : List ℕ) → Good w → is_free_in w.tree path ≡ true
    → Good (record (with_made w path File t) { files = put (w.greatest + 1) (Some (record { bytes = bytes; time = t })) w.files })
file_made_good w path t bytes g free = record {
  tree = made_tree w path File t g free;
  stored = λ r i. file_stored w.tree w.files (row_made w path File t) r w.greatest bytes g.stored g.numbers refl (in_more w.tree (row_made w path File t) r i);
  numbers = λ r i. more_numbers w.tree (row_made w path File t) r w.greatest g.numbers refl (in_more w.tree (row_made w path File t) r i);
}

dir_then : (w : World) (path : Names) (b : Bool) (o : Option FileTime) → Good w → is_free_in w.tree path ≡ true → GoodIf (then_touched (parent_of path) (cond b (added_at path Dir o w) None))
dir_then w path true None g free = tt
dir_then w path true (Some t) g free = touched_good (parent_of path) (tick t) (with_made w path Dir t) (dir_made_good w path t g free) (made_parent w path Dir t free)
dir_then w path false o g free = tt

pub dir_added_good : (w : World) (path : Names) → Good w → Good (dir_added w path)
dir_added_good w path g = cond_good (is_free_in w.tree path) (made_or w (then_touched (parent_of path) (added path Dir w))) w
    (λ free. made_good w (then_touched (parent_of path) (added path Dir w)) g (dir_then w path (nat_lt w.greatest greatest) (tick w.latest) g free))
    (λ no_place. g)

file_then : (w : World) (path : Names) (bytes : List ℕ) (b : Bool) (o : Option FileTime) → Good w → is_free_in w.tree path ≡ true
    → GoodIf (then_touched (parent_of path) (stored_in bytes (cond b (added_at path File o w) None)))
file_then w path bytes true None g free = tt
file_then w path bytes true (Some t) g free =
    touched_good (parent_of path) (tick t) (record (with_made w path File t) { files = put (w.greatest + 1) (Some (record { bytes = bytes; time = t })) w.files })
    (file_made_good w path t bytes g free) (made_parent w path File t free)
file_then w path bytes false o g free = tt

pub file_added_good : (w : World) (path : Names) (bytes : List ℕ) → Good w → Good (file_added w path bytes)
file_added_good w path bytes g = cond_good (is_free_in w.tree path) (made_or w (then_touched (parent_of path) (stored_in bytes (added path File w)))) w
    (λ free. made_good w (then_touched (parent_of path) (stored_in bytes (added path File w))) g (file_then w path bytes (nat_lt w.greatest greatest) (tick w.latest) g free))
    (λ no_place. g)

-- ---- lengths

cut_stored : (files : ℕ → Option Stored) (b : Bool) (row r : Row) (bytes : List ℕ) (t : FileTime) → IsStored files r → (b ≡ true → r.number ≡ row.number) → (b ≡ false → r.number ≢ row.number)
    → IsStored (put row.number (Some (record { bytes = bytes; time = t })) files) (cond b (record r { time = t }) r)
cut_stored files true row r bytes t s same other file =
    ap (λ n. option_map (λ s. s.time) (put row.number (Some (record { bytes = bytes; time = t })) files n)) (same refl)
    ∙ ap (option_map (λ s. s.time)) (put_same row.number (Some (record { bytes = bytes; time = t })) files)
cut_stored files false row r bytes t s same other file = ap (option_map (λ s. s.time)) (put_other row.number r.number (Some (record { bytes = bytes; time = t })) files (other refl)) ∙ s file

cut_time_good : (w : World) (row : Row) (bytes : List ℕ) (t : FileTime) → Good w → In row w.tree
    → Good (record w { tree = map (timed_row row.path t) w.tree; files = put row.number (Some (record { bytes = bytes; time = t })) w.files; latest = t })
cut_time_good w row bytes t g i =
    let apart = (tree_parts w.tree g.tree).apart in record {
      tree = mapped_tree w.tree (timed_row row.path t) g.tree (timed_maps w.tree row.path t g.tree);
      stored = λ y j.
          (let (r, at, e) = in_map (timed_row row.path t) w.tree y j in
          rw e (cut_stored w.files (same_names row.path r.path) row r bytes t (g.stored r at)
          (λ same. ap (λ (r : Row). r.number) (only_row w.tree r row apart at i (sym (names_same row.path r.path same))))
          (λ other n. differs row.path r.path other (ap (λ (r : Row). r.path) (sym (only_number w.tree r row apart at i n))))));
      numbers = λ y j.
          (let (r, at, e) = in_map (timed_row row.path t) w.tree y j in
          rw (e, set_number (same_names row.path r.path) t r) (g.numbers r at));
    }

cut_at_good : (w : World) (row : Row) (len : ℕ) (o : Option FileTime) → Good w → In row w.tree → Good (cut_at_time row len o w)
cut_at_good w row len None g i = g
cut_at_good w row len (Some t) g i = cut_time_good w row _ t g i

cut_kind_good : (w : World) (kind : Kind) (row : Row) (len : ℕ) → Good w → In row w.tree → Good (cut_kind kind row len w)
cut_kind_good w Dir row len g i = g
cut_kind_good w Link row len g i = g
cut_kind_good w File row len g i = cond_good _ w (cut_at_time row len (tick w.latest) w) (λ same. g) (λ other. cut_at_good w row len (tick w.latest) g i)

-- what is found stands in the tree
pub look_in : (tree : List Row) (path : Names) (row : Row) → look tree path ≡ Ok row → In row tree
look_in tree path row e = look_all (λ r. In r tree) tree path row (each_in (λ r. In r tree) tree (λ r i. i)) e

cut_found_good : (w : World) (found : Result Row DiskError) (len : ℕ) → Good w → ((row : Row) → found ≡ Ok row → In row w.tree) → Good (cut_found found len w)
cut_found_good w (Ok row) len g h = cut_kind_good w row.kind row len g (h row refl)
cut_found_good w (Err e) len g h = g

pub cut_good : (w : World) (path : Names) (len : ℕ) → Good w → Good (cut_found (look w.tree path) len w)
cut_good w path len g = cut_found_good w (look w.tree path) len g (look_in w.tree path)

-- ---- rows that go

not_below : (path : Names) (r d : Row) → not (is_front path r.path) ≡ true → d.path ≡ parent_of r.path → not (is_front path d.path) ≡ true
not_below path r d keep e =
    not_from_false (is_front path d.path) (front_no path d.path (λ f. not_both (is_front path r.path)
    (names_equal path _ (front_parent path r.path (f ∙ ap (λ (p : Names). take (length path) p) e)))
    (not-true (is_front path r.path) keep)))

root_stays : (path : Names) (r : Row) → (length path == 0) ≡ false → r.path ≡ [] → not (is_front path r.path) ≡ true
root_stays path r some e = not_from_false (is_front path r.path) (front_no path r.path (λ f. no_front_root path some (f ∙ ap (λ (p : Names). take (length path) p) e)))

pub without_tree : (rows : List Row) (path : Names) → is_tree rows ≡ true → (length path == 0) ≡ false → is_tree (without path rows) ≡ true
without_tree rows path tree some = filtered_tree rows (λ row. not (is_front path row.path)) tree (λ r e. root_stays path r some e) (not_below path)

pub without_good : (w : World) (path : Names) → Good w → (length path == 0) ≡ false → Good (record w { tree = without path w.tree })
without_good w path g some = record {
  tree = without_tree w.tree path g.tree some;
  stored = λ r i. g.stored r (in_filter (λ (row : Row). not (is_front path row.path)) w.tree r i).0;
  numbers = λ r i. g.numbers r (in_filter (λ (row : Row). not (is_front path row.path)) w.tree r i).0;
}

parent_stays : (w : World) (row : Row) → Good w → In row w.tree → (length row.path == 0) ≡ false → has_dir (without row.path w.tree) (parent_of row.path) ≡ true
parent_stays w row g i some =
    let p = tree_parts w.tree g.tree in
    let d = parent_row w.tree row p i some in
    let keep : Row → Bool = λ r. not (is_front row.path r.path) in
    dir_stands (without row.path w.tree) d.0 (parent_of row.path) (tree_parts (without row.path w.tree) (without_tree w.tree row.path g.tree some)).apart
    (filter_in keep w.tree d.0 (not_from_false (is_front row.path d.0.path) (front_no row.path d.0.path (λ f. no_front_parent row.path some (f ∙ ap (λ (p : Names). take (length row.path) p) d.2)))) d.1)
    d.3 d.2

removed_good : (w : World) (found : Result Row DiskError) → Good w → ((row : Row) → found ≡ Ok row → In row w.tree) → Good (removed_found found w)
removed_good w (Err e) g h = g
removed_good w (Ok row) g h =
    cond_good (length row.path == 0) w (made_or w (touched (parent_of row.path) (record w { tree = without row.path w.tree }))) (λ root. g) (λ some.
    made_good w (touched (parent_of row.path) (record w { tree = without row.path w.tree })) g
    (touched_good (parent_of row.path) (tick w.latest) (record w { tree = without row.path w.tree }) (without_good w row.path g some) (parent_stays w row g (h row refl) some)))

pub remove_good : (w : World) (path : Names) → Good w → Good (removed_found (look w.tree path) w)
remove_good w path g = removed_good w (look w.tree path) g (look_in w.tree path)
