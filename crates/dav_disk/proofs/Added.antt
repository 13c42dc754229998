-- A row more keeps a tree a tree, and each of its files stored.
use Rattle.std.proofs.Common.{◌≡◌, ◌≢◌, ◌==◌, ◌&&◌, ◌||◌, ◌++◌, ◌∷◌, [], ℕ, List, Bool, true, false, cond, not, length, Option, None, Some, max, refl, ap, ◌∙◌, arith}
use mathlib.Core.Path.{fun_ext}
use Rattle.std.specs.List.{list_any, list_all, AllByRecursion}
use Rattle.std.specs.Option.{is_none, option_map}
use Rattle.std.proofs.lemmas.Bool.{and_parts, and_from}
use Rattle.std.proofs.lemmas.Bool.Decides.{nat_tests}
use Rattle.std.proofs.lemmas.List.Elements.{All-from_recursion, recursion_from_All}
use Rattle.dav_core.specs.declared.tree.Row.{Row}
use Rattle.dav_core.specs.declared.tree.Kind.{Kind}
use Rattle.dav_core.specs.declared.tree.Kind.TheVariants.{Dir, File}
use Rattle.dav_core.specs.declared.time.FileTime.{FileTime}
use Rattle.dav_core.specs.Path.{Names, same_names, parent_of}
use Rattle.dav_core.specs.Tree.{row_at, is_dir, is_dir_row, has_dir, is_placed, is_free, is_apart, is_tree}
use Rattle.dav_core.specs.Changes.{is_free_in}
use Rattle.dav_core.specs.World.{World, Stored, put, at_key}
use Rattle.dav_core.proofs.UnchangedLemmas.{equal_keys, put_other, put_same}
use Rattle.std.specs.BTreeMap.{BTreeMap, Updates, UpdatesBy}
use Rattle.std.specs.Ordering.{nat_cmp}
use Rattle.dav_core.proofs.TablesLemmas.{updates_put, put_map, value_put}
use Rattle.dav_disk.specs.declared.tables.StoredFile.{StoredFile}
use Rattle.dav_disk.specs.Files.{IsStored, AreStored, stored_of, stored_at}
use Rattle.dav_disk.specs.Rows.{is_new_number, can_add, can_be_set, with_file, later_of, second_past}
use Rattle.dav_disk.specs.Calls.{Known}
use Rattle.dav_core.specs.Disk.{Live}

cond_more : (b x y z : Bool) → (y ≡ true → z ≡ true) → cond b x y ≡ true → cond b x z ≡ true
cond_more true x y z h e = e
cond_more false x y z h e = h e

all_more : (p : Row → Bool) (rows : List Row) (row : Row) → list_all p rows ≡ true → p row ≡ true → list_all p (rows ++ row ∷ []) ≡ true
all_more p [] row e f = and_from (p row) true f refl
all_more p (r ∷ rows) row e f = let t = and_parts (p r) (list_all p rows) e in and_from (p r) (list_all p (rows ++ row ∷ [])) t.0 (all_more p rows row t.1 f)

pub all_weaker : (p q : Row → Bool) (rows : List Row) → ((r : Row) → p r ≡ true → q r ≡ true) → list_all p rows ≡ true → list_all q rows ≡ true
all_weaker p q [] h e = refl
all_weaker p q (r ∷ rows) h e = let t = and_parts (p r) (list_all p rows) e in and_from (q r) (list_all q rows) (h r t.0) (all_weaker p q rows h t.1)

dir_chosen : (b : Bool) (r : Row) (o p : Option Row) → (is_dir_row o ≡ true → is_dir_row p ≡ true) → is_dir_row (cond b (Some r) o) ≡ true → is_dir_row (cond b (Some r) p) ≡ true
dir_chosen true r o p h e = e
dir_chosen false r o p h e = h e

pub dir_more : (rows : List Row) (row : Row) (path : Names) → has_dir rows path ≡ true → has_dir (rows ++ row ∷ []) path ≡ true
dir_more [] row path e = cc
dir_more (r ∷ rows) row path e = dir_chosen (same_names path r.path) r (row_at rows path) (row_at (rows ++ row ∷ []) path) (dir_more rows row path) e

placed_more : (rows : List Row) (row r : Row) → is_placed rows r ≡ true → is_placed (rows ++ row ∷ []) r ≡ true
placed_more rows row r e = cond_more (length r.path == 0) (is_dir r.kind) (has_dir rows (parent_of r.path)) (has_dir (rows ++ row ∷ []) (parent_of r.path)) (dir_more rows row (parent_of r.path)) e

placed_in : (b x y : Bool) → not b ≡ true → y ≡ true → cond b x y ≡ true
placed_in true x y e f = cc
placed_in false x y e f = f

-- a row has neither this path nor this number
abbrev pub is_other : Names → ℕ → Row → Bool
is_other path number r = not (same_names path r.path) && not (number == r.number)

other_step : (a b : Bool) (r : Row) (o : Option Row) (any : Bool) → is_none (cond a (Some r) o) ≡ true → not (b || any) ≡ true
    → ((not a && not b) ≡ true) × ((is_none o ≡ true) × (not any ≡ true))
other_step true b r o any e f = cc
other_step false true r o any e f = cc
other_step false false r o any e f = (refl, (e, f))

all_other : (rows : List Row) (path : Names) (number : ℕ) → is_none (row_at rows path) ≡ true → not (list_any (λ row. number == row.number) rows) ≡ true
    → list_all (is_other path number) rows ≡ true
all_other [] path number e f = refl
all_other (r ∷ rows) path number e f =
    let t = other_step (same_names path r.path) (number == r.number) r (row_at rows path) (list_any (λ row. number == row.number) rows) e f in
    and_from (is_other path number r) (list_all (is_other path number) rows) t.0 (all_other rows path number t.1.0 t.1.1)

apart_more : (rows : List Row) (row : Row) → list_all (is_other row.path row.number) rows ≡ true → is_apart rows ≡ true → is_apart (rows ++ row ∷ []) ≡ true
apart_more [] row e f = refl
apart_more (r ∷ rows) row e f =
    let t = and_parts (is_other row.path row.number r) (list_all (is_other row.path row.number) rows) e in
    let u = and_parts (is_free rows r) (is_apart rows) f in
    and_from (is_free (rows ++ row ∷ []) r) (is_apart (rows ++ row ∷ [])) (all_more (λ other. not (same_names other.path r.path) && not (other.number == r.number)) rows row u.0 t.0) (apart_more rows row t.1 u.1)

pub tree_more : (rows : List Row) (row : Row) → is_tree rows ≡ true → is_free_in rows row.path ≡ true → not (list_any (λ r. row.number == r.number) rows) ≡ true
    → is_tree (rows ++ row ∷ []) ≡ true
tree_more rows row tree free new =
    let t = and_parts (has_dir rows []) (list_all (is_placed rows) rows && is_apart rows) tree in
    let u = and_parts (list_all (is_placed rows) rows) (is_apart rows) t.1 in
    let f = and_parts (not (length row.path == 0)) (has_dir rows (parent_of row.path) && is_none (row_at rows row.path)) free in
    let g = and_parts (has_dir rows (parent_of row.path)) (is_none (row_at rows row.path)) f.1 in
    and_from (has_dir (rows ++ row ∷ []) []) (list_all (is_placed (rows ++ row ∷ [])) (rows ++ row ∷ []) && is_apart (rows ++ row ∷ [])) (dir_more rows row [] t.0)
    (and_from (list_all (is_placed (rows ++ row ∷ [])) (rows ++ row ∷ [])) (is_apart (rows ++ row ∷ []))
    (all_more (is_placed (rows ++ row ∷ [])) rows row
    (all_weaker (is_placed rows) (is_placed (rows ++ row ∷ [])) rows (placed_more rows row) u.0)
    (placed_in (length row.path == 0) (is_dir row.kind) (has_dir (rows ++ row ∷ []) (parent_of row.path)) f.0 (dir_more rows row (parent_of row.path) g.0)))
    (apart_more rows row (all_other rows row.path row.number g.1 new) u.1))

recursion_more : (P : Row → Type 0) (rows : List Row) (row : Row) → AllByRecursion P rows → P row → AllByRecursion P (rows ++ row ∷ [])
recursion_more P [] row all p = (p, tt)
recursion_more P (r ∷ rows) row all p = (all.0, recursion_more P rows row all.1 p)

-- a directory more needs no bytes
pub stored_dir : (rows : List Row) (files : ℕ → Option Stored) (row : Row) → row.kind ≡ Dir → AreStored rows files → AreStored (rows ++ row ∷ []) files
stored_dir rows files row dir stored =
    All-from_recursion (IsStored files) (rows ++ row ∷ []) (recursion_more (IsStored files) rows row (recursion_from_All (IsStored files) rows stored) (λ file. cc))

pub not_equal : (n m : ℕ) → not (n == m) ≡ true → m ≢ n
not_equal n m e = grind (arith, nat_tests)

pub other_numbers : (a b : Bool) → not (a || b) ≡ true → (not a ≡ true) × (not b ≡ true)
other_numbers true b e = cc
other_numbers false b e = (refl, e)

stored_kept : (files : ℕ → Option Stored) (number : ℕ) (s : Stored) (row : Row) → row.number ≢ number → IsStored files row → IsStored (put number (Some s) files) row
stored_kept files number s row ne stored file = ap (option_map (λ s. s.time)) (put_other number row.number (Some s) files ne) ∙ stored file

all_kept : (files : ℕ → Option Stored) (number : ℕ) (s : Stored) (rows : List Row) → not (list_any (λ r. number == r.number) rows) ≡ true
    → AllByRecursion (IsStored files) rows → AllByRecursion (IsStored (put number (Some s) files)) rows
all_kept files number s [] new all = tt
all_kept files number s (r ∷ rows) new all =
    let t = other_numbers (number == r.number) (list_any (λ r. number == r.number) rows) new in
    (stored_kept files number s r (not_equal number r.number t.0) all.0, all_kept files number s rows t.1 all.1)

-- a file more is stored under its new number
pub stored_file : (rows : List Row) (files : ℕ → Option Stored) (row : Row) (bytes : List ℕ) → not (list_any (λ r. row.number == r.number) rows) ≡ true
    → AreStored rows files → AreStored (rows ++ row ∷ []) (put row.number (Some (record { bytes = bytes; time = row.time })) files)
stored_file rows files row bytes new stored =
    let s : Stored = record { bytes = bytes; time = row.time } in
    All-from_recursion (IsStored (put row.number (Some s) files)) (rows ++ row ∷ [])
    (recursion_more (IsStored (put row.number (Some s) files)) rows row
    (all_kept files row.number s rows new (recursion_from_All (IsStored files) rows stored))
    (λ file. ap (option_map (λ s. s.time)) (put_same row.number (Some s) files)))

-- what may be added
pub record Addable (w : World) (path : Names) (number : ℕ) (time : FileTime) : Type 0 where
  pub free : is_free_in w.tree path ≡ true
  pub new : not (list_any (λ row. number == row.number) w.tree) ≡ true
  pub unstored : is_none (w.files number) ≡ true
  pub settable : can_be_set time ≡ true

pub addable : (w : World) (path : Names) (number : ℕ) (time : FileTime) → can_add w path number time ≡ true → Addable w path number time
addable w path number time e =
    let t = and_parts (is_free_in w.tree path) _ e in
    let u = and_parts (is_new_number w number) _ t.1 in
    let v = and_parts _ (can_be_set time) u.1 in
    let n = and_parts (not (list_any (λ row. number == row.number) w.tree)) _ u.0 in
    record { free = t.0; new = n.0; unstored = n.1; settable = v.1 }

abbrev pub known_as : World → (ℕ → Option Live) → Known
known_as w live = record { world = w; live = live }

abbrev pub row_of : Names → Kind → ℕ → FileTime → Row
row_of path kind number time = record { path = path; kind = kind; number = number; time = time }

-- a directory that may be added
pub dir_set : (w : World) (path copy : Names) (number : ℕ) (time : FileTime) (new : List Row) → can_add w path number time ≡ true → is_tree w.tree ≡ true → AreStored w.tree w.files
    → copy ≡ path → new ≡ w.tree ++ row_of copy Dir number time ∷ [] → (is_tree new ≡ true) × AreStored new w.files
dir_set w path copy number time new can tree stored same e =
    let a = addable w path number time can in
    rw (e, same) (tree_more w.tree (row_of path Dir number time) tree a.free a.new, stored_dir w.tree w.files (row_of path Dir number time) refl stored)

-- a file that may be added
pub file_set : (w : World) (path copy : Names) (number : ℕ) (time : FileTime) (bytes : List ℕ) (mid new : List Row) (files : ℕ → Option Stored) → can_add w path number time ≡ true
    → is_tree w.tree ≡ true → AreStored w.tree w.files → copy ≡ path → mid ≡ w.tree → new ≡ mid ++ row_of copy File number time ∷ []
    → files ≡ put number (Some (record { bytes = bytes; time = time })) w.files → (is_tree new ≡ true) × AreStored new files
file_set w path copy number time bytes mid new files can tree stored same before e f =
    let a = addable w path number time can in
    rw (e, f, same, before) (tree_more w.tree (row_of path File number time) tree a.free a.new, stored_file w.tree w.files (row_of path File number time) bytes a.new stored)

-- what is known after a file was added
pub file_known : (w : World) (live : ℕ → Option Live) (path copy : Names) (number : ℕ) (time : FileTime) (bytes : List ℕ) (mid new : List Row) (files : ℕ → Option Stored) (greatest : ℕ) (latest past : FileTime)
    → copy ≡ path → mid ≡ w.tree → new ≡ mid ++ row_of copy File number time ∷ [] → files ≡ put number (Some (record { bytes = bytes; time = time })) w.files
    → greatest ≡ max w.greatest number → latest ≡ later_of w.latest past → past ≡ second_past time
    → known_as (record w { tree = new; files = files; greatest = greatest; latest = latest }) live ≡ known_as (with_file w path number time bytes) live
file_known w live path copy number time bytes mid new files greatest latest past same before rows stored g l p =
    rw (rows, stored, g, l, p, same, before) refl

-- the files after one is put
pub files_put : (old new : BTreeMap ℕ StoredFile) (number : ℕ) (f : StoredFile) (bytes : List ℕ) → Updates nat_cmp old new number (Some f) → f.bytes.items ≡ bytes
    → stored_at new ≡ put number (Some (record { bytes = bytes; time = f.time })) (stored_at old)
files_put old new number f bytes u e =
    ap (λ (t : ℕ → Option StoredFile). λ n. option_map stored_of (t n)) (updates_put number old new (Some f) u)
    ∙ put_map stored_of number (Some f) (at_key old)
    ∙ ap (λ bytes. put number (Some (record { bytes = bytes; time = f.time })) (stored_at old)) e

put_back_by : (b : Bool) (s : Stored) (o : Option Stored) → (b ≡ true → is_none o ≡ true) → cond b None (cond b (Some s) o) ≡ o
put_back_by true s None h = refl
put_back_by true s (Some x) h = let none = h refl in cc
put_back_by false s o h = refl

put_back : (number : ℕ) (s : Stored) (files : ℕ → Option Stored) → is_none (files number) ≡ true → put number None (put number (Some s) files) ≡ files
put_back number s files none = fun_ext (λ n. put_back_by (n == number) s (files n) (λ e. ap (λ k. is_none (files k)) (equal_keys n number e) ∙ none))

-- the files after one was put and taken again
pub files_back : (old mid new : BTreeMap ℕ StoredFile) (number : ℕ) (f : StoredFile) → Updates nat_cmp old mid number (Some f) → UpdatesBy nat_cmp (nat_cmp number) mid new None
    → is_none (stored_at old number) ≡ true → stored_at new ≡ stored_at old
files_back old mid new number f u v none =
    value_put stored_of number mid new None v
    ∙ ap (put number None) (value_put stored_of number old mid (Some f) u)
    ∙ put_back number (stored_of f) (stored_at old) none

-- what is known, where rows and files are the same again
pub known_back : (w : World) (live : ℕ → Option Live) (rows : List Row) (files : ℕ → Option Stored) → rows ≡ w.tree → files ≡ w.files
    → known_as (record w { tree = rows; files = files }) live ≡ known_as w live
known_back w live rows files e f = rw (e, f) refl
