-- What is told of the entries of a listing: they are of the rows that stand in its directory, each once.
use Rattle.std.proofs.Common.{◌≡◌, ◌-◌, drop, ◌≤◌, ◌<◌, ◌⊎◌, inl, inr, ℕ, Bool, true, false, cond, List, [], ◌∷◌, ◌++◌, length, map, get_or, set, Some, Result, Ok, Err, IsOk, refl, sym, ap, ◌∙◌, subst, arith}
use Rattle.std.proofs.lemmas.List.{length-map, map-set, take-append-drop}
use Rattle.std.proofs.Math.ListN.{get_or-map}
use Rattle.std.proofs.lemmas.List.Sorted.{IsPermutation-keeps, IsPermutation-refl, IsPermutation-swap, IsPermutation-trans}
use Rattle.std.proofs.lemmas.Bool.{false_from_ne_true}
use Rattle.std.specs.List.{AllByRecursion, AllZip, filter, swap}
use Rattle.std.specs.List.Sorted.{IsPermutation}
use Rattle.dav_io.specs.Counts.{Rose}
use Rattle.dav_core.specs.declared.error.FsError.{FsError}
use Rattle.dav_core.specs.declared.error.FsError.TheVariants as fs
use Rattle.dav_core.specs.declared.handle.DiskError.{DiskError}
use Rattle.dav_core.specs.declared.handle.DiskError.TheVariants.{NotFound, NotDir, IsDir, Exists, NotEmpty, Failed, NoMemory}
use Rattle.dav_core.specs.declared.handle.Meta.{Meta}
use Rattle.dav_core.specs.declared.tree.Kind.{Kind}
use Rattle.dav_core.specs.declared.tree.Kind.TheVariants.{Dir, File, Link}
use Rattle.dav_core.specs.declared.tree.Row.{Row}
use Rattle.dav_core.specs.Disk.{Asks, DiskState, IsMetaOf, MayRefuseMeta, MetasBy, Refused, way_to}
use Rattle.dav_core.specs.Errors.{fs_error_of}
use Rattle.dav_core.specs.Info.{Info, info_of, known}
use Rattle.dav_core.specs.Listing.{listable, name_of, stands_in}
use Rattle.dav_core.specs.Members.{member_of}
use Rattle.dav_core.specs.Path.{Names, parent_of}
use Rattle.dav_core.specs.Tree.{below_kind, is_linked, is_tree, look}
use Rattle.dav_core.specs.Unchanged.{SameBesidesOpens}
use Rattle.dav_core.specs.World.{World, bytes_or_none}
use Rattle.dav_core.proofs.Rows.{IsTree, path_in, tree_parts}
use Rattle.dav_store.specs.Members.{Answered, IsAnswerOf, SaysOrRose}
use Rattle.dav_store.proofs.Reading.{rose_from, rose_on}
use Rattle.dav_model.specs.Finding.{IsOf}
use Rattle.dav_model.proofs.PlainWalks.{linked_below}
use Rattle.dav_local.specs.Entries.{said_info}
use Rattle.dav_local.specs.Files.{said_by}
use Rattle.dav_local.proofs.Rows.{stands_below}
use Rattle.dav_local.proofs.Showing.{found_numbered}

-- ---- what stands in a directory

listed_kind : (kind : Kind) (found : Result Row DiskError) → IsOk (below_kind kind found) → kind ≡ Dir
listed_kind Dir found ok = refl
listed_kind File found ok = cc
listed_kind Link found ok = cc

-- what is listed is a directory
pub record IsDirectory (found : Result Row DiskError) : Type 0 where
  pub row : Row
  pub is : found ≡ Ok row
  pub kind : row.kind ≡ Dir

pub listed_dir : (found : Result Row DiskError) → IsOk (listable found) → IsDirectory found
listed_dir (Ok row) listed = record { row = row; is = refl; kind = listed_kind row.kind (Ok row) listed }
listed_dir (Err e) listed = cc

-- A row stands in a directory, and a look finds it by its name.
pub record StandsIn (tree : List Row) (dir : Names) (row : Row) : Type 0 where
  pub path : row.path ≡ dir ++ name_of row ∷ []
  pub found : look tree (dir ++ name_of row ∷ []) ≡ Ok row

choose : {X : Type 0} (Q : X → Type 0) (b : Bool) (x : X) (xs : List X) → (b ≡ true → Q x) → AllByRecursion Q xs → AllByRecursion Q (cond b (x ∷ xs) xs)
choose Q true x xs h all = (h refl, all)
choose Q false x xs h all = all

filtered : {X : Type 0} (p : X → Bool) (P Q : X → Type 0) → ((x : X) → p x ≡ true → P x → Q x) → (xs : List X) → AllByRecursion P xs → AllByRecursion Q (filter p xs)
filtered p P Q h [] all = tt
filtered p P Q h (x ∷ xs) all = choose Q (p x) x (filter p xs) (λ e. h x e all.0) (filtered p P Q h xs all.1)

stands_by : (tree : List Row) (dir : Names) (at row : Row) → IsTree tree → look tree dir ≡ Ok at → IsOf row tree → stands_in dir row ≡ true → StandsIn tree dir row
stands_by tree dir at row is looked o stands = let path = path_in dir row stands in record { path = path; found = stands_below tree dir (name_of row) at row is looked o path }

each_of : (rows all : List Row) → ((row : Row) → IsOf row rows → IsOf row all) → AllByRecursion (λ row. IsOf row all) rows
each_of [] all up = tt
each_of (row ∷ rows) all up = (up row (inl refl), each_of rows all (λ r o. up r (inr o)))

-- the rows in a directory of a tree
pub rows_stand : (tree : List Row) (dir : Names) (at : Row) → is_tree tree ≡ true → look tree dir ≡ Ok at → AllByRecursion (StandsIn tree dir) (filter (stands_in dir) tree)
rows_stand tree dir at is looked =
    filtered (stands_in dir) (λ row. IsOf row tree) (StandsIn tree dir) (λ row stands o. stands_by tree dir at row (tree_parts tree is) looked o stands) tree (each_of tree tree (λ r o. o))

-- ---- names in another order are those of rows in that order

swap_map : (f : Row → List ℕ) (rows : List Row) (i j : ℕ) → i < length rows → swap (map f rows) i j ≡ map f (swap rows i j)
swap_map f [] i j lt = refl
swap_map f (d ∷ ys) i j lt =
    let l = d ∷ ys in
    let a = get_or l j d in
    let b = get_or l i d in
    sym (map-set f (set l i a) j b ∙ (ap (λ z. set z j (f b)) (map-set f l i a ∙ ap (set (map f l) i) (sym (get_or-map f l j d)))
    ∙ ap (set (set (map f l) i (get_or (map f l) j (f d))) j) (sym (get_or-map f l i d))))

-- rows in an order that gives these names
abbrev InOrder : List Row → Names → Type 0
InOrder rows names = (others : List Row) × IsPermutation rows others × (names ≡ map name_of others)

gives_swap : (rows : List Row) (names : Names) (i j : ℕ) → i < length names → j < length names → InOrder rows names → InOrder rows (swap names i j)
gives_swap rows names i j il jl (others, order, is) =
    let long : length names ≡ length others = ap length is ∙ length-map others name_of in (
      swap others i j,
      IsPermutation-trans rows others (swap others i j) order (IsPermutation-swap others (swap others i j) i j (omega arith) (omega arith) refl),
      ap (λ xs. swap xs i j) is ∙ swap_map name_of others i j (omega arith),
    )

pub gives_names : (rows : List Row) (names : Names) → IsPermutation (map name_of rows) names → InOrder rows names
gives_names rows names order = IsPermutation-keeps (map name_of rows) (InOrder rows) (rows, IsPermutation-refl rows, refl) (λ l i j il jl g. gives_swap rows l i j il jl g) names order

-- The rows of entries that were given, and those of names to come.
pub record Given (answers : List Answered) (rows : List Row) : Type 0 where
  pub given : List Row
  pub others : List Row
  pub parts : rows ≡ given ++ others
  pub names : AllZip (λ a row. a.name ≡ name_of row) answers given

pub given_rows : (answers : List Answered) (rest : Names) (rows : List Row) → map name_of rows ≡ map (λ a. a.name) answers ++ rest → Given answers rows
given_rows [] rest rows e = record { given = []; others = rows; parts = refl; names = tt }
given_rows (a ∷ answers) rest [] e = cc
given_rows (a ∷ answers) rest (row ∷ rows) e =
    let tail = given_rows answers rest rows (cc) in
    let name : a.name ≡ name_of row = cc in
    record { given = row ∷ tail.given; others = tail.others; parts = ap (λ z. row ∷ z) tail.parts; names = (name, tail.names) }

-- ---- what is said of an entry

pub record SaidRow (w : World) (path : Names) (info : Info) : Type 0 where
  pub row : Row
  pub found : look w.tree path ≡ Ok row
  pub meta : Meta
  pub is : IsMetaOf w row meta
  pub said : info ≡ info_of meta

abbrev pub SaidOf : World → Names → ℕ → ℕ → Result Info FsError → Type 0
SaidOf w path from now (Ok info) = SaidRow w path info
SaidOf w path from now (Err e) = ((d : DiskError) × (look w.tree path ≡ Err d)) ⊎ ((e ≡ fs.GeneralFailure) × Rose from now)

abbrev pub IsTold : World → Names → ℕ → ℕ → Answered → Type 0
IsTold w dir from now a = is_linked w.tree (dir ++ a.name ∷ []) ≡ false → SaidOf w (dir ++ a.name ∷ []) from now a.meta

pub said_later : (w : World) (path : Names) (from a b : ℕ) (r : Result Info FsError) → a ≤ b → SaidOf w path from a r → SaidOf w path from b r
said_later w path from a b (Ok info) le s = s
said_later w path from a b (Err e) le (inl refused) = inl refused
said_later w path from a b (Err e) le (inr (is, rose)) = inr (is, rose_on from a b rose le)

pub all_later : (w : World) (dir : Names) (from a b : ℕ) (answers : List Answered) → a ≤ b → AllByRecursion (IsTold w dir from a) answers → AllByRecursion (IsTold w dir from b) answers
all_later w dir from a b [] le all = tt
all_later w dir from a b (x ∷ answers) le all = (λ linked. said_later w (dir ++ x.name ∷ []) from a b x.meta le (all.0 linked), all_later w dir from a b answers le all.1)

pub all_push : (P : Answered → Type 0) (xs : List Answered) (x : Answered) → AllByRecursion P xs → P x → AllByRecursion P (xs ++ x ∷ [])
all_push P [] x all last = (last, tt)
all_push P (y ∷ xs) x all last = (all.0, all_push P xs x all.1 last)

said_err : (d : DiskError) (w x : World) (path : Names) (from : ℕ) (s t : DiskState) → MayRefuseMeta d → Refused d (look x.tree path) → x.tree ≡ w.tree → Asks {T = Meta} (Err d) s t
    → from ≤ s.faults → SaidOf w path from t.faults (Err (fs_error_of d))
said_err NotFound w x path from s t may r tree asks le = inl (NotFound, ap (λ rows. look rows path) (sym tree) ∙ r)
said_err NotDir w x path from s t may r tree asks le = inl (NotDir, ap (λ rows. look rows path) (sym tree) ∙ r)
said_err Failed w x path from s t may r tree asks le = inr (refl, rose_from from s.faults t.faults le (asks.rose refl))
said_err IsDir w x path from s t may r tree asks le = absurd may
said_err Exists w x path from s t may r tree asks le = absurd may
said_err NotEmpty w x path from s t may r tree asks le = absurd may
said_err NoMemory w x path from s t may r tree asks le = absurd may

meta_back : (w x : World) (path : Names) (row : Row) (meta : Meta) → SameBesidesOpens w x → look x.tree path ≡ Ok row → IsMetaOf x row meta
    → IsMetaOf w row meta
meta_back w x path row meta same looked is = record {
  kind = is.kind;
  number = is.number;
  len = is.len ∙ ap (λ f. length (bytes_or_none f)) (same.files row.number (inl (found_numbered x.tree path row looked))).1;
  modified = is.modified;
}

-- where no link stands on a path, none stands on the way to it
pub clear_way : (follows : Bool) (tree : List Row) (path : Names) → is_linked tree path ≡ false → is_linked tree (way_to follows path) ≡ false
clear_way true tree path clear = clear
clear_way false tree path clear =
    let n = length path - 1 in
    false_from_ne_true (is_linked tree (parent_of path)) (λ link.
    let further : is_linked tree path ≡ true = ap (is_linked tree) (sym (take-append-drop n path)) ∙ linked_below tree (parent_of path) (drop n path) link in
    let never : true ≡ false = sym further ∙ clear in cc)

pub said_of : (follows : Bool) (said : Result Meta DiskError) (w x : World) (path : Names) (from : ℕ) (s t : DiskState) → SameBesidesOpens w x → MetasBy follows s path said t → s.told ≡ Some x → from ≤ s.faults
    → is_linked w.tree path ≡ false → SaidOf w path from t.faults (said_info (said_by said))
said_of follows (Ok meta) w x path from s t same metas told le linked =
    let (row, looked, is) = metas.told x told (clear_way follows x.tree path (ap (λ rows. is_linked rows path) same.tree ∙ linked)) in
    record { row = row; found = ap (λ rows. look rows path) (sym same.tree) ∙ looked; meta = meta; is = meta_back w x path row meta same looked is; said = refl }
said_of follows (Err d) w x path from s t same metas told le linked =
    said_err d w x path from s t metas.only (metas.told x told (clear_way follows x.tree path (ap (λ rows. is_linked rows path) same.tree ∙ linked))) same.tree metas.asks le

pub moved : (w : World) (p q : Names) (from a b : ℕ) (u r : Result Info FsError) → p ≡ q → a ≡ b → u ≡ r → SaidOf w p from a u → SaidOf w q from b r
moved w p q from a b u r pq ab ur s =
    subst (λ r. SaidOf w q from b r) ur (subst (λ n. SaidOf w q from n u) ab (subst (λ z. SaidOf w z from a u) pq s))

-- ---- the answers are of members

says_of : (w : World) (path : Names) (from now : ℕ) (row : Row) (r : Result Info FsError) → look w.tree path ≡ Ok row → SaidOf w path from now r → SaysOrRose from now (member_of w row) r
says_of w path from now row (Ok info) found s =
    let one : s.row ≡ row = (let e : Ok s.row ≡ Ok row = sym s.found ∙ found in cc) in
    let is : IsMetaOf w row s.meta = subst (λ x. IsMetaOf w x s.meta) one s.is in
    (ap (λ i. i.kind) s.said ∙ is.kind, ap (λ i. i.len) s.said ∙ is.len, ap (λ i. i.modified) s.said ∙ ap known is.modified)
says_of w path from now row (Err e) found (inl (d, refused)) = let never : Err d ≡ Ok row = sym refused ∙ found in cc
says_of w path from now row (Err e) found (inr (is, rose)) = rose

-- metadata of what stands there is refused only because of a fault
abbrev pub Fails : ℕ → ℕ → Answered → Type 0
Fails from now a = (e : FsError) → a.meta ≡ Err e → (e ≡ fs.GeneralFailure) × Rose from now

fails_of : (w : World) (path : Names) (from now : ℕ) (row : Row) (r : Result Info FsError) → look w.tree path ≡ Ok row → SaidOf w path from now r → (e : FsError) → r ≡ Err e
    → (e ≡ fs.GeneralFailure) × Rose from now
fails_of w path from now row (Ok info) found s e is = cc
fails_of w path from now row (Err x) found (inl (d, refused)) e is = let never : Err d ≡ Ok row = sym refused ∙ found in cc
fails_of w path from now row (Err x) found (inr (general, rose)) e is = ((let same : x ≡ e = cc in sym same ∙ general), rose)

pub record IsFree (w : World) (dir : Names) (row : Row) : Type 0 where
  pub stands : StandsIn w.tree dir row
  pub linked : is_linked w.tree row.path ≡ false

pub both_all : (w : World) (dir : Names) (rows : List Row) → AllByRecursion (StandsIn w.tree dir) rows → AllByRecursion (λ row. is_linked w.tree row.path ≡ false) rows → AllByRecursion (IsFree w dir) rows
both_all w dir [] a b = tt
both_all w dir (row ∷ rows) a b = (record { stands = a.0; linked = b.0 }, both_all w dir rows a.1 b.1)

pub front_all : (P : Row → Type 0) (xs ys : List Row) → AllByRecursion P (xs ++ ys) → AllByRecursion P xs
front_all P [] ys all = tt
front_all P (x ∷ xs) ys all = (all.0, front_all P xs ys all.1)

pub are_answers : (w : World) (dir : Names) (from now : ℕ) (answers : List Answered) (given : List Row) → AllZip (λ a row. a.name ≡ name_of row) answers given
    → AllByRecursion (IsTold w dir from now) answers → AllByRecursion (IsFree w dir) given → AllZip (IsAnswerOf from now) answers (map (member_of w) given)
are_answers w dir from now [] [] names told free = tt
are_answers w dir from now [] (row ∷ given) names told free = absurd names
are_answers w dir from now (a ∷ answers) [] names told free = absurd names
are_answers w dir from now (a ∷ answers) (row ∷ given) names told free =
    let path : dir ++ a.name ∷ [] ≡ dir ++ name_of row ∷ [] = ap (λ n. dir ++ n ∷ []) names.0 in
    let linked : is_linked w.tree (dir ++ a.name ∷ []) ≡ false = ap (is_linked w.tree) (path ∙ sym free.0.stands.path) ∙ free.0.linked in
    let found : look w.tree (dir ++ a.name ∷ []) ≡ Ok row = ap (look w.tree) path ∙ free.0.stands.found in
    (record { name = names.0; says = says_of w (dir ++ a.name ∷ []) from now row a.meta found (told.0 linked) }, are_answers w dir from now answers given names.1 told.1 free.1)

pub are_failing : (w : World) (dir : Names) (from now : ℕ) (answers : List Answered) (given : List Row) → AllZip (λ a row. a.name ≡ name_of row) answers given
    → AllByRecursion (IsTold w dir from now) answers → AllByRecursion (IsFree w dir) given → AllByRecursion (Fails from now) answers
are_failing w dir from now [] [] names told free = tt
are_failing w dir from now [] (row ∷ given) names told free = absurd names
are_failing w dir from now (a ∷ answers) [] names told free = absurd names
are_failing w dir from now (a ∷ answers) (row ∷ given) names told free =
    let path : dir ++ a.name ∷ [] ≡ dir ++ name_of row ∷ [] = ap (λ n. dir ++ n ∷ []) names.0 in
    let linked : is_linked w.tree (dir ++ a.name ∷ []) ≡ false = ap (is_linked w.tree) (path ∙ sym free.0.stands.path) ∙ free.0.linked in
    let found : look w.tree (dir ++ a.name ∷ []) ≡ Ok row = ap (look w.tree) path ∙ free.0.stands.found in
    (fails_of w (dir ++ a.name ∷ []) from now row a.meta found (told.0 linked), are_failing w dir from now answers given names.1 told.1 free.1)

pub last_of : (P : Answered → Type 0) (answers : List Answered) (a : Answered) → AllByRecursion P (answers ++ a ∷ []) → P a
last_of P [] a all = all.0
last_of P (x ∷ answers) a all = last_of P answers a all.1
