-- Rows of a tree: what stands in a directory, which names fold alike there, and what stands behind a link.
use Rattle.std.proofs.Common.{◌≡◌, ◌==◌, ◌≤◌, ◌<◌, ◌+◌, ◌-◌, ◌&&◌, ◌||◌, ◌⊎◌, inl, inr, ℕ, zero, suc, Bool, true, false, not, cond, List, [], ◌∷◌, ◌++◌, length, take, Option, Some, Ok, refl, sym, ap, subst, ◌∙◌, append_assoc, append-nil, arith}
use Rattle.std.specs.List.{list_all, list_any, slice_get}
use Rattle.std.proofs.Math.Seq.{take-append_seam}
use Rattle.std.proofs.lemmas.Bool.{and_parts, false_from_ne_true, not-true, or_cases}
use Rattle.std.proofs.lemmas.Bool.Decides.{nat_tests}
use Rattle.std.proofs.lemmas.List.{length-append, length-map, map-append, take-append-le, take-take, length-take-le}
use Rattle.std.proofs.Math.Seq.{get_or-append_seam}
use Rattle.std.proofs.lemmas.Option.{slice_get-get_or}
use Rattle.dav_io.proofs.Cases.{second_test}
use Rattle.dav_core.specs.declared.tree.Kind.{Kind}
use Rattle.dav_core.specs.declared.tree.Kind.TheVariants.{Dir, File, Link}
use Rattle.dav_core.specs.declared.tree.Row.{Row}
use Rattle.dav_core.specs.DavPath.{last_name}
use Rattle.dav_core.specs.Listing.{name_of, or_empty, stands_in}
use Rattle.dav_core.specs.Path.{Names, is_front, parent_of, same_names}
use Rattle.dav_core.specs.Tree.{below, below_kind, has_dir, is_apart, is_dir, is_free, is_link, is_linked, is_placed, look, look_from, row_at, standing}
use Rattle.dav_core.proofs.Plain.{names_same}
use Rattle.dav_core.proofs.Rows.{IsTree, dir_row, name_pushed}
use Rattle.dav_core.proofs.LookLemmas.{below_ok, look_child, look_there, standing_row}
use Rattle.dav_model.specs.Finding.{IsLoose, IsOf, is_alike}
use Rattle.dav_model.specs.Folds.{Name, fold_name, fold_path, folds_like}
use Rattle.dav_model.proofs.LooseWalks.{find_row, names_equal, parent_pushed}
use Rattle.dav_model.proofs.PlainWalks.{linked_below}
use Rattle.dav_local.specs.Walking.{IsClearAt}

-- ---- tests

pub not_both : {A : Type 0} (b : Bool) → b ≡ true → b ≡ false → A
not_both b e f = cc

all_of : (f : Row → Bool) (rows : List Row) (x : Row) → list_all f rows ≡ true → IsOf x rows → f x ≡ true
all_of f [] x e o = absurd o
all_of f (r ∷ rows) x e (inl same) = ap f same ∙ (and_parts (f r) (list_all f rows) e).0
all_of f (r ∷ rows) x e (inr o) = all_of f rows x (and_parts (f r) (list_all f rows) e).1 o

pub none_of : (f : Row → Bool) (rows : List Row) → ((x : Row) → IsOf x rows → f x ≡ true → ⊥) → list_any f rows ≡ false
none_of f [] h = refl
none_of f (r ∷ rows) h =
    let first : f r ≡ false = false_from_ne_true (f r) (h r (inl refl)) in
    ap (λ b. b || list_any f rows) first ∙ none_of f rows (λ x o. h x (inr o))

one_of : (f : Row → Bool) (rows : List Row) → list_any f rows ≡ true → (x : Row) × IsOf x rows × (f x ≡ true)
one_of f [] e = cc
one_of f (r ∷ rows) e = elim (or_cases (f r) (list_any f rows) e) [
  | inl here ↦ (r, inl refl, here)
  | inr later ↦ let (x, o, t) = one_of f rows later in (x, inr o, t)
]

pub any_of : (f : Row → Bool) (rows : List Row) (x : Row) → IsOf x rows → f x ≡ true → list_any f rows ≡ true
any_of f [] x o t = absurd o
any_of f (r ∷ rows) x (inl same) t = ap (λ b. b || list_any f rows) (ap f (sym same) ∙ t)
any_of f (r ∷ rows) x (inr o) t = later (f r) (any_of f rows x o t)
  where
    later : (b : Bool) → list_any f rows ≡ true → (b || list_any f rows) ≡ true
    later true e = refl
    later false e = e

-- ---- a row is found at its path

pub found_of : (tree : List Row) (row : Row) → is_apart tree ≡ true → IsOf row tree → row_at tree row.path ≡ Some row
found_of [] row apart o = absurd o
found_of (r ∷ rows) row apart (inl same) =
    ap (λ b. cond b (Some r) (row_at rows row.path)) (names_equal row.path r.path (ap (λ (x : Row). x.path) same)) ∙ ap (λ (x : Row). Some x) (sym same)
found_of (r ∷ rows) row apart (inr o) =
    let p = and_parts (is_free rows r) (is_apart rows) apart in
    let free = all_of (λ other. not (same_names other.path r.path) && not (other.number == r.number)) rows row p.0 o in
    let other = not-true (same_names row.path r.path) (and_parts (not (same_names row.path r.path)) (not (row.number == r.number)) free).0 in
    ap (λ b. cond b (Some r) (row_at rows row.path)) other ∙ found_of rows row p.1 o

not_zero : (n : ℕ) → 0 < n → (n == 0) ≡ false
not_zero n some = grind (arith, nat_tests)

-- the directory in which a row stands
pub dir_above : (tree : List Row) (row : Row) → IsTree tree → IsOf row tree → 0 < length row.path → (d : Row) × (row_at tree (parent_of row.path) ≡ Some d) × (d.kind ≡ Dir)
dir_above tree row is o some =
    dir_row (row_at tree (parent_of row.path))
    (second_test (length row.path == 0) (is_dir row.kind) (has_dir tree (parent_of row.path)) (not_zero (length row.path) some) (all_of (is_placed tree) tree row is.placed o))

pushed_some : (at : Names) (name : Name) (path : Names) → path ≡ at ++ name ∷ [] → 0 < length path
pushed_some at name path e = rw (e, length-append at (name ∷ [])) (omega arith)

pub dir_of : (tree : List Row) (row : Row) (at : Names) (name : Name) → IsTree tree → IsOf row tree → row.path ≡ at ++ name ∷ [] → (d : Row) × (row_at tree at ≡ Some d) × (d.kind ≡ Dir)
dir_of tree row at name is o path =
    let (d, there, kind) = dir_above tree row is o (pushed_some at name row.path path) in
    (d, ap (row_at tree) (sym (ap parent_of path ∙ parent_pushed at name)) ∙ there, kind)

-- ---- looks

pub looked_row : (tree : List Row) (path : Names) (row : Row) → look tree path ≡ Ok row → row_at tree path ≡ Some row
looked_row tree path row e = look_there tree [] path row e

pub row_is : (tree : List Row) (path : Names) (row : Row) → row_at tree path ≡ Some row → IsOf row tree × (row.path ≡ path)
row_is tree path row e = let (same, o) = find_row (λ r. same_names path r.path) tree row e in (o, sym (names_same path row.path same))

same_some : (a b : Row) → ◌≡◌ {A = Option Row} (Some a) (Some b) → a ≡ b
same_some a b e = cc

-- a directory that stands is the one in which its rows stand
pub is_directory : (tree : List Row) (at : Names) (name : Name) (d row : Row) → IsTree tree → look tree at ≡ Ok d → IsOf row tree → row.path ≡ at ++ name ∷ [] → d.kind ≡ Dir
is_directory tree at name d row is looked o path =
    let (over, there, kind) = dir_of tree row at name is o path in
    ap (λ (x : Row). x.kind) (same_some d over (sym (looked_row tree at d looked) ∙ there)) ∙ kind

pub stands_below : (tree : List Row) (at : Names) (name : Name) (d row : Row) → IsTree tree → look tree at ≡ Ok d → IsOf row tree → row.path ≡ at ++ name ∷ [] → look tree (at ++ name ∷ []) ≡ Ok row
stands_below tree at name d row is looked o path =
    look_child tree [] at name d row looked (is_directory tree at name d row is looked o path) (ap (row_at tree) (sym path) ∙ found_of tree row is.apart o)

-- ---- names that fold alike

pub folds_alike : (at : Names) (x n : Name) → fold_name x ≡ fold_name n → fold_path (at ++ x ∷ []) ≡ fold_path (at ++ n ∷ [])
folds_alike at x n e = map-append fold_name at (x ∷ []) ∙ ap (λ y. fold_path at ++ y ∷ []) e ∙ sym (map-append fold_name at (n ∷ []))

alike_by : (a b c : Bool) → b ≡ true → c ≡ true → (a || (true && (b && c))) ≡ true
alike_by true b c e f = refl
alike_by false true true e f = refl
alike_by false true false e f = cc
alike_by false false c e f = cc

pub alike_is : (at : Names) (x n : Name) (r : Row) → r.path ≡ at ++ x ∷ [] → fold_name x ≡ fold_name n → is_alike true at n r ≡ true
alike_is at x n r e f = alike_by (same_names (at ++ n ∷ []) r.path) (same_names (parent_of r.path) at) (folds_like r.path (at ++ n ∷ []))
    (names_equal _ _ (ap parent_of e ∙ parent_pushed at x)) (names_equal _ _ (ap fold_path e ∙ folds_alike at x n f))

same_last : (a : Names) (x y : Name) → a ++ x ∷ [] ≡ a ++ y ∷ [] → x ≡ y
same_last [] x y e = cc
same_last (z ∷ a) x y e = same_last a x y (cc)

last_at : (path : Names) (n : ℕ) → length path ≡ suc n → (x : Name) × (path ≡ take n path ++ x ∷ [])
last_at [] n e = absurd (omega arith)
last_at (x ∷ []) zero e = (x, refl)
last_at (x ∷ []) (suc n) e = absurd (omega arith)
last_at (x ∷ y ∷ path) zero e = absurd (omega arith)
last_at (x ∷ y ∷ path) (suc n) e = let (z, is) = last_at (y ∷ path) n (omega arith) in (z, ap (λ w. x ∷ w) is)

pub alike_splits : (at : Names) (n : Name) (r : Row) → is_alike true at n r ≡ true → (x : Name) × (r.path ≡ at ++ x ∷ []) × (fold_name x ≡ fold_name n)
alike_splits at n r e = elim (or_cases (same_names (at ++ n ∷ []) r.path) (same_names (parent_of r.path) at && folds_like r.path (at ++ n ∷ [])) e) [
  | inl same ↦ (n, sym (names_same _ _ same), refl)
  | inr both ↦ let (parent, folded) = and_parts (same_names (parent_of r.path) at) (folds_like r.path (at ++ n ∷ [])) both in
      split (names_same _ _ parent) (names_same _ _ folded)
]
  where
    split : parent_of r.path ≡ at → fold_path r.path ≡ fold_path (at ++ n ∷ []) → (x : Name) × (r.path ≡ at ++ x ∷ []) × (fold_name x ≡ fold_name n)
    split parent folded =
        let long : length r.path ≡ length at + 1 = sym (length-map r.path fold_name) ∙ ap length folded ∙ length-map (at ++ n ∷ []) fold_name ∙ length-append at (n ∷ []) in
        let (x, is) = last_at r.path (length r.path - 1) (omega (arith, long)) in
        let path : r.path ≡ at ++ x ∷ [] = is ∙ ap (λ z. z ++ x ∷ []) parent in (
          x,
          path,
          same_last (fold_path at) (fold_name x) (fold_name n)
              (sym (map-append fold_name at (x ∷ [])) ∙ (ap fold_path (sym path) ∙ (folded ∙ map-append fold_name at (n ∷ [])))),
        )

-- ---- links

front_pushed : (p at : Names) (name : Name) → is_front p (at ++ name ∷ []) ≡ true → (p ≡ at ++ name ∷ []) ⊎ (is_front p at ≡ true)
front_pushed p at name e = by_length (names_same p (take (length p) (at ++ name ∷ [])) e)
  where
    take_past : (n : ℕ) (xs : Names) → length xs ≤ n → take n xs ≡ xs
    take_past zero [] le = refl
    take_past (suc n) [] le = refl
    take_past zero (x ∷ xs) le = absurd (omega arith)
    take_past (suc n) (x ∷ xs) le = ap (λ w. x ∷ w) (take_past n xs (omega arith))

    by_length : p ≡ take (length p) (at ++ name ∷ []) → (p ≡ at ++ name ∷ []) ⊎ (is_front p at ≡ true)
    by_length front = elim (le_or (length p) (length at)) [
      | inl le ↦ inr (names_equal p (take (length p) at) (front ∙ take-append-le (length p) at (name ∷ []) le))
      | inr more ↦ inl (front ∙ take_past (length p) (at ++ name ∷ []) (omega (arith, length-append at (name ∷ []), more)))
    ]
      where
        le_or : (a b : ℕ) → (a ≤ b) ⊎ (b < a)
        le_or zero b = inl (omega arith)
        le_or (suc a) zero = inr (omega arith)
        le_or (suc a) (suc b) = elim (le_or a b) [ inl le ↦ inl (omega arith) | inr lt ↦ inr (omega arith) ]

-- a link that stands on the way to a name in a clear directory is the one of that name
pub link_at : (tree : List Row) (at : Names) (name : Name) → is_linked tree at ≡ false → is_linked tree (at ++ name ∷ []) ≡ true
    → (l : Row) × IsOf l tree × (is_link l.kind ≡ true) × (l.path ≡ at ++ name ∷ [])
link_at tree at name clear linked =
    let (l, o, both) = one_of (λ row. is_link row.kind && is_front row.path (at ++ name ∷ [])) tree linked in
    let (link, front) = and_parts (is_link l.kind) (is_front l.path (at ++ name ∷ [])) both in (
      l,
      o,
      link,
      elim (front_pushed l.path at name front) [
        | inl here ↦ here
        | inr before ↦ not_both (is_linked tree at) (any_of (λ row. is_link row.kind && is_front row.path at) tree l o (rw (link, before) refl)) clear
      ],
    )

link_no_dir : (k : Kind) → is_link k ≡ true → k ≡ Dir → ⊥
link_no_dir Dir e f = cc
link_no_dir File e f = cc
link_no_dir Link e f = cc

-- Behind a link nothing stands.
pub behind_link : (tree : List Row) (l : Row) (names : Names) → IsTree tree → IsOf l tree → is_link l.kind ≡ true → IsLoose true tree l.path names (l.path ++ names)
behind_link tree l [] is o link = append-nil l.path
behind_link tree l (n ∷ names) is o link = inr (none_of (is_alike true l.path n) tree none, refl)
  where
    none : (r : Row) → IsOf r tree → is_alike true l.path n r ≡ true → ⊥
    none r at alike =
        let (x, path, folds) = alike_splits l.path n r alike in
        let (d, there, kind) = dir_of tree r l.path x is at path in
        link_no_dir l.kind link (ap (λ (y : Row). y.kind) (same_some l d (sym (found_of tree l is.apart o) ∙ there)) ∙ kind)

-- ---- each front of a row's path stands

take_parent : (n : ℕ) (path above front : Names) → front ≡ take n above → above ≡ parent_of path → n ≤ length path - 1 → front ≡ take n path
take_parent n path above front is parent le = is ∙ ap (take n) parent ∙ take-take n (length path - 1) path le

pub front_stands : (fuel : ℕ) (tree : List Row) (l : Row) (n : ℕ) → IsTree tree → IsOf l tree → length l.path ≡ n + fuel → (d : Row) × IsOf d tree × (d.path ≡ take n l.path)
front_stands zero tree l n is o long = (l, o, sym (ap (λ k. take k l.path) (let e : n ≡ length l.path = omega (arith, long) in e) ∙ whole l.path))
  where
    whole : (xs : Names) → take (length xs) xs ≡ xs
    whole [] = refl
    whole (x ∷ xs) = ap (λ w. x ∷ w) (whole xs)
front_stands (suc fuel) tree l n is o long =
    let (d, there, kind) = dir_above tree l is o (omega (arith, long)) in
    let (od, path) = row_is tree (parent_of l.path) d there in
    let short : length (parent_of l.path) ≡ length l.path - 1 = length-take-le (length l.path - 1) l.path (omega arith) in
    let same : length d.path ≡ length (parent_of l.path) = ap length path in
    let shorter : length d.path ≡ n + fuel = omega (arith, same, short, long) in
    let (e, oe, at) = front_stands fuel tree d n is od shorter in
    (e, oe, take_parent n l.path d.path e.path at path (omega (arith, long)))

le_or : (a b : ℕ) → (a ≤ b) ⊎ (b < a)
le_or zero b = inl (omega arith)
le_or (suc a) zero = inr (omega arith)
le_or (suc a) (suc b) = elim (le_or a b) [ inl le ↦ inl (omega arith) | inr lt ↦ inr (omega arith) ]

-- the front of a path up to a name in a directory
front_at : (at : Names) (n : Name) (names : Names) → take (length at + 1) (at ++ n ∷ names) ≡ at ++ n ∷ []
front_at at n names =
    ap (λ k. take k (at ++ n ∷ names)) (sym (length-append at (n ∷ []))) ∙ ap (take (length (at ++ n ∷ []))) (sym (append_assoc at (n ∷ []) names)) ∙ take-append_seam (at ++ n ∷ []) names

-- Where a link stands further on than a clear name, a row stands at the name.
row_before : (tree : List Row) (at : Names) (n : Name) (names : Names) → IsTree tree → is_linked tree (at ++ n ∷ names) ≡ true → is_linked tree (at ++ n ∷ []) ≡ false
    → (d : Row) × IsOf d tree × (d.path ≡ at ++ n ∷ [])
row_before tree at n names is linked clear =
    let (l, o, both) = one_of (λ row. is_link row.kind && is_front row.path (at ++ n ∷ names)) tree linked in
    let (link, front) = and_parts (is_link l.kind) (is_front l.path (at ++ n ∷ names)) both in
    at_link l o link (names_same l.path (take (length l.path) (at ++ n ∷ names)) front)
  where
    at_link : (l : Row) → IsOf l tree → is_link l.kind ≡ true → l.path ≡ take (length l.path) (at ++ n ∷ names) → (d : Row) × IsOf d tree × (d.path ≡ at ++ n ∷ [])
    at_link l o link path = elim (le_or (length l.path) (length at + 1)) [
      | inl short ↦ not_both (is_linked tree (at ++ n ∷ []))
          (any_of (λ row. is_link row.kind && is_front row.path (at ++ n ∷ [])) tree l o (rw (link, names_equal l.path (take (length l.path) (at ++ n ∷ [])) (path ∙ front_of short)) refl)) clear
      | inr long ↦
          let (d, od, is_at) = front_stands (length l.path - (length at + 1)) tree l (length at + 1) is o (omega (arith, long)) in
          (d, od, is_at ∙ ap (take (length at + 1)) path ∙ take-take (length at + 1) (length l.path) (at ++ n ∷ names) (omega (arith, long)) ∙ front_at at n names)
    ]
      where
        pushed : at ++ n ∷ names ≡ (at ++ n ∷ []) ++ names
        pushed = sym (append_assoc at (n ∷ []) names)

        one_more : length (at ++ n ∷ []) ≡ length at + 1
        one_more = length-append at (n ∷ [])

        front_of : length l.path ≤ length at + 1 → take (length l.path) (at ++ n ∷ names) ≡ take (length l.path) (at ++ n ∷ [])
        front_of short = ap (take (length l.path)) pushed ∙ take-append-le (length l.path) (at ++ n ∷ []) names (omega (arith, one_more, short))

-- Where a link stands on the way to a path, a walk of a path that folds alike comes to it, and ends behind it.
pub linked_alike : (tree : List Row) (at found names : Names) → IsTree tree → IsClearAt tree at → is_linked tree (at ++ found) ≡ true → fold_path found ≡ fold_path names
    → (end : Names) × IsLoose true tree at names end × (is_linked tree end ≡ true)
linked_alike tree at [] names is here linked folds = not_both (is_linked tree at) (ap (is_linked tree) (sym (append-nil at)) ∙ linked) here.clear
linked_alike tree at (x ∷ found) [] is here linked folds = cc
linked_alike tree at (x ∷ found) (n ∷ names) is here linked folds =
    let head : fold_name x ≡ fold_name n = cc in
    let tail : fold_path found ≡ fold_path names = cc in
    by_link head (is_linked tree (at ++ x ∷ [])) refl (λ next on. linked_alike tree (at ++ x ∷ []) found names is next on tail)
  where
    by_link : fold_name x ≡ fold_name n → (b : Bool) → is_linked tree (at ++ x ∷ []) ≡ b
        → (IsClearAt tree (at ++ x ∷ []) → is_linked tree ((at ++ x ∷ []) ++ found) ≡ true → (end : Names) × IsLoose true tree (at ++ x ∷ []) names end × (is_linked tree end ≡ true))
        → (end : Names) × IsLoose true tree at (n ∷ names) end × (is_linked tree end ≡ true)
    by_link head true e go =
        let (l, o, link, path) = link_at tree at x here.clear e in
        (l.path ++ names, inl (l, o, alike_is at x n l path head, behind_link tree l names is o link), linked_below tree l.path names (ap (is_linked tree) path ∙ e))
    by_link head false e go =
        let (d, o, path) = row_before tree at x found is linked e in
        let stands = stands_below tree at x here.row d is here.stands o path in
        let (end, loose, link) = go (record { row = d; stands = stands; clear = e }) (ap (is_linked tree) (append_assoc at (x ∷ []) found) ∙ linked) in
        (end, inl (d, o, alike_is at x n d path head, subst (λ z. IsLoose true tree z names end) (sym path) loose), link)

-- Where no name in a directory folds alike, nothing stands below such a name.
pub nothing_below : (tree : List Row) (at : Names) (name : Name) (more : Names) (row : Row) → IsTree tree → list_any (is_alike true at name) tree ≡ false → look tree (at ++ name ∷ more) ≡ Ok row → ⊥
nothing_below tree at name more row is none stands =
    let (o, path) = row_is tree (at ++ name ∷ more) row (looked_row tree (at ++ name ∷ more) row stands) in
    let long : length row.path ≡ length at + suc (length more) = ap length path ∙ length-append at (name ∷ more) in
    let (d, od, front) = front_stands (length more) tree row (length at + 1) is o (omega (arith, long)) in
    not_both (list_any (is_alike true at name) tree)
    (any_of (is_alike true at name) tree d od (alike_is at name name d (front ∙ ap (take (length at + 1)) path ∙ front_at at name more) refl)) none

-- Above what stands something stands.
looks_above : (tree : List Row) (from at more : Names) (row : Row) → look_from tree from (at ++ more) ≡ Ok row → (d : Row) × (look_from tree from at ≡ Ok d)
looks_above tree from [] [] row e = (row, e)
looks_above tree from [] (name ∷ more) row e =
    let (over, is, kind, on) = below_ok (row_at tree from) (look_from tree (from ++ name ∷ []) more) row e in (over, ap standing is)
looks_above tree from (x ∷ at) more row e =
    let (over, is, kind, on) = below_ok (row_at tree from) (look_from tree (from ++ x ∷ []) (at ++ more)) row e in
    let (d, there) = looks_above tree (from ++ x ∷ []) at more row on in
    (d, ap (λ o. below o (look_from tree (from ++ x ∷ []) at)) is ∙ ap (λ k. below_kind k (look_from tree (from ++ x ∷ []) at)) kind ∙ there)

pub unlinked_above : (tree : List Row) (at more : Names) → is_linked tree (at ++ more) ≡ false → is_linked tree at ≡ false
unlinked_above tree at more clear = by_link (is_linked tree at) refl
  where
    by_link : (b : Bool) → is_linked tree at ≡ b → is_linked tree at ≡ false
    by_link true e = not_both (is_linked tree (at ++ more)) (linked_below tree at more e) clear
    by_link false e = e

-- What is above a clear place is clear.
pub clear_above : (tree : List Row) (at more : Names) (row : Row) → look tree (at ++ more) ≡ Ok row → is_linked tree (at ++ more) ≡ false → IsClearAt tree at
clear_above tree at more row stands clear =
    let (d, there) = looks_above tree [] at more row stands in record { row = d; stands = there; clear = unlinked_above tree at more clear }

-- ---- what stands and folds alike is where a loose walk ends

-- A walk goes on from what stands and folds alike.
pub stood_then : (tree : List Row) (at found names rest end : Names) (row : Row) → look_from tree at found ≡ Ok row → fold_path found ≡ fold_path names → IsLoose true tree (at ++ found) rest end
    → IsLoose true tree at (names ++ rest) end
stood_then tree at [] [] rest end row e f loose = subst (λ z. IsLoose true tree z rest end) (append-nil at) loose
stood_then tree at [] (n ∷ names) rest end row e f loose = cc
stood_then tree at (x ∷ found) [] rest end row e f loose = cc
stood_then tree at (x ∷ found) (n ∷ names) rest end row e f loose =
    let (over, there, kind, on) = below_ok (row_at tree at) (look_from tree (at ++ x ∷ []) found) row e in
    let (r, is) = starts tree (at ++ x ∷ []) found row on in
    let (of, path) = row_is tree (at ++ x ∷ []) r is in
    let head : fold_name x ≡ fold_name n = cc in
    let tail : fold_path found ≡ fold_path names = cc in
    inl (
      r,
      of,
      alike_is at x n r path head,
      subst (λ z. IsLoose true tree z (names ++ rest) end) (sym path)
          (stood_then tree (at ++ x ∷ []) found names rest end row on tail (subst (λ z. IsLoose true tree z rest end) (sym (append_assoc at (x ∷ []) found)) loose)),
    )
  where
    starts : (tree : List Row) (at names : Names) (row : Row) → look_from tree at names ≡ Ok row → (r : Row) × (row_at tree at ≡ Some r)
    starts tree at [] row e = (row, standing_row (row_at tree at) row e)
    starts tree at (name ∷ names) row e = let (over, is, kind, rest) = below_ok (row_at tree at) (look_from tree (at ++ name ∷ []) names) row e in (over, is)

pub stood_loosely : (tree : List Row) (at found names : Names) (row : Row) → look_from tree at found ≡ Ok row → fold_path found ≡ fold_path names
    → IsLoose true tree at names (at ++ found)
stood_loosely tree at found names row e f = subst (λ z. IsLoose true tree at z (at ++ found)) (append-nil names) (stood_then tree at found names [] (at ++ found) row e f refl)

-- ---- the names in a directory

last_pushed : (at : Names) (name : Name) → or_empty (last_name (at ++ name ∷ [])) ≡ name
last_pushed at name = ap or_empty last
  where
    last : last_name (at ++ name ∷ []) ≡ Some name
    last =
        let long : length (at ++ name ∷ []) ≡ length at + 1 = length-append at (name ∷ []) in
        let place : length (at ++ name ∷ []) - 1 ≡ length at = omega (arith, long) in
        ap (slice_get (at ++ name ∷ [])) place ∙ slice_get-get_or (at ++ name ∷ []) (length at) name (omega (arith, long)) ∙ ap (λ x. Some x) (get_or-append_seam at name [] name)

pub name_in : (at : Names) (name : Name) (row : Row) → row.path ≡ at ++ name ∷ [] → (stands_in at row ≡ true) × (name_of row ≡ name)
name_in at name row path = (both (length row.path == length at + 1) (is_front at row.path) long front, name_pushed at name row path)
  where
    both : (a b : Bool) → a ≡ true → b ≡ true → (a && b) ≡ true
    both a b e f = rw (e, f) refl

    same_number : (n : ℕ) → (n == n) ≡ true
    same_number n = grind (arith, nat_tests)

    long : (length row.path == length at + 1) ≡ true
    long = ap (λ n. n == length at + 1) (ap length path ∙ length-append at (name ∷ [])) ∙ same_number (length at + 1)

    front : is_front at row.path ≡ true
    front = names_equal at (take (length at) row.path) (sym (ap (take (length at)) path ∙ take-append_seam at (name ∷ [])))

-- a path that has names is its parent's and its last
pub splits : (at : Names) → 0 < length at → at ≡ parent_of at ++ or_empty (last_name at) ∷ []
splits at some =
    let (x, is) = last_at at (length at - 1) (omega (arith, some)) in
    let name : or_empty (last_name at) ≡ x = ap (λ p. or_empty (last_name p)) is ∙ last_pushed (parent_of at) x in
    is ∙ ap (λ z. parent_of at ++ z ∷ []) (sym name)
