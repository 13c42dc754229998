-- Rows that stand in a list, and what keeps a list of rows a tree.
use Rattle.std.proofs.Common.{◌≡◌, ◌≤◌, ◌==◌, ◌-◌, ◌&&◌, ◌⊎◌, ◌∷◌, [], List, Bool, true, false, cond, not, length, take, map, min, Option, None, Some, inl, inr, refl, sym, ap, ◌∙◌, arith, length-take}
use Rattle.std.specs.List.{filter, list_all, AllByRecursion}
use Rattle.std.specs.Option.{option_map, IfSome}
use Rattle.std.proofs.lemmas.Bool.{and_parts, not-true, not_from_false, eq-eqb, cases_Bool, and_from}
use Rattle.std.proofs.lemmas.Bool.Decides.{nat_tests}
use Rattle.std.proofs.lemmas.List.{take-take}
use Rattle.dav_core.specs.declared.tree.Row.{Row}
use Rattle.dav_core.specs.declared.tree.Kind.TheVariants.{Dir}
use Rattle.dav_core.specs.Path.{Names, same_names, parent_of, is_front}
use Rattle.dav_core.specs.Tree.{row_at, is_dir, is_dir_row, has_dir, is_placed, is_free, is_apart, is_tree}
use Rattle.dav_core.proofs.Paths.{names_same, names_equal, names_differ, parent_length}
use Rattle.dav_core.proofs.Elements.{In, all_at, all_in, in_map, map_in, in_filter, filter_in}
use Rattle.dav_core.proofs.Rows.{row_at_in, in_row_at, dir_row, tree_parts, IsTree}
use Rattle.std.proofs.lemmas.Option.{same_Some}
use Rattle.dav_io.proofs.Cases.{second_test}

-- ---- names

pub not_both : (b : Bool) → b ≡ true → b ≡ false → ⊥
not_both b e f = let t : true ≡ false = sym e ∙ f in cc

pub differs : (a b : Names) → same_names a b ≡ false → a ≡ b → ⊥
differs a b f e = not_both (same_names a b) (names_equal a b e) f

-- a path is the front of another
abbrev pub IsFront : Names → Names → Type 0
IsFront front path = front ≡ take (length front) path

pub front_yes : (front path : Names) → is_front front path ≡ true → IsFront front path
front_yes front path = names_same front (take (length front) path)

pub front_no : (front path : Names) → (IsFront front path → ⊥) → is_front front path ≡ false
front_no front path = names_differ front (take (length front) path)

pub front_length : (front path : Names) → IsFront front path → length front ≤ length path
front_length front path e = let l : length front ≡ min (length front) (length path) = simp length-take at (ap length e) in omega arith

pub no_names : (path : Names) → (length path == 0) ≡ true → path ≡ []
no_names [] e = refl
no_names (n ∷ path) e = absurd (grind (arith, nat_tests))

-- what lies below a parent lies below the path
pub front_parent : (front path : Names) → IsFront front (parent_of path) → IsFront front path
front_parent front path e =
    let l = front_length front (parent_of path) e in
    let p = parent_length path in
    let le : length front ≤ length path - 1 = omega arith in
    e ∙ take-take (length front) (length path - 1) path le

pub no_front_parent : (path : Names) → (length path == 0) ≡ false → IsFront path (parent_of path) → ⊥
no_front_parent path some e =
    let l = front_length path (parent_of path) e in
    let p = parent_length path in
    grind (arith, nat_tests)

pub no_front_root : (path : Names) → (length path == 0) ≡ false → IsFront path [] → ⊥
no_front_root path some e =
    let l = front_length path [] e in
    grind (arith, nat_tests)

-- ---- rows of a list

pub each_at : (P : Row → Type 0) (xs : List Row) (r : Row) → AllByRecursion P xs → In r xs → P r
each_at P [] r all i = absurd i
each_at P (x ∷ xs) r all (inl e) = rw e all.0
each_at P (x ∷ xs) r all (inr i) = each_at P xs r all.1 i

pub each_in : (P : Row → Type 0) (xs : List Row) → ((r : Row) → In r xs → P r) → AllByRecursion P xs
each_in P [] h = tt
each_in P (x ∷ xs) h = (h x (inl refl), each_in P xs (λ r i. h r (inr i)))

-- ---- rows that are found

-- a row that is apart from another
pub apart_from : (x r : Row) → (not (same_names r.path x.path) && not (r.number == x.number)) ≡ true → (same_names r.path x.path ≡ false) × ((r.number == x.number) ≡ false)
apart_from x r e = let t = and_parts (not (same_names r.path x.path)) (not (r.number == x.number)) e in (not-true (same_names r.path x.path) t.0, not-true (r.number == x.number) t.1)

pub free_at : (x : Row) (xs : List Row) (r : Row) → is_free xs x ≡ true → In r xs → (same_names r.path x.path ≡ false) × ((r.number == x.number) ≡ false)
free_at x xs r free i = apart_from x r (all_at (λ (other : Row). not (same_names other.path x.path) && not (other.number == x.number)) xs r free i)

-- no path stands twice
pub only_row : (rows : List Row) (r s : Row) → is_apart rows ≡ true → In r rows → In s rows → r.path ≡ s.path → r ≡ s
only_row rows r s apart i j e = same_Some r s (sym (in_row_at rows r apart i) ∙ ap (row_at rows) e ∙ in_row_at rows s apart j)

-- no number stands twice
pub only_number : (rows : List Row) (r s : Row) → is_apart rows ≡ true → In r rows → In s rows → r.number ≡ s.number → r ≡ s
only_number [] r s apart i j e = absurd i
only_number (x ∷ xs) r s apart (inl i) (inl j) e = i ∙ sym j
only_number (x ∷ xs) r s apart (inl i) (inr j) e =
    let t = and_parts (is_free xs x) (is_apart xs) apart in
    absurd (not_both (s.number == x.number) (eq-eqb s.number x.number (sym e ∙ ap (λ (r : Row). r.number) i)) (free_at x xs s t.0 j).1)
only_number (x ∷ xs) r s apart (inr i) (inl j) e =
    let t = and_parts (is_free xs x) (is_apart xs) apart in
    absurd (not_both (r.number == x.number) (eq-eqb r.number x.number (e ∙ ap (λ (r : Row). r.number) j)) (free_at x xs r t.0 i).1)
only_number (x ∷ xs) r s apart (inr i) (inr j) e = only_number xs r s (and_parts (is_free xs x) (is_apart xs) apart).1 i j e

-- the directory at a path
pub dir_at : (rows : List Row) (path : Names) → has_dir rows path ≡ true → (d : Row) × In d rows × (d.path ≡ path) × (d.kind ≡ Dir)
dir_at rows path e = let (d, at, kind) = dir_row (row_at rows path) e in let t = row_at_in rows path d at in (d, t.0, t.1, kind)

pub dir_stands : (rows : List Row) (d : Row) (path : Names) → is_apart rows ≡ true → In d rows → d.kind ≡ Dir → d.path ≡ path → has_dir rows path ≡ true
dir_stands rows d path apart i kind e = ap (λ p. is_dir_row (row_at rows p)) (sym e) ∙ ap is_dir_row (in_row_at rows d apart i) ∙ ap is_dir kind

-- ---- the parts of a tree

pub tree_of : (rows : List Row) → IsTree rows → is_tree rows ≡ true
tree_of rows p = and_from (has_dir rows []) (list_all (is_placed rows) rows && is_apart rows) p.root (and_from (list_all (is_placed rows) rows) (is_apart rows) p.placed p.apart)

at_root : (b x y : Bool) → b ≡ true → cond b x y ≡ true → x ≡ true
at_root true x y e f = f
at_root false x y e f = cc

-- the directory above a row
pub parent_row : (rows : List Row) (r : Row) → IsTree rows → In r rows → (length r.path == 0) ≡ false → (d : Row) × In d rows × (d.path ≡ parent_of r.path) × (d.kind ≡ Dir)
parent_row rows r p i some =
    dir_at rows (parent_of r.path) (second_test (length r.path == 0) (is_dir r.kind) (has_dir rows (parent_of r.path)) some (all_at (is_placed rows) rows r p.placed i))

pub root_dir : (rows : List Row) (r : Row) → IsTree rows → In r rows → (length r.path == 0) ≡ true → is_dir r.kind ≡ true
root_dir rows r p i none = at_root (length r.path == 0) (is_dir r.kind) (has_dir rows (parent_of r.path)) none (all_at (is_placed rows) rows r p.placed i)

placed_by : (b x y : Bool) → (b ≡ true → x ≡ true) → (b ≡ false → y ≡ true) → cond b x y ≡ true
placed_by true x y h g = h refl
placed_by false x y h g = g refl

apart_by : (x r : Row) → (r.path ≡ x.path → ⊥) → (r.number == x.number) ≡ false → (not (same_names r.path x.path) && not (r.number == x.number)) ≡ true
apart_by x r h n = and_from (not (same_names r.path x.path)) (not (r.number == x.number)) (not_from_false (same_names r.path x.path) (names_differ r.path x.path h)) (not_from_false (r.number == x.number) n)

-- ---- rows that are taken away

kept_apart : (keep : Row → Bool) (b : Bool) (x : Row) (xs : List Row) → is_free (filter keep xs) x ≡ true → is_apart (filter keep xs) ≡ true → is_apart (cond b (x ∷ filter keep xs) (filter keep xs)) ≡ true
kept_apart keep true x xs free apart = and_from (is_free (filter keep xs) x) (is_apart (filter keep xs)) free apart
kept_apart keep false x xs free apart = apart

filtered_apart : (keep : Row → Bool) (rows : List Row) → is_apart rows ≡ true → is_apart (filter keep rows) ≡ true
filtered_apart keep [] apart = refl
filtered_apart keep (x ∷ xs) apart =
    let t = and_parts (is_free xs x) (is_apart xs) apart in
    let q : Row → Bool = λ other. not (same_names other.path x.path) && not (other.number == x.number) in
    kept_apart keep (keep x) x xs
    (all_in q (filter keep xs) (λ r i. all_at q xs r t.0 (in_filter keep xs r i).0))
    (filtered_apart keep xs t.1)

pub filtered_tree : (rows : List Row) (keep : Row → Bool) → is_tree rows ≡ true → ((r : Row) → r.path ≡ [] → keep r ≡ true)
    → ((r d : Row) → keep r ≡ true → d.path ≡ parent_of r.path → keep d ≡ true) → is_tree (filter keep rows) ≡ true
filtered_tree rows keep tree root parent =
    let p = tree_parts rows tree in
    let apart = filtered_apart keep rows p.apart in
    let top = dir_at rows [] p.root in
    tree_of (filter keep rows) (record {
      root = dir_stands (filter keep rows) top.0 [] apart (filter_in keep rows top.0 (root top.0 top.2) top.1) top.3 top.2;
      placed = all_in (is_placed (filter keep rows)) (filter keep rows) (λ r i.
          let t = in_filter keep rows r i in
          placed_by (length r.path == 0) (is_dir r.kind) (has_dir (filter keep rows) (parent_of r.path)) (root_dir rows r p t.0) (λ some.
          let d = parent_row rows r p t.0 some in
          dir_stands (filter keep rows) d.0 (parent_of r.path) apart (filter_in keep rows d.0 (parent r d.0 t.1 d.2) d.1) d.3 d.2));
      apart = apart;
    })

-- ---- rows that are changed

-- The rows get other paths or times, and each stands below a directory again.
pub record Maps (rows : List Row) (f : Row → Row) : Type 0 where
  pub kind : (r : Row) → (f r).kind ≡ r.kind
  pub number : (r : Row) → (f r).number ≡ r.number
  pub apart : (r s : Row) → In r rows → In s rows → (f r).path ≡ (f s).path → r.path ≡ s.path
  pub root : (r : Row) → r.path ≡ [] → (f r).path ≡ []
  pub top : (r : Row) → In r rows → (length (f r).path == 0) ≡ true → (length r.path == 0) ≡ true
  pub parent : (r : Row) → In r rows → (length r.path == 0) ≡ false → (d : Row) × In d rows × (d.kind ≡ Dir) × ((f d).path ≡ parent_of (f r).path)

mapped_free : (f : Row → Row) (x : Row) (xs : List Row) → ((r : Row) → (f r).number ≡ r.number) → ((r : Row) → In r xs → (f r).path ≡ (f x).path → r.path ≡ x.path) → is_free xs x ≡ true → is_free (map f xs) (f x) ≡ true
mapped_free f x xs number paths free =
    all_in (λ (other : Row). not (same_names other.path (f x).path) && not (other.number == (f x).number)) (map f xs) (λ y i.
    let (r, at, e) = in_map f xs y i in
    let t = free_at x xs r free at in
    rw e (apart_by (f x) (f r) (λ same. differs r.path x.path t.0 (paths r at same)) (rw (number r, number x) t.1)))

mapped_apart : (f : Row → Row) (rows : List Row) → ((r : Row) → (f r).number ≡ r.number) → ((r s : Row) → In r rows → In s rows → (f r).path ≡ (f s).path → r.path ≡ s.path)
    → is_apart rows ≡ true → is_apart (map f rows) ≡ true
mapped_apart f [] number paths apart = refl
mapped_apart f (x ∷ xs) number paths apart =
    let t = and_parts (is_free xs x) (is_apart xs) apart in
    and_from (is_free (map f xs) (f x)) (is_apart (map f xs))
    (mapped_free f x xs number (λ r i. paths r x (inr i) (inl refl)) t.0)
    (mapped_apart f xs number (λ r s i j. paths r s (inr i) (inr j)) t.1)

still_root : (f : Row → Row) (r : Row) → ((r : Row) → r.path ≡ [] → (f r).path ≡ []) → (length r.path == 0) ≡ true → (length (f r).path == 0) ≡ true
still_root f r root none = let empty = no_names r.path none in ap (λ (p : Names). length p == 0) (root r empty)

placed_case : (rows : List Row) (f : Row → Row) (r : Row) → Maps rows f → IsTree rows → is_apart (map f rows) ≡ true → In r rows → (length (f r).path == 0) ≡ false
    → ((length r.path == 0) ≡ true) ⊎ ((length r.path == 0) ≡ false) → has_dir (map f rows) (parent_of (f r).path) ≡ true
placed_case rows f r m p apart i some (inl none) = absurd (not_both (length (f r).path == 0) (still_root f r m.root none) some)
placed_case rows f r m p apart i some (inr more) =
    let d = m.parent r i more in
    dir_stands (map f rows) (f d.0) (parent_of (f r).path) apart (map_in f rows d.0 d.1) (m.kind d.0 ∙ d.2) d.3

placed_below : (rows : List Row) (f : Row → Row) (r : Row) → Maps rows f → IsTree rows → is_apart (map f rows) ≡ true → In r rows → (length (f r).path == 0) ≡ false
    → has_dir (map f rows) (parent_of (f r).path) ≡ true
placed_below rows f r m p apart i some = placed_case rows f r m p apart i some (cases_Bool (length r.path == 0))

pub mapped_tree : (rows : List Row) (f : Row → Row) → is_tree rows ≡ true → Maps rows f → is_tree (map f rows) ≡ true
mapped_tree rows f tree m =
    let p = tree_parts rows tree in
    let apart = mapped_apart f rows m.number m.apart p.apart in
    let top = dir_at rows [] p.root in
    tree_of (map f rows) (record {
      root = dir_stands (map f rows) (f top.0) [] apart (map_in f rows top.0 top.1) (m.kind top.0 ∙ top.3) (m.root top.0 top.2);
      placed = all_in (is_placed (map f rows)) (map f rows) (λ y i.
          let (r, at, e) = in_map f rows y i in
          rw e (placed_by (length (f r).path == 0) (is_dir (f r).kind) (has_dir (map f rows) (parent_of (f r).path))
          (λ none. ap is_dir (m.kind r) ∙ root_dir rows r p at (m.top r at none))
          (λ some. placed_below rows f r m p apart at some)));
      apart = apart;
    })

-- what is found at a path has the path
pub found_path : {B : Type 0} (now : B → Row) (rows : List Row) (path : Names) (o : Option B) → option_map now o ≡ row_at rows path → IfSome o (λ b. (now b).path ≡ path)
found_path now rows path None e = tt
found_path now rows path (Some b) e = (row_at_in rows path (now b) (sym e)).1
