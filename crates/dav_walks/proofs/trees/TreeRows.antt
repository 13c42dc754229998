-- The rows of a tree: above each stand directories, and a look finds it.
use Rattle.std.proofs.Common.{◌≡◌, ◌≤◌, ◌<◌, ◌⊎◌, ◌&&◌, ◌==◌, ◌-◌, ◌++◌, ℕ, zero, suc, List, [], ◌∷◌, length, take, drop, Bool, true, false, not, cond, Option, None, Some, Result, Ok, refl, sym, ap, subst, ◌∙◌, arith, inl, inr, append_assoc, append-nil, length-append}
use Rattle.dav_io.proofs.Cases.{second_test}
use Rattle.std.specs.List.{filter, list_all, list_any}
use Rattle.std.proofs.lemmas.Bool.{and_parts, cases_lt, not-true}
use Rattle.std.proofs.lemmas.Bool.Decides.{nat_tests}
use Rattle.std.proofs.lemmas.List.{take-take}
use Rattle.dav_core.specs.declared.tree.Row.{Row}
use Rattle.dav_core.specs.declared.handle.DiskError.{DiskError}
use Rattle.dav_core.specs.Path.{Names, is_front, parent_of, same_names}
use Rattle.dav_core.specs.Tree.{below, below_kind, has_dir, is_apart, is_dir, is_dir_row, is_free, is_placed, is_tree, look, look_from, row_at, standing}
use Rattle.dav_core.proofs.Paths.{front_join, front_rest, names_equal, names_same, parent_length}
use Rattle.dav_core.proofs.Elements.{In, all_at, in_filter}
use Rattle.dav_core.proofs.Rows.{dir_kind, row_at_in}
use Rattle.dav_walks.proofs.removals.RemovalOrder.{Once, in_paths, paths, paths_in}

-- ---- paths

pub not_both : {P : Type 0} (b : Bool) → b ≡ true → b ≡ false → P
not_both true e f = cc
not_both false e f = cc

pub front_of : (a b c : Names) → b ≡ a ++ c → is_front a b ≡ true
front_of a b c e = subst (λ x. is_front a x ≡ true) (sym e) (front_join a c)

pub front_then : (a b c : Names) → is_front a b ≡ true → is_front b c ≡ true → is_front a c ≡ true
front_then a b c e f =
    front_of a c (drop (length a) b ++ drop (length b) c)
    (front_rest b c f ∙ ap (λ x. x ++ drop (length b) c) (front_rest a b e) ∙ append_assoc a (drop (length a) b) (drop (length b) c))

pub front_length : (a b : Names) → is_front a b ≡ true → length a ≤ length b
front_length a b e = omega (arith, ap length (front_rest a b e), length-append a (drop (length a) b))

no_rest : {A : Type 0} (xs : List A) → length xs ≡ 0 → xs ≡ []
no_rest [] e = refl
no_rest (x ∷ xs) e = absurd (omega (arith, e))

-- of two paths of one length none lies below the other
pub front_equal : (a b : Names) → is_front a b ≡ true → length b ≤ length a → a ≡ b
front_equal a b e le =
    let rest = front_rest a b e in
    let none : length (drop (length a) b) ≡ 0 = omega (arith, le, ap length rest, length-append a (drop (length a) b)) in
    sym (rest ∙ ap (λ x. a ++ x) (no_rest (drop (length a) b) none) ∙ append-nil a)

-- below the parent, where it isn't the path itself
pub front_parent : (a b : Names) → is_front a b ≡ true → (a ≡ b → ⊥) → is_front a (parent_of b) ≡ true
front_parent a b e differ =
    let le = front_length a b e in
    let less : length a ≤ length b - 1 = by_less le in
    names_equal a (take (length a) (parent_of b)) (names_same a (take (length a) b) e ∙ sym (take-take (length a) (length b - 1) b less))
  where
    by_case : (length a < length b) ⊎ (length b ≤ length a) → length a ≤ length b - 1
    by_case (inl lt) = omega (arith, lt)
    by_case (inr le) = absurd (differ (front_equal a b e le))

    by_less : length a ≤ length b → length a ≤ length b - 1
    by_less le = by_case (cases_lt (length a) (length b))

-- two paths above one lie one above the other
pub fronts_meet : (a b c : Names) → is_front a c ≡ true → is_front b c ≡ true → length a ≤ length b → is_front a b ≡ true
fronts_meet a b c e f le =
    let x = names_same a (take (length a) c) e in
    let y = names_same b (take (length b) c) f in
    names_equal a (take (length a) b) (x ∙ (sym (take-take (length a) (length b) c le) ∙ ap (take (length a)) (sym y)))

-- ---- rows

pub any_none : (q : Row → Bool) (rows : List Row) → ((r : Row) → In r rows → q r ≡ false) → list_any q rows ≡ false
any_none q [] h = refl
any_none q (r ∷ rows) h = rw (h r (inl refl), any_none q rows (λ s i. h s (inr i))) refl

-- no path stands twice
free_once : (x r : Row) (rows : List Row) → is_free rows x ≡ true → In r rows → r.path ≡ x.path → ⊥
free_once x r rows free i e =
    let t = all_at (λ other. not (same_names other.path x.path) && not (other.number == x.number)) rows r free i in
    not_both (same_names r.path x.path) (names_equal r.path x.path e) (not-true (same_names r.path x.path) (and_parts (not (same_names r.path x.path)) (not (r.number == x.number)) t).0)

pub apart_once : (rows : List Row) → is_apart rows ≡ true → Once (paths rows)
apart_once [] e = tt
apart_once (x ∷ rows) e =
    let t = and_parts (is_free rows x) (is_apart rows) e in
    (λ i. (let (r, j, same) = in_paths x.path rows i in free_once x r rows t.0 j same), apart_once rows t.1)

kept_once : (b : Bool) (x : Row) (keep : Row → Bool) (rows : List Row) → (In x.path (paths rows) → ⊥) → Once (paths (filter keep rows)) → Once (paths (cond b (x ∷ filter keep rows) (filter keep rows)))
kept_once true x keep rows none once = (λ i. none (back i), once)
  where
    back : In x.path (paths (filter keep rows)) → In x.path (paths rows)
    back i = let (r, j, same) = in_paths x.path (filter keep rows) i in subst (λ p. In p (paths rows)) same (paths_in r rows (in_filter keep rows r j).0)
kept_once false x keep rows none once = once

pub filter_once : (keep : Row → Bool) (rows : List Row) → Once (paths rows) → Once (paths (filter keep rows))
filter_once keep [] once = tt
filter_once keep (x ∷ rows) once = kept_once (keep x) x keep rows once.0 (filter_once keep rows once.1)

finds : (b : Bool) (x r : Row) (o : Option Row) → (b ≡ true → r ≡ x) → (b ≡ false → o ≡ Some r) → cond b (Some x) o ≡ Some r
finds true x r o h g = ap Some (sym (h refl))
finds false x r o h g = g refl

pub at_row : (rows : List Row) (r : Row) → Once (paths rows) → In r rows → row_at rows r.path ≡ Some r
at_row [] r once i = absurd i
at_row (x ∷ rows) r once (inl e) = finds (same_names r.path x.path) x r (row_at rows r.path) (λ f. e) (λ f. not_both (same_names r.path x.path) (names_equal r.path x.path (ap (λ (y : Row). y.path) e)) f)
at_row (x ∷ rows) r once (inr i) = finds (same_names r.path x.path) x r (row_at rows r.path)
    (λ f. absurd (once.0 (subst (λ p. In p (paths rows)) (names_same r.path x.path f) (paths_in r rows i)))) (λ f. at_row rows r once.1 i)

-- ---- trees

pub record Parts (rows : List Row) : Type 0 where
  pub root : has_dir rows [] ≡ true
  pub placed : list_all (is_placed rows) rows ≡ true
  pub once : Once (paths rows)

pub parts_of : (rows : List Row) → is_tree rows ≡ true → Parts rows
parts_of rows e =
    let t = and_parts (has_dir rows []) (list_all (is_placed rows) rows && is_apart rows) e in
    let u = and_parts (list_all (is_placed rows) rows) (is_apart rows) t.1 in
    record { root = t.0; placed = u.0; once = apart_once rows u.1 }

same_some : (r s : Row) → Some r ≡ Some s → r ≡ s
same_some r s e = cc

pub only_row : (rows : List Row) (r s : Row) → Parts rows → In r rows → In s rows → r.path ≡ s.path → r ≡ s
only_row rows r s parts i j e = same_some r s (sym (at_row rows r parts.once i) ∙ ap (row_at rows) e ∙ at_row rows s parts.once j)

dir_row : (o : Option Row) → is_dir_row o ≡ true → (d : Row) × (o ≡ Some d) × (is_dir d.kind ≡ true)
dir_row None e = cc
dir_row (Some d) e = (d, refl, e)

-- a directory of the rows at a path
pub record DirAt (rows : List Row) (path : Names) : Type 0 where
  pub row : Row
  pub in_tree : In row rows
  pub at : row.path ≡ path
  pub dir : is_dir row.kind ≡ true

pub dir_at : (rows : List Row) (path : Names) → has_dir rows path ≡ true → DirAt rows path
dir_at rows path e = let (d, at, kind) = dir_row (row_at rows path) e in let t = row_at_in rows path d at in record { row = d; in_tree = t.0; at = t.1; dir = kind }

has_names : (n : ℕ) (path : Names) → n < length path → (length path == 0) ≡ false
has_names n [] lt = absurd (omega (arith, lt))
has_names n (x ∷ path) lt = grind (arith, nat_tests)

parent_dir : (rows : List Row) (r : Row) → Parts rows → In r rows → (length r.path == 0) ≡ false → DirAt rows (parent_of r.path)
parent_dir rows r parts i some =
    dir_at rows (parent_of r.path) (second_test (length r.path == 0) (is_dir r.kind) (has_dir rows (parent_of r.path)) some (all_at (is_placed rows) rows r parts.placed i))

above_by : (n : ℕ) (rows : List Row) (r : Row) (path : Names) → length r.path ≤ n → Parts rows → In r rows → is_front path r.path ≡ true → (path ≡ r.path → ⊥) → DirAt rows path
above_by zero rows r path le parts i e differ = absurd (differ (front_equal path r.path e (omega (arith, le))))
above_by (suc n) rows r path le parts i e differ = by_case (front_parent path r.path e differ) (cases_lt (length path) (length r.path))
    (λ d at up other. above_by n rows d path (omega (arith, le, ap length at, parent_length r.path)) parts up.0 up.1 other)
  where
    further : length path < length r.path → DirAt rows (parent_of r.path)
        → ((d : Row) → d.path ≡ parent_of r.path → In d rows × (is_front path d.path ≡ true) → (path ≡ d.path → ⊥) → DirAt rows path) → is_front path (parent_of r.path) ≡ true
        → (b : Bool) → same_names path (parent_of r.path) ≡ b → DirAt rows path
    further lt d more up true same = subst (DirAt rows) (sym (names_same path (parent_of r.path) same)) d
    further lt d more up false same = more d.row d.at (d.in_tree, subst (λ x. is_front path x ≡ true) (sym d.at) up)
        (λ f. not_both (same_names path (parent_of r.path)) (names_equal path (parent_of r.path) (f ∙ d.at)) same)

    by_case : is_front path (parent_of r.path) ≡ true → (length path < length r.path) ⊎ (length r.path ≤ length path)
        → ((d : Row) → d.path ≡ parent_of r.path → In d rows × (is_front path d.path ≡ true) → (path ≡ d.path → ⊥) → DirAt rows path) → DirAt rows path
    by_case up (inl lt) more = further lt (parent_dir rows r parts i (has_names (length path) r.path lt)) more up (same_names path (parent_of r.path)) refl
    by_case up (inr l) more = absurd (differ (front_equal path r.path e l))

-- Above each row stand directories.
pub above : (rows : List Row) (r : Row) (path : Names) → Parts rows → In r rows → is_front path r.path ≡ true → (path ≡ r.path → ⊥) → DirAt rows path
above rows r path parts i e differ = above_by (length r.path) rows r path (omega arith) parts i e differ

pub below_dir : (o : Option Row) (d : Row) (found : Result Row DiskError) → o ≡ Some d → is_dir d.kind ≡ true → below o found ≡ found
below_dir o d found e dir = ap (λ x. below x found) e ∙ ap (λ k. below_kind k found) (dir_kind d.kind dir)

pub longer : (at names : Names) (name : List ℕ) → at ≡ at ++ name ∷ names → ⊥
longer at names name e = let l = ap length e in omega (arith, l, length-append at (name ∷ names))

walks : (rows : List Row) (r : Row) (at names : Names) → Parts rows → In r rows → r.path ≡ at ++ names → look_from rows at names ≡ Ok r
walks rows r at [] parts i e = ap (λ p. standing (row_at rows p)) (sym (e ∙ append-nil at)) ∙ ap standing (at_row rows r parts.once i)
walks rows r at (name ∷ names) parts i e =
    let d = above rows r at parts i (front_of at r.path (name ∷ names) e) (λ f. longer at names name (f ∙ e)) in
    let here : row_at rows at ≡ Some d.row = ap (row_at rows) (sym d.at) ∙ at_row rows d.row parts.once d.in_tree in
    below_dir (row_at rows at) d.row (look_from rows (at ++ name ∷ []) names) here d.dir
    ∙ walks rows r (at ++ name ∷ []) names parts i (e ∙ sym (append_assoc at (name ∷ []) names))

-- A look finds each row.
pub look_row : (rows : List Row) (r : Row) → Parts rows → In r rows → look rows r.path ≡ Ok r
look_row rows r parts i = walks rows r [] r.path parts i refl
