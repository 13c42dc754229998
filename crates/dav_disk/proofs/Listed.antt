-- The names that have places in a directory are the names of the rows that stand there.
use Rattle.std.proofs.Common.{suc, ◌≡◌, ◌+◌, ◌⊎◌, ℕ, List, [], ◌∷◌, ◌++◌, map, Bool, true, false, cond, Option, None, Some, inl, inr, refl, sym, ap, ◌∙◌}
use Rattle.std.specs.Option.{option_map, is_some}
use Rattle.std.specs.List.{filter, AllByRecursion, AllPass, IsDistinct}
use Rattle.std.specs.List.Sorted.{IsPermutation}
use Rattle.std.specs.Ordering.{nat_cmp, is_eq}
use Rattle.std.specs.Cmp.Lexicographic.{slice_cmp}
use Rattle.std.proofs.lemmas.Bool.{and_parts, or_cases, or_left, or_right}
use Rattle.std.proofs.lemmas.List.Folds.{list_all-append}
use Rattle.std.proofs.lemmas.List.Elements.{All-from_recursion, recursion_from_All}
use Rattle.std.proofs.lemmas.List.Sorted.{All-permutation, IsPermutation-refl, IsPermutation-cons, IsPermutation-sym, IsPermutation-trans, IsPermutation-middle}
use Rattle.std.proofs.lemmas.Slice.Eq.{bytes_eq-Decides}
use Rattle.dav_core.specs.declared.tree.Row.{Row}
use Rattle.dav_core.specs.Path.{Names, same_names, is_plain, all_plain}
use Rattle.dav_core.specs.World.{IsPlain, ArePlain}
use Rattle.dav_core.specs.Tree.{is_free, is_apart, is_tree}
use Rattle.dav_core.specs.Listing.{stands_in, name_of, names_in}
use Rattle.dav_disk.specs.declared.places.Places.{Places}
use Rattle.dav_disk.specs.Members.{has_name, IsEachOnce, AreNamesOf, members_of}
use Rattle.dav_disk.specs.Places.{place_of, Indexes}
use Rattle.dav_disk.proofs.Trees.{not_both, free_at}
use Rattle.dav_core.proofs.Paths.{names_same, names_equal}
use Rattle.dav_core.proofs.Elements.{In}
use Rattle.dav_core.proofs.Rows.{tree_parts, name_pushed, stands_there, path_in}
use Rattle.std.proofs.lemmas.Map.Text.{is_eq-slice_cmp}

-- ---- lists in which each name stands once

abbrev Once : Names → Type 0
Once [] = Unit {0}
Once (x ∷ xs) = (In x xs → ⊥) × Once xs

split : (x : List ℕ) (ys : Names) → In x ys → (front : Names) × (back : Names) × (ys ≡ front ++ x ∷ back)
split x [] a = absurd a
split x (y ∷ ys) (inl e) = ([], ys, ap (λ z. z ∷ ys) (sym e))
split x (y ∷ ys) (inr a) = let t = split x ys a in (y ∷ t.0, t.1, ap (λ zs. y ∷ zs) t.2)

among_more : (x y : List ℕ) (front back : Names) → In y (front ++ back) → In y (front ++ x ∷ back)
among_more x y [] back a = inr a
among_more x y (z ∷ front) back (inl e) = inl e
among_more x y (z ∷ front) back (inr a) = inr (among_more x y front back a)

among_less : (x y : List ℕ) (front back : Names) → In y (front ++ x ∷ back) → (y ≡ x) ⊎ In y (front ++ back)
among_less x y [] back (inl e) = inl e
among_less x y [] back (inr a) = inr a
among_less x y (z ∷ front) back (inl e) = inr (inl e)
among_less x y (z ∷ front) back (inr a) = later (among_less x y front back a)
  where
    later : (y ≡ x) ⊎ In y (front ++ back) → (y ≡ x) ⊎ In y (z ∷ front ++ back)
    later (inl e) = inl e
    later (inr b) = inr (inr b)

among_here : (x y : List ℕ) (front back : Names) → y ≡ x → In y (front ++ x ∷ back)
among_here x y [] back e = inl e
among_here x y (z ∷ front) back e = inr (among_here x y front back e)

once_rest : (x : List ℕ) (front back : Names) → Once (front ++ x ∷ back) → Once (front ++ back) × (In x (front ++ back) → ⊥)
once_rest x [] back o = (o.1, o.0)
once_rest x (z ∷ front) back o = let t = once_rest x front back o.1 in (((λ a. o.0 (among_more x z front back a)), t.0), apart t.1)
  where
    apart : (In x (front ++ back) → ⊥) → In x (z ∷ (front ++ back)) → ⊥
    apart h (inl e) = o.0 (among_here x z front back (sym e))
    apart h (inr a) = h a

-- two lists with the same names, each once
same_once : (xs ys : Names) → Once xs → Once ys → ((x : List ℕ) → In x xs → In x ys) → ((x : List ℕ) → In x ys → In x xs) → IsPermutation xs ys
same_once [] [] one other to from = IsPermutation-refl []
same_once [] (y ∷ ys) one other to from = absurd (from y (inl refl))
same_once (x ∷ xs) ys one other to from =
    let (front, back, e) = split x ys (to x (inl refl)) in
    let (left, apart) = once_rest x front back (rw e at other) in
    let rest = same_once xs (front ++ back) one.1 left
    (λ y a. kept y front back a (among_less x y front back (rw e at (to y (inr a)))))
    (λ y a. back_to y front back apart a (from y (rw e (among_more x y front back a)))) in
    rw e (IsPermutation-trans _ _ _ (IsPermutation-cons x xs (front ++ back) rest) (IsPermutation-sym _ _ (IsPermutation-middle front x back)))
  where
    kept : (y : List ℕ) (front back : Names) → In y xs → (y ≡ x) ⊎ In y (front ++ back) → In y (front ++ back)
    kept y front back a (inl same) = absurd (one.0 (rw (← same) a))
    kept y front back a (inr b) = b

    back_to : (y : List ℕ) (front back : Names) → (In x (front ++ back) → ⊥) → In y (front ++ back) → In y (x ∷ xs) → In y xs
    back_to y front back apart a (inl same) = absurd (apart (rw (← same) a))
    back_to y front back apart a (inr b) = b

-- ---- what an index says of its names

alike : (a b : List ℕ) → is_eq (slice_cmp nat_cmp a b) ≡ true → a ≡ b
alike a b e = (bytes_eq-Decides a b).0 (sym (is_eq-slice_cmp a b) ∙ e)

alike_same : (a b : List ℕ) → a ≡ b → is_eq (slice_cmp nat_cmp a b) ≡ true
alike_same a b e = is_eq-slice_cmp a b ∙ (bytes_eq-Decides a b).1 e

among_has : (x : List ℕ) (xs : Names) → In x xs → has_name xs x ≡ true
among_has x [] a = absurd a
among_has x (y ∷ ys) (inl e) = or_left _ (has_name ys x) (alike_same x y e)
among_has x (y ∷ ys) (inr a) = or_right (is_eq (slice_cmp nat_cmp x y)) _ (among_has x ys a)

has_among : (x : List ℕ) (xs : Names) → has_name xs x ≡ true → In x xs
has_among x [] e = cc
has_among x (y ∷ ys) e = from (has_among x ys) (or_cases (is_eq (slice_cmp nat_cmp x y)) (has_name ys x) e)
  where
    from : (has_name ys x ≡ true → In x ys) → (is_eq (slice_cmp nat_cmp x y) ≡ true) ⊎ (has_name ys x ≡ true) → In x (y ∷ ys)
    from h (inl t) = inl (alike x y t)
    from h (inr t) = inr (h t)

apart_among : (x : List ℕ) (xs : Names) → AllByRecursion (λ y. is_eq (slice_cmp nat_cmp x y) ≡ false) xs → In x xs → ⊥
apart_among x [] all a = a
apart_among x (y ∷ ys) all (inl e) = not_both (is_eq (slice_cmp nat_cmp x y)) (alike_same x y e) all.0
apart_among x (y ∷ ys) all (inr a) = apart_among x ys all.1 a

once_from : (xs : Names) → IsEachOnce xs → Once xs
unfolding IsDistinct
once_from [] d = tt
once_from (x ∷ xs) d = (apart_among x xs d.0, once_from xs d.1)

-- ---- the names of rows

abbrev StandsAt : Names → List Row → Type 0
StandsAt path rows = (row : Row) × In row rows × (row.path ≡ path)

row_among : (dir : Names) (rows : List Row) (x : List ℕ) → In x (names_in rows dir) → StandsAt (dir ++ x ∷ []) rows
row_among dir [] x a = absurd a
row_among dir (r ∷ rows) x a = by (row_among dir rows x) (stands_in dir r) refl a
  where
    later : StandsAt (dir ++ x ∷ []) rows → StandsAt (dir ++ x ∷ []) (r ∷ rows)
    later s = (s.0, inr s.1, s.2)

    by : (In x (names_in rows dir) → StandsAt (dir ++ x ∷ []) rows) → (b : Bool) → stands_in dir r ≡ b → In x (map name_of (cond b (r ∷ filter (stands_in dir) rows) (filter (stands_in dir) rows))) → StandsAt (dir ++ x ∷ []) (r ∷ rows)
    by h true e (inl same) = (r, inl refl, path_in dir r e ∙ ap (λ z. dir ++ z ∷ []) (sym same))
    by h true e (inr a) = later (h a)
    by h false e a = later (h a)

among_row : (dir : Names) (rows : List Row) (x : List ℕ) (row : Row) → In row rows → row.path ≡ dir ++ x ∷ [] → In x (names_in rows dir)
among_row dir [] x row i path = absurd i
among_row dir (r ∷ rows) x row i path = by (λ j. among_row dir rows x row j path) (stands_in dir r) refl i
  where
    here : (b : Bool) → stands_in dir r ≡ b → row ≡ r → In x (map name_of (cond b (r ∷ filter (stands_in dir) rows) (filter (stands_in dir) rows)))
    here true e same = inl (sym (name_pushed dir x r (ap (λ (y : Row). y.path) (sym same) ∙ path)))
    here false e same = absurd (not_both (stands_in dir r) (stands_there dir x r (ap (λ (y : Row). y.path) (sym same) ∙ path)) e)

    later : (b : Bool) → In x (names_in rows dir) → In x (map name_of (cond b (r ∷ filter (stands_in dir) rows) (filter (stands_in dir) rows)))
    later true a = inr a
    later false a = a

    by : (In row rows → In x (names_in rows dir)) → (b : Bool) → stands_in dir r ≡ b → (row ≡ r) ⊎ In row rows → In x (map name_of (cond b (r ∷ filter (stands_in dir) rows) (filter (stands_in dir) rows)))
    by h b e (inl same) = here b e same
    by h b e (inr j) = later b (h j)

names_once : (dir : Names) (rows : List Row) → is_apart rows ≡ true → Once (names_in rows dir)
names_once dir [] apart = tt
names_once dir (r ∷ rows) apart = by (names_once dir rows (and_parts (is_free rows r) (is_apart rows) apart).1) (stands_in dir r) refl
  where
    parts : (is_free rows r ≡ true) × (is_apart rows ≡ true)
    parts = and_parts (is_free rows r) (is_apart rows) apart

    alone : stands_in dir r ≡ true → In (name_of r) (names_in rows dir) → ⊥
    alone stands a =
        let (s, i, path) = row_among dir rows (name_of r) a in
        not_both (same_names s.path r.path) (names_equal s.path r.path (path ∙ sym (path_in dir r stands))) (free_at r rows s parts.0 i).0

    by : Once (names_in rows dir) → (b : Bool) → stands_in dir r ≡ b → Once (map name_of (cond b (r ∷ filter (stands_in dir) rows) (filter (stands_in dir) rows)))
    by h true e = (alone e, h)
    by h false e = h

some_later : (b : Bool) (o : Option ℕ) → is_some o ≡ true → is_some (cond b (Some 0) (option_map suc o)) ≡ true
some_later true o e = refl
some_later false None e = e
some_later false (Some i) e = refl

some_here : (b : Bool) (o : Option ℕ) → b ≡ true → is_some (cond b (Some 0) (option_map suc o)) ≡ true
some_here true o e = refl
some_here false o e = cc

row_placed : (rows : List Row) (path : Names) (row : Row) → In row rows → row.path ≡ path → is_some (place_of path rows) ≡ true
row_placed [] path row i e = absurd i
row_placed (r ∷ rows) path row (inl same) e = some_here (same_names path r.path) (place_of path rows) (names_equal path r.path (sym e ∙ ap (λ (y : Row). y.path) same))
row_placed (r ∷ rows) path row (inr i) e = some_later (same_names path r.path) (place_of path rows) (row_placed rows path row i e)

placed_row : (rows : List Row) (path : Names) → is_some (place_of path rows) ≡ true → StandsAt path rows
placed_row [] path e = cc
placed_row (r ∷ rows) path e = by (placed_row rows path) (same_names path r.path) (place_of path rows) refl refl e
  where
    by : (is_some (place_of path rows) ≡ true → StandsAt path rows) → (b : Bool) (o : Option ℕ) → same_names path r.path ≡ b → place_of path rows ≡ o → is_some (cond b (Some 0) (option_map suc o)) ≡ true → StandsAt path (r ∷ rows)
    by h true o t p e = (r, inl refl, sym (names_same path r.path t))
    by h false None t p e = cc
    by h false (Some i) t p e = let s = h (ap is_some p) in (s.0, inr s.1, s.2)

-- the names of an index are those of the rows
pub index_lists : (p : Places) (rows : List Row) (dir : Names) (names : Names) → is_tree rows ≡ true → Indexes p rows → AreNamesOf (members_of p.dirs dir) names → IsPermutation (names_in rows dir) names
index_lists p rows dir names tree index listed =
    same_once (names_in rows dir) names (names_once dir rows (tree_parts rows tree).apart) (once_from names listed.0)
    (λ x a. let (row, i, path) = row_among dir rows x a in
    has_among x names (listed.2 x ∙ ap is_some (index.places dir x) ∙ row_placed rows (dir ++ x ∷ []) row i path))
    (λ x a. let (row, i, path) = placed_row rows (dir ++ x ∷ []) (ap is_some (sym (index.places dir x)) ∙ sym (listed.2 x) ∙ among_has x names a) in
    among_row dir rows x row i path)

-- ---- plain names

last_plain : (dir : Names) (name : List ℕ) → all_plain (dir ++ name ∷ []) ≡ true → is_plain name ≡ true
last_plain dir name e =
    let t = and_parts (all_plain dir) (all_plain (name ∷ [])) (sym (list_all-append is_plain dir (name ∷ [])) ∙ e) in
    (and_parts (is_plain name) true t.1).0

names_plain : (dir : Names) (rows : List Row) → AllByRecursion IsPlain rows → AllByRecursion (λ name. is_plain name ≡ true) (names_in rows dir)
names_plain dir [] all = tt
names_plain dir (r ∷ rows) all = by (names_plain dir rows all.1) (stands_in dir r) refl
  where
    by : AllByRecursion (λ name. is_plain name ≡ true) (names_in rows dir) → (b : Bool) → stands_in dir r ≡ b
        → AllByRecursion (λ name. is_plain name ≡ true) (map name_of (cond b (r ∷ filter (stands_in dir) rows) (filter (stands_in dir) rows)))
    by h true e = (last_plain dir (name_of r) (ap all_plain (sym (path_in dir r e)) ∙ all.0), h)
    by h false e = h

-- the names in a directory are plain, in whatever order
pub listed_plain : (dir : Names) (rows : List Row) (names : Names) → ArePlain rows → IsPermutation (names_in rows dir) names → AllPass is_plain names
listed_plain dir rows names plain order =
    All-permutation (λ name. is_plain name ≡ true) (names_in rows dir) names order
    (All-from_recursion (λ name. is_plain name ≡ true) (names_in rows dir) (names_plain dir rows (recursion_from_All IsPlain rows plain)))
