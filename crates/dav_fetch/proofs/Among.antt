-- What is among the elements of a list, and lists in which nothing stands twice.
use Rattle.std.proofs.Common.{◌≡◌, ◌⊎◌, inl, inr, ◌≤◌, ◌||◌, Bool, true, false, cond, List, [], ◌∷◌, ◌++◌, length, map, Less, refl, sym, ap, subst, ◌∙◌, arith}
use Rattle.std.specs.List.{AllByRecursion, AllZip, filter}
use Rattle.std.proofs.lemmas.List.{length-append}
use Rattle.dav_core.specs.Path.{Names, same_names}
use Rattle.dav_core.proofs.Plain.{names_same}
use Rattle.dav_core.proofs.Paths.{names_equal}
use Rattle.dav_core.proofs.Elements.{in_either}
use Rattle.dav_fetch.specs.declared.found.Found.{Found}
use Rattle.dav_fetch.specs.Copy.{IsOf, path_cmp}
use Rattle.dav_fetch.specs.Keeping.{AreAscending}
use Rattle.dav_fetch.specs.Walk.{dirs_on, each_once, files_on, is_among, with_each, with_new}
use Rattle.dav_fetch.proofs.Orders.{behind_first, first_below, less_differs, of_append}

-- ---- lists made of others

pub of_filter : {A : Type 0} (p : A → Bool) (x : A) (xs : List A) → IsOf x (filter p xs) → IsOf x xs × (p x ≡ true)
of_filter p x [] is = absurd is
of_filter p x (y ∷ xs) is = by (λ more. of_filter p x xs more) (p y) refl is
  where
    by : (IsOf x (filter p xs) → IsOf x xs × (p x ≡ true)) → (t : Bool) → p y ≡ t → IsOf x (cond t (y ∷ filter p xs) (filter p xs)) → IsOf x (y ∷ xs) × (p x ≡ true)
    by on true e (inl same) = (inl same, ap p same ∙ e)
    by on true e (inr more) = let (o, h) = on more in (inr o, h)
    by on false e more = let (o, h) = on more in (inr o, h)

pub to_filter : {A : Type 0} (p : A → Bool) (x : A) (xs : List A) → IsOf x xs → p x ≡ true → IsOf x (filter p xs)
to_filter p x [] is h = absurd is
to_filter p x (y ∷ xs) (inl same) h = subst (λ t. IsOf x (cond t (y ∷ filter p xs) (filter p xs))) (sym (ap p (sym same) ∙ h)) (inl same)
to_filter p x (y ∷ xs) (inr more) h = by (p y) (to_filter p x xs more h)
  where
    by : (t : Bool) → IsOf x (filter p xs) → IsOf x (cond t (y ∷ filter p xs) (filter p xs))
    by true o = inr o
    by false o = o

pub of_map : {A B : Type 0} (f : A → B) (y : B) (xs : List A) → IsOf y (map f xs) → (x : A) × IsOf x xs × (y ≡ f x)
of_map f y [] is = absurd is
of_map f y (x ∷ xs) (inl same) = (x, inl refl, same)
of_map f y (x ∷ xs) (inr more) = let (z, o, h) = of_map f y xs more in (z, inr o, h)

pub to_map : {A B : Type 0} (f : A → B) (x : A) (xs : List A) → IsOf x xs → IsOf (f x) (map f xs)
to_map f x [] is = absurd is
to_map f x (y ∷ xs) (inl same) = inl (ap f same)
to_map f x (y ∷ xs) (inr more) = inr (to_map f x xs more)

pub each_by : {A : Type 0} (P : A → Type 0) (xs : List A) → ((x : A) → IsOf x xs → P x) → AllByRecursion P xs
each_by P [] h = tt
each_by P (x ∷ xs) h = (h x (inl refl), each_by P xs (λ y o. h y (inr o)))

pub zip_left : {A B : Type 0} (R : A → B → Type 0) (xs : List A) (ys : List B) (x : A) → AllZip R xs ys → IsOf x xs → (y : B) × IsOf y ys × R x y
zip_left R [] ys x z is = absurd is
zip_left R (a ∷ xs) [] x z is = absurd z
zip_left R (a ∷ xs) (b ∷ ys) x z (inl same) = (b, inl refl, subst (λ k. R k b) (sym same) z.0)
zip_left R (a ∷ xs) (b ∷ ys) x z (inr more) = let (y, o, r) = zip_left R xs ys x z.1 more in (y, inr o, r)

pub zip_right : {A B : Type 0} (R : A → B → Type 0) (xs : List A) (ys : List B) (y : B) → AllZip R xs ys → IsOf y ys → (x : A) × IsOf x xs × R x y
zip_right R [] [] y z is = absurd is
zip_right R [] (b ∷ ys) y z is = absurd z
zip_right R (a ∷ xs) [] y z is = absurd is
zip_right R (a ∷ xs) (b ∷ ys) y z (inl same) = (a, inl refl, subst (λ k. R a k) (sym same) z.0)
zip_right R (a ∷ xs) (b ∷ ys) y z (inr more) = let (x, o, r) = zip_right R xs ys y z.1 more in (x, inr o, r)

-- ---- paths that are found

among_of : (path : Names) (paths : List Names) → is_among path paths ≡ true → IsOf path paths
among_of path [] e = cc
among_of path (p ∷ paths) e = by (λ h. among_of path paths h) (same_names path p) refl e
  where
    by : (is_among path paths ≡ true → IsOf path paths) → (t : Bool) → same_names path p ≡ t → (t || is_among path paths) ≡ true → IsOf path (p ∷ paths)
    by on true s h = inl (names_same path p s)
    by on false s h = inr (on h)

of_new : (p path : Names) (paths : List Names) → IsOf p (with_new path paths) → IsOf p paths ⊎ (p ≡ path)
of_new p path paths is = by (is_among path paths) is
  where
    last : IsOf p (path ∷ []) → IsOf p paths ⊎ (p ≡ path)
    last (inl same) = inr same
    last (inr none) = absurd none

    by : (t : Bool) → IsOf p (cond t paths (paths ++ path ∷ [])) → IsOf p paths ⊎ (p ≡ path)
    by true o = inl o
    by false o = elim (in_either p paths (path ∷ []) o) [ inl old ↦ inl old | inr new ↦ last new ]

to_new : (p path : Names) (paths : List Names) → IsOf p paths ⊎ (p ≡ path) → IsOf p (with_new path paths)
to_new p path paths is = by (is_among path paths) refl is
  where
    by : (t : Bool) → is_among path paths ≡ t → IsOf p paths ⊎ (p ≡ path) → IsOf p (cond t paths (paths ++ path ∷ []))
    by true e (inl old) = old
    by true e (inr new) = subst (λ q. IsOf q paths) (sym new) (among_of path paths e)
    by false e (inl old) = of_append p paths (path ∷ []) (inl old)
    by false e (inr new) = of_append p paths (path ∷ []) (inr (inl new))

of_each : (p : Names) (paths more : List Names) → IsOf p (with_each paths more) → IsOf p paths ⊎ IsOf p more
of_each p paths [] is = inl is
of_each p paths (path ∷ more) is = elim (of_each p (with_new path paths) more is) [
  | inl here ↦ elim (of_new p path paths here) [ inl old ↦ inl old | inr new ↦ inr (inl new) ]
  | inr there ↦ inr (inr there)
]

to_each : (p : Names) (paths more : List Names) → IsOf p paths ⊎ IsOf p more → IsOf p (with_each paths more)
to_each p paths [] (inl is) = is
to_each p paths [] (inr is) = absurd is
to_each p paths (path ∷ more) (inl is) = to_each p (with_new path paths) more (inl (to_new p path paths (inl is)))
to_each p paths (path ∷ more) (inr (inl new)) = to_each p (with_new path paths) more (inl (to_new p path paths (inr new)))
to_each p paths (path ∷ more) (inr (inr is)) = to_each p (with_new path paths) more (inr is)

pub of_once : (p : Names) (paths : List Names) → IsOf p (each_once paths) → IsOf p paths
of_once p paths is = elim (of_each p [] paths is) [ inl none ↦ absurd none | inr o ↦ o ]

pub to_once : (p : Names) (paths : List Names) → IsOf p paths → IsOf p (each_once paths)
to_once p paths is = to_each p [] paths (inr is)

-- what was found of a kind, in a directory
pub record IsNamed (dir : Names) (found : List Found) (is_dir : Bool) (path : Names) : Type 0 where
  pub one : Found
  pub of : IsOf one found
  pub kind : one.is_dir ≡ is_dir
  pub spells : path ≡ dir ++ one.name ∷ []

more_named : (dir : Names) (f : Found) (found : List Found) (d : Bool) (p : Names) → IsNamed dir found d p → IsNamed dir (f ∷ found) d p
more_named dir f found d p n = record { one = n.one; of = inr n.of; kind = n.kind; spells = n.spells }

pub of_dirs : (p dir : Names) (found : List Found) → IsOf p (dirs_on dir found) → IsNamed dir found true p
of_dirs p dir [] is = absurd is
of_dirs p dir (f ∷ found) is = by (λ more. of_dirs p dir found more) f.is_dir refl is
  where
    by : (IsOf p (dirs_on dir found) → IsNamed dir found true p) → (t : Bool) → f.is_dir ≡ t → IsOf p (cond t ((dir ++ f.name ∷ []) ∷ dirs_on dir found) (dirs_on dir found)) → IsNamed dir (f ∷ found) true p
    by on true e (inl same) = record { one = f; of = inl refl; kind = e; spells = same }
    by on true e (inr more) = more_named dir f found true p (on more)
    by on false e more = more_named dir f found true p (on more)

pub of_files : (p dir : Names) (found : List Found) → IsOf p (files_on dir found) → IsNamed dir found false p
of_files p dir [] is = absurd is
of_files p dir (f ∷ found) is = by (λ more. of_files p dir found more) f.is_dir refl is
  where
    by : (IsOf p (files_on dir found) → IsNamed dir found false p) → (t : Bool) → f.is_dir ≡ t → IsOf p (cond t (files_on dir found) ((dir ++ f.name ∷ []) ∷ files_on dir found)) → IsNamed dir (f ∷ found) false p
    by on false e (inl same) = record { one = f; of = inl refl; kind = e; spells = same }
    by on false e (inr more) = more_named dir f found false p (on more)
    by on true e more = more_named dir f found false p (on more)

pub to_dirs : (dir : Names) (f : Found) (found : List Found) → IsOf f found → f.is_dir ≡ true → IsOf (dir ++ f.name ∷ []) (dirs_on dir found)
to_dirs dir f [] is e = absurd is
to_dirs dir f (g ∷ found) (inl same) e =
    subst (λ t. IsOf (dir ++ f.name ∷ []) (cond t ((dir ++ g.name ∷ []) ∷ dirs_on dir found) (dirs_on dir found))) (sym (ap (λ (x : Found). x.is_dir) (sym same) ∙ e))
    (inl (ap (λ (x : Found). dir ++ x.name ∷ []) same))
to_dirs dir f (g ∷ found) (inr more) e = by g.is_dir (to_dirs dir f found more e)
  where
    by : (t : Bool) → IsOf (dir ++ f.name ∷ []) (dirs_on dir found) → IsOf (dir ++ f.name ∷ []) (cond t ((dir ++ g.name ∷ []) ∷ dirs_on dir found) (dirs_on dir found))
    by true o = inr o
    by false o = o

pub to_files : (dir : Names) (f : Found) (found : List Found) → IsOf f found → f.is_dir ≡ false → IsOf (dir ++ f.name ∷ []) (files_on dir found)
to_files dir f [] is e = absurd is
to_files dir f (g ∷ found) (inl same) e =
    subst (λ t. IsOf (dir ++ f.name ∷ []) (cond t (files_on dir found) ((dir ++ g.name ∷ []) ∷ files_on dir found))) (sym (ap (λ (x : Found). x.is_dir) (sym same) ∙ e))
    (inl (ap (λ (x : Found). dir ++ x.name ∷ []) same))
to_files dir f (g ∷ found) (inr more) e = by g.is_dir (to_files dir f found more e)
  where
    by : (t : Bool) → IsOf (dir ++ f.name ∷ []) (files_on dir found) → IsOf (dir ++ f.name ∷ []) (cond t (files_on dir found) ((dir ++ g.name ∷ []) ∷ files_on dir found))
    by false o = inr o
    by true o = o

-- ---- nothing twice

abbrev pub Apart : {A : Type 0} → List A → Type 0
Apart [] = Unit {0}
Apart (x ∷ xs) = (IsOf x xs → ⊥) × Apart xs

pub apart_both : {A : Type 0} (xs ys : List A) → Apart xs → Apart ys → ((x : A) → IsOf x xs → IsOf x ys → ⊥) → Apart (xs ++ ys)
apart_both [] ys p q differ = q
apart_both (x ∷ xs) ys p q differ = (
  λ is. elim (in_either x xs ys is) [ inl here ↦ p.0 here | inr there ↦ differ x (inl refl) there ],
  apart_both xs ys p.1 q (λ y here there. differ y (inr here) there),
)

-- What stands behind a list stands not in it.
pub apart_behind : {A : Type 0} (xs ys : List A) (x : A) → Apart (xs ++ x ∷ ys) → IsOf x xs → ⊥
apart_behind [] ys x p is = is
apart_behind (z ∷ xs) ys x p (inl same) = p.0 (of_append z xs (x ∷ ys) (inr (inl (sym same))))
apart_behind (z ∷ xs) ys x p (inr more) = apart_behind xs ys x p.1 more

apart_new : (path : Names) (paths : List Names) → Apart paths → Apart (with_new path paths)
apart_new path paths p = by (is_among path paths) refl
  where
    never : (q : Names) → is_among path paths ≡ false → IsOf q paths → IsOf q (path ∷ []) → ⊥
    never q e old (inl same) = no paths e (subst (λ x. IsOf x paths) same old)
      where
        no : (paths : List Names) → is_among path paths ≡ false → IsOf path paths → ⊥
        no [] e is = is
        no (r ∷ rs) e (inl here) = clash (same_names path r) (is_among path rs) (names_equal path r here) e
          where
            clash : (a b : Bool) → a ≡ true → (a || b) ≡ false → ⊥
            clash true b f g = cc
            clash false b f g = cc
        no (r ∷ rs) e (inr more) = no rs (later (same_names path r) (is_among path rs) e) more
          where
            later : (a b : Bool) → (a || b) ≡ false → b ≡ false
            later true b g = cc
            later false b g = g
    never q e old (inr none) = none

    by : (t : Bool) → is_among path paths ≡ t → Apart (cond t paths (paths ++ path ∷ []))
    by true e = p
    by false e = apart_both paths (path ∷ []) p ((λ is. is), tt) (λ q old new. never q e old new)

apart_each : (paths more : List Names) → Apart paths → Apart (with_each paths more)
apart_each paths [] p = p
apart_each paths (path ∷ more) p = apart_each (with_new path paths) more (apart_new path paths p)

pub apart_once : (paths : List Names) → Apart (each_once paths)
apart_once paths = apart_each [] paths tt

-- paths in order stand apart
pub ascending_apart : (paths : List Names) → AreAscending paths → Apart paths
ascending_apart [] up = tt
ascending_apart (p ∷ ps) up = (λ is. itself (below ps (first_below p ps up) is), ascending_apart ps (behind_first p ps up))
  where
    below : (qs : List Names) → AllByRecursion (λ q. path_cmp p q ≡ Less) qs → IsOf p qs → path_cmp p p ≡ Less
    below [] all is = absurd is
    below (q ∷ qs) all (inl same) = subst (λ x. path_cmp p x ≡ Less) (sym same) all.0
    below (q ∷ qs) all (inr more) = below qs all.1 more

    itself : path_cmp p p ≡ Less → ⊥
    itself e = clash (same_names p p) (names_equal p p refl) (less_differs p p e)
      where
        clash : (t : Bool) → t ≡ true → t ≡ false → ⊥
        clash t a b = cc

parts_at : {A : Type 0} (x : A) (ys : List A) → IsOf x ys → (a : List A) × (b : List A) × (ys ≡ a ++ x ∷ b)
parts_at x [] is = absurd is
parts_at x (y ∷ ys) (inl same) = ([], ys, ap (λ z. z ∷ ys) (sym same))
parts_at x (y ∷ ys) (inr more) = let (a, b, e) = parts_at x ys more in (y ∷ a, b, ap (λ z. y ∷ z) e)

left_out : {A : Type 0} (a b : List A) (x y : A) → IsOf y (a ++ x ∷ b) → (y ≡ x → ⊥) → IsOf y (a ++ b)
left_out a b x y is other = elim (in_either y a (x ∷ b) is) [
  | inl here ↦ of_append y a b (inl here)
  | inr there ↦ rest there
]
  where
    rest : IsOf y (x ∷ b) → IsOf y (a ++ b)
    rest (inl same) = absurd (other same)
    rest (inr more) = of_append y a b (inr more)

-- There are no more of them than of what they are among.
pub apart_fewer : {A : Type 0} (xs ys : List A) → Apart xs → ((x : A) → IsOf x xs → IsOf x ys) → length xs ≤ length ys
apart_fewer [] ys p inside = omega arith
apart_fewer (x ∷ xs) ys p inside =
    let (a, b, e) = parts_at x ys (inside x (inl refl)) in
    let fewer : length xs ≤ length (a ++ b) =
    apart_fewer xs (a ++ b) p.1 (λ y is. left_out a b x y (subst (IsOf y) e (inside y (inr is))) (λ same. p.0 (subst (λ z. IsOf z xs) same is))) in
    let long : length ys ≡ length (a ++ x ∷ b) = ap length e in
    omega (arith, fewer, long, length-append a b, length-append a (x ∷ b))
