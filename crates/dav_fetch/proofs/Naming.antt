-- The directories that a page names, beside their names.
use Rattle.std.proofs.Common.{◌≡◌, ◌&&◌, ◌||◌, ℕ, List, [], ◌∷◌, ◌++◌, Bool, true, false, cond, refl, sym, ap, subst, ◌∙◌}
use Rattle.std.specs.BTreeSet.{BTreeSet, Updates, contains}
use Rattle.std.specs.Cmp.Lexicographic.{nat_list_eq_equiv, slice_cmp}
use Rattle.std.specs.Ordering.{nat_cmp}
use Rattle.std.specs.Str.{bytes_eq}
use Rattle.std.proofs.lemmas.List.Folds.{list_any-append}
use Rattle.std.proofs.lemmas.Map.Text.{is_eq-slice_cmp}
use Rattle.dav_core.specs.Path.{Names, same_names}
use Rattle.dav_core.proofs.Paths.{names_same}
use Rattle.dav_fetch.specs.Naming.{AreNamed}
use Rattle.dav_fetch.specs.Walk.{is_among, with_new}

-- two members of a directory
members_same : (dir : Names) (one other : List ℕ) → same_names (dir ++ one ∷ []) (dir ++ other ∷ []) ≡ bytes_eq one other
members_same [] one other = by (bytes_eq one other)
  where
    by : (t : Bool) → (t && true) ≡ t
    by true = refl
    by false = refl
members_same (d ∷ dir) one other = ap (λ b. b && same_names (dir ++ one ∷ []) (dir ++ other ∷ [])) (nat_list_eq_equiv.refl d) ∙ members_same dir one other

-- what is among paths to which one is added
among_new : (p path : Names) (paths : List Names) → is_among p (with_new path paths) ≡ (is_among p paths || same_names p path)
among_new p path paths = by (is_among path paths) refl
  where
    either_true : (b : Bool) → (b || true) ≡ true
    either_true true = refl
    either_true false = refl

    either_false : (b : Bool) → (b || false) ≡ b
    either_false true = refl
    either_false false = refl

    there : is_among path paths ≡ true → (t : Bool) → same_names p path ≡ t → is_among p paths ≡ (is_among p paths || t)
    there e true same = (let is = ap (λ q. is_among q paths) (names_same p path same) ∙ e in is ∙ sym (either_true (is_among p paths)))
    there e false other = sym (either_false (is_among p paths))

    by : (t : Bool) → is_among path paths ≡ t → is_among p (cond t paths (paths ++ path ∷ [])) ≡ (is_among p paths || same_names p path)
    by true e = there e (same_names p path) refl
    by false e = list_any-append (same_names p) paths (path ∷ []) ∙ ap (λ b. is_among p paths || b) (either_false (same_names p path))

-- one name more, where it is none of them
one_named : (dir : Names) (paths : List Names) (old new : BTreeSet (List ℕ)) (name : List ℕ) → AreNamed dir paths old → Updates (slice_cmp nat_cmp) old new name true
    → AreNamed dir (with_new (dir ++ name ∷ []) paths) new
one_named dir paths old new name named updates other =
    among_new (dir ++ other ∷ []) (dir ++ name ∷ []) paths
    ∙ ap (λ b. b || same_names (dir ++ other ∷ []) (dir ++ name ∷ [])) (named other)
    ∙ ap (λ b. contains (slice_cmp nat_cmp) old other || b) (members_same dir other name ∙ nat_list_eq_equiv.symm other name ∙ sym (is_eq-slice_cmp name other))
    ∙ turned (contains (slice_cmp nat_cmp) old other) _ ∙ sym (updates.0 other)
  where
    turned : (a b : Bool) → (a || b) ≡ cond b true a
    turned true true = refl
    turned true false = refl
    turned false true = refl
    turned false false = refl

pub pushed_named : (dir : Names) (paths more : List Names) (old new : BTreeSet (List ℕ)) (name : List ℕ) → AreNamed dir paths old → contains (slice_cmp nat_cmp) old name ≡ false
    → Updates (slice_cmp nat_cmp) old new name true → more ≡ paths ++ (dir ++ name ∷ []) ∷ [] → AreNamed dir more new
pushed_named dir paths more old new name named absent updates is =
    subst (λ l. AreNamed dir l new) (ap (λ b. cond b paths (paths ++ (dir ++ name ∷ []) ∷ [])) (named name ∙ absent) ∙ sym is) (one_named dir paths old new name named updates)
