-- The walk of the rules is a loose walk.
use Rattle.std.proofs.Common.{◌≡◌, ◌⊎◌, inl, inr, ◌||◌, ◌&&◌, Bool, true, false, not, cond, List, [], ◌∷◌, ◌++◌, Option, None, Some, refl, sym, ap, ◌∙◌}
use Rattle.std.specs.List.{find, list_any, list_all}
use Rattle.std.proofs.lemmas.Bool.{and_parts, or_cases}
use Rattle.dav_core.proofs.Plain.{names_same}
use Rattle.dav_core.specs.declared.tree.Row.{Row}
use Rattle.dav_core.specs.Path.{Names, same_names, parent_of}
use Rattle.dav_core.specs.Tree.{row_at}
use Rattle.dav_model.specs.Folds.{Name, folds_like, fold_path}
use Rattle.dav_model.specs.Rules.{Rules, Knowledge}
use Rattle.dav_model.specs.Valid.{are_twins, no_twins}
use Rattle.dav_model.specs.Finding.{is_alike, member_or, on_from, resolved_from, resolved, or_walk, IsOf, IsLoose, EndsLoosely, exactly, MayFind}
pub use Rattle.dav_core.proofs.Paths.{names_refl, names_equal, parent_pushed}

found : (f : Row → Bool) (b : Bool) (r x : Row) (rows : List Row) → f r ≡ b → (find f rows ≡ Some x → (f x ≡ true) × IsOf x rows) → cond b (Some r) (find f rows) ≡ Some x
    → (f x ≡ true) × ((x ≡ r) ⊎ IsOf x rows)
found f true r x rows e h g = let same : x ≡ r = cc in (ap f same ∙ e, inl same)
found f false r x rows e h g = let y = h g in (y.0, inr y.1)

pub find_row : (f : Row → Bool) (rows : List Row) (x : Row) → find f rows ≡ Some x → (f x ≡ true) × IsOf x rows
find_row f [] x e = cc
find_row f (r ∷ rows) x e = found f (f r) r x rows refl (find_row f rows x) e

not_found : (f : Row → Bool) (b : Bool) (r : Row) (rows : List Row) → f r ≡ b → (find f rows ≡ None → list_any f rows ≡ false) → cond b (Some r) (find f rows) ≡ None → (b || list_any f rows) ≡ false
not_found f true r rows e h g = cc
not_found f false r rows e h g = h g

find_none : (f : Row → Bool) (rows : List Row) → find f rows ≡ None → list_any f rows ≡ false
find_none f [] e = refl
find_none f (r ∷ rows) e = not_found f (f r) r rows refl (find_none f rows) e

-- the walk at a name, by what was found there
at_name : (folds : Bool) (tree : List Row) (at : Names) (name : Name) (names : Names) → ((next : Names) → IsLoose folds tree next names (resolved_from folds tree next names))
    → (exact alike : Option Row) → row_at tree (at ++ name ∷ []) ≡ exact → find (is_alike folds at name) tree ≡ alike
    → IsLoose folds tree at (name ∷ names) (on_from (member_or exact alike) (at ++ name ∷ names) (λ next. resolved_from folds tree next names))
at_name folds tree at name names walk (Some row) alike e f =
    let (same, of) = find_row (λ r. same_names (at ++ name ∷ []) r.path) tree row e in
    inl (row, of, ap (λ b. b || (folds && (same_names (parent_of row.path) at && folds_like row.path (at ++ name ∷ [])))) same, walk row.path)
at_name folds tree at name names walk None (Some row) e f = let (same, of) = find_row (is_alike folds at name) tree row f in inl (row, of, same, walk row.path)
at_name folds tree at name names walk None None e f = inr (find_none (is_alike folds at name) tree f, refl)

pub walk_is_loose : (folds : Bool) (tree : List Row) (at names : Names) → IsLoose folds tree at names (resolved_from folds tree at names)
walk_is_loose folds tree at [] = refl
walk_is_loose folds tree at (name ∷ names) = at_name folds tree at name names (λ next. walk_is_loose folds tree next names) _ _ refl refl

ends_loosely : (alone : Option Names) (folds : Bool) (tree : List Row) (names : Names) → EndsLoosely alone folds tree names (or_walk alone (resolved_from folds tree [] names))
ends_loosely None folds tree names = walk_is_loose folds tree [] names
ends_loosely (Some file) folds tree names = refl

-- What the rules find, a store may find in any run.
pub exactly_may : (rules : Rules) (k : Knowledge) (tree : List Row) → MayFind rules k tree (exactly rules tree)
exactly_may rules k tree = record {
  looks = λ names. ends_loosely rules.alone rules.folds tree names;
  opens = λ names. ends_loosely rules.alone rules.folds tree names;
  lists = λ names. ends_loosely rules.alone rules.folds tree names;
  denied = λ path e. cc;
}

-- ---- where no two names fold alike, each loose walk ends where the walk of the rules ends

twins_of : (a b : Row) → parent_of a.path ≡ parent_of b.path → fold_path a.path ≡ fold_path b.path → are_twins a b ≡ true
twins_of a b e f = and_both _ _ (names_equal _ _ e) (names_equal _ _ f)
  where
    and_both : (x y : Bool) → x ≡ true → y ≡ true → (x && y) ≡ true
    and_both true true p q = refl
    and_both true false p q = cc
    and_both false y p q = cc

all_of : (f : Row → Bool) (rows : List Row) (x : Row) → list_all f rows ≡ true → IsOf x rows → f x ≡ true
all_of f [] x e o = absurd o
all_of f (r ∷ rows) x e (inl same) = ap f same ∙ (and_parts (f r) (list_all f rows) e).0
all_of f (r ∷ rows) x e (inr o) = all_of f rows x (and_parts (f r) (list_all f rows) e).1 o

any_of : (f : Row → Bool) (rows : List Row) (x : Row) → list_any f rows ≡ false → IsOf x rows → f x ≡ true → ⊥
any_of f [] x e o t = o
any_of f (r ∷ rows) x e o t = any_by (f r) refl e o (λ h o'. any_of f rows x h o' t)
  where
    any_by : (b : Bool) → f r ≡ b → (b || list_any f rows) ≡ false → (x ≡ r) ⊎ IsOf x rows → (list_any f rows ≡ false → IsOf x rows → ⊥) → ⊥
    any_by true g h o' go = cc
    any_by false g h (inl same) go = let k : f x ≡ false = ap f same ∙ g in cc
    any_by false g h (inr o') go = go h o'

never : (b : Bool) → b ≡ true → not b ≡ true → ⊥
never true e f = cc
never false e f = cc

twins_same : (rows : List Row) (a b : Row) → no_twins rows ≡ true → IsOf a rows → IsOf b rows → parent_of a.path ≡ parent_of b.path → fold_path a.path ≡ fold_path b.path → a ≡ b
twins_same [] a b e o p f g = absurd o
twins_same (r ∷ rows) a b e (inl x) (inl y) f g = x ∙ sym y
twins_same (r ∷ rows) a b e (inl x) (inr y) f g =
    absurd (never (are_twins r b) (twins_of r b (ap (λ (z : Row). parent_of z.path) (sym x) ∙ f) (ap (λ (z : Row). fold_path z.path) (sym x) ∙ g))
    (all_of (λ other. not (are_twins r other)) rows b (and_parts (list_all (λ other. not (are_twins r other)) rows) (no_twins rows) e).0 y))
twins_same (r ∷ rows) a b e (inr x) (inl y) f g =
    absurd (never (are_twins r a) (twins_of r a (ap (λ (z : Row). parent_of z.path) (sym y) ∙ sym f) (ap (λ (z : Row). fold_path z.path) (sym y) ∙ sym g))
    (all_of (λ other. not (are_twins r other)) rows a (and_parts (list_all (λ other. not (are_twins r other)) rows) (no_twins rows) e).0 x))
twins_same (r ∷ rows) a b e (inr x) (inr y) f g = twins_same rows a b (and_parts (list_all (λ other. not (are_twins r other)) rows) (no_twins rows) e).1 x y f g

abbrev Near : Bool → Names → Name → Row → Type 0
Near folds at name r = (at ++ name ∷ [] ≡ r.path) ⊎ ((folds ≡ true) × (parent_of r.path ≡ at) × (fold_path r.path ≡ fold_path (at ++ name ∷ [])))

near : (folds : Bool) (at : Names) (name : Name) (r : Row) → is_alike folds at name r ≡ true → Near folds at name r
near folds at name r e = elim (or_cases (same_names (at ++ name ∷ []) r.path) (folds && (same_names (parent_of r.path) at && folds_like r.path (at ++ name ∷ []))) e) [
  | inl same ↦ inl (names_same _ _ same)
  | inr all ↦ let (x, rest) = and_parts folds (same_names (parent_of r.path) at && folds_like r.path (at ++ name ∷ [])) all in
      let (y, z) = and_parts (same_names (parent_of r.path) at) (folds_like r.path (at ++ name ∷ [])) rest in
      inr (x, names_same _ _ y, names_same _ _ z)
]

alike_one : (folds : Bool) (tree : List Row) (at : Names) (name : Name) (a b : Row) → (folds ≡ true → no_twins tree ≡ true) → IsOf a tree → IsOf b tree
    → Near folds at name a → Near folds at name b → a.path ≡ b.path
alike_one folds tree at name a b apart o p (inl x) (inl y) = sym x ∙ y
alike_one folds tree at name a b apart o p (inl x) (inr (f, y, z)) =
    ap (λ (r : Row). r.path) (twins_same tree a b (apart f) o p (ap parent_of (sym x) ∙ parent_pushed at name ∙ sym y) (ap fold_path (sym x) ∙ sym z))
alike_one folds tree at name a b apart o p (inr (f, y, z)) (inl x) =
    ap (λ (r : Row). r.path) (twins_same tree a b (apart f) o p (y ∙ sym (parent_pushed at name) ∙ ap parent_of x) (z ∙ ap fold_path x))
alike_one folds tree at name a b apart o p (inr (f, y, z)) (inr (g, y', z')) =
    ap (λ (r : Row). r.path) (twins_same tree a b (apart f) o p (y ∙ sym y') (z ∙ sym z'))

exact_alike : (folds : Bool) (tree : List Row) (at : Names) (name : Name) (r : Row) → row_at tree (at ++ name ∷ []) ≡ Some r → IsOf r tree × (is_alike folds at name r ≡ true)
exact_alike folds tree at name r e = let (same, of) = find_row (λ x. same_names (at ++ name ∷ []) x.path) tree r e in
    (of, ap (λ b. b || (folds && (same_names (parent_of r.path) at && folds_like r.path (at ++ name ∷ [])))) same)

member_is : (folds : Bool) (tree : List Row) (at : Names) (name : Name) (next : Row) → (folds ≡ true → no_twins tree ≡ true) → IsOf next tree → is_alike folds at name next ≡ true
    → (exact alike : Option Row) → row_at tree (at ++ name ∷ []) ≡ exact → find (is_alike folds at name) tree ≡ alike → member_or exact alike ≡ Some next.path
member_is folds tree at name next apart of same (Some r) alike e f = let (o, s) = exact_alike folds tree at name r e in
    ap (λ z. Some z) (alike_one folds tree at name r next apart o of (near folds at name r s) (near folds at name next same))
member_is folds tree at name next apart of same None (Some r) e f = let (s, o) = find_row (is_alike folds at name) tree r f in
    ap (λ z. Some z) (alike_one folds tree at name r next apart o of (near folds at name r s) (near folds at name next same))
member_is folds tree at name next apart of same None None e f = absurd (any_of (is_alike folds at name) tree next (find_none (is_alike folds at name) tree f) of same)

member_none : (folds : Bool) (tree : List Row) (at : Names) (name : Name) → list_any (is_alike folds at name) tree ≡ false
    → (exact alike : Option Row) → row_at tree (at ++ name ∷ []) ≡ exact → find (is_alike folds at name) tree ≡ alike → member_or exact alike ≡ None
member_none folds tree at name none (Some r) alike e f = let (o, s) = exact_alike folds tree at name r e in absurd (any_of (is_alike folds at name) tree r none o s)
member_none folds tree at name none None (Some r) e f = let (s, o) = find_row (is_alike folds at name) tree r f in absurd (any_of (is_alike folds at name) tree r none o s)
member_none folds tree at name none None None e f = refl

pub loose_is_walk : (folds : Bool) (tree : List Row) (at names end : Names) → (folds ≡ true → no_twins tree ≡ true) → IsLoose folds tree at names end
    → end ≡ resolved_from folds tree at names
loose_is_walk folds tree at [] end apart walk = walk
loose_is_walk folds tree at (name ∷ names) end apart (inl (next, of, same, walk)) =
    loose_is_walk folds tree next.path names end apart walk
    ∙ ap (λ m. on_from m (at ++ name ∷ names) (λ z. resolved_from folds tree z names)) (sym (member_is folds tree at name next apart of same _ _ refl refl))
loose_is_walk folds tree at (name ∷ names) end apart (inr (none, e)) =
    e ∙ ap (λ m. on_from m (at ++ name ∷ names) (λ z. resolved_from folds tree z names)) (sym (member_none folds tree at name none _ _ refl refl))

-- In a valid run a path is found where the rules say.
pub found_exactly : (rules : Rules) (tree : List Row) (names end : Names) → (rules.folds ≡ true → no_twins tree ≡ true) → EndsLoosely rules.alone rules.folds tree names end
    → end ≡ resolved rules tree names
found_exactly rules tree names end apart ends = by_alone rules.alone ends
  where
    by_alone : (alone : Option Names) → EndsLoosely alone rules.folds tree names end → end ≡ or_walk alone (resolved_from rules.folds tree [] names)
    by_alone None walk = loose_is_walk rules.folds tree [] names end apart walk
    by_alone (Some file) e = e
