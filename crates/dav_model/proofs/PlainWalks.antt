-- Over a plain store each path is found as it is written, and where no link is met no link stands.
use Rattle.std.proofs.Common.{◌≡◌, inl, inr, ◌||◌, ◌&&◌, Bool, true, false, List, [], ◌∷◌, ◌++◌, length, take, drop, Option, None, Some, Ok, refl, sym, ap, ◌∙◌, append_assoc, append-nil}
use Rattle.std.specs.List.{find}
use Rattle.std.proofs.Math.Seq.{take-append_seam}
use Rattle.std.proofs.lemmas.List.{take-append-drop}
use Rattle.std.proofs.lemmas.Bool.{false_from_ne_true}
use Rattle.dav_core.specs.declared.tree.Row.{Row}
use Rattle.dav_core.specs.Path.{Names, is_front, same_names}
use Rattle.dav_core.specs.Tree.{below, is_link, is_linked, look, row_at}
use Rattle.dav_core.proofs.Plain.{names_same}
use Rattle.dav_core.proofs.Paths.{names_equal, front_itself}
use Rattle.dav_core.proofs.LookLemmas.{look_there}
use Rattle.dav_model.specs.declared.settings.Settings.{Settings}
use Rattle.dav_model.specs.Finding.{IsOf, is_alike, member, member_or, on_from, resolved, resolved_from}
use Rattle.dav_model.specs.Folds.{Name}
use Rattle.dav_model.specs.Rules.{plain_rules}
use Rattle.dav_model.proofs.LooseWalks.{find_row}

or_false : (b : Bool) → (b || false) ≡ true → b ≡ true
or_false true e = refl
or_false false e = cc

-- a name is found as it is asked for
member_itself : (tree : List Row) (at : Names) (name : Name) (exact alike : Option Row) → row_at tree (at ++ name ∷ []) ≡ exact → find (is_alike false at name) tree ≡ alike
    → (next : Names) → member_or exact alike ≡ Some next → next ≡ at ++ name ∷ []
member_itself tree at name (Some row) alike e f next is =
    let (same, of) = find_row (λ r. same_names (at ++ name ∷ []) r.path) tree row e in
    let here : row.path ≡ next = cc in
    sym here ∙ sym (names_same (at ++ name ∷ []) row.path same)
member_itself tree at name None (Some row) e f next is =
    let (same, of) = find_row (is_alike false at name) tree row f in
    let here : row.path ≡ next = cc in
    sym here ∙ sym (names_same (at ++ name ∷ []) row.path (or_false (same_names (at ++ name ∷ []) row.path) same))
member_itself tree at name None None e f next is = cc

walk_on : (tree : List Row) (at : Names) (name : Name) (names : Names) (found : Option Names) → member false tree at name ≡ found
    → ((next : Names) → resolved_from false tree next names ≡ next ++ names) → on_from found (at ++ name ∷ names) (λ next. resolved_from false tree next names) ≡ at ++ name ∷ names
walk_on tree at name names None e walk = refl
walk_on tree at name names (Some next) e walk =
    let here : next ≡ at ++ name ∷ [] = member_itself tree at name (row_at tree (at ++ name ∷ [])) (find (is_alike false at name) tree) refl refl next e in
    walk next ∙ ap (λ z. z ++ names) here ∙ append_assoc at (name ∷ []) names

walk_itself : (tree : List Row) (at names : Names) → resolved_from false tree at names ≡ at ++ names
walk_itself tree at [] = sym (append-nil at)
walk_itself tree at (name ∷ names) = walk_on tree at name names (member false tree at name) refl (λ next. walk_itself tree next names)

pub plain_resolved : (settings : Settings) (tree : List Row) (names : Names) → resolved (plain_rules settings) tree names ≡ names
plain_resolved settings tree names = walk_itself tree [] names

-- ---- links

take_itself : (a : Names) → take (length a) a ≡ a
take_itself a = ap (λ z. take (length a) z) (sym (append-nil a)) ∙ take-append_seam a []

linked_of : (tree : List Row) (row : Row) (path : Names) → IsOf row tree → is_link row.kind ≡ true → row.path ≡ path → is_linked tree path ≡ false → ⊥
linked_of [] row path of link here e = of
linked_of (r ∷ rows) row path (inl same) link here e =
    let both : (is_link r.kind && is_front r.path path) ≡ true = rw (← same, link, here, front_itself path) refl in
    never (is_link r.kind && is_front r.path path) (is_linked rows path) both e
  where
    never : (a b : Bool) → a ≡ true → (a || b) ≡ false → ⊥
    never true b p q = cc
    never false b p q = cc
linked_of (r ∷ rows) row path (inr of) link here e = linked_of rows row path of link here (back (is_link r.kind && is_front r.path path) (is_linked rows path) e)
  where
    back : (a b : Bool) → (a || b) ≡ false → b ≡ false
    back true b q = cc
    back false b q = q

-- Where no link is met on the way to a path or at it, what stands there is none.
pub unlinked_row : (tree : List Row) (path : Names) (row : Row) → look tree path ≡ Ok row → is_linked tree path ≡ false → is_link row.kind ≡ false
unlinked_row tree path row e clear =
    let (same, of) = find_row (λ r. same_names path r.path) tree row (look_there tree [] path row e) in
    false_from_ne_true (is_link row.kind) (λ link. linked_of tree row path of link (sym (names_same path row.path same)) clear)

-- What a path begins with, each path below it begins with.
front_below : (a b c : Names) → is_front a b ≡ true → is_front a (b ++ c) ≡ true
front_below a b c begins =
    let front = names_same a (take (length a) b) begins in
    let whole : b ≡ a ++ drop (length a) b = sym (take-append-drop (length a) b) ∙ ap (λ x. x ++ drop (length a) b) (sym front) in
    let longer : b ++ c ≡ a ++ (drop (length a) b ++ c) = ap (λ x. x ++ c) whole ∙ append_assoc a (drop (length a) b) c in
    names_equal a (take (length a) (b ++ c)) (sym (ap (take (length a)) longer ∙ take-append_seam a (drop (length a) b ++ c)))

-- A link on the way to a path stands on the way to each path below it.
pub linked_below : (tree : List Row) (path below : Names) → is_linked tree path ≡ true → is_linked tree (path ++ below) ≡ true
linked_below [] path below e = e
linked_below (row ∷ rows) path below e = by_link (is_link row.kind) (is_front row.path path) refl (linked_below rows path below) e
  where
    further : (b : Bool) → is_linked rows (path ++ below) ≡ true → (b || is_linked rows (path ++ below)) ≡ true
    further true f = refl
    further false f = f

    by_link : (l f : Bool) → is_front row.path path ≡ f → (is_linked rows path ≡ true → is_linked rows (path ++ below) ≡ true) → ((l && f) || is_linked rows path) ≡ true
        → ((l && is_front row.path (path ++ below)) || is_linked rows (path ++ below)) ≡ true
    by_link true true front rest g = ap (λ b. b || is_linked rows (path ++ below)) (front_below row.path path below front)
    by_link true false front rest g = further (is_front row.path (path ++ below)) (rest g)
    by_link false f front rest g = rest g
