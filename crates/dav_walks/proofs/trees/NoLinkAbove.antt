-- No link stands on the way to the directory above what the rules find, where none stands on the way to that.
-- Headline: `above_free`.
use Rattle.std.proofs.Common.{◌≡◌, ◌⊎◌, inl, inr, ◌&&◌, ◌-◌, Bool, true, false, List, [], ◌∷◌, ◌++◌, length, drop, Option, None, Some, refl, sym, ap, subst, ◌∙◌, append_assoc}
use Rattle.std.specs.List.{find}
use Rattle.std.proofs.lemmas.Bool.{and_parts, or_cases}
use Rattle.std.proofs.lemmas.List.{take-append-drop}
use Rattle.dav_core.proofs.Plain.{names_same}
use Rattle.dav_core.specs.declared.tree.Row.{Row}
use Rattle.dav_core.specs.Path.{Names, parent_of, same_names}
use Rattle.dav_core.specs.Tree.{is_linked, row_at}
use Rattle.dav_model.specs.Finding.{is_alike, member, member_or, on_from, or_walk, resolved, resolved_from}
use Rattle.dav_model.specs.Folds.{Name, folds_like}
use Rattle.dav_model.specs.Rules.{Rules}
use Rattle.dav_model.proofs.LooseWalks.{find_row, parent_pushed}
use Rattle.dav_model.proofs.PlainWalks.{linked_below}

-- What is found in a directory stands below it.
member_below : (folds : Bool) (tree : List Row) (at : Names) (name : Name) (next : Names) (exact alike : Option Row) → row_at tree (at ++ name ∷ []) ≡ exact → find (is_alike folds at name) tree ≡ alike
    → member_or exact alike ≡ Some next → (x : Names) × (next ≡ at ++ x)
member_below folds tree at name next (Some row) alike e f is =
    let p = find_row (λ r. same_names (at ++ name ∷ []) r.path) tree row e in
    let here : row.path ≡ next = cc in
    (name ∷ [], sym here ∙ sym (names_same (at ++ name ∷ []) row.path p.0))
member_below folds tree at name next None (Some row) e f is =
    let p = find_row (is_alike folds at name) tree row f in
    let here : row.path ≡ next = cc in
    elim (or_cases (same_names (at ++ name ∷ []) row.path) (folds && (same_names (parent_of row.path) at && folds_like row.path (at ++ name ∷ []))) p.0) [
      | inl same ↦ (name ∷ [], sym here ∙ sym (names_same (at ++ name ∷ []) row.path same))
      | inr all ↦ (let q = and_parts (same_names (parent_of row.path) at) (folds_like row.path (at ++ name ∷ [])) (and_parts folds (same_names (parent_of row.path) at && folds_like row.path (at ++ name ∷ [])) all).1 in
          (drop (length row.path - 1) row.path, sym here ∙ (sym (take-append-drop (length row.path - 1) row.path) ∙ ap (λ z. z ++ drop (length row.path - 1) row.path) (names_same (parent_of row.path) at q.0))))
    ]
member_below folds tree at name next None None e f is = cc

abbrev Up : Bool → List Row → Names → Names → Name → Type 0
Up folds tree at init last = (x : Names) × (resolved_from folds tree at (init ++ last ∷ []) ≡ resolved_from folds tree at init ++ x)

last_up : (folds : Bool) (tree : List Row) (at : Names) (last : Name) (found : Option Names) → member folds tree at last ≡ found
    → (x : Names) × (on_from found (at ++ last ∷ []) (λ next. next) ≡ at ++ x)
last_up folds tree at last None e = (last ∷ [], refl)
last_up folds tree at last (Some next) e = member_below folds tree at last next (row_at tree (at ++ last ∷ [])) (find (is_alike folds at last) tree) refl refl e

on_up : (folds : Bool) (tree : List Row) (at : Names) (name : Name) (init : Names) (last : Name) (found : Option Names) → ((next : Names) → Up folds tree next init last)
    → (x : Names) × (on_from found (at ++ name ∷ (init ++ last ∷ [])) (λ next. resolved_from folds tree next (init ++ last ∷ []))
    ≡ on_from found (at ++ name ∷ init) (λ next. resolved_from folds tree next init) ++ x)
on_up folds tree at name init last None up = (last ∷ [], sym (append_assoc at (name ∷ init) (last ∷ [])))
on_up folds tree at name init last (Some next) up = up next

walk_up : (folds : Bool) (tree : List Row) (at init : Names) (last : Name) → Up folds tree at init last
walk_up folds tree at [] last = last_up folds tree at last (member folds tree at last) refl
walk_up folds tree at (name ∷ init) last = on_up folds tree at name init last (member folds tree at name) (λ next. walk_up folds tree next init last)

pub parted : (names : Names) → (names ≡ []) ⊎ ((init : Names) × (last : Name) × (names ≡ init ++ last ∷ []))
parted [] = inl refl
parted (name ∷ names) = by (parted names)
  where
    by : (names ≡ []) ⊎ ((init : Names) × (last : Name) × (names ≡ init ++ last ∷ [])) → (name ∷ names ≡ []) ⊎ ((init : Names) × (last : Name) × (name ∷ names ≡ init ++ last ∷ []))
    by (inl e) = inr ([], name, ap (λ z. name ∷ z) e)
    by (inr (init, last, e)) = inr (name ∷ init, last, ap (λ z. name ∷ z) e)

no_link_above : (tree : List Row) (p x q : Names) → q ≡ p ++ x → is_linked tree q ≡ false → is_linked tree p ≡ false
no_link_above tree p x q e free = by (is_linked tree p) refl
  where
    by : (b : Bool) → is_linked tree p ≡ b → is_linked tree p ≡ false
    by false f = f
    by true f = let never : true ≡ false = sym (linked_below tree p x f) ∙ (ap (is_linked tree) (sym e) ∙ free) in cc

pub above_free : (rules : Rules) (tree : List Row) (names : Names) → is_linked tree (resolved rules tree names) ≡ false → is_linked tree (resolved rules tree (parent_of names)) ≡ false
above_free rules tree names free = by_alone rules.alone free
  where
    by_names : (names ≡ []) ⊎ ((init : Names) × (last : Name) × (names ≡ init ++ last ∷ [])) → is_linked tree (resolved_from rules.folds tree [] names) ≡ false
        → is_linked tree (resolved_from rules.folds tree [] (parent_of names)) ≡ false
    by_names (inl e) f = subst (λ (z : Names). is_linked tree (resolved_from rules.folds tree [] (parent_of z)) ≡ false) (sym e) (subst (λ (z : Names). is_linked tree (resolved_from rules.folds tree [] z) ≡ false) e f)
    by_names (inr (init, last, e)) f =
        let (x, is) = walk_up rules.folds tree [] init last in
        let here : parent_of names ≡ init = ap parent_of e ∙ parent_pushed init last in
        subst (λ (z : Names). is_linked tree (resolved_from rules.folds tree [] z) ≡ false) (sym here)
        (no_link_above tree (resolved_from rules.folds tree [] init) x (resolved_from rules.folds tree [] (init ++ last ∷ [])) is
        (subst (λ (z : Names). is_linked tree (resolved_from rules.folds tree [] z) ≡ false) e f))

    by_alone : (alone : Option Names) → is_linked tree (or_walk alone (resolved_from rules.folds tree [] names)) ≡ false
        → is_linked tree (or_walk alone (resolved_from rules.folds tree [] (parent_of names))) ≡ false
    by_alone None f = by_names (parted names) f
    by_alone (Some file) f = f
