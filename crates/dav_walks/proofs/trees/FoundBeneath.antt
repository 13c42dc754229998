-- Below where a path was found, each path that is asked for is found below that: while rows stand there, and where some went.
-- Headlines: `found_below` and `taken_found`.
use Rattle.std.proofs.Common.{◌≡◌, ◌++◌, inl, inr, Bool, true, false, not, cond, List, [], ◌∷◌, map, None, Some, refl, sym, ap, subst, ◌∙◌, append_assoc, append-nil}
use Rattle.std.proofs.lemmas.Bool.{false_from_ne_true, not_from_false}
use Rattle.dav_core.specs.declared.time.FileTime.{FileTime}
use Rattle.dav_core.specs.declared.tree.Row.{Row}
use Rattle.dav_core.specs.Changes.{timed_row, without}
use Rattle.dav_core.specs.Edits.{Edited, takes}
use Rattle.dav_core.specs.Path.{Names, is_front, parent_of, same_names}
use Rattle.dav_core.specs.Tree.{row_at}
use Rattle.dav_core.specs.World.{World}
use Rattle.dav_core.proofs.Paths.{names_equal, names_same}
use Rattle.dav_core.proofs.Elements.{In}
use Rattle.dav_model.specs.Finding.{or_walk, resolved, resolved_from}
use Rattle.dav_model.specs.Rules.{Rules}
use Rattle.dav_model.specs.Valid.{TellsApart}
use Rattle.dav_walks.proofs.trees.StillApart.{takes_apart}
use Rattle.dav_walks.proofs.trees.FoundStill.{child_found, found_still, found_timed}
use Rattle.dav_walks.proofs.removals.RemovalsAllowed.{timed_path}
use Rattle.dav_walks.proofs.trees.TreeRows.{Parts, above, at_row, front_of, front_then, not_both}
use Rattle.dav_walks.proofs.removals.RemovalOrder.{paths}

-- a row stands at each path on the way to one that stands
pub row_on_way : (tree : List Row) (parts : Parts tree) (path : Names) (r : Row) → In r tree → is_front path r.path ≡ true → (d : Row) × (row_at tree path ≡ Some d)
row_on_way tree parts path r i front = by (same_names path r.path) refl
  where
    by : (b : Bool) → same_names path r.path ≡ b → (d : Row) × (row_at tree path ≡ Some d)
    by true same = (r, ap (row_at tree) (names_same path r.path same) ∙ at_row tree r parts.once i)
    by false other =
        let d = above tree r path parts i front (λ e. not_both (same_names path r.path) (names_equal path r.path e) other) in
        (d.row, ap (row_at tree) (sym d.at) ∙ at_row tree d.row parts.once d.in_tree)

walk_below : (folds : Bool) (tree : List Row) (parts : Parts tree) (asked top rest : Names) → resolved_from folds tree [] asked ≡ top → (r : Row) → In r tree → r.path ≡ top ++ rest
    → resolved_from folds tree [] (asked ++ rest) ≡ top ++ rest
walk_below folds tree parts asked top [] base r i at = ap (resolved_from folds tree []) (append-nil asked) ∙ (base ∙ sym (append-nil top))
walk_below folds tree parts asked top (name ∷ rest) base r i at =
    let on : r.path ≡ (top ++ name ∷ []) ++ rest = at ∙ sym (append_assoc top (name ∷ []) rest) in
    let (d, there) = row_on_way tree parts (top ++ name ∷ []) r i (front_of (top ++ name ∷ []) r.path rest on) in
    let next : resolved_from folds tree [] (asked ++ name ∷ []) ≡ top ++ name ∷ [] =
    child_found folds tree [] asked name d (subst (λ z. row_at tree (z ++ name ∷ []) ≡ Some d) (sym base) there) ∙ ap (λ z. z ++ name ∷ []) base in
    ap (resolved_from folds tree []) (sym (append_assoc asked (name ∷ []) rest))
    ∙ (walk_below folds tree parts (asked ++ name ∷ []) (top ++ name ∷ []) rest next r i on ∙ append_assoc top (name ∷ []) rest)

-- ---- a row that is left, and what it was

stays_timed : (p : Names) (t : FileTime) (rows : List Row) (top : Names) → In top (paths (map (timed_row (parent_of p) t) rows)) → In top (paths rows)
stays_timed p t [] top i = i
stays_timed p t (x ∷ rows) top (inl same) = inl (same ∙ timed_path (same_names (parent_of p) x.path) (parent_of p) t x refl)
stays_timed p t (x ∷ rows) top (inr i) = inr (stays_timed p t rows top i)

one_left : (p top : Names) (x : Row) (rest : List Row) (b : Bool) → is_front p x.path ≡ b → (In top (paths rest) → is_front p top ≡ false)
    → In top (paths (cond (not b) (x ∷ rest) rest)) → is_front p top ≡ false
one_left p top x rest true e on i = on i
one_left p top x rest false e on (inl same) = ap (is_front p) same ∙ e
one_left p top x rest false e on (inr i) = on i

not_gone : (p : Names) (rows : List Row) (top : Names) → In top (paths (without p rows)) → is_front p top ≡ false
not_gone p [] top i = absurd i
not_gone p (x ∷ rows) top i = one_left p top x (without p rows) (is_front p x.path) refl (not_gone p rows top) i

one_there : (top : Names) (x : Row) (rest rows : List Row) (b : Bool) → (In top (paths rest) → In top (paths rows)) → In top (paths (cond (not b) (x ∷ rest) rest)) → In top (paths (x ∷ rows))
one_there top x rest rows true on i = inr (on i)
one_there top x rest rows false on (inl same) = inl same
one_there top x rest rows false on (inr i) = inr (on i)

was_there : (p : Names) (rows : List Row) (top : Names) → In top (paths (without p rows)) → In top (paths rows)
was_there p [] top i = i
was_there p (x ∷ rows) top i = one_there top x (without p rows) rows (is_front p x.path) (was_there p rows top) i

module _ (rules : Rules) (alone : rules.alone ≡ None) where
  pub walks : (tree : List Row) (names : Names) → resolved rules tree names ≡ resolved_from rules.folds tree [] names
  walks tree names = ap (λ o. or_walk o (resolved_from rules.folds tree [] names)) alone

  -- What stands below the place of a path is found there.
  pub found_below : (tree : List Row) (parts : Parts tree) (asked top rest : Names) → resolved rules tree asked ≡ top → (r : Row) → In r tree → r.path ≡ top ++ rest
      → resolved rules tree (asked ++ rest) ≡ top ++ rest
  found_below tree parts asked top rest base r i at =
      walks tree (asked ++ rest) ∙ walk_below rules.folds tree parts asked top rest (sym (walks tree asked) ∙ base) r i at

  -- A path that was found at a row is found there where other rows went.
  pub taken_found : (p asked top : Names) (v u : World) → TellsApart rules v → Edited (takes p) v u → (In top (paths v.tree) → resolved rules v.tree asked ≡ top)
      → In top (paths u.tree) → resolved rules u.tree asked ≡ top
  taken_found p asked top v u apart (t, new, is) base i =
      let j : In top (paths (without p v.tree)) = stays_timed p t (without p v.tree) top (subst (λ (rows : List Row). In top (paths rows)) is.tree i) in
      let before : resolved_from rules.folds v.tree [] asked ≡ top = sym (walks v.tree asked) ∙ base (was_there p v.tree top j) in
      let other : is_front p top ≡ false = not_gone p v.tree top j in
      walks u.tree asked ∙ (ap (λ (rows : List Row). resolved_from rules.folds rows [] asked) is.tree
      ∙ (found_timed (timed_row (parent_of p) t) (λ r. timed_path (same_names (parent_of p) r.path) (parent_of p) t r refl) rules.folds (without p v.tree) [] asked
      ∙ (sym (found_still (λ row. not (is_front p row.path)) rules.folds v.tree asked apart
      (λ r of front. not_from_false (is_front p r.path) (false_from_ne_true (is_front p r.path) (λ e. not_both (is_front p top) (front_then p r.path top e (subst (λ z. is_front r.path z ≡ true) before front)) other))))
      ∙ before)))

  pub taken_apart : (p : Names) (v u : World) → TellsApart rules v → Edited (takes p) v u → TellsApart rules u
  taken_apart p v u apart edited folds = takes_apart p v u (apart folds) edited
