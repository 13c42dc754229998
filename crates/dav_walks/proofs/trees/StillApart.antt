-- A removal leaves no names that fold alike where there were none.
-- Headline: `takes_apart`.
use Rattle.std.proofs.Common.{◌≡◌, ◌&&◌, Bool, true, false, not, cond, List, [], ◌∷◌, map, refl, ap, ◌∙◌}
use Rattle.std.specs.List.{filter, list_all}
use Rattle.std.proofs.lemmas.Bool.{and_from, and_parts}
use Rattle.dav_core.specs.declared.tree.Row.{Row}
use Rattle.dav_core.specs.Changes.{timed_row, without}
use Rattle.dav_core.specs.Edits.{Edited, takes}
use Rattle.dav_core.specs.Path.{Names, is_front, parent_of, same_names}
use Rattle.dav_core.specs.World.{World}
use Rattle.dav_model.specs.Folds.{folds_like}
use Rattle.dav_model.specs.Valid.{Twinless, are_twins, no_twins}
use Rattle.dav_walks.proofs.removals.RemovalsAllowed.{timed_path}

-- ---- fewer rows

all_fewer_by : (b : Bool) (g : Row → Bool) (r : Row) (rows : List Row) → g r ≡ true → list_all g rows ≡ true → list_all g (cond b (r ∷ rows) rows) ≡ true
all_fewer_by true g r rows e h = and_from (g r) (list_all g rows) e h
all_fewer_by false g r rows e h = h

all_fewer : (f g : Row → Bool) (rows : List Row) → list_all g rows ≡ true → list_all g (filter f rows) ≡ true
all_fewer f g [] e = refl
all_fewer f g (r ∷ rows) e = let p = and_parts (g r) (list_all g rows) e in all_fewer_by (f r) g r (filter f rows) p.0 (all_fewer f g rows p.1)

apart_fewer_by : (b : Bool) (r : Row) (rows : List Row) → list_all (λ other. not (are_twins r other)) rows ≡ true → no_twins rows ≡ true → no_twins (cond b (r ∷ rows) rows) ≡ true
apart_fewer_by true r rows e h = and_from (list_all (λ other. not (are_twins r other)) rows) (no_twins rows) e h
apart_fewer_by false r rows e h = h

pub apart_fewer : (f : Row → Bool) (rows : List Row) → no_twins rows ≡ true → no_twins (filter f rows) ≡ true
apart_fewer f [] e = refl
apart_fewer f (r ∷ rows) e =
    let p = and_parts (list_all (λ other. not (are_twins r other)) rows) (no_twins rows) e in
    apart_fewer_by (f r) r (filter f rows) (all_fewer f (λ other. not (are_twins r other)) rows p.0) (apart_fewer f rows p.1)

-- ---- rows with other times

abbrev twins : Names → Names → Bool
twins p q = same_names (parent_of p) (parent_of q) && folds_like p q

all_timed : (h : Row → Row) → ((r : Row) → (h r).path ≡ r.path) → (a : Row) (rows : List Row) → list_all (λ other. not (are_twins (h a) other)) (map h rows) ≡ list_all (λ other. not (are_twins a other)) rows
all_timed h same a [] = refl
all_timed h same a (r ∷ rows) =
    ap (λ (p : Names). not (twins p (h r).path) && list_all (λ other. not (are_twins (h a) other)) (map h rows)) (same a)
    ∙ (ap (λ (q : Names). not (twins a.path q) && list_all (λ other. not (are_twins (h a) other)) (map h rows)) (same r)
    ∙ ap (λ b. not (twins a.path r.path) && b) (all_timed h same a rows))

pub apart_timed : (h : Row → Row) → ((r : Row) → (h r).path ≡ r.path) → (rows : List Row) → no_twins (map h rows) ≡ no_twins rows
apart_timed h same [] = refl
apart_timed h same (r ∷ rows) =
    ap (λ b. b && no_twins (map h rows)) (all_timed h same r rows) ∙ ap (λ b. list_all (λ other. not (are_twins r other)) rows && b) (apart_timed h same rows)

pub takes_apart : (path : Names) (v w : World) → Twinless v → Edited (takes path) v w → Twinless w
takes_apart path v w apart (t, new, is) =
    ap no_twins is.tree ∙ (apart_timed (timed_row (parent_of path) t) (λ r. timed_path (same_names (parent_of path) r.path) (parent_of path) t r refl) (without path v.tree) ∙ apart_fewer (λ (row : Row). not (is_front path row.path)) v.tree apart)
