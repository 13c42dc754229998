-- Rows of which some have other times are a tree where they were one. So they are where what stood at a path went.
-- Headline: `parts_taken`.
use Rattle.std.proofs.Common.{◌≡◌, ◌<◌, ◌==◌, List, [], ◌∷◌, length, map, Bool, true, false, cond, Option, None, Some, refl, sym, ap, subst, ◌∙◌}
use Rattle.std.specs.Option.{option_map}
use Rattle.dav_core.specs.declared.tree.Row.{Row}
use Rattle.dav_core.specs.Changes.{timed_row, without}
use Rattle.dav_core.specs.Edits.{Edited, takes}
use Rattle.dav_core.specs.Path.{Names, parent_of, same_names}
use Rattle.dav_core.specs.Tree.{has_dir, is_dir, is_dir_row, is_placed, row_at}
use Rattle.dav_core.specs.World.{World}
use Rattle.dav_core.proofs.Elements.{all_at, all_in, in_map}
use Rattle.dav_walks.proofs.trees.OthersStay.{parts_without}
use Rattle.dav_walks.proofs.removals.RemovalsAllowed.{timed_kind, timed_path}
use Rattle.dav_walks.proofs.trees.TreeRows.{Parts}
use Rattle.dav_walks.proofs.removals.RemovalOrder.{Once, paths}

module _ (h : Row → Row) (path : (r : Row) → (h r).path ≡ r.path) (kind : (r : Row) → (h r).kind ≡ r.kind) where
  at_map : (rows : List Row) (p : Names) → row_at (map h rows) p ≡ option_map h (row_at rows p)
  at_map [] p = refl
  at_map (r ∷ rows) p = ap (λ q. cond (same_names p q) (Some (h r)) (row_at (map h rows) p)) (path r) ∙ by (same_names p r.path) (at_map rows p)
    where
      by : (b : Bool) → row_at (map h rows) p ≡ option_map h (row_at rows p) → cond b (Some (h r)) (row_at (map h rows) p) ≡ option_map h (cond b (Some r) (row_at rows p))
      by true rest = refl
      by false rest = rest

  dir_map : (o : Option Row) → is_dir_row (option_map h o) ≡ is_dir_row o
  dir_map None = refl
  dir_map (Some r) = ap is_dir (kind r)

  has_map : (rows : List Row) (p : Names) → has_dir (map h rows) p ≡ has_dir rows p
  has_map rows p = ap is_dir_row (at_map rows p) ∙ dir_map (row_at rows p)

  paths_map : (rows : List Row) → paths (map h rows) ≡ paths rows
  paths_map [] = refl
  paths_map (r ∷ rows) = ap (λ q. q ∷ paths (map h rows)) (path r) ∙ ap (λ ps. r.path ∷ ps) (paths_map rows)

  placed_map : (rows : List Row) (r : Row) → is_placed (map h rows) (h r) ≡ is_placed rows r
  placed_map rows r =
      ap (λ q. cond (length q == 0) (is_dir (h r).kind) (has_dir (map h rows) (parent_of q))) (path r)
      ∙ (ap (λ k. cond (length r.path == 0) (is_dir k) (has_dir (map h rows) (parent_of r.path))) (kind r)
      ∙ ap (cond (length r.path == 0) (is_dir r.kind)) (has_map rows (parent_of r.path)))

  pub parts_map : (rows : List Row) → Parts rows → Parts (map h rows)
  parts_map rows parts = record {
    root = has_map rows [] ∙ parts.root;
    placed = all_in (is_placed (map h rows)) (map h rows)
        (λ y i. (let (r, j, is) = in_map h rows y i in ap (is_placed (map h rows)) is ∙ (placed_map rows r ∙ all_at (is_placed rows) rows r parts.placed j)));
    once = subst Once (sym (paths_map rows)) parts.once;
  }

-- ---- what stood at a path went

pub parts_taken : (p : Names) (v u : World) → 0 < length p → Parts v.tree → Edited (takes p) v u → Parts u.tree
parts_taken p v u some parts (t, new, is) =
    subst Parts (sym is.tree)
    (parts_map (timed_row (parent_of p) t) (λ r. timed_path (same_names (parent_of p) r.path) (parent_of p) t r refl) (λ r. timed_kind (same_names (parent_of p) r.path) (parent_of p) t r refl)
    (without p v.tree) (parts_without p v.tree some parts))
