-- What is known of the world in which a COPY begins, behind its looks: where what was found at the destination went, or nothing stood.
-- Headline: `begun`.
use Rattle.std.proofs.Common.{◌≡◌, ◌&&◌, List, Bool, true, false, not, Option, None, Some, refl, sym, ap, subst, ◌∙◌}
use Rattle.std.proofs.lemmas.Bool.{false_from_ne_true}
use Rattle.dav_core.specs.declared.tree.Row.{Row}
use Rattle.dav_core.specs.DavPath.{WebPath}
use Rattle.dav_core.specs.Path.{Names, is_front, parent_of}
use Rattle.dav_core.specs.Tree.{is_dir, is_link, is_linked, row_at}
use Rattle.dav_core.specs.World.{IsWorld, World}
use Rattle.dav_core.proofs.Paths.{front_itself, parent_and_last}
use Rattle.dav_core.proofs.Elements.{In, all_in, filter_in, in_filter}
use Rattle.dav_model.specs.Finding.{is_alike, is_virtual, resolved}
use Rattle.dav_model.specs.Plans.{has_link_below}
use Rattle.dav_model.specs.Rules.{Rules}
use Rattle.dav_model.specs.Valid.{TellsApart}
use Rattle.dav_model.proofs.LooseWalks.{parent_pushed}
use Rattle.dav_walks.proofs.trees.NoLinkAbove.{above_free}
use Rattle.dav_walks.proofs.trees.FoundBeneath.{row_on_way}
use Rattle.dav_walks.proofs.trees.OthersStay.{Apart, Beside, unlinked_from}
use Rattle.dav_methods.proofs.plans.CarryClears.{Seen}
use Rattle.dav_walks.proofs.copies.CopyPlaces.{Base, like_alike}
use Rattle.dav_walks.proofs.trees.FreePlaces.{Free}
use Rattle.dav_methods.proofs.plans.MoveLastAct.{clear_now, gone_in, into, into_now, some, source_now, source_of}
use Rattle.dav_walks.proofs.trees.PlaceCleared.{apart_places, dir_now, free_now, lacks_beside, none_alike, place_length}
use Rattle.dav_walks.proofs.removals.RemovalsAllowed.{no_link_below, none_any}
use Rattle.dav_walks.proofs.trees.TreeRows.{DirAt, Parts, parts_of}

-- Where no row stands nothing does.
pub free_where : (tree : List Row) (to : Names) → Parts tree → row_at tree to ≡ None → Free to tree
free_where tree to parts none r i = false_from_ne_true (is_front to r.path) (λ e. (let (s, there) = row_on_way tree parts to r i e in let never : ◌≡◌ {A = Option Row} None (Some s) = sym none ∙ there in cc))

-- ---- the world in which it begins

module _ (rules : Rules) (alone : rules.alone ≡ None) (from to : WebPath) (dir : Bool) (v u : World) (p : Seen rules from to dir v) (plain : is_virtual rules from ≡ false)
    (world : IsWorld u) (apart : TellsApart rules u) (beside : Beside (resolved rules v.tree from.names) (resolved rules v.tree to.names) v u) (free : Free (resolved rules v.tree to.names) u.tree) where
  abbrev at : Names
  at = resolved rules v.tree from.names

  -- a row of the source stood there
  still : (r : Row) → In r u.tree → is_front at r.path ≡ true → In r v.tree
  still r i front = (in_filter (λ row. is_front at row.path) v.tree r (subst (In r) beside.rows (filter_in (λ row. is_front at row.path) u.tree r front i))).0

  no_link : has_link_below u.tree at ≡ false
  no_link = ap not (all_in (λ (row : Row). not (is_link row.kind && is_front at row.path)) u.tree (λ r i. ap not (by r i (is_front at r.path) refl)))
    where
      by : (r : Row) → In r u.tree → (b : Bool) → is_front at r.path ≡ b → (is_link r.kind && is_front at r.path) ≡ false
      by r i true front = ap (λ z. z && is_front at r.path) (false_from_ne_true (is_link r.kind) (λ e. no_link_below v.tree at r p.from_below (still r i front) e front))
      by r i false other = ap (λ z. is_link r.kind && z) other ∙ and_no (is_link r.kind)
        where
          and_no : (b : Bool) → (b && false) ≡ false
          and_no true = refl
          and_no false = refl

  -- It began there, with these places.
  pub record Begun : Type 0 where
    pub base : Base rules from to
    pub world_is : base.v ≡ u
    pub from_is : base.from ≡ resolved rules v.tree from.names
    pub to_is : base.to ≡ into rules alone from to dir v p plain
    pub kind : is_dir base.row.kind ≡ dir

  pub begun : Begun
  begun =
      let lacks = lacks_beside rules alone at (resolved rules v.tree to.names) v u beside (parts_of u.tree world.tree) apart free in
      let g = gone_in rules alone from to dir v p plain u.tree lacks in
      let f = source_of rules alone from to dir v p plain in
      let goal = into rules alone from to dir v p plain in
      let source_here = source_now rules alone from to dir v p plain u.tree lacks in
      let goal_here = into_now rules alone from to dir v p plain u.tree lacks in
      let parent = parent_pushed (resolved rules v.tree (parent_of to.names)) (parent_and_last to.names (some rules alone from to dir v p plain)).0 in
      let front : is_front at f.row.path ≡ true = subst (λ z. is_front at z ≡ true) (sym f.at) (front_itself at) in
      let base : Base rules from to = record {
        v = u;
        from = at;
        to = goal;
        world = world;
        regular = apart;
        source_found = source_here;
        into_found = goal_here;
        long = sym (place_length rules alone v.tree from.names);
        row = f.row;
        in_tree = (in_filter (λ row. is_front at row.path) u.tree f.row (subst (In f.row) (sym beside.rows) (filter_in (λ row. is_front at row.path) v.tree f.row front f.in_tree))).0;
        at = f.at;
        apart = subst (λ z. Apart z goal) source_here (subst (Apart (resolved rules u.tree from.names)) goal_here (apart_places rules alone u.tree from.names to.names p.beside));
        up = subst (DirAt u.tree) (sym parent) (dir_now rules alone v.tree u.tree to.names g);
        from_clear = ap (is_linked u.tree) (sym source_here) ∙ (clear_now rules alone from to dir v p plain u lacks).0;
        from_below = no_link;
        up_clear = ap (is_linked u.tree) parent
            ∙ unlinked_from v.tree u.tree (resolved rules v.tree (parent_of to.names)) (λ r i link. (let (out, o, j, here, kind) = lacks.back r i in (o, j, here, kind)))
            (above_free rules v.tree to.names p.to_clear);
        free = free_now rules alone v.tree u.tree to.names g;
        lone = λ r i. sym (like_alike rules.folds (resolved rules v.tree (parent_of to.names)) g.last r)
            ∙ none_any (is_alike rules.folds (resolved rules v.tree (parent_of to.names)) g.last) u.tree r (none_alike rules alone v.tree u.tree to.names g) i;
      } in
      record { base = base; world_is = refl; from_is = refl; to_is = refl; kind = sym f.kind ∙ p.kind }
