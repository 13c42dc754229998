-- What stands while a tree is copied: the source as it was, what was made so far, and nothing where more is to come.
use Rattle.std.proofs.Common.{◌≡◌, ◌<◌, ◌⊎◌, ◌++◌, ℕ, List, [], ◌∷◌, length, Bool, true, false, refl, sym, ap, subst, ◌∙◌, arith, inl, inr}
use Rattle.std.proofs.lemmas.Bool.{false_from_ne_true}
use Rattle.dav_core.specs.declared.tree.Kind.{Kind}
use Rattle.dav_core.specs.declared.tree.Kind.TheVariants.{Dir}
use Rattle.dav_core.specs.declared.tree.Row.{Row}
use Rattle.dav_core.specs.declared.time.FileTime.{FileTime}
use Rattle.dav_core.specs.Changes.{timed_row}
use Rattle.dav_core.specs.Edits.{Edited, makes}
use Rattle.dav_core.specs.Path.{Names, is_front, parent_of, same_names}
use Rattle.dav_core.specs.Tree.{is_dir, is_link, is_linked}
use Rattle.dav_core.specs.World.{IsWorld, SameBesidesOpens, World}
use Rattle.dav_core.proofs.Paths.{front_itself, parent_length}
use Rattle.dav_core.proofs.Elements.{In, filter_in, in_either, in_filter, in_map, map_in}
use Rattle.dav_model.specs.Walks.{dir_first}
use Rattle.dav_walks.proofs.trees.OthersStay.{Apart, Beside, beside_made, beside_same, beside_then, front_up, unlinked_from}
use Rattle.dav_walks.proofs.copies.CopyCovers.{dest, dest_below, dest_front, dest_parent}
use Rattle.dav_walks.proofs.copies.CopyOrder.{not_above}
use Rattle.dav_walks.proofs.removals.RemovalsAllowed.{timed_kind, timed_path}
use Rattle.dav_walks.proofs.trees.TreeRows.{DirAt, front_length, front_of, not_both}
use Rattle.dav_walks.proofs.removals.RemovalOrder.{Ascends, in_left, in_right, paths}

-- Of a copy from one path to another these source paths are still to come, in their order.
pub record Coming (from to : Names) (v u : World) (left : List Names) : Type 0 where
  pub world : IsWorld u
  pub beside : Beside from to v u
  pub come : (p : Names) → In p left → In p (paths v.tree) × (is_front from p ≡ true)
  pub ascends : Ascends dir_first left
  -- nothing stands where one is to be made, or below
  pub free : (r : Row) → In r u.tree → (p : Names) → In p left → is_front (dest from to p) r.path ≡ false
  -- its directory stands, or is to come
  pub up : (p : Names) → In p left → DirAt u.tree (parent_of (dest from to p)) ⊎ In (parent_of p) left
  -- no link was made
  pub unlinked : (r : Row) → In r u.tree → is_front to r.path ≡ true → is_link r.kind ≡ false

-- what changes nothing
pub coming_same : (from to : Names) (v u w : World) (left : List Names) → SameBesidesOpens u w → IsWorld w → Coming from to v u left → Coming from to v w left
coming_same from to v u w left same world c = record {
  world = world;
  beside = beside_then from to v u w c.beside (beside_same from to u w same);
  come = c.come;
  ascends = c.ascends;
  free = λ r i p j. c.free r (subst (In r) same.tree i) p j;
  up = λ p j. by p (c.up p j);
  unlinked = λ r i front. c.unlinked r (subst (In r) same.tree i) front;
}
  where
    by : (p : Names) → DirAt u.tree (parent_of (dest from to p)) ⊎ In (parent_of p) left → DirAt w.tree (parent_of (dest from to p)) ⊎ In (parent_of p) left
    by p (inl d) = inl (subst (λ rows. DirAt rows (parent_of (dest from to p))) (sym same.tree) d)
    by p (inr j) = inr j

-- a path that lies somewhere isn't its own directory
pub shorter : (from p : Names) → 0 < length from → is_front from p ≡ true → parent_of p ≡ p → ⊥
shorter from p some front e = omega (arith, some, front_length from p front, parent_length p, ap length e)

-- The directory of the first of them stands.
pub first_up : (from to : Names) (v u : World) (p : Names) (left : List Names) → 0 < length from → Coming from to v u (p ∷ left) → DirAt u.tree (parent_of (dest from to p))
first_up from to v u p left some c = by (c.up p (inl refl))
  where
    by : DirAt u.tree (parent_of (dest from to p)) ⊎ ((parent_of p ≡ p) ⊎ In (parent_of p) left) → DirAt u.tree (parent_of (dest from to p))
    by (inl d) = d
    by (inr (inl e)) = absurd (shorter from p some (c.come p (inl refl)).1 e)
    by (inr (inr i)) = absurd (not_above p (parent_of p) (c.ascends.0 (parent_of p) i) (front_up p))

-- Nothing stands where it is to be made.
pub first_free : (from to : Names) (v u : World) (p : Names) (left : List Names) → Coming from to v u (p ∷ left) → (r : Row) → In r u.tree → r.path ≡ dest from to p → ⊥
first_free from to v u p left c r i at =
    not_both (is_front (dest from to p) r.path) (subst (λ q. is_front (dest from to p) q ≡ true) (sym at) (front_itself (dest from to p))) (c.free r i p (inl refl))

-- ---- the first of them was made

abbrev made_row : Names → Kind → ℕ → FileTime → Row
made_row path kind number t = record { path = path; kind = kind; number = number; time = t }

-- a row that stands now stood, or is the one that was made
pub older : (path : Names) (kind : Kind) (bytes : List ℕ) (u w : World) (edited : Edited (makes path kind bytes) u w) (r : Row) → In r w.tree
    → ((x : Row) × In x u.tree × (x.path ≡ r.path) × (x.kind ≡ r.kind)) ⊎ ((path ≡ r.path) × (kind ≡ r.kind))
older path kind bytes u w (number, s, t, next, new, dir, e) r i =
    let (x, j, is) = in_map (timed_row (parent_of path) t) (u.tree ++ made_row path kind number s ∷ []) r (subst (In r) e.tree i) in
    let at : x.path ≡ r.path = sym (ap (λ (y : Row). y.path) is ∙ timed_path (same_names (parent_of path) x.path) (parent_of path) t x refl) in
    let own : x.kind ≡ r.kind = sym (ap (λ (y : Row). y.kind) is ∙ timed_kind (same_names (parent_of path) x.path) (parent_of path) t x refl) in
    by x at own (in_either x u.tree (made_row path kind number s ∷ []) j)
  where
    by : (x : Row) → x.path ≡ r.path → x.kind ≡ r.kind → In x u.tree ⊎ In x (made_row path kind number s ∷ [])
        → ((x : Row) × In x u.tree × (x.path ≡ r.path) × (x.kind ≡ r.kind)) ⊎ ((path ≡ r.path) × (kind ≡ r.kind))
    by x at own (inl j) = inl (x, j, at, own)
    by x at own (inr (inl is)) = inr (sym (ap (λ (y : Row). y.path) is) ∙ at, sym (ap (λ (y : Row). y.kind) is) ∙ own)
    by x at own (inr (inr never)) = absurd never

-- a directory that stood stands
dir_kept : (path q : Names) (kind : Kind) (bytes : List ℕ) (u w : World) → Edited (makes path kind bytes) u w → DirAt u.tree q → DirAt w.tree q
dir_kept path q kind bytes u w (number, s, t, next, new, dir, e) d =
    let row = made_row path kind number s in record {
      row = timed_row (parent_of path) t d.row;
      in_tree = subst (In (timed_row (parent_of path) t d.row)) (sym e.tree) (map_in (timed_row (parent_of path) t) (u.tree ++ row ∷ []) d.row (in_left d.row u.tree (row ∷ []) d.in_tree));
      at = timed_path (same_names (parent_of path) d.row.path) (parent_of path) t d.row refl ∙ d.at;
      dir = ap is_dir (timed_kind (same_names (parent_of path) d.row.path) (parent_of path) t d.row refl) ∙ d.dir;
    }

-- a directory that was made stands
pub dir_made : (path : Names) (bytes : List ℕ) (u w : World) → Edited (makes path Dir bytes) u w → DirAt w.tree path
dir_made path bytes u w (number, s, t, next, new, dir, e) =
    let row = made_row path Dir number s in record {
      row = timed_row (parent_of path) t row;
      in_tree = subst (In (timed_row (parent_of path) t row)) (sym e.tree) (map_in (timed_row (parent_of path) t) (u.tree ++ row ∷ []) row (in_right row u.tree (row ∷ []) (inl refl)));
      at = timed_path (same_names (parent_of path) row.path) (parent_of path) t row refl;
      dir = ap is_dir (timed_kind (same_names (parent_of path) row.path) (parent_of path) t row refl);
    }

-- what comes behind a path has a name
long_name : (p q : Names) → dir_first p q ≡ true → 0 < length q
long_name p [] e = absurd (not_above p [] e (front_of [] p p refl))
long_name p (name ∷ q) e = omega arith

-- what is to come lies in what was made, where that is a directory
abbrev pub HoldsRest : Names → Kind → List Names → Type 0
HoldsRest p kind left = (kind ≡ Dir) ⊎ ((q : Names) → In q left → parent_of q ≡ p → ⊥)

pub coming_made : (from to : Names) (v u w : World) (p : Names) (kind : Kind) (bytes : List ℕ) (left : List Names) → Apart from to → Coming from to v u (p ∷ left) → is_link kind ≡ false
    → HoldsRest p kind left → Edited (makes (dest from to p) kind bytes) u w → IsWorld w → Coming from to v w left
coming_made from to v u w p kind bytes left apart c solid holds edited world = record {
  world = world;
  beside = beside_then from to v u w c.beside (beside_made from to (dest from to p) kind bytes u w apart (dest_below from to p) c.world edited);
  come = λ q j. c.come q (inr j);
  ascends = c.ascends.1;
  free = λ r i q j. still_free r q j (older (dest from to p) kind bytes u w edited r i);
  up = λ q j. still_up q j (c.up q (inr j)) holds;
  unlinked = λ r i front. still_solid r front (older (dest from to p) kind bytes u w edited r i);
}
  where
    still_free : (r : Row) (q : Names) → In q left → ((x : Row) × In x u.tree × (x.path ≡ r.path) × (x.kind ≡ r.kind)) ⊎ ((dest from to p ≡ r.path) × (kind ≡ r.kind)) → is_front (dest from to q) r.path ≡ false
    still_free r q j (inl (x, i, at, own)) = subst (λ z. is_front (dest from to q) z ≡ false) at (c.free x i q (inr j))
    still_free r q j (inr (at, own)) =
        subst (λ z. is_front (dest from to q) z ≡ false) at
        (false_from_ne_true (is_front (dest from to q) (dest from to p))
        (λ e. not_above p q (c.ascends.0 q j) (dest_front from to p q (c.come p (inl refl)).1 (c.come q (inr j)).1 e)))

    still_up : (q : Names) → In q left → DirAt u.tree (parent_of (dest from to q)) ⊎ ((parent_of q ≡ p) ⊎ In (parent_of q) left) → HoldsRest p kind left → DirAt w.tree (parent_of (dest from to q)) ⊎ In (parent_of q) left
    still_up q j (inl d) h = inl (dir_kept (dest from to p) (parent_of (dest from to q)) kind bytes u w edited d)
    still_up q j (inr (inr k)) h = inr k
    still_up q j (inr (inl e)) (inr none) = absurd (none q j e)
    still_up q j (inr (inl e)) (inl dir) =
        let below : is_front from (parent_of q) ≡ true = subst (λ z. is_front from z ≡ true) (sym e) (c.come p (inl refl)).1 in
        let own : parent_of (dest from to q) ≡ dest from to p = dest_parent from to q below (long_name p q (c.ascends.0 q j)) ∙ ap (dest from to) e in
        inl (subst (DirAt w.tree) (sym own) (dir_made (dest from to p) bytes u w (subst (λ k. Edited (makes (dest from to p) k bytes) u w) dir edited)))

    still_solid : (r : Row) → is_front to r.path ≡ true → ((x : Row) × In x u.tree × (x.path ≡ r.path) × (x.kind ≡ r.kind)) ⊎ ((dest from to p ≡ r.path) × (kind ≡ r.kind)) → is_link r.kind ≡ false
    still_solid r front (inl (x, i, at, own)) = ap is_link (sym own) ∙ c.unlinked x i (subst (λ z. is_front to z ≡ true) (sym at) front)
    still_solid r front (inr (at, own)) = ap is_link (sym own) ∙ solid

-- ---- the source, and links

pub source_row : (from to : Names) (v u : World) (left : List Names) → Coming from to v u left → (r : Row) → In r v.tree → is_front from r.path ≡ true → In r u.tree
source_row from to v u left c r i below =
    (in_filter (λ row. is_front from row.path) u.tree r
    (subst (In r) (sym c.beside.rows) (filter_in (λ row. is_front from row.path) v.tree r below i))).0

-- Where no link was met none is.
pub no_link_now : (from to : Names) (v u : World) (left : List Names) (q : Names) → Coming from to v u left → is_linked v.tree q ≡ false → is_linked u.tree q ≡ false
no_link_now from to v u left q c clear = unlinked_from v.tree u.tree q (λ r i link. by r i link (is_front to r.path) refl) clear
  where
    by : (r : Row) → In r u.tree → is_link r.kind ≡ true → (b : Bool) → is_front to r.path ≡ b → (o : Row) × In o v.tree × (o.path ≡ r.path) × (o.kind ≡ r.kind)
    by r i link true front = not_both (is_link r.kind) link (c.unlinked r i front)
    by r i link false front = c.beside.back r i front
