-- The work of a removal covers the paths that are still to go, and a tree allows each removal when its turn comes.
-- Headlines: `dir_allowed` and `file_allowed`.
use Rattle.std.proofs.Common.{◌≡◌, ◌≤◌, ◌<◌, ◌⊎◌, ◌&&◌, ◌||◌, ◌++◌, List, [], ◌∷◌, length, drop, map, Bool, true, false, not, Some, Ok, refl, sym, ap, subst, ◌∙◌, arith, inl, inr, append-nil}
use Rattle.std.specs.List.{list_all, list_any}
use Rattle.std.proofs.lemmas.Bool.{and_from, and_parts, cases_lt, false_from_ne_true, not-true, not_from_false}
use Rattle.dav_core.specs.declared.tree.Row.{Row}
use Rattle.dav_core.specs.declared.time.FileTime.{FileTime}
use Rattle.dav_core.specs.Allowed.{found_then, is_root, taking_dir, taking_dir_row, taking_file, taking_file_row}
use Rattle.dav_core.specs.Changes.{is_leaf, timed_row, without}
use Rattle.dav_core.specs.Edits.{Edited, takes}
use Rattle.dav_core.specs.Path.{Names, is_front, parent_of, same_names}
use Rattle.dav_core.specs.Tree.{is_dir, is_link, is_linked, is_tree, look}
use Rattle.dav_core.specs.World.{World}
use Rattle.dav_core.proofs.Paths.{front_itself, front_rest, names_equal, names_same, not_root}
use Rattle.dav_core.proofs.Elements.{In, all_at, all_in, filter_in, in_filter, in_map, map_in}
use Rattle.dav_model.specs.Plans.{has_link_below}
use Rattle.dav_model.specs.Walks.{members_first}
use Rattle.dav_walks.proofs.trees.TreeRows.{Parts, above, any_none, front_length, front_then, fronts_meet, look_row, not_both, only_row, parts_of}
use Rattle.dav_walks.proofs.removals.RemovalOrder.{Ascends, IsOrder, ascends_left, below_first, in_left, in_paths, members_order, not_itself, path_in, path_then, paths, paths_in}

-- ---- order and place

-- What comes behind a path doesn't lie below it.
pub behind_not_below : (p q : Names) → members_first p q ≡ true → is_front p q ≡ true → ⊥
behind_not_below p q e f = by (drop (length p) q) (front_rest p q f)
  where
    by : (rest : Names) → q ≡ p ++ rest → ⊥
    by [] g = not_itself p (subst (λ x. members_first p x ≡ true) (g ∙ append-nil p) e)
    by (name ∷ names) g = not_itself p (path_then p q p e (subst (λ x. members_first x p ≡ true) (sym g) (below_first p name names)))

-- ---- rows and their kinds

-- A row stands at the path, of this kind.
pub record StandsAs (rows : List Row) (path : Names) (dir : Bool) : Type 0 where
  pub row : Row
  pub in_tree : In row rows
  pub at : row.path ≡ path
  pub kind : is_dir row.kind ≡ dir

-- ---- what is left

-- Of a removal at `top` in a tree these paths are still to go, in their order. The rows that stand now are of that tree, but for times.
pub record Left (top : Names) (old now : List Row) (left : List Names) : Type 0 where
  pub tree : is_tree now ≡ true
  pub from : (r : Row) → In r now → (o : Row) × In o old × (o.path ≡ r.path) × (o.kind ≡ r.kind)
  pub stands : (p : Names) → In p left → In p (paths now)
  pub all : (p : Names) → In p (paths now) → is_front top p ≡ true → In p left
  pub below : (p : Names) → In p left → is_front top p ≡ true
  pub ascends : Ascends members_first left

pub left_same : (top : Names) (old v w : List Row) (left : List Names) → w ≡ v → Left top old v left → Left top old w left
left_same top old v w left e l = subst (λ t. Left top old t left) (sym e) l

-- what stood stands
pub stands_now : (top : Names) (old now : List Row) (left : List Names) (p : Names) (dir : Bool) → Parts old → Left top old now left → In p left → StandsAs old p dir → StandsAs now p dir
stands_now top old now left p dir parts l i s =
    let (r, j, at) = in_paths p now (l.stands p i) in
    let (o, k, same, kind) = l.from r j in
    let one : o ≡ s.row = only_row old o s.row parts k s.in_tree (same ∙ (at ∙ sym s.at)) in
    record { row = r; in_tree = j; at = at; kind = ap is_dir (sym kind) ∙ (ap (λ (x : Row). is_dir x.kind) one ∙ s.kind) }

pub timed_path : (b : Bool) (q : Names) (t : FileTime) (r : Row) → same_names q r.path ≡ b → (timed_row q t r).path ≡ r.path
timed_path true q t r e = rw e refl
timed_path false q t r e = rw e refl

pub timed_kind : (b : Bool) (q : Names) (t : FileTime) (r : Row) → same_names q r.path ≡ b → (timed_row q t r).kind ≡ r.kind
timed_kind true q t r e = rw e refl
timed_kind false q t r e = rw e refl

-- a row that was left, and the row that it was
taken_row : (p : Names) (t : FileTime) (now : List Row) (r : Row) → In r (map (timed_row (parent_of p) t) (without p now))
    → (x : Row) × In x now × (is_front p x.path ≡ false) × (r.path ≡ x.path) × (r.kind ≡ x.kind)
taken_row p t now r i =
    let (x, j, same) = in_map (timed_row (parent_of p) t) (without p now) r i in
    let (k, kept) = in_filter (λ row. not (is_front p row.path)) now x j in (
      x,
      k,
      not-true (is_front p x.path) kept,
      ap (λ (y : Row). y.path) same ∙ timed_path (same_names (parent_of p) x.path) (parent_of p) t x refl,
      ap (λ (y : Row). y.kind) same ∙ timed_kind (same_names (parent_of p) x.path) (parent_of p) t x refl,
    )

row_taken : (p : Names) (t : FileTime) (now : List Row) (x : Row) → In x now → is_front p x.path ≡ false → In x.path (paths (map (timed_row (parent_of p) t) (without p now)))
row_taken p t now x i other =
    path_in x.path (timed_row (parent_of p) t x) (map (timed_row (parent_of p) t) (without p now))
    (map_in (timed_row (parent_of p) t) (without p now) x (filter_in (λ row. not (is_front p row.path)) now x (not_from_false (is_front p x.path) other) i))
    (timed_path (same_names (parent_of p) x.path) (parent_of p) t x refl)

-- what is left stood, and what stood beside is left
pub back_taken : (p : Names) (v u : World) → Edited (takes p) v u → (r : Row) → In r u.tree → (o : Row) × In o v.tree × (o.path ≡ r.path) × (o.kind ≡ r.kind)
back_taken p v u (t, new, is) r i = let (x, j, other, at, kind) = taken_row p t v.tree r (subst (In r) is.tree i) in (x, j, sym at, sym kind)

pub up_taken : (p : Names) (v u : World) → Edited (takes p) v u → (r : Row) → In r v.tree → is_front p r.path ≡ false → (s : Row) × In s u.tree × (s.path ≡ r.path) × (s.kind ≡ r.kind)
up_taken p v u (t, new, is) r i other = (
  timed_row (parent_of p) t r,
  subst (In (timed_row (parent_of p) t r)) (sym is.tree)
      (map_in (timed_row (parent_of p) t) (without p v.tree) r (filter_in (λ row. not (is_front p row.path)) v.tree r (not_from_false (is_front p r.path) other) i)),
  timed_path (same_names (parent_of p) r.path) (parent_of p) t r refl,
  timed_kind (same_names (parent_of p) r.path) (parent_of p) t r refl,
)

pub taken_free : (p : Names) (v u : World) → Edited (takes p) v u → (r : Row) → In r u.tree → is_front p r.path ≡ false
taken_free p v u (t, new, is) r i = let (x, j, other, at, kind) = taken_row p t v.tree r (subst (In r) is.tree i) in subst (λ q. is_front p q ≡ false) (sym at) other

-- The first of the paths that are left was taken.
pub left_taken : (top : Names) (old now : List Row) (p : Names) (t : FileTime) (left : List Names) → Left top old now (p ∷ left)
    → is_tree (map (timed_row (parent_of p) t) (without p now)) ≡ true → Left top old (map (timed_row (parent_of p) t) (without p now)) left
left_taken top old now p t left l tree = record {
  tree = tree;
  from = λ r i. (let (x, j, other, at, kind) = taken_row p t now r i in let (o, k, same, is) = l.from x j in (o, k, same ∙ sym at, is ∙ sym kind));
  stands = λ q i.
      (let (x, j, at) = in_paths q now (l.stands q (inr i)) in
      subst (λ y. In y (paths (map (timed_row (parent_of p) t) (without p now)))) at
      (row_taken p t now x j (false_from_ne_true (is_front p x.path) (λ e. behind_not_below p q (l.ascends.0 q i) (subst (λ y. is_front p y ≡ true) at e)))));
  all = λ q i front. (let (r, j, at) = in_paths q (map (timed_row (parent_of p) t) (without p now)) i in gone q front r at (taken_row p t now r j));
  below = λ q i. l.below q (inr i);
  ascends = l.ascends.1;
}
  where
    by : (q : Names) → is_front p q ≡ false → In q (p ∷ left) → In q left
    by q other (inl e) = not_both (is_front p q) (subst (λ y. is_front p y ≡ true) (sym e) (front_itself p)) other
    by q other (inr i) = i

    gone : (q : Names) → is_front top q ≡ true → (r : Row) → r.path ≡ q → (x : Row) × In x now × (is_front p x.path ≡ false) × (r.path ≡ x.path) × (r.kind ≡ x.kind) → In q left
    gone q front r at (x, j, other, same, kind) =
        let here : x.path ≡ q = sym same ∙ at in
        by q (subst (λ y. is_front p y ≡ false) here other) (l.all q (path_in q x now j here) front)

-- ---- what a tree allows

-- The first of the paths that are left has nothing below it.
left_leaf : (top : Names) (old now : List Row) (p : Names) (left : List Names) → Left top old now (p ∷ left) → is_leaf p now ≡ true
left_leaf top old now p left l = all_in (λ row. not (is_front p row.path) || same_names p row.path) now (λ r i. by r i (is_front p r.path) refl)
  where
    here : (r : Row) → is_front p r.path ≡ true → In r.path (p ∷ left) → same_names p r.path ≡ true
    here r e (inl same) = names_equal p r.path (sym same)
    here r e (inr i) = absurd (behind_not_below p r.path (l.ascends.0 r.path i) e)

    by : (r : Row) → In r now → (b : Bool) → is_front p r.path ≡ b → (not (is_front p r.path) || same_names p r.path) ≡ true
    by r i false e = rw e refl
    by r i true e = rw (e, here r e (l.all r.path (paths_in r now i) (front_then top p r.path (l.below p (inl refl)) e))) refl

-- A directory that has lost its members may go.
pub dir_allowed : (top : Names) (old now : List Row) (p : Names) (left : List Names) → 0 < length top → Parts old → Left top old now (p ∷ left) → StandsAs old p true
    → taking_dir now p ≡ Ok (Some (takes p))
dir_allowed top old now p left some parts l s =
    let here = stands_now top old now (p ∷ left) p true parts l (inl refl) s in
    let long : 0 < length p = omega (arith, some, front_length top p (l.below p (inl refl))) in
    ap (found_then (taking_dir_row now)) (ap (look now) (sym here.at) ∙ look_row now here.row (parts_of now l.tree) here.in_tree)
    ∙ judged here.row here.at here.kind (not_root p long)
  where
    judged : (r : Row) → r.path ≡ p → is_dir r.kind ≡ true → is_root p ≡ false → taking_dir_row now r ≡ Ok (Some (takes p))
    judged r at dir names =
        let root : is_root r.path ≡ false = ap is_root at ∙ names in
        let leaf : is_leaf r.path now ≡ true = ap (λ x. is_leaf x now) at ∙ left_leaf top old now p left l in
        rw (dir, root, leaf) (ap (λ x. Ok (Some (takes x))) at)

-- A file may go.
pub file_allowed : (top : Names) (old now : List Row) (p : Names) (left : List Names) → Parts old → Left top old now (p ∷ left) → StandsAs old p false
    → taking_file now p ≡ Ok (Some (takes p))
file_allowed top old now p left parts l s =
    let here = stands_now top old now (p ∷ left) p false parts l (inl refl) s in
    ap (found_then taking_file_row) (ap (look now) (sym here.at) ∙ look_row now here.row (parts_of now l.tree) here.in_tree)
    ∙ judged here.row here.at here.kind
  where
    judged : (r : Row) → r.path ≡ p → is_dir r.kind ≡ false → taking_file_row r ≡ Ok (Some (takes p))
    judged r at dir = rw dir (ap (λ x. Ok (Some (takes x))) at)

-- ---- links

pub none_any : (q : Row → Bool) (rows : List Row) (r : Row) → list_any q rows ≡ false → In r rows → q r ≡ false
none_any q [] r e i = absurd i
none_any q (x ∷ rows) r e (inl same) = ap q same ∙ first (q x) (list_any q rows) e
  where
    first : (a b : Bool) → (a || b) ≡ false → a ≡ false
    first true b f = cc
    first false b f = refl
none_any q (x ∷ rows) r e (inr i) = none_any q rows r (second (q x) (list_any q rows) e) i
  where
    second : (a b : Bool) → (a || b) ≡ false → b ≡ false
    second true b f = cc
    second false b f = f

pub no_link_below : (old : List Row) (top : Names) (o : Row) → has_link_below old top ≡ false → In o old → is_link o.kind ≡ true → is_front top o.path ≡ true → ⊥
no_link_below old top o none i link front =
    let all = negated (list_all (λ (row : Row). not (is_link row.kind && is_front top row.path)) old) none in
    let one = all_at (λ (row : Row). not (is_link row.kind && is_front top row.path)) old o all i in
    not_both (is_link o.kind && is_front top o.path) (and_from (is_link o.kind) (is_front top o.path) link front) (not-true (is_link o.kind && is_front top o.path) one)
  where
    negated : (b : Bool) → not b ≡ false → b ≡ true
    negated true e = refl
    negated false e = cc

-- Where no link was on the way to `top`, at it or below it, none is on the way to a path below it.
pub unlinked : (top : Names) (old now : List Row) (left : List Names) (p : Names) → has_link_below old top ≡ false → is_linked old top ≡ false → Left top old now left → is_front top p ≡ true
    → is_linked now p ≡ false
unlinked top old now left p none clear l front = any_none (λ row. is_link row.kind && is_front row.path p) now (λ r i. false_from_ne_true (is_link r.kind && is_front r.path p) (λ e. never r i (and_parts (is_link r.kind) (is_front r.path p) e)))
  where
    placed : (o : Row) → In o old → is_link o.kind ≡ true → is_front o.path p ≡ true → (length top < length o.path) ⊎ (length o.path ≤ length top) → ⊥
    placed o i link up (inl lt) = no_link_below old top o none i link (fronts_meet top o.path p front up (omega (arith, lt)))
    placed o i link up (inr le) =
        not_both (is_link o.kind && is_front o.path top) (and_from (is_link o.kind) (is_front o.path top) link (fronts_meet o.path top p up front le))
        (none_any (λ row. is_link row.kind && is_front row.path top) old o clear i)

    never : (r : Row) → In r now → (is_link r.kind ≡ true) × (is_front r.path p ≡ true) → ⊥
    never r i (link, up) =
        let (o, j, at, kind) = l.from r i in
        placed o j (ap is_link kind ∙ link) (subst (λ x. is_front x p ≡ true) (sym at) up) (cases_lt (length top) (length o.path))

-- ---- one file

-- a list that ascends has a path once
pub all_itself : (before : Names → Names → Bool) → IsOrder before → (p : Names) (seg : List Names) → Ascends before seg → ((q : Names) → In q seg → q ≡ p) → In p seg → seg ≡ p ∷ []
all_itself before order p [] a e i = absurd i
all_itself before order p (q ∷ []) a e i = ap (λ x. x ∷ []) (e q (inl refl))
all_itself before order p (q ∷ r ∷ seg) a e i =
    let first : before q r ≡ true = a.0 r (inl refl) in
    absurd (order.itself q (subst (λ x. before q x ≡ true) (e r (inr (inl refl)) ∙ sym (e q (inl refl))) first))

-- At a file nothing but the file goes.
pub one_file : (top : Names) (old now : List Row) (p : Names) (seg more : List Names) → Parts old → Left top old now (seg ++ more) → StandsAs old p false
    → ((q : Names) → In q seg → is_front p q ≡ true) → In p seg → seg ≡ p ∷ []
one_file top old now p seg more parts l s below i = all_itself members_first members_order p seg (ascends_left members_first seg more l.ascends) (λ q j. only q j (same_names p q) refl) i
  where
    only : (q : Names) → In q seg → (b : Bool) → same_names p q ≡ b → q ≡ p
    only q j true same = sym (names_same p q same)
    only q j false other =
        let here = stands_now top old now (seg ++ more) p false parts l (in_left p seg more i) s in
        let (r, k, at) = in_paths q now (l.stands q (in_left q seg more j)) in
        let rows = parts_of now l.tree in
        let d = above now r p rows k (subst (λ x. is_front p x ≡ true) (sym at) (below q j)) (λ e. not_both (same_names p q) (names_equal p q (e ∙ at)) other) in
        let one : d.row ≡ here.row = only_row now d.row here.row rows d.in_tree here.in_tree (d.at ∙ sym here.at) in
        not_both (is_dir d.row.kind) d.dir (ap (λ (x : Row). is_dir x.kind) one ∙ here.kind)
