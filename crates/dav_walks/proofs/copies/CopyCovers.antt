-- The work of a copy covers the paths that are still to be made, in their order: a directory's members come behind it in the order of
-- their names.
-- Headline: `rows_cover`.
use Rattle.std.proofs.Common.{◌≡◌, ◌<◌, ◌⊎◌, ◌==◌, ◌+◌, ◌++◌, ℕ, List, [], ◌∷◌, length, drop, map, Bool, true, false, cond, refl, sym, ap, subst, ◌∙◌, arith, inl, inr, append_assoc, append-nil}
use Rattle.std.specs.List.{filter}
use Rattle.std.proofs.Math.Seq.{drop-append_seam}
use Rattle.std.proofs.lemmas.Bool.{and_parts, false_from_ne_true}
use Rattle.dav_core.specs.declared.tree.Row.{Row}
use Rattle.dav_core.specs.DavPath.{WebPath}
use Rattle.dav_core.specs.Listing.{name_of, stands_in}
use Rattle.dav_core.specs.Path.{Names, is_front, parent_of, same_names}
use Rattle.dav_core.specs.Tree.{is_dir}
use Rattle.dav_core.proofs.Paths.{front_itself, front_join, front_rest, names_equal, names_same, parent_and_last, parent_pushed}
use Rattle.dav_core.proofs.Elements.{In, in_either}
use Rattle.dav_model.specs.Walks.{dir_first, members_first}
use Rattle.dav_walks.specs.declared.transfer.Transfer.{Transfer}
use Rattle.dav_walks.specs.Copying.{transfers_in}
use Rattle.dav_walks.specs.Follows.{child_of}
use Rattle.dav_walks.proofs.trees.OthersStay.{rows_below}
use Rattle.dav_walks.proofs.copies.CopyOrder.{before_below, dir_apart_first, dir_order}
use Rattle.dav_walks.proofs.removals.RemovalsAllowed.{StandsAs, all_itself}
use Rattle.dav_walks.proofs.trees.TreeRows.{Parts, above, front_length, front_of, front_then, not_both, only_row}
use Rattle.dav_walks.proofs.removals.RemovalOrder.{Ascends, Once, ascends_join, both_orders, in_left, in_paths, in_right, one_list, path_in, paths, paths_in}
use Rattle.dav_walks.proofs.removals.WorkCovers.{AreMembers, all_come, all_members, in_all, in_walked, in_walked_by, member_path, members, members_ascend, walked, walked_by, walked_by_ascends, walked_in_by}

-- ---- where a path is copied to

abbrev pub dest : Names → Names → Names → Names
dest from to p = to ++ drop (length from) p

dest_parts : (from to d : Names) → dest from to (from ++ d) ≡ to ++ d
dest_parts from to d = ap (λ z. to ++ z) (drop-append_seam from d)

pub dest_from : (from to : Names) → dest from to from ≡ to
dest_from from to = ap (dest from to) (sym (append-nil from)) ∙ (dest_parts from to [] ∙ append-nil to)

pub dest_below : (from to p : Names) → is_front to (dest from to p) ≡ true
dest_below from to p = front_join to (drop (length from) p)

-- a member keeps its name
pub dest_child : (from to q : Names) (name : List ℕ) → is_front from q ≡ true → dest from to (q ++ name ∷ []) ≡ dest from to q ++ name ∷ []
dest_child from to q name front =
    let d = drop (length from) q in
    ap (λ z. dest from to (z ++ name ∷ [])) (front_rest from q front)
    ∙ (ap (dest from to) (append_assoc from d (name ∷ []))
    ∙ (dest_parts from to (d ++ name ∷ []) ∙ sym (append_assoc to d (name ∷ []))))

pub dest_parent : (from to p : Names) → is_front from (parent_of p) ≡ true → 0 < length p → parent_of (dest from to p) ≡ dest from to (parent_of p)
dest_parent from to p front some =
    let (name, is) = parent_and_last p some in
    ap (λ z. parent_of (dest from to z)) is
    ∙ (ap parent_of (dest_child from to (parent_of p) name front) ∙ parent_pushed (dest from to (parent_of p)) name)

-- what lies below where one is copied to is copied from below it
pub dest_front : (from to p q : Names) → is_front from p ≡ true → is_front from q ≡ true → is_front (dest from to q) (dest from to p) ≡ true → is_front q p ≡ true
dest_front from to p q below_p below_q e =
    let dp = drop (length from) p in
    let dq = drop (length from) q in
    let y = drop (length (dest from to q)) (dest from to p) in
    let whole : to ++ dp ≡ to ++ (dq ++ y) = front_rest (dest from to q) (dest from to p) e ∙ append_assoc to dq y in
    let rest : dp ≡ dq ++ y = sym (drop-append_seam to dp) ∙ (ap (drop (length to)) whole ∙ drop-append_seam to (dq ++ y)) in
    front_of q p y
    (front_rest from p below_p
    ∙ (ap (λ z. from ++ z) rest ∙ (sym (append_assoc from dq y) ∙ ap (λ z. z ++ y) (sym (front_rest from q below_q)))))

-- ---- the members of a directory below the source

pub members_below : (from at : Names) (rows : List Row) → is_front from at ≡ true → filter (stands_in at) (rows_below from rows) ≡ filter (stands_in at) rows
members_below from at [] front = refl
members_below from at (r ∷ rows) front = by (is_front from r.path) refl (members_below from at rows front)
  where
    inside : stands_in at r ≡ true → is_front from r.path ≡ true
    inside e = front_then from at r.path front (and_parts (length r.path == length at + 1) (is_front at r.path) e).1

    by : (b : Bool) → is_front from r.path ≡ b → filter (stands_in at) (rows_below from rows) ≡ filter (stands_in at) rows
        → filter (stands_in at) (rows_below from (r ∷ rows)) ≡ filter (stands_in at) (r ∷ rows)
    by true e rest = rw e (ap (λ z. cond (stands_in at r) (r ∷ z) z) rest)
    by false e rest =
        let other : stands_in at r ≡ false = false_from_ne_true (stands_in at r) (λ f. not_both (is_front from r.path) (inside f) e) in
        rw e (rest ∙ sym (ap (λ b. cond b (r ∷ filter (stands_in at) rows) (filter (stands_in at) rows)) other))

-- ---- the walk of a directory

abbrev pub walk_of : List Row → Names → List Names
walk_of now path = walked_by dir_first now path

-- the walks of rows, one after the other
abbrev pub walks_of : List Row → List Row → List Names
walks_of now [] = []
walks_of now (r ∷ rows) = walk_of now r.path ++ walks_of now rows

in_walks : (now rows : List Row) (q : Names) → In q (walks_of now rows) → (r : Row) × In r rows × In q (walk_of now r.path)
in_walks now [] q i = absurd i
in_walks now (r ∷ rows) q i = by (in_either q (walk_of now r.path) (walks_of now rows) i) (in_walks now rows q)
  where
    by : In q (walk_of now r.path) ⊎ In q (walks_of now rows) → (In q (walks_of now rows) → (s : Row) × In s rows × In q (walk_of now s.path))
        → (s : Row) × In s (r ∷ rows) × In q (walk_of now s.path)
    by (inl j) more = (r, inl refl, j)
    by (inr j) more = let (s, k, l) = more j in (s, inr k, l)

walks_in : (now rows : List Row) (r : Row) (q : Names) → In r rows → In q (walk_of now r.path) → In q (walks_of now rows)
walks_in now [] r q i j = absurd i
walks_in now (x ∷ rows) r q (inl e) j = in_left q (walk_of now x.path) (walks_of now rows) (subst (λ (y : Row). In q (walk_of now y.path)) e j)
walks_in now (x ∷ rows) r q (inr i) j = in_right q (walk_of now x.path) (walks_of now rows) (walks_in now rows r q i j)

walks_ascend : (at : Names) (now rows : List Row) → Once (paths now) → AreMembers at now rows → Ascends members_first (paths rows) → Ascends dir_first (walks_of now rows)
walks_ascend at now [] once are a = tt
walks_ascend at now (r ∷ rows) once are a =
    ascends_join dir_first (walk_of now r.path) (walks_of now rows) (walked_by_ascends dir_first dir_order now r.path once) (walks_ascend at now rows once (λ s i. are s (inr i)) a.1)
    (λ p q i j. by p q (in_walked_by dir_first now r.path p i).1 (in_walks now rows q j))
  where
    by : (p q : Names) → is_front r.path p ≡ true → (s : Row) × In s rows × In q (walk_of now s.path) → dir_first p q ≡ true
    by p q front (s, i, j) =
        let long = (are r (inl refl)).long ∙ sym (are s (inr i)).long in
        let rows_first : dir_first r.path s.path ≡ true = both_orders r.path s.path long ∙ a.0 s.path (paths_in s rows i) in
        let first = dir_apart_first r.path s.path (drop (length r.path) p) (drop (length s.path) q) long rows_first in
        subst (λ x. dir_first x q ≡ true) (sym (front_rest r.path p front))
        (subst (λ x. dir_first (r.path ++ drop (length r.path) p) x ≡ true) (sym (front_rest s.path q (in_walked_by dir_first now s.path q j).1)) first)

-- A directory comes first, and then its members' walks.
pub dir_walk : (now : List Row) (r : Row) → Parts now → In r now → walk_of now r.path ≡ r.path ∷ walks_of now (members r.path now)
dir_walk now r parts i =
    one_list dir_first dir_order (walk_of now at) (at ∷ walks_of now (members at now)) (walked_by_ascends dir_first dir_order now at parts.once)
    (first, walks_ascend at now (members at now) parts.once (all_members at now) (members_ascend at now parts.once)) into back
  where
    at : Names
    at = r.path

    under : (q : Names) → (s : Row) × In s (members at now) × In q (walk_of now s.path) → (is_front at q ≡ true) × (at ≡ q → ⊥)
    under q (s, j, k) =
        let m = all_members at now s j in
        let front = (in_walked_by dir_first now s.path q k).1 in
        (front_then at s.path q m.front front, λ e. omega (arith, m.long, front_length s.path q front, ap length e))

    first : (q : Names) → In q (walks_of now (members at now)) → dir_first at q ≡ true
    first q j = let u = under q (in_walks now (members at now) q j) in before_below at q u.0 u.1

    by : (q : Names) → (q ≡ at) ⊎ ((s : Row) × In s (members at now) × In q (walked now s.path)) → In q (at ∷ walks_of now (members at now))
    by q (inl e) = inl e
    by q (inr (s, j, k)) =
        let (stands, front) = in_walked now s.path q k in
        inr (walks_in now (members at now) s q j (walked_in_by dir_first now s.path q stands front))

    into : (q : Names) → In q (walk_of now at) → In q (at ∷ walks_of now (members at now))
    into q j =
        let (stands, front) = in_walked_by dir_first now at q j in
        by q (in_all at now (members at now) q (all_come at now q parts stands front))

    back : (q : Names) → In q (at ∷ walks_of now (members at now)) → In q (walk_of now at)
    back q (inl e) = walked_in_by dir_first now at q (path_in q r now i (sym e)) (subst (λ z. is_front at z ≡ true) (sym e) (front_itself at))
    back q (inr j) =
        let (s, k, l) = in_walks now (members at now) q j in
        walked_in_by dir_first now at q (in_walked_by dir_first now s.path q l).0 (under q (s, k, l)).0

-- A file is walked alone.
pub file_walk : (now : List Row) (at : Names) → Parts now → StandsAs now at false → walk_of now at ≡ at ∷ []
file_walk now at parts s =
    all_itself dir_first dir_order at (walk_of now at) (walked_by_ascends dir_first dir_order now at parts.once) (λ q j. only q (in_walked_by dir_first now at q j) (same_names at q) refl)
    (walked_in_by dir_first now at at (path_in at s.row now s.in_tree s.at) (front_itself at))
  where
    only : (q : Names) → In q (paths now) × (is_front at q ≡ true) → (b : Bool) → same_names at q ≡ b → q ≡ at
    only q (j, front) true same = sym (names_same at q same)
    only q (j, front) false other =
        let (r, k, here) = in_paths q now j in
        let d = above now r at parts k (subst (λ z. is_front at z ≡ true) (sym here) front) (λ e. not_both (same_names at q) (names_equal at q (e ∙ here)) other) in
        let one : d.row ≡ s.row = only_row now d.row s.row parts d.in_tree s.in_tree (d.at ∙ sym s.at) in
        not_both (is_dir d.row.kind) d.dir (ap (λ (y : Row). is_dir y.kind) one ∙ s.kind)

-- ---- what work covers

-- what is made for one path: it alone, or all that is walked
abbrev pub whole_of : Bool → List Row → Names → List Names
whole_of true old at = at ∷ []
whole_of false old at = walk_of old at

abbrev pub CoversAll : Bool → List Row → List Transfer → List Names → Type 0
CoversAll alone old [] left = left ≡ []
CoversAll alone old (x ∷ works) left = (more : List Names) × (left ≡ whole_of alone old x.from.names ++ more) × CoversAll alone old works more

-- The work is of what stood there, and goes to its place.
abbrev pub FitsAll : Names → Names → List Row → List Transfer → Type 0
FitsAll from to old [] = Unit {0}
FitsAll from to old (x ∷ works) = (StandsAs old x.from.names x.dir × (is_front from x.from.names ≡ true) × (x.to.names ≡ dest from to x.from.names)) × FitsAll from to old works

abbrev works_of : WebPath → WebPath → List Row → List Transfer → List Transfer
works_of path to rows works = transfers_in to (map (child_of path) rows) works

pub rows_cover : (path to : WebPath) (old rows : List Row) (more : List Names) (works : List Transfer) → AreMembers path.names old rows → CoversAll false old works more
    → CoversAll false old (works_of path to rows works) (walks_of old rows ++ more)
rows_cover path to old [] more works are covers = covers
rows_cover path to old (r ∷ rows) more works are covers = (
  walks_of old rows ++ more,
  append_assoc (walk_of old r.path) (walks_of old rows) more ∙ ap (λ z. walk_of old z ++ (walks_of old rows ++ more)) (member_path path.names old r (are r (inl refl))),
  rows_cover path to old rows more works (λ s i. are s (inr i)) covers,
)

pub rows_fit : (from into : Names) (path to : WebPath) (old rows : List Row) (works : List Transfer) → AreMembers path.names old rows → is_front from path.names ≡ true → to.names ≡ dest from into path.names
    → FitsAll from into old works → FitsAll from into old (works_of path to rows works)
rows_fit from into path to old [] works are front is fit = fit
rows_fit from into path to old (r ∷ rows) works are front is fit =
    let m = are r (inl refl) in
    let own = member_path path.names old r m in (
      (
        record { row = r; in_tree = m.in_tree; at = own; kind = refl },
        subst (λ z. is_front from z ≡ true) own (front_then from path.names r.path front m.front),
        ap (λ z. z ++ name_of r ∷ []) is ∙ sym (dest_child from into path.names (name_of r) front),
      ),
      rows_fit from into path to old rows works (λ s i. are s (inr i)) front is fit,
    )
