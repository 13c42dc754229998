-- The work of a removal covers the paths that are still to go, in their order: a directory's members take its place in the order of
-- their names.
-- Headline: `opened_covers`.
use Rattle.std.proofs.Common.{◌≡◌, ◌≤◌, ◌<◌, ◌⊎◌, ◌&&◌, ◌==◌, ◌+◌, ◌-◌, ◌++◌, ℕ, nat_lt, List, [], ◌∷◌, length, take, drop, map, Bool, true, false, Some, refl, sym, ap, subst, ◌∙◌, arith, inl, inr, append_assoc, append-nil, length-append, length-take, slice_get}
use Rattle.std.specs.List.{filter, list_any}
use Rattle.std.proofs.lemmas.Bool.{and_from, and_parts, cases_lt, eq-eqb, eqb-true, false_from_ne_true, or_right}
use Rattle.std.proofs.lemmas.Bool.Decides.{nat_tests}
use Rattle.dav_core.specs.declared.tree.Row.{Row}
use Rattle.dav_core.specs.DavPath.{WebPath, last_name}
use Rattle.dav_core.specs.Listing.{name_of, or_empty, stands_in}
use Rattle.dav_core.specs.Path.{Names, is_front, same_names}
use Rattle.dav_core.specs.Tree.{is_dir}
use Rattle.dav_core.proofs.Paths.{front_itself, front_rest, names_equal, names_same}
use Rattle.dav_core.proofs.Elements.{In, filter_in, in_either, in_filter}
use Rattle.dav_model.specs.Plans.{is_deep_dir, is_too_deep}
use Rattle.dav_model.specs.Walks.{dir_first, in_order, members_first, walk}
use Rattle.dav_walks.specs.declared.work.Work.{Work}
use Rattle.dav_walks.specs.declared.work.Work.TheVariants.{Emptied, Whole}
use Rattle.dav_walks.specs.Follows.{child_of, children_in}
use Rattle.dav_walks.specs.Removing.{is_deep, works_in}
use Rattle.dav_walks.proofs.removals.RemovalsAllowed.{Left, StandsAs, behind_not_below}
use Rattle.dav_walks.proofs.trees.TreeRows.{Parts, above, any_none, filter_once, front_equal, front_length, front_then, fronts_meet, not_both, only_row, parts_of}
use Rattle.dav_walks.proofs.removals.RemovalOrder.{Ascends, IsOrder, Once, apart_first, ascends_across, ascends_join, ascends_left, ascends_right, below_first, from_order, in_left, in_paths, in_right, into_order, members_order, one_list, order_ascends, order_either, path_in, paths, paths_in}

-- ---- what work covers

-- A whole is all that lies at its path and below it, and none of what comes after.
abbrev pub Covers : List Work → List Names → Type 0
Covers [] left = left ≡ []
Covers (Emptied path ∷ works) left = (more : List Names) × (left ≡ path.names ∷ more) × Covers works more
Covers (Whole path dir ∷ works) left = (whole more : List Names) × (left ≡ whole ++ more) × ((p : Names) → In p whole → is_front path.names p ≡ true)
    × ((p : Names) → In p more → is_front path.names p ≡ false) × In path.names whole × Covers works more

-- The work is of what stood there. Only the first path of all may have more names than a directory that is walked into may have members.
abbrev pub Fits : Names → List Row → Work → Type 0
Fits top old (Emptied path) = StandsAs old path.names true × (is_deep path ≡ false)
Fits top old (Whole path dir) = StandsAs old path.names dir × (dir ≡ false → path.slash ≡ false) × ((path.names ≡ top) ⊎ (length path.names ≤ 65537))

abbrev pub AllFit : Names → List Row → List Work → Type 0
AllFit top old [] = Unit {0}
AllFit top old (work ∷ works) = Fits top old work × AllFit top old works

-- ---- the walk at a path

-- the paths at and below one, in an order
abbrev pub walked_by : (Names → Names → Bool) → List Row → Names → List Names
walked_by before now path = paths (walk before path now)

pub in_walked_by : (before : Names → Names → Bool) (now : List Row) (path p : Names) → In p (walked_by before now path) → In p (paths now) × (is_front path p ≡ true)
in_walked_by before now path p i =
    let keep : Row → Bool = λ row. is_front path row.path in
    let (r, j, at) = in_paths p (walk before path now) i in
    let (k, front) = in_filter keep now r (from_order before r (filter keep now) j) in
    (path_in p r now k at, subst (λ x. is_front path x ≡ true) at front)

pub walked_in_by : (before : Names → Names → Bool) (now : List Row) (path p : Names) → In p (paths now) → is_front path p ≡ true → In p (walked_by before now path)
walked_in_by before now path p i front =
    let keep : Row → Bool = λ row. is_front path row.path in
    let (r, j, at) = in_paths p now i in
    path_in p r (walk before path now) (into_order before r (filter keep now) (filter_in keep now r (subst (λ x. is_front path x ≡ true) (sym at) front) j)) at

pub walked_by_ascends : (before : Names → Names → Bool) → IsOrder before → (now : List Row) (path : Names) → Once (paths now) → Ascends before (walked_by before now path)
walked_by_ascends before order now path once =
    order_ascends before order (filter (λ row. is_front path row.path) now) (filter_once (λ row. is_front path row.path) now once)

-- in the order of the removal
abbrev pub walked : List Row → Names → List Names
walked now path = walked_by members_first now path

pub in_walked : (now : List Row) (path p : Names) → In p (walked now path) → In p (paths now) × (is_front path p ≡ true)
in_walked now path p i = in_walked_by members_first now path p i

pub walked_in : (now : List Row) (path p : Names) → In p (paths now) → is_front path p ≡ true → In p (walked now path)
walked_in now path p i front = walked_in_by members_first now path p i front

pub walked_ascends : (now : List Row) (path : Names) → Once (paths now) → Ascends members_first (walked now path)
walked_ascends now path once = walked_by_ascends members_first members_order now path once

-- ---- the members of a directory

abbrev pub members : Names → List Row → List Row
members at now = in_order members_first (filter (stands_in at) now)

pub record IsMember (at : Names) (now : List Row) (r : Row) : Type 0 where
  pub in_tree : In r now
  pub long : length r.path ≡ length at + 1
  pub front : is_front at r.path ≡ true

pub is_member : (at : Names) (now : List Row) (r : Row) → In r (filter (stands_in at) now) → IsMember at now r
is_member at now r i =
    let (j, here) = in_filter (stands_in at) now r i in
    let (long, front) = and_parts (length r.path == length at + 1) (is_front at r.path) here in
    record { in_tree = j; long = eqb-true (length r.path) (length at + 1) long; front = front }

abbrev pub AreMembers : Names → List Row → List Row → Type 0
AreMembers at now rows = (r : Row) → In r rows → IsMember at now r

pub all_members : (at : Names) (now : List Row) → AreMembers at now (members at now)
all_members at now r i = is_member at now r (from_order members_first r (filter (stands_in at) now) i)

pub in_members : (at : Names) (now : List Row) (r : Row) → In r now → length r.path ≡ length at + 1 → is_front at r.path ≡ true → In r (members at now)
in_members at now r i long front =
    into_order members_first r (filter (stands_in at) now) (filter_in (stands_in at) now r
    (and_from (length r.path == length at + 1) (is_front at r.path) (eq-eqb (length r.path) (length at + 1) long) front) i)

-- the same rows as the order puts them that lists directories first
pub listed_members : (at : Names) (now : List Row) → in_order dir_first (filter (stands_in at) now) ≡ members at now
listed_members at now = order_either (length at + 1) (filter (stands_in at) now) (λ r i. (is_member at now r i).long)

pub members_ascend : (at : Names) (now : List Row) → Once (paths now) → Ascends members_first (paths (members at now))
members_ascend at now once = order_ascends members_first members_order (filter (stands_in at) now) (filter_once (stands_in at) now once)

pub one_name : {A : Type 0} (xs : List A) → length xs ≡ 1 → (x : A) × (xs ≡ x ∷ [])
one_name [] e = absurd (omega (arith, e))
one_name (x ∷ []) e = (x, refl)
one_name (x ∷ y ∷ xs) e = absurd (omega (arith, e))

last_of : {A : Type 0} (xs : List A) (x : A) → slice_get (xs ++ x ∷ []) (length xs) ≡ Some x
last_of [] x = refl
last_of (y ∷ xs) x = last_of xs x

-- a member's path is its directory's with its name behind it
pub member_path : (at : Names) (now : List Row) (r : Row) → IsMember at now r → r.path ≡ at ++ name_of r ∷ []
member_path at now r m =
    let rest = front_rest at r.path m.front in
    let long : length (drop (length at) r.path) ≡ 1 = omega (arith, m.long, ap length rest, length-append at (drop (length at) r.path)) in
    let (name, one) = one_name (drop (length at) r.path) long in
    let whole : r.path ≡ at ++ name ∷ [] = rest ∙ ap (λ x. at ++ x) one in
    let place : length (at ++ name ∷ []) - 1 ≡ length at = omega (arith, length-append at (name ∷ [])) in
    let last : last_name r.path ≡ Some name = ap last_name whole ∙ (ap (slice_get (at ++ name ∷ [])) place ∙ last_of at name) in
    let own : name_of r ≡ name = ap or_empty last in
    whole ∙ ap (λ x. at ++ x ∷ []) (sym own)

-- ---- the walks of members, one after the other, and then their directory

abbrev pub all_walked : Names → List Row → List Row → List Names
all_walked at now [] = at ∷ []
all_walked at now (r ∷ rows) = walked now r.path ++ all_walked at now rows

pub in_all : (at : Names) (now rows : List Row) (q : Names) → In q (all_walked at now rows) → (q ≡ at) ⊎ ((r : Row) × In r rows × In q (walked now r.path))
in_all at now [] q (inl e) = inl e
in_all at now [] q (inr i) = absurd i
in_all at now (r ∷ rows) q i = by (in_either q (walked now r.path) (all_walked at now rows) i) (in_all at now rows q)
  where
    further : (q ≡ at) ⊎ ((s : Row) × In s rows × In q (walked now s.path)) → (q ≡ at) ⊎ ((s : Row) × In s (r ∷ rows) × In q (walked now s.path))
    further (inl e) = inl e
    further (inr (s, j, k)) = inr (s, inr j, k)

    by : In q (walked now r.path) ⊎ In q (all_walked at now rows) → (In q (all_walked at now rows) → (q ≡ at) ⊎ ((s : Row) × In s rows × In q (walked now s.path)))
        → (q ≡ at) ⊎ ((s : Row) × In s (r ∷ rows) × In q (walked now s.path))
    by (inl j) more = inr (r, inl refl, j)
    by (inr j) more = further (more j)

last_in : (at : Names) (now rows : List Row) → In at (all_walked at now rows)
last_in at now [] = inl refl
last_in at now (r ∷ rows) = in_right at (walked now r.path) (all_walked at now rows) (last_in at now rows)

all_in : (at : Names) (now rows : List Row) (r : Row) (q : Names) → In r rows → In q (walked now r.path) → In q (all_walked at now rows)
all_in at now [] r q i j = absurd i
all_in at now (x ∷ rows) r q (inl e) j = in_left q (walked now x.path) (all_walked at now rows) (subst (λ (y : Row). In q (walked now y.path)) e j)
all_in at now (x ∷ rows) r q (inr i) j = in_right q (walked now x.path) (all_walked at now rows) (all_in at now rows r q i j)

strictly_first : (at q : Names) → is_front at q ≡ true → length at < length q → members_first q at ≡ true
strictly_first at q front lt = by (drop (length at) q) (front_rest at q front)
  where
    by : (rest : Names) → q ≡ at ++ rest → members_first q at ≡ true
    by [] e = absurd (omega (arith, lt, ap length (e ∙ append-nil at)))
    by (name ∷ names) e = subst (λ x. members_first x at ≡ true) (sym e) (below_first at name names)

all_ascend : (at : Names) (now rows : List Row) → Once (paths now) → AreMembers at now rows → Ascends members_first (paths rows) → Ascends members_first (all_walked at now rows)
all_ascend at now [] once are a = (λ q i. absurd i, tt)
all_ascend at now (r ∷ rows) once are a =
    ascends_join members_first (walked now r.path) (all_walked at now rows) (walked_ascends now r.path once) (all_ascend at now rows once (λ s i. are s (inr i)) a.1) (λ p q i j. by p q (in_walked now r.path p i).1 (in_all at now rows q j))
  where
    by : (p q : Names) → is_front r.path p ≡ true → (q ≡ at) ⊎ ((s : Row) × In s rows × In q (walked now s.path)) → members_first p q ≡ true
    by p q front (inl e) =
        let m = are r (inl refl) in
        subst (λ x. members_first p x ≡ true) (sym e)
        (strictly_first at p (front_then at r.path p m.front front) (omega (arith, m.long, front_length r.path p front)))
    by p q front (inr (s, i, j)) =
        let m = are r (inl refl) in
        let n = are s (inr i) in
        let first = apart_first r.path s.path (drop (length r.path) p) (drop (length s.path) q) (m.long ∙ sym n.long) (a.0 s.path (paths_in s rows i)) in
        subst (λ x. members_first x q ≡ true) (sym (front_rest r.path p front))
        (subst (λ x. members_first (r.path ++ drop (length r.path) p) x ≡ true) (sym (front_rest s.path q (in_walked now s.path q j).1)) first)

-- each path at or below the directory is come to
pub all_come : (at : Names) (now : List Row) (q : Names) → Parts now → In q (paths now) → is_front at q ≡ true → In q (all_walked at now (members at now))
all_come at now q parts i front = by (cases_lt (length at) (length q))
  where
    up : Names
    up = take (length at + 1) q

    by_row : (r : Row) → In r now → r.path ≡ up → length up ≡ length at + 1 → is_front at up ≡ true → is_front up q ≡ true → In q (all_walked at now (members at now))
    by_row r j at_up long below front_up =
        all_in at now (members at now) r q (in_members at now r j (ap length at_up ∙ long) (subst (λ x. is_front at x ≡ true) (sym at_up) below))
        (walked_in now r.path q i (subst (λ x. is_front x q ≡ true) (sym at_up) front_up))

    by_same : (b : Bool) → same_names up q ≡ b → length up ≡ length at + 1 → is_front at up ≡ true → is_front up q ≡ true → In q (all_walked at now (members at now))
    by_same true same long below front_up = let (r, j, here) = in_paths q now i in by_row r j (here ∙ sym (names_same up q same)) long below front_up
    by_same false other long below front_up =
        let (r, j, here) = in_paths q now i in
        let d = above now r up parts j (subst (λ x. is_front up x ≡ true) (sym here) front_up) (λ e. not_both (same_names up q) (names_equal up q (e ∙ here)) other) in
        by_row d.row d.in_tree d.at long below front_up

    by : (length at < length q) ⊎ (length q ≤ length at) → In q (all_walked at now (members at now))
    by (inr le) = subst (λ x. In x (all_walked at now (members at now))) (front_equal at q front le) (last_in at now (members at now))
    by (inl lt) =
        let long : length up ≡ length at + 1 = simp length-take (omega (arith, lt)) in
        let whole : up ≡ take (length up) q = ap (λ n. take n q) (sym long) in
        let front_up : is_front up q ≡ true = names_equal up (take (length up) q) whole in
        by_same (same_names up q) refl long (fronts_meet at up q front front_up (omega (arith, long))) front_up

-- what was to go at and below a directory is what its members come to
opened_whole : (top : Names) (old now : List Row) (at : Names) (whole more : List Names) → Left top old now (whole ++ more) → is_front top at ≡ true
    → ((p : Names) → In p whole → is_front at p ≡ true) → ((p : Names) → In p more → is_front at p ≡ false) → In at whole → whole ≡ all_walked at now (members at now)
opened_whole top old now at whole more l front below apart i =
    let parts = parts_of now l.tree in
    one_list members_first members_order whole (all_walked at now (members at now)) (ascends_left members_first whole more l.ascends)
    (all_ascend at now (members at now) parts.once (all_members at now) (members_ascend at now parts.once))
    (λ q j. all_come at now q parts (l.stands q (in_left q whole more j)) (below q j))
    (λ q j. by_place q (in_all at now (members at now) q j))
  where
    one_side : (q : Names) → is_front at q ≡ true → In q whole ⊎ In q more → In q whole
    one_side q f (inl j) = j
    one_side q f (inr j) = not_both (is_front at q) f (apart q j)

    by_place : (q : Names) → (q ≡ at) ⊎ ((r : Row) × In r (members at now) × In q (walked now r.path)) → In q whole
    by_place q (inl e) = subst (λ x. In x whole) (sym e) i
    by_place q (inr (r, j, k)) =
        let (stands, under) = in_walked now r.path q k in
        let f = front_then at r.path q (all_members at now r j).front under in
        one_side q f (in_either q whole more (l.all q stands (front_then top at q front f)))

-- ---- a directory is opened

abbrev works_of : WebPath → List Row → List Work → List Work
works_of path rows works = works_in path (map (child_of path) rows) works

rows_cover : (path : WebPath) (now rows : List Row) (more : List Names) (works : List Work) → AreMembers path.names now rows → Ascends members_first (all_walked path.names now rows ++ more) → Covers works more
    → Covers (works_of path rows works) (all_walked path.names now rows ++ more)
rows_cover path now [] more works are a covers = (more, refl, covers)
rows_cover path now (r ∷ rows) more works are a covers =
    let m = are r (inl refl) in
    let own = member_path path.names now r m in
    let here : In r.path (walked now r.path) = walked_in now r.path r.path (paths_in r now m.in_tree) (front_itself r.path) in
    let rest = all_walked path.names now rows ++ more in
    let joined = append_assoc (walked now r.path) (all_walked path.names now rows) more in
    let ascends = subst (Ascends members_first) joined a in (
      walked now r.path,
      rest,
      joined,
      λ p i. subst (λ x. is_front x p ≡ true) own (in_walked now r.path p i).1,
      λ p i. subst (λ x. is_front x p ≡ false) own (false_from_ne_true (is_front r.path p) (behind_not_below r.path p (ascends_across members_first (walked now r.path) rest r.path p ascends here i))),
      subst (λ x. In x (walked now r.path)) own here,
      rows_cover path now rows more works (λ s i. are s (inr i)) (ascends_right members_first (walked now r.path) rest ascends) covers,
    )

-- The members of a directory cover, with it, what it covered.
pub opened_covers : (top : Names) (old now : List Row) (path : WebPath) (left : List Names) (works : List Work) → Left top old now left
    → Covers (Whole path true ∷ works) left → Covers (works_in path (children_in now path.names path) works) left
opened_covers top old now path left works l (whole, more, e, below, apart, i, covers) =
    let now_left = subst (Left top old now) e l in
    let front = now_left.below path.names (in_left path.names whole more i) in
    let same = opened_whole top old now path.names whole more now_left front below apart i in
    let cut : left ≡ all_walked path.names now (members path.names now) ++ more = e ∙ ap (λ x. x ++ more) same in
    subst (λ rows. Covers (works_of path rows works) left) (sym (listed_members path.names now))
    (subst (Covers (works_of path (members path.names now) works)) (sym cut)
    (rows_cover path now (members path.names now) more works (all_members path.names now) (subst (Ascends members_first) cut l.ascends) covers))

-- ---- the work of the members is of what stood there

pub not_deep : (path : WebPath) → is_deep path ≡ false → length path.names ≤ 65536
not_deep path e = by (nat_lt 65536 (length path.names)) refl
  where
    by : (b : Bool) → nat_lt 65536 (length path.names) ≡ b → length path.names ≤ 65536
    by true f = not_both (nat_lt 65536 (length path.names)) f e
    by false f = grind (arith, nat_tests)

rows_fit : (top : Names) (old now : List Row) (left : List Names) (path : WebPath) (rows : List Row) (works : List Work) → Left top old now left → is_deep path ≡ false
    → AreMembers path.names now rows → StandsAs old path.names true → AllFit top old works → AllFit top old (works_of path rows works)
rows_fit top old now left path [] works l shallow are s fit = ((s, shallow), fit)
rows_fit top old now left path (r ∷ rows) works l shallow are s fit =
    let m = are r (inl refl) in
    let own = member_path path.names now r m in
    let (o, i, at, kind) = l.from r m.in_tree in
    let long : length (path.names ++ name_of r ∷ []) ≤ 65537 = omega (arith, length-append path.names (name_of r ∷ []), not_deep path shallow) in (
      (record { row = o; in_tree = i; at = at ∙ own; kind = ap is_dir kind }, λ e. e, inr long),
      rows_fit top old now left path rows works l shallow (λ t j. are t (inr j)) s fit,
    )

pub opened_fit : (top : Names) (old now : List Row) (left : List Names) (path : WebPath) (works : List Work) → Left top old now left → is_deep path ≡ false
    → AllFit top old (Whole path true ∷ works) → AllFit top old (works_in path (children_in now path.names path) works)
opened_fit top old now left path works l shallow fit =
    subst (λ rows. AllFit top old (works_of path rows works)) (sym (listed_members path.names now))
    (rows_fit top old now left path (members path.names now) works l shallow (all_members path.names now) fit.0.0 fit.1)

-- ---- directories of too many names

any_some : (q : Row → Bool) (rows : List Row) (r : Row) → In r rows → q r ≡ true → list_any q rows ≡ true
any_some q [] r i e = absurd i
any_some q (x ∷ rows) r (inl same) e = let f : q x ≡ true = ap q (sym same) ∙ e in rw f refl
any_some q (x ∷ rows) r (inr i) e = or_right (q x) (list_any q rows) (any_some q rows r i e)

-- these rows go
abbrev pub going : Names → List Row → List Row
going top old = walk members_first top old

in_going : (top : Names) (old : List Row) (r : Row) → In r (going top old) → In r old × (is_front top r.path ≡ true)
in_going top old r i = in_filter (λ row. is_front top row.path) old r (from_order members_first r (filter (λ row. is_front top row.path) old) i)

-- a directory that lies at or above a path, and has too many names
deep_above : (r : Row) (p : Names) → (is_deep_dir r && is_front r.path p) ≡ true → (is_dir r.kind ≡ true) × (65537 ≤ length r.path) × (is_front r.path p ≡ true)
deep_above r p e =
    let (deep, front) = and_parts (is_deep_dir r) (is_front r.path p) e in
    let (dir, long) = and_parts (is_dir r.kind) (nat_lt 65536 (length r.path)) deep in
    (dir, below (length r.path) long, front)
  where
    below : (n : ℕ) → nat_lt 65536 n ≡ true → 65537 ≤ n
    below n f = grind (arith, nat_tests)

-- A directory that was walked into has no such directory above it, nor is it one.
pub emptied_shallow : (top : Names) (old : List Row) (path : WebPath) → is_deep path ≡ false → is_too_deep (going top old) path.names ≡ false
emptied_shallow top old path shallow =
    any_none (λ row. is_deep_dir row && is_front row.path path.names) (going top old) (λ r i. false_from_ne_true (is_deep_dir r && is_front r.path path.names) (λ e. never r (deep_above r path.names e)))
  where
    never : (r : Row) → (is_dir r.kind ≡ true) × (65537 ≤ length r.path) × (is_front r.path path.names ≡ true) → ⊥
    never r (dir, long, front) = omega (arith, long, front_length r.path path.names front, not_deep path shallow)

-- Nor has a file that stands where one was walked into, or is the first of all.
pub file_shallow : (top : Names) (old : List Row) (p : Names) → Parts old → StandsAs old p false → is_front top p ≡ true → (p ≡ top) ⊎ (length p ≤ 65537) → is_too_deep (going top old) p ≡ false
file_shallow top old p parts s under place =
    any_none (λ row. is_deep_dir row && is_front row.path p) (going top old) (λ r i. false_from_ne_true (is_deep_dir r && is_front r.path p) (λ e. never r (in_going top old r i) (deep_above r p e) place))
  where
    same_place : (r : Row) → In r old → is_dir r.kind ≡ true → r.path ≡ p → ⊥
    same_place r i dir at =
        let one : r ≡ s.row = only_row old r s.row parts i s.in_tree (at ∙ sym s.at) in
        not_both (is_dir r.kind) dir (ap (λ (x : Row). is_dir x.kind) one ∙ s.kind)

    never : (r : Row) → In r old × (is_front top r.path ≡ true) → (is_dir r.kind ≡ true) × (65537 ≤ length r.path) × (is_front r.path p ≡ true) → (p ≡ top) ⊎ (length p ≤ 65537) → ⊥
    never r (i, below) (dir, long, front) (inl e) =
        same_place r i dir (front_equal r.path p front (omega (arith, ap length e, front_length top r.path below)))
    never r (i, below) (dir, long, front) (inr le) = same_place r i dir (front_equal r.path p front (omega (arith, le, long)))

-- All at and below such a directory is too deep.
pub whole_deep : (top : Names) (old : List Row) (path : WebPath) (q : Names) → StandsAs old path.names true → is_front top path.names ≡ true → is_deep path ≡ true → is_front path.names q ≡ true
    → is_too_deep (going top old) q ≡ true
whole_deep top old path q s under deep below =
    any_some (λ row. is_deep_dir row && is_front row.path q) (going top old) s.row
    (into_order members_first s.row (filter (λ row. is_front top row.path) old) (filter_in (λ row. is_front top row.path) old s.row (subst (λ x. is_front top x ≡ true) (sym s.at) under) s.in_tree))
    (and_from (is_deep_dir s.row) (is_front s.row.path q)
    (and_from (is_dir s.row.kind) (nat_lt 65536 (length s.row.path)) s.kind (ap (λ x. nat_lt 65536 (length x)) s.at ∙ deep))
    (subst (λ x. is_front x q ≡ true) (sym s.at) below))
