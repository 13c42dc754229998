-- Where something changes at one path and below it alone, all that lies beside it stays, but for the time of the directory above.
-- Headlines: `beside_made` and `beside_removed`.
use Rattle.std.proofs.Common.{◌≡◌, ◌≤◌, ◌<◌, ◌⊎◌, ◌&&◌, ◌==◌, ◌-◌, ◌++◌, ℕ, List, [], ◌∷◌, length, drop, map, Bool, true, false, not, cond, Some, refl, sym, ap, subst, ◌∙◌, arith, inl, inr, take-append-drop}
use Rattle.std.proofs.lemmas.List.Elements.{recursion_from_All}
use Rattle.std.specs.List.{AllByRecursion, filter}
use Rattle.std.proofs.lemmas.Bool.{and_from, and_parts, cases_lt, false_from_ne_true, not-true}
use Rattle.dav_core.specs.declared.tree.Row.{Row}
use Rattle.dav_core.specs.declared.tree.Kind.{Kind}
use Rattle.dav_core.specs.declared.time.FileTime.{FileTime}
use Rattle.dav_core.specs.Changes.{timed_row, without}
use Rattle.dav_core.specs.Edits.{Edited, makes, stored_as, takes}
use Rattle.dav_core.specs.Path.{Names, is_front, parent_of, same_names}
use Rattle.dav_core.specs.Tree.{is_dir, is_dir_row, is_link, is_linked, is_placed, row_at}
use Rattle.dav_core.specs.World.{Holds, IsGiven, IsWorld, SameBesidesOpens, World, is_numbered}
use Rattle.dav_core.proofs.UnchangedLemmas.{put_other}
use Rattle.dav_core.proofs.Paths.{names_same, parent_length}
use Rattle.dav_core.proofs.Elements.{In, all_at, all_in, in_either, in_filter, in_map, map_in}
use Rattle.dav_core.proofs.Rows.{numbered_in}
use Rattle.dav_walks.proofs.calls.ActsJoined.{AllDone, act_by, acts_by}
use Rattle.dav_walks.proofs.trees.EditsJoined.{above_all}
use Rattle.dav_walks.proofs.removals.RemovalsAllowed.{back_taken, none_any, timed_kind, timed_path, up_taken}
use Rattle.dav_walks.proofs.trees.TreeRows.{Parts, any_none, filter_once, front_length, front_of, front_then, fronts_meet, not_both}
use Rattle.dav_walks.proofs.removals.RemovalOrder.{in_left}

-- The numbers of a world's rows were given.
numbers_given : (greatest : ℕ) (latest : FileTime) (rows : List Row) → AllByRecursion (λ (r : Row). IsGiven greatest latest r.number r.time) rows
    → AllByRecursion (λ (r : Row). r.number ≤ greatest) rows
numbers_given greatest latest [] all = tt
numbers_given greatest latest (row ∷ rows) all = (all.0.within, numbers_given greatest latest rows all.1)

pub world_numbers : (w : World) → IsWorld w → AllByRecursion (λ (r : Row). r.number ≤ w.greatest) w.tree
world_numbers w is = numbers_given w.greatest w.latest w.tree (recursion_from_All (λ (r : Row). IsGiven w.greatest w.latest r.number r.time) w.tree is.given.rows)

-- ---- paths beside one another

-- neither lies at the other or below it
pub record Apart (from to : Names) : Type 0 where
  pub one : is_front from to ≡ false
  pub two : is_front to from ≡ false

some_names : (a b : Names) → is_front a b ≡ false → 0 < length a
some_names [] b e = not_both (is_front [] b) (front_of [] b b refl) e
some_names (name ∷ a) b e = omega arith

pub some_to : (from to : Names) → Apart from to → 0 < length to
some_to from to apart = some_names to from apart.two

pub some_from : (from to : Names) → Apart from to → 0 < length from
some_from from to apart = some_names from to apart.one

-- no path lies below both
pub apart_below : {P : Type 0} (from to p : Names) → Apart from to → is_front from p ≡ true → is_front to p ≡ true → P
apart_below {P = P} from to p apart e f = by (cases_lt (length from) (length to))
  where
    by : (length from < length to) ⊎ (length to ≤ length from) → P
    by (inl lt) = not_both (is_front from to) (fronts_meet from to p e f (omega (arith, lt))) apart.one
    by (inr le) = not_both (is_front to from) (fronts_meet to from p f e le) apart.two

-- a path lies below the directory above it
pub front_up : (p : Names) → is_front (parent_of p) p ≡ true
front_up p = front_of (parent_of p) p (drop (length p - 1) p) (sym (take-append-drop (length p - 1) p))

-- Nor does the path lie at or above its parent.
pub not_in_parent : (to : Names) → 0 < length to → is_front to (parent_of to) ≡ false
not_in_parent to some = false_from_ne_true (is_front to (parent_of to)) (λ e. never (front_length to (parent_of to) e))
  where
    never : length to ≤ length (parent_of to) → ⊥
    never le = omega (arith, le, some, parent_length to)

-- What lies below the first has not the path of a directory above what lies below the second.
not_up : (from to p n : Names) → Apart from to → is_front to p ≡ true → is_front from n ≡ true → same_names (parent_of p) n ≡ false
not_up from to p n apart under below =
    false_from_ne_true (same_names (parent_of p) n)
    (λ e. apart_below from to p apart
    (front_then from (parent_of p) p (subst (λ z. is_front from z ≡ true) (sym (names_same (parent_of p) n e)) below) (front_up p)) under)

not_below : (from to p n : Names) → Apart from to → is_front to p ≡ true → is_front from n ≡ true → is_front p n ≡ false
not_below from to p n apart under below = false_from_ne_true (is_front p n) (λ e. apart_below from to n apart below (front_then to p n under e))

-- ---- the rows below a path

abbrev pub rows_below : Names → List Row → List Row
rows_below from rows = filter (λ row. is_front from row.path) rows

timed_below : (from q : Names) (t : FileTime) (rows : List Row) → ((n : Names) → is_front from n ≡ true → same_names q n ≡ false) → rows_below from (map (timed_row q t) rows) ≡ rows_below from rows
timed_below from q t [] apart = refl
timed_below from q t (r ∷ rows) apart = by (same_names q r.path) (is_front from r.path) refl refl (timed_below from q t rows apart)
  where
    by : (b f : Bool) → same_names q r.path ≡ b → is_front from r.path ≡ f → rows_below from (map (timed_row q t) rows) ≡ rows_below from rows
        → rows_below from (timed_row q t r ∷ map (timed_row q t) rows) ≡ rows_below from (r ∷ rows)
    by true true e f rest = not_both (same_names q r.path) e (apart r.path f)
    by true false e f rest = rw (e, f) rest
    by false f e g rest = rw e (ap (λ z. cond (is_front from r.path) (r ∷ z) z) rest)

without_below : (from p : Names) (rows : List Row) → ((n : Names) → is_front from n ≡ true → is_front p n ≡ false) → rows_below from (without p rows) ≡ rows_below from rows
without_below from p [] apart = refl
without_below from p (r ∷ rows) apart = by (is_front p r.path) (is_front from r.path) refl refl (without_below from p rows apart)
  where
    by : (b f : Bool) → is_front p r.path ≡ b → is_front from r.path ≡ f → rows_below from (without p rows) ≡ rows_below from rows
        → rows_below from (without p (r ∷ rows)) ≡ rows_below from (r ∷ rows)
    by true true e f rest = not_both (is_front p r.path) e (apart r.path f)
    by true false e f rest = rw (e, f) rest
    by false f e g rest = rw e (ap (λ z. cond (is_front from r.path) (r ∷ z) z) rest)

more_below : (from : Names) (row : Row) (rows : List Row) → is_front from row.path ≡ false → rows_below from (rows ++ row ∷ []) ≡ rows_below from rows
more_below from row [] e = rw e refl
more_below from row (r ∷ rows) e = ap (λ z. cond (is_front from r.path) (r ∷ z) z) (more_below from row rows e)

-- ---- what stays

-- Of a world something changed at `to` and below it alone: what lies at `from` and below it is as it was, and elsewhere the same rows
-- stand, but for times.
pub record Beside (from to : Names) (v u : World) : Type 0 where
  pub rows : rows_below from u.tree ≡ rows_below from v.tree
  pub files : (r : Row) → In r (rows_below from v.tree) → u.files r.number ≡ v.files r.number
  pub up : (r : Row) → In r v.tree → is_front to r.path ≡ false → (s : Row) × In s u.tree × (s.path ≡ r.path) × (s.kind ≡ r.kind)
  pub back : (r : Row) → In r u.tree → is_front to r.path ≡ false → (o : Row) × In o v.tree × (o.path ≡ r.path) × (o.kind ≡ r.kind)

pub beside_then : (from to : Names) (v u w : World) → Beside from to v u → Beside from to u w → Beside from to v w
beside_then from to v u w a b = record {
  rows = b.rows ∙ a.rows;
  files = λ r i. b.files r (subst (In r) (sym a.rows) i) ∙ a.files r i;
  up = λ r i other.
      (let (s, j, at, kind) = a.up r i other in
      let (x, k, here, is) = b.up s j (subst (λ p. is_front to p ≡ false) (sym at) other) in
      (x, k, here ∙ at, is ∙ kind));
  back = λ r i other.
      (let (s, j, at, kind) = b.back r i other in
      let (x, k, here, is) = a.back s j (subst (λ p. is_front to p ≡ false) (sym at) other) in
      (x, k, here ∙ at, is ∙ kind));
}

pub beside_same : (from to : Names) (v u : World) → SameBesidesOpens v u → Beside from to v u
beside_same from to v u same = record {
  rows = ap (rows_below from) same.tree;
  files = λ r i.
      (let held : Holds u r.number = inl (ap (λ rows. is_numbered rows r.number) same.tree ∙ numbered_in v.tree r (in_filter (λ row. is_front from row.path) v.tree r i).0) in
      (same.files r.number held).1);
  up = λ r i other. (r, subst (In r) (sym same.tree) i, refl, refl);
  back = λ r i other. (r, subst (In r) same.tree i, refl, refl);
}

held_below : (from : Names) (v u : World) (r : Row) → rows_below from u.tree ≡ rows_below from v.tree → In r (rows_below from v.tree) → Holds u r.number
held_below from v u r same i = inl (numbered_in u.tree r (in_filter (λ row. is_front from row.path) u.tree r (subst (In r) (sym same) i)).0)

-- What lies there was taken.
pub beside_taken : (from to p : Names) (v u : World) → Apart from to → is_front to p ≡ true → Edited (takes p) v u → Beside from to v u
beside_taken from to p v u apart under (t, new, e) = record {
  rows = same;
  files = λ r i. (e.files r.number (held_below from v u r same i)).1;
  up = λ r i other. up_taken p v u (t, new, e) r i (false_from_ne_true (is_front p r.path) (λ f. not_both (is_front to r.path) (front_then to p r.path under f) other));
  back = λ r i other. back_taken p v u (t, new, e) r i;
}
  where
    same : rows_below from u.tree ≡ rows_below from v.tree
    same =
        ap (rows_below from) e.tree
        ∙ (timed_below from (parent_of p) t (without p v.tree) (λ n below. not_up from to p n apart under below)
        ∙ without_below from p v.tree (λ n below. not_below from to p n apart under below))

-- Something was made there.
pub beside_made : (from to p : Names) (kind : Kind) (bytes : List ℕ) (v u : World) → Apart from to → is_front to p ≡ true → IsWorld v → Edited (makes p kind bytes) v u → Beside from to v u
beside_made from to p kind bytes v u apart under world (number, s, t, next, new, dir, e) = record {
  rows = same;
  files = λ r i. (e.files r.number (held_below from v u r same i)).1 ∙ put_other number r.number (stored_as kind bytes s) v.files (other r (in_filter (λ row. is_front from row.path) v.tree r i).0);
  up = λ r i beside. (
    timed_row (parent_of p) t r,
    subst (In (timed_row (parent_of p) t r)) (sym e.tree) (map_in (timed_row (parent_of p) t) (v.tree ++ row ∷ []) r (in_left r v.tree (row ∷ []) i)),
    timed_path (same_names (parent_of p) r.path) (parent_of p) t r refl,
    timed_kind (same_names (parent_of p) r.path) (parent_of p) t r refl,
  );
  back = λ r i beside.
      (let (x, j, is) = in_map (timed_row (parent_of p) t) (v.tree ++ row ∷ []) r (subst (In r) e.tree i) in
      let at : x.path ≡ r.path = sym (ap (λ (y : Row). y.path) is ∙ timed_path (same_names (parent_of p) x.path) (parent_of p) t x refl) in
      let own : x.kind ≡ r.kind = sym (ap (λ (y : Row). y.kind) is ∙ timed_kind (same_names (parent_of p) x.path) (parent_of p) t x refl) in
      (x, older x r at beside (in_either x v.tree (row ∷ []) j), at, own));
}
  where
    row : Row
    row = record { path = p; kind = kind; number = number; time = s }

    same : rows_below from u.tree ≡ rows_below from v.tree
    same =
        ap (rows_below from) e.tree
        ∙ (timed_below from (parent_of p) t (v.tree ++ row ∷ []) (λ n below. not_up from to p n apart under below)
        ∙ more_below from row v.tree (false_from_ne_true (is_front from p) (λ f. apart_below from to p apart f under)))

    other : (r : Row) → In r v.tree → r.number ≡ number → ⊥
    other r i is =
        not_both (is_numbered v.tree number) (subst (λ n. is_numbered v.tree n ≡ true) is (numbered_in v.tree r i)) (above_all number v.greatest v.tree (world_numbers v world) next.above)

    older : (x r : Row) → x.path ≡ r.path → is_front to r.path ≡ false → In x v.tree ⊎ In x (row ∷ []) → In x v.tree
    older x r at beside (inl j) = j
    older x r at beside (inr (inl is)) =
        not_both (is_front to r.path) (subst (λ q. is_front to q ≡ true) (sym (ap (λ (y : Row). y.path) is) ∙ at) under) beside
    older x r at beside (inr (inr never)) = absurd never

-- What lies there was removed, path by path.
pub beside_removed : (from to : Names) (deep : Names → Bool) (all : List Names) (v u : World) → Apart from to → ((p : Names) → In p all → is_front to p ≡ true)
    → AllDone (acts_by deep all) v u → Beside from to v u
beside_removed from to deep [] v u apart under same = beside_same from to v u same
beside_removed from to deep (p ∷ all) v u apart under done = by (deep p) done (λ m rest. beside_removed from to deep all m u apart (λ q i. under q (inr i)) rest)
  where
    by : (b : Bool) → AllDone (act_by b p ∷ acts_by deep all) v u → ((m : World) → AllDone (acts_by deep all) m u → Beside from to m u) → Beside from to v u
    by true done more = absurd done
    by false (m, edited, rest) more = beside_then from to v m u (beside_taken from to p v m apart (under p (inl refl)) edited) (more m rest)

-- ---- directories and links

-- a link that stands stood
pub unlinked_from : (old now : List Row) (q : Names) → ((r : Row) → In r now → is_link r.kind ≡ true → (o : Row) × In o old × (o.path ≡ r.path) × (o.kind ≡ r.kind))
    → is_linked old q ≡ false → is_linked now q ≡ false
unlinked_from old now q from clear =
    any_none (λ row. is_link row.kind && is_front row.path q) now (λ r i. false_from_ne_true (is_link r.kind && is_front r.path q) (λ e. never r i (and_parts (is_link r.kind) (is_front r.path q) e)))
  where
    never : (r : Row) → In r now → (is_link r.kind ≡ true) × (is_front r.path q ≡ true) → ⊥
    never r i (link, up) =
        let (o, j, at, kind) = from r i link in
        not_both (is_link o.kind && is_front o.path q) (and_from (is_link o.kind) (is_front o.path q) (ap is_link kind ∙ link) (subst (λ x. is_front x q ≡ true) (sym at) up))
        (none_any (λ row. is_link row.kind && is_front row.path q) old o clear j)

-- ---- a tree without what lies at a path

found_without : (p q : Names) (rows : List Row) → is_front p q ≡ false → row_at (without p rows) q ≡ row_at rows q
found_without p q [] other = refl
found_without p q (r ∷ rows) other = by (is_front p r.path) refl (found_without p q rows other)
  where
    by : (b : Bool) → is_front p r.path ≡ b → row_at (without p rows) q ≡ row_at rows q → row_at (without p (r ∷ rows)) q ≡ row_at (r ∷ rows) q
    by true e rest =
        let apart : same_names q r.path ≡ false = false_from_ne_true (same_names q r.path) (λ f. not_both (is_front p r.path) e (subst (λ z. is_front p z ≡ false) (names_same q r.path f) other)) in
        rw (e, apart) rest
    by false e rest = rw e (ap (λ o. cond (same_names q r.path) (Some r) o) rest)

pub parts_without : (p : Names) (rows : List Row) → 0 < length p → Parts rows → Parts (without p rows)
parts_without p rows some parts = record {
  root = ap is_dir_row (found_without p [] rows (false_from_ne_true (is_front p []) (λ e. root_long (front_length p [] e)))) ∙ parts.root;
  placed = all_in (is_placed (without p rows)) (without p rows) (λ r i. placed_still r (in_filter (λ row. not (is_front p row.path)) rows r i));
  once = filter_once (λ row. not (is_front p row.path)) rows parts.once;
}
  where
    root_long : length p ≤ 0 → ⊥
    root_long le = omega (arith, le, some)

    placed_still : (r : Row) → In r rows × (not (is_front p r.path) ≡ true) → is_placed (without p rows) r ≡ true
    placed_still r (i, kept) =
        let apart : is_front p (parent_of r.path) ≡ false = false_from_ne_true (is_front p (parent_of r.path)) (λ e. not_both (is_front p r.path) (front_then p (parent_of r.path) r.path e (front_up r.path)) (not-true (is_front p r.path) kept)) in
        ap (λ o. cond (length r.path == 0) (is_dir r.kind) (is_dir_row o)) (found_without p (parent_of r.path) rows apart) ∙ all_at (is_placed rows) rows r parts.placed i
