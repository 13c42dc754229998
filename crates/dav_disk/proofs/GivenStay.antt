-- No change leaves a number above the greatest, or a time after the latest.
use Rattle.std.proofs.Common.{◌≡◌, ◌≤◌, ◌<◌, ◌==◌, ◌+◌, ◌-◌, ◌⊎◌, ◌∷◌, ◌++◌, ◌&&◌, ◌||◌, ◌<ℤ◌, ◌≤ℤ◌, ◌+ℤ◌, ℤ, pos, max, [], ℕ, List, Bool, true, false, cond, not, length, map, nat_lt, int_lt, Option, None, Some, Result, Ok, Err, OnOk, OnErr, subst, inl, inr, refl, sym, ap, arith}
use Rattle.std.proofs.lemmas.Bool.{and_parts, ltb-true, ltb-false}
use Rattle.std.proofs.lemmas.Bool.Decides.{Decides-int_eq}
use Rattle.std.specs.Option.{option_map}
use Rattle.std.specs.Ordering.{int_eq}
use Rattle.std.proofs.lemmas.Int.{ints}
use Rattle.std.proofs.lemmas.List.Elements.{All-from_recursion, recursion_from_All}
use Rattle.dav_io.specs.Counts.{greatest}
use Rattle.dav_core.specs.declared.tree.Row.{Row}
use Rattle.dav_core.specs.declared.tree.Kind.{Kind}
use Rattle.dav_core.specs.declared.tree.Kind.TheVariants.{Dir, File, Link}
use Rattle.dav_core.specs.declared.time.FileTime.{FileTime}
use Rattle.dav_core.specs.declared.change.Change.{Change}
use Rattle.dav_core.specs.declared.change.Change.TheVariants.{AddDir, AddFile, Cut, Remove, Rename}
use Rattle.dav_core.specs.declared.handle.DiskError.{DiskError}
use Rattle.dav_core.specs.Path.{Names, same_names, parent_of, is_front}
use Rattle.dav_core.specs.Tree.{look}
use Rattle.dav_core.specs.World.{World, Stored, OpenFile, NotAfter, IsGiven, AreGiven, put, at_key}
use Rattle.dav_core.proofs.TimesLemmas.{not_after_itself, not_after_then}
use Rattle.dav_core.proofs.UnchangedLemmas.{equal_keys}
use Rattle.dav_core.specs.Changes.{tick, timed_row, touched_at, touched, then_touched, is_free_in, added_at, added, stored_in, made_or, dir_added, file_added, cut_at_time, cut_kind, cut_found, without, removed_found, moved_row, renames_to, parents_touched, renamed_found, changed, all_changed, turned, turned_by}
use Rattle.dav_disk.specs.declared.tables.Opened.{Opened}
use Rattle.std.specs.BTreeMap.{BTreeMap, Updates, IsUnchanged, is_at}
use Rattle.std.specs.Map.{lookup}
use Rattle.std.specs.Ordering.{nat_cmp}
use Rattle.dav_core.proofs.TablesLemmas.{updates_put}
use Rattle.dav_disk.specs.declared.tables.StoredFile.{StoredFile}
use Rattle.dav_disk.specs.Files.{AreStored, open_of, open_at, stored_of, stored_at}
use Rattle.dav_disk.specs.Rows.{can_be_set, later_of, second_past}
use Rattle.dav_disk.proofs.Trees.{each_at, each_in}
use Rattle.dav_disk.proofs.Changed.{in_more, look_in}
use Rattle.dav_core.proofs.Elements.{In, in_map, in_filter}

-- ---- times

-- a time of an earlier second
before_second : (a b : FileTime) → a.secs <ℤ b.secs → NotAfter a b
before_second a b lt = (omega (arith, ints), λ e. absurd (omega (arith, ints)))

in_second : (a b : FileTime) → a.secs ≡ b.secs → a.nanos ≤ b.nanos → NotAfter a b
in_second a b e le = (omega (arith, ints), λ f. le)

-- a tick of a time is a time, and not before it
pub record IsTick (t u : FileTime) : Type 0 where
  pub later : NotAfter t u
  pub nanos : u.nanos < 1000000000

later_second : (t u : FileTime) → t.nanos < 1000000000 → record { secs = t.secs +ℤ pos 1; nanos = (t.nanos + 1000) - 1000000000 } ≡ u → IsTick t u
later_second t u small e =
    let secs : t.secs +ℤ pos 1 ≡ u.secs = ap (λ (x : FileTime). x.secs) e in
    let nanos : (t.nanos + 1000) - 1000000000 ≡ u.nanos = ap (λ (x : FileTime). x.nanos) e in
    record { later = before_second t u (omega (arith, ints)); nanos = omega arith }

same_second : (t u : FileTime) → t.nanos + 1000 < 1000000000 → record { secs = t.secs; nanos = t.nanos + 1000 } ≡ u → IsTick t u
same_second t u small e =
    let secs : t.secs ≡ u.secs = ap (λ (x : FileTime). x.secs) e in
    let nanos : t.nanos + 1000 ≡ u.nanos = ap (λ (x : FileTime). x.nanos) e in
    record { later = in_second t u secs (omega arith); nanos = omega arith }

tick_by : (b c : Bool) (t u : FileTime) → nat_lt (t.nanos + 1000) 1000000000 ≡ b → t.nanos < 1000000000
    → cond b (Some (record { secs = t.secs; nanos = t.nanos + 1000 })) (cond c (Some (record { secs = t.secs +ℤ pos 1; nanos = (t.nanos + 1000) - 1000000000 })) None) ≡ Some u
    → IsTick t u
tick_by true c t u test small e = same_second t u (ltb-true _ _ test) cc
tick_by false true t u test small e = later_second t u small cc
tick_by false false t u test small e = cc

pub ticked : (t u : FileTime) → t.nanos < 1000000000 → tick t ≡ Some u → IsTick t u
ticked t u small e = tick_by (nat_lt (t.nanos + 1000) 1000000000) (int_lt t.secs (pos 9223372036854775807)) t u refl small e

-- ---- what is given

pub given_still : (g h : ℕ) (l t : FileTime) (n : ℕ) (time : FileTime) → g ≤ h → NotAfter l t → IsGiven g l n time → IsGiven h t n time
given_still g h l t n time more later given = record {
  within = let le = given.within in omega arith;
  nanos = given.nanos;
  past = not_after_then time l t given.past later;
}

pub record Bounded (w : World) : Type 0 where
  pub rows : (r : Row) → In r w.tree → IsGiven w.greatest w.latest r.number r.time
  pub files : (n : ℕ) (f : Stored) → w.files n ≡ Some f → IsGiven w.greatest w.latest n f.time
  pub opens : (h : ℕ) (o : OpenFile) → w.opens h ≡ Some o → o.number ≤ w.greatest
  pub nanos : w.latest.nanos < 1000000000

abbrev pub BoundedIf : Option World → Type 0
BoundedIf None = Unit {0}
BoundedIf (Some w) = Bounded w

made_bounded : (w : World) (o : Option World) → Bounded w → BoundedIf o → Bounded (made_or w o)
made_bounded w None g h = g
made_bounded w (Some v) g h = h

cond_bounded : (b : Bool) (x y : World) → Bounded x → Bounded y → Bounded (cond b x y)
cond_bounded true x y h g = h
cond_bounded false x y h g = g

-- ---- times of rows

pub timed_given : (b : Bool) (g : ℕ) (l t : FileTime) (r : Row) → IsTick l t → IsGiven g l r.number r.time
    → IsGiven g t (cond b (record r { time = t }) r).number (cond b (record r { time = t }) r).time
timed_given true g l t r tick given = record { within = given.within; nanos = tick.nanos; past = not_after_itself t }
timed_given false g l t r tick given = given_still g g l t r.number r.time (omega arith) tick.later given

timed_rows : (w : World) (path : Names) (t : FileTime) → Bounded w → IsTick w.latest t → (y : Row) → In y (map (timed_row path t) w.tree) → IsGiven w.greatest t y.number y.time
timed_rows w path t g tick y i =
    let (r, at, e) = in_map (timed_row path t) w.tree y i in
    rw e (timed_given (same_names path r.path) w.greatest w.latest t r tick (g.rows r at))

timed_bounded : (w : World) (path : Names) (t : FileTime) → Bounded w → IsTick w.latest t → Bounded (record w { tree = map (timed_row path t) w.tree; latest = t })
timed_bounded w path t g tick = record {
  rows = timed_rows w path t g tick;
  files = λ n f e. given_still w.greatest w.greatest w.latest t n f.time (omega arith) tick.later (g.files n f e);
  opens = g.opens;
  nanos = tick.nanos;
}

touched_at_bounded : (path : Names) (o : Option FileTime) (w : World) → Bounded w → tick w.latest ≡ o → BoundedIf (touched_at path o w)
touched_at_bounded path None w g e = tt
touched_at_bounded path (Some t) w g e = timed_bounded w path t g (ticked w.latest t g.nanos e)

touched_bounded : (path : Names) (w : World) → Bounded w → BoundedIf (touched path w)
touched_bounded path w g = touched_at_bounded path (tick w.latest) w g refl

then_bounded : (path : Names) (o : Option World) → BoundedIf o → BoundedIf (then_touched path o)
then_bounded path None g = tt
then_bounded path (Some w) g = touched_bounded path w g

-- ---- rows and files more

row_given : (w : World) (x y : Row) (t : FileTime) → Bounded w → IsTick w.latest t → x.number ≡ w.greatest + 1 → x.time ≡ t → In y w.tree ⊎ (y ≡ x) → IsGiven (w.greatest + 1) t y.number y.time
row_given w x y t g tick n e (inl i) = given_still w.greatest (w.greatest + 1) w.latest t y.number y.time (omega arith) tick.later (g.rows y i)
row_given w x y t g tick n e (inr same) = rw (same, n, e) (record { within = omega arith; nanos = tick.nanos; past = not_after_itself t })

added_at_bounded : (path : Names) (kind : Kind) (o : Option FileTime) (w : World) → Bounded w → tick w.latest ≡ o → BoundedIf (added_at path kind o w)
added_at_bounded path kind None w g e = tt
added_at_bounded path kind (Some t) w g e =
    let tick = ticked w.latest t g.nanos e in
    let x : Row = record { path = path; kind = kind; number = w.greatest + 1; time = t } in
    record {
      rows = λ y i. row_given w x y t g tick refl refl (in_more w.tree x y i);
      files = λ n f e. given_still w.greatest (w.greatest + 1) w.latest t n f.time (omega arith) tick.later (g.files n f e);
      opens = λ h o e. (let le = g.opens h o e in omega arith);
      nanos = tick.nanos;
    }

if_bounded : (b : Bool) (o : Option World) → BoundedIf o → BoundedIf (cond b o None)
if_bounded true o g = g
if_bounded false o g = tt

added_bounded : (path : Names) (kind : Kind) (w : World) → Bounded w → BoundedIf (added path kind w)
added_bounded path kind w g = if_bounded (nat_lt w.greatest greatest) (added_at path kind (tick w.latest) w) (added_at_bounded path kind (tick w.latest) w g refl)

pub put_given : (b : Bool) (g : ℕ) (l : FileTime) (k n : ℕ) (s f : Stored) (o : Option Stored) → (n == k) ≡ b → IsGiven g l k s.time → (o ≡ Some f → IsGiven g l n f.time)
    → cond b (Some s) o ≡ Some f → IsGiven g l n f.time
put_given true g l k n s f o test given other e =
    let same : s ≡ f = cc in
    let key : n ≡ k = equal_keys n k test in
    rw (← same, key) given
put_given false g l k n s f o test given other e = other e

stored_bounded : (bytes : List ℕ) (o : Option World) → BoundedIf o → BoundedIf (stored_in bytes o)
stored_bounded bytes None g = tt
stored_bounded bytes (Some w) g =
    let s : Stored = record { bytes = bytes; time = w.latest } in
    record {
      rows = g.rows;
      files = λ n f e. put_given (n == w.greatest) w.greatest w.latest w.greatest n s f (w.files n) refl (record { within = omega arith; nanos = g.nanos; past = not_after_itself w.latest }) (g.files n f) e;
      opens = g.opens;
      nanos = g.nanos;
    }

-- ---- the other changes

cut_at_bounded : (row : Row) (len : ℕ) (o : Option FileTime) (w : World) → Bounded w → tick w.latest ≡ o → row.number ≤ w.greatest → Bounded (cut_at_time row len o w)
cut_at_bounded row len None w g e n = g
cut_at_bounded row len (Some t) w g e n =
    let tick = ticked w.latest t g.nanos e in
    record {
      rows = timed_rows w row.path t g tick;
      files = λ k f e. put_given (k == row.number) w.greatest t row.number k _ f (w.files k) refl (record { within = n; nanos = tick.nanos; past = not_after_itself t })
          (λ e. given_still w.greatest w.greatest w.latest t k f.time (omega arith) tick.later (g.files k f e)) e;
      opens = g.opens;
      nanos = tick.nanos;
    }

cut_kind_bounded : (kind : Kind) (row : Row) (len : ℕ) (w : World) → Bounded w → row.number ≤ w.greatest → Bounded (cut_kind kind row len w)
cut_kind_bounded Dir row len w g n = g
cut_kind_bounded Link row len w g n = g
cut_kind_bounded File row len w g n = cond_bounded _ w (cut_at_time row len (tick w.latest) w) g (cut_at_bounded row len (tick w.latest) w g refl n)

cut_found_bounded : (found : Result Row DiskError) (len : ℕ) (w : World) → Bounded w → ((row : Row) → found ≡ Ok row → In row w.tree) → Bounded (cut_found found len w)
cut_found_bounded (Ok row) len w g h = cut_kind_bounded row.kind row len w g (g.rows row (h row refl)).within
cut_found_bounded (Err e) len w g h = g

without_bounded : (path : Names) (w : World) → Bounded w → Bounded (record w { tree = without path w.tree })
without_bounded path w g = record {
  rows = λ r i. g.rows r (in_filter (λ (row : Row). not (is_front path row.path)) w.tree r i).0;
  files = g.files;
  opens = g.opens;
  nanos = g.nanos;
}

removed_bounded : (found : Result Row DiskError) (w : World) → Bounded w → Bounded (removed_found found w)
removed_bounded (Err e) w g = g
removed_bounded (Ok row) w g =
    let v : World = record w { tree = without row.path w.tree } in
    cond_bounded (length row.path == 0) w (made_or w (touched (parent_of row.path) v)) g
    (made_bounded w (touched (parent_of row.path) v) g (touched_bounded (parent_of row.path) v (without_bounded row.path w g)))

moved_given : (b : Bool) (g : ℕ) (l : FileTime) (r : Row) (path : Names) → IsGiven g l r.number r.time
    → IsGiven g l (cond b (record r { path = path }) r).number (cond b (record r { path = path }) r).time
moved_given true g l r path given = given
moved_given false g l r path given = given

moved_bounded : (from to : Names) (w : World) → Bounded w → Bounded (record w { tree = map (moved_row from to) w.tree })
moved_bounded from to w g = record {
  rows = λ y i.
      (let (r, at, e) = in_map (moved_row from to) w.tree y i in
      rw e (moved_given (is_front from r.path) w.greatest w.latest r _ (g.rows r at)));
  files = g.files;
  opens = g.opens;
  nanos = g.nanos;
}

either_if : (b : Bool) (x y : Option World) → BoundedIf x → BoundedIf y → BoundedIf (cond b x y)
either_if true x y h g = h
either_if false x y h g = g

parents_bounded : (from to : Names) (w : World) → Bounded w → BoundedIf (parents_touched from to w)
parents_bounded from to w g =
    either_if (same_names (parent_of from) (parent_of to)) (touched (parent_of from) w) (then_touched (parent_of to) (touched (parent_of from) w))
    (touched_bounded (parent_of from) w g)
    (then_bounded (parent_of to) (touched (parent_of from) w) (touched_bounded (parent_of from) w g))

renamed_bounded : (found : Result Row DiskError) (to : Names) (w : World) → Bounded w → Bounded (renamed_found found to w)
renamed_bounded (Err e) to w g = g
renamed_bounded (Ok row) to w g =
    let v : World = record w { tree = map (moved_row row.path to) (without to w.tree) } in
    cond_bounded (renames_to w row to) (made_or w (parents_touched row.path to v)) w
    (made_bounded w (parents_touched row.path to v) g
    (parents_bounded row.path to v (moved_bounded row.path to (record w { tree = without to w.tree }) (without_bounded to w g))))
    g

dir_added_bounded : (path : Names) (w : World) → Bounded w → Bounded (dir_added w path)
dir_added_bounded path w g = cond_bounded (is_free_in w.tree path) (made_or w (then_touched (parent_of path) (added path Dir w))) w
    (made_bounded w (then_touched (parent_of path) (added path Dir w)) g (then_bounded (parent_of path) (added path Dir w) (added_bounded path Dir w g)))
    g

file_added_bounded : (path : Names) (bytes : List ℕ) (w : World) → Bounded w → Bounded (file_added w path bytes)
file_added_bounded path bytes w g = cond_bounded (is_free_in w.tree path) (made_or w (then_touched (parent_of path) (stored_in bytes (added path File w)))) w
    (made_bounded w (then_touched (parent_of path) (stored_in bytes (added path File w))) g
    (then_bounded (parent_of path) (stored_in bytes (added path File w)) (stored_bounded bytes (added path File w) (added_bounded path File w g))))
    g

changed_bounded : (w : World) (change : Change) → Bounded w → Bounded (changed w change)
changed_bounded w (AddDir path) g = dir_added_bounded path w g
changed_bounded w (AddFile path bytes) g = file_added_bounded path bytes w g
changed_bounded w (Cut path len) g = cut_found_bounded (look w.tree path) len w g (look_in w.tree path)
changed_bounded w (Remove path) g = removed_bounded (look w.tree path) w g
changed_bounded w (Rename from to) g = renamed_bounded (look w.tree from) to w g

all_bounded : (w : World) (changes : List Change) → Bounded w → Bounded (all_changed w changes)
all_bounded w [] g = g
all_bounded w (change ∷ changes) g = all_bounded (changed w change) changes (changed_bounded w change g)

turned_by_bounded : (w : World) (script : List (List Change)) → Bounded w → Bounded (turned_by w script)
turned_by_bounded w [] g = g
turned_by_bounded w (batch ∷ batches) g = all_bounded (record w { script = batches }) batch (record { rows = g.rows; files = g.files; opens = g.opens; nanos = g.nanos })

pub bounded_of : (w : World) → AreGiven w.tree w.files w.opens w.greatest w.latest → Bounded w
bounded_of w given = record {
  rows = λ r i. each_at (λ r. IsGiven w.greatest w.latest r.number r.time) w.tree r (recursion_from_All (λ r. IsGiven w.greatest w.latest r.number r.time) w.tree given.rows) i;
  files = given.files;
  opens = given.opens;
  nanos = given.nanos;
}

pub given_of : (w : World) → Bounded w → AreGiven w.tree w.files w.opens w.greatest w.latest
given_of w g = record {
  rows = All-from_recursion (λ r. IsGiven w.greatest w.latest r.number r.time) w.tree (each_in (λ r. IsGiven w.greatest w.latest r.number r.time) w.tree g.rows);
  files = g.files;
  opens = g.opens;
  nanos = g.nanos;
}

-- what is given stays so when a batch of changes is made
pub turned_given : (v w : World) → v ≡ turned w → AreGiven w.tree w.files w.opens w.greatest w.latest → AreGiven v.tree v.files v.opens v.greatest v.latest
turned_given v w e given = rw e (given_of (turned w) (turned_by_bounded w w.script (bounded_of w given)))

-- what is given stays so when a change is made
pub changed_given : (v w : World) (change : Change) → v ≡ changed w change → AreGiven w.tree w.files w.opens w.greatest w.latest → AreGiven v.tree v.files v.opens v.greatest v.latest
changed_given v w change e given = rw e (given_of (changed w change) (changed_bounded w change (bounded_of w given)))

-- ---- rows that are set

-- of two times the later one
pub record IsLater (a b later : FileTime) : Type 0 where
  pub first : NotAfter a later
  pub second : NotAfter b later

not_less : (x y : ℤ) → int_lt x y ≡ false → y ≤ℤ x
not_less x y e = grind (arith, ints)

less : (x y : ℤ) → int_lt x y ≡ true → x <ℤ y
less x y e = grind (arith, ints)

equal_secs : (x y : ℤ) → int_eq x y ≡ true → x ≡ y
equal_secs x y e = (Decides-int_eq x y).0 e

other_secs : (x y : ℤ) → int_eq x y ≡ false → x ≡ y → ⊥
other_secs x y e same = let yes : int_eq x y ≡ true = (Decides-int_eq x y).1 same in cc

strictly : (x y : ℤ) → y ≤ℤ x → (x ≡ y → ⊥) → y <ℤ x
strictly x y le ne = omega (arith, ints)

later_by : (x y z : Bool) (a b : FileTime) → int_lt a.secs b.secs ≡ x → int_eq a.secs b.secs ≡ y → nat_lt a.nanos b.nanos ≡ z → IsLater a b (cond (x || (y && z)) b a)
later_by true y z a b p q r = record { first = before_second a b (less a.secs b.secs p); second = not_after_itself b }
later_by false true true a b p q r = record { first = in_second a b (equal_secs a.secs b.secs q) (let lt = ltb-true a.nanos b.nanos r in omega arith); second = not_after_itself b }
later_by false true false a b p q r = record { first = not_after_itself a; second = in_second b a (sym (equal_secs a.secs b.secs q)) (ltb-false a.nanos b.nanos r) }
later_by false false z a b p q r = record { first = not_after_itself a; second = before_second b a (strictly a.secs b.secs (not_less a.secs b.secs p) (other_secs a.secs b.secs q)) }

pub later_is : (a b : FileTime) → IsLater a b (later_of a b)
later_is a b = later_by (int_lt a.secs b.secs) (int_eq a.secs b.secs) (nat_lt a.nanos b.nanos) a b refl refl refl

-- a time that may be set is within a second past it
pub second_is : (l t : FileTime) → can_be_set t ≡ true → IsLater l t (later_of l (second_past t))
second_is l t can =
    let later = later_is l (second_past t) in
    record { first = later.first; second = not_after_then t (second_past t) (later_of l (second_past t)) (before_second t (second_past t) (omega (arith, ints))) later.second }

later_nanos : (b : Bool) (x y : FileTime) → x.nanos < 1000000000 → y.nanos < 1000000000 → (cond b x y).nanos < 1000000000
later_nanos true x y p q = p
later_nanos false x y p q = q

set_nanos : (t : FileTime) → can_be_set t ≡ true → t.nanos < 1000000000
set_nanos t can = ltb-true t.nanos 1000000000 (and_parts (int_lt t.secs (pos 253402300800)) (nat_lt t.nanos 1000000000) can).1

row_set : (w : World) (x y : Row) (l : FileTime) → Bounded w → IsLater w.latest x.time l → x.time.nanos < 1000000000 → In y w.tree ⊎ (y ≡ x) → IsGiven (max w.greatest x.number) l y.number y.time
row_set w x y l g later small (inl i) = given_still w.greatest (max w.greatest x.number) w.latest l y.number y.time (omega arith) later.first (g.rows y i)
row_set w x y l g later small (inr same) = rw same (record { within = omega arith; nanos = small; past = later.second })

with_row_bounded : (w : World) (x : Row) → can_be_set x.time ≡ true → Bounded w
    → Bounded (record w { tree = w.tree ++ x ∷ []; greatest = max w.greatest x.number; latest = later_of w.latest (second_past x.time) })
with_row_bounded w x can g =
    let l = later_of w.latest (second_past x.time) in
    let later = second_is w.latest x.time can in
    let small = set_nanos x.time can in
    record {
      rows = λ y i. row_set w x y l g later small (in_more w.tree x y i);
      files = λ n f e. given_still w.greatest (max w.greatest x.number) w.latest l n f.time (omega arith) later.first (g.files n f e);
      opens = λ h o e. (let le = g.opens h o e in omega arith);
      nanos = later_nanos _ (second_past x.time) w.latest small g.nanos;
    }

with_stored_bounded : (w : World) (k : ℕ) (s : Stored) → IsGiven w.greatest w.latest k s.time → Bounded w → Bounded (record w { files = put k (Some s) w.files })
with_stored_bounded w k s given g = record {
  rows = g.rows;
  files = λ n f e. put_given (n == k) w.greatest w.latest k n s f (w.files n) refl given (g.files n f) e;
  opens = g.opens;
  nanos = g.nanos;
}

-- a directory more
pub dir_given : (w : World) (x : Row) (mid new : List Row) (greatest : ℕ) (latest past : FileTime) → can_be_set x.time ≡ true → AreGiven w.tree w.files w.opens w.greatest w.latest
    → mid ≡ w.tree → new ≡ mid ++ x ∷ [] → greatest ≡ max w.greatest x.number → latest ≡ later_of w.latest past → past ≡ second_past x.time
    → AreGiven new w.files w.opens greatest latest
dir_given w x mid new greatest latest past can given before e g l p =
    rw (e, g, l, p, before) (given_of (record w { tree = w.tree ++ x ∷ []; greatest = max w.greatest x.number; latest = later_of w.latest (second_past x.time) })
    (with_row_bounded w x can (bounded_of w given)))

-- a file more
pub file_given : (w : World) (x : Row) (s : Stored) (mid new : List Row) (files : ℕ → Option Stored) (greatest : ℕ) (latest past : FileTime) → can_be_set x.time ≡ true
    → AreGiven w.tree w.files w.opens w.greatest w.latest → s.time ≡ x.time → mid ≡ w.tree → new ≡ mid ++ x ∷ [] → files ≡ put x.number (Some s) w.files
    → greatest ≡ max w.greatest x.number → latest ≡ later_of w.latest past → past ≡ second_past x.time
    → AreGiven new files w.opens greatest latest
file_given w x s mid new files greatest latest past can given same before e f g l p =
    let v : World = record w { tree = w.tree ++ x ∷ []; greatest = max w.greatest x.number; latest = later_of w.latest (second_past x.time) } in
    let more = with_row_bounded w x can (bounded_of w given) in
    let here : IsGiven v.greatest v.latest x.number s.time = rw same (more.rows x (in_end w.tree x)) in
    rw (e, f, g, l, p, before) (given_of (record v { files = put x.number (Some s) v.files }) (with_stored_bounded v x.number s here more))
  where
    in_end : (rows : List Row) (x : Row) → In x (rows ++ x ∷ [])
    in_end [] x = inl refl
    in_end (r ∷ rows) x = inr (in_end rows x)

-- ---- open files

open_case : (b : Bool) (g : ℕ) (w o : Option Opened) (x : OpenFile) → ((p : Opened) → w ≡ Some p → p.number ≤ g) → (option_map open_of o ≡ Some x → x.number ≤ g)
    → option_map open_of (cond b w o) ≡ Some x → x.number ≤ g
open_case true g None o x new old e = cc
open_case true g (Some p) o x new old e = let same : open_of p ≡ x = cc in rw (← same) (new p refl)
open_case false g w o x new old e = old e

-- an open file more, or one whose place is set, or one fewer
pub open_given : (w : World) (old now : ℕ → Option Opened) (h : ℕ) (p : Option Opened) → AreGiven w.tree w.files (λ n. option_map open_of (old n)) w.greatest w.latest
    → now ≡ put h p old → ((o : Opened) → p ≡ Some o → o.number ≤ w.greatest) → AreGiven w.tree w.files (λ n. option_map open_of (now n)) w.greatest w.latest
open_given w old now h p given e new = rw e (record {
  rows = given.rows;
  files = given.files;
  opens = λ n x f. open_case (n == h) w.greatest p (old n) x new (given.opens n x) f;
  nanos = given.nanos;
})

-- a place that is set
pub place_given : (w : World) (old now : ℕ → Option Opened) (h : ℕ) (o : Opened) (place : ℕ) → AreGiven w.tree w.files (λ n. option_map open_of (old n)) w.greatest w.latest
    → old h ≡ Some o → now ≡ put h (Some (record o { place = place })) old → AreGiven w.tree w.files (λ n. option_map open_of (now n)) w.greatest w.latest
place_given w old now h o place given at e =
    let le : o.number ≤ w.greatest = given.opens h (open_of o) (ap (option_map open_of) at) in
    open_given w old now h (Some (record o { place = place })) given e (λ p f. let same : record o { place = place } ≡ p = cc in rw (← same) le)

-- what is opened, or refused for want of memory
pub insert_given : {T E : Type 0} (w : World) (old now : BTreeMap ℕ Opened) (h : ℕ) (o : Opened) (r : Result T E)
    → AreGiven w.tree w.files (open_at old) w.greatest w.latest → o.number ≤ w.greatest
    → OnOk r (Updates nat_cmp old now h (Some o)) → OnErr r (IsUnchanged old now) → AreGiven w.tree w.files (open_at now) w.greatest w.latest
insert_given w old now h o (Ok x) given le updates same =
    open_given w (at_key old) (at_key now) h (Some o) given (updates_put h old now (Some o) updates) (λ p f. let same : o ≡ p = cc in rw (← same) le)
insert_given w old now h o (Err x) given le updates same =
    subst (λ (entries : List (ℕ × Opened)). AreGiven w.tree w.files (λ n. option_map open_of (lookup (is_at (nat_cmp n)) entries)) w.greatest w.latest) (sym same) given

-- files that stay
pub unchanged_given : (w : World) (old now : BTreeMap ℕ StoredFile) (rows : List Row) → AreGiven w.tree (stored_at old) w.opens w.greatest w.latest → rows ≡ w.tree → IsUnchanged old now
    → AreGiven rows (stored_at now) w.opens w.greatest w.latest
unchanged_given w old now rows given e same =
    rw e (subst (λ (entries : List (ℕ × StoredFile)). AreGiven w.tree (λ n. option_map stored_of (lookup (is_at (nat_cmp n)) entries)) w.opens w.greatest w.latest) (sym same) given)

pub unchanged_stored : (tree : List Row) (old now : BTreeMap ℕ StoredFile) (rows : List Row) → AreStored tree (stored_at old) → rows ≡ tree → IsUnchanged old now → AreStored rows (stored_at now)
unchanged_stored tree old now rows stored e same =
    rw e (subst (λ (entries : List (ℕ × StoredFile)). AreStored tree (λ n. option_map stored_of (lookup (is_at (nat_cmp n)) entries))) (sym same) stored)
