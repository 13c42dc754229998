-- What a disk in memory makes of its world is an edit of it.
use Rattle.std.proofs.Common.{◌≡◌, ◌≢◌, ◌≤◌, ◌<◌, ◌==◌, ◌+◌, ◌-◌, ◌⊎◌, ◌∷◌, ◌++◌, ◌<ℤ◌, ◌+ℤ◌, ℤ, pos, [], ℕ, List, Bool, true, false, cond, map, nat_lt, int_lt, Option, None, Some, inl, inr, subst, refl, sym, ap, ◌∙◌, arith}
use Rattle.std.proofs.lemmas.Bool.Decides.{nat_tests, Decides-int_eq}
use Rattle.std.proofs.lemmas.Slice.Eq.{bytes_eq-Decides}
use Rattle.std.proofs.lemmas.Int.{ints}
use Rattle.std.specs.Ordering.{int_eq}
use Rattle.std.specs.Str.{bytes_eq}
use Rattle.std.specs.Option.{option_map}
use Rattle.dav_io.specs.Counts.{greatest}
use Rattle.dav_core.specs.declared.tree.Row.{Row}
use Rattle.dav_core.specs.declared.tree.Kind.{Kind}
use Rattle.dav_core.specs.declared.tree.Kind.TheVariants.{Dir, File, Link}
use Rattle.dav_core.specs.declared.time.FileTime.{FileTime}
use Rattle.dav_core.specs.Path.{Names, same_names, parent_of}
use Rattle.dav_core.specs.World.{World, Stored, OpenFile, Holds, is_numbered, NotAfter, AreGiven, put, bytes_of}
use Rattle.dav_core.specs.Changes.{tick, timed_row, touched_at, touched, then_touched, added_at, added, stored_in}
use Rattle.dav_core.specs.Edits.{Edit, makes, fills, takes, moves, Edited, EditedBy, IsNew, Becomes, SameOpens, is_later, made, taken, moved, filled, touched_to}
use Rattle.dav_core.proofs.UnchangedLemmas.{same_besides, equal_keys}
use Rattle.dav_disk.specs.Making.{edited, edited_by, filled_at}
use Rattle.dav_disk.proofs.Trees.{not_both}
use Rattle.dav_core.proofs.TimesLemmas.{not_after_itself, not_after_then}
use Rattle.dav_disk.proofs.GivenStay.{IsTick, ticked}
use Rattle.dav_core.proofs.Paths.{names_same}
use Rattle.std.proofs.lemmas.Bool.{and_from, or_left, or_right}
use Rattle.std.proofs.lemmas.Option.{same_Some}

-- ---- times

-- a time stands after another
abbrev Later : FileTime → FileTime → Type 0
Later t u = (t.secs <ℤ u.secs) ⊎ ((t.secs ≡ u.secs) × (t.nanos < u.nanos))

secs_less : (x y : ℤ) → x <ℤ y → int_lt x y ≡ true
secs_less x y lt = grind (arith, ints)

nanos_less : (x y : ℕ) → x < y → nat_lt x y ≡ true
nanos_less x y lt = grind (arith, nat_tests)

later_test : (t u : FileTime) → Later t u → is_later u t ≡ true
later_test t u (inl lt) = or_left (int_lt t.secs u.secs) _ (secs_less t.secs u.secs lt)
later_test t u (inr same) = or_right (int_lt t.secs u.secs) _
    (and_from (int_eq u.secs t.secs) (nat_lt t.nanos u.nanos) ((Decides-int_eq u.secs t.secs).1 (sym same.0)) (nanos_less t.nanos u.nanos same.1))

later_then : (a b c : FileTime) → Later a b → Later b c → Later a c
later_then a b c (inl p) (inl q) = inl (omega (arith, ints))
later_then a b c (inl p) (inr q) = inl (let e = q.0 in omega (arith, ints))
later_then a b c (inr p) (inl q) = inl (let e = p.0 in omega (arith, ints))
later_then a b c (inr p) (inr q) = inr (p.0 ∙ q.0, let x = p.1 in let y = q.1 in omega arith)

tick_by : (b c : Bool) (t u : FileTime)
    → cond b (Some (record { secs = t.secs; nanos = t.nanos + 1000 })) (cond c (Some (record { secs = t.secs +ℤ pos 1; nanos = (t.nanos + 1000) - 1000000000 })) None) ≡ Some u
    → Later t u
tick_by true c t u e =
    let same : record { secs = t.secs; nanos = t.nanos + 1000 } ≡ u = cc in
    let secs : t.secs ≡ u.secs = ap (λ (x : FileTime). x.secs) same in
    let nanos : t.nanos + 1000 ≡ u.nanos = ap (λ (x : FileTime). x.nanos) same in
    inr (secs, omega arith)
tick_by false true t u e =
    let same : record { secs = t.secs +ℤ pos 1; nanos = (t.nanos + 1000) - 1000000000 } ≡ u = cc in
    let secs : t.secs +ℤ pos 1 ≡ u.secs = ap (λ (x : FileTime). x.secs) same in
    inl (omega (arith, ints))
tick_by false false t u e = cc

-- a tick is a time that a disk hasn't given
record After (t u : FileTime) : Type 0 where
  later : Later t u
  tick : IsTick t u

after_tick : (t u : FileTime) → t.nanos < 1000000000 → tick t ≡ Some u → After t u
after_tick t u small e = record { later = tick_by (nat_lt (t.nanos + 1000) 1000000000) (int_lt t.secs (pos 9223372036854775807)) t u e; tick = ticked t u small e }

after_then : (a b c : FileTime) → After a b → After b c → After a c
after_then a b c p q = record {
  later = later_then a b c p.later q.later;
  tick = record { later = not_after_then a b c p.tick.later q.tick.later; nanos = q.tick.nanos };
}

-- a tick that is used in a world, now or before its latest time
new_by : (v : World) (t : FileTime) (w : World) → After v.latest t → NotAfter t w.latest → IsNew v t w
new_by v t w after used = record { later = later_test v.latest t after.later; used = used; nanos = after.tick.nanos }

-- who holds a number, by the tree and the open files
holds_by : (v w : World) (number : ℕ) → w.tree ≡ v.tree → w.opens ≡ v.opens → Holds w number → Holds v number
holds_by v w number tree opens (inl row) = inl (subst (λ (t : List Row). is_numbered t number ≡ true) tree row)
holds_by v w number tree opens (inr (h, at)) = inr (h, subst (λ (t : ℕ → Option OpenFile). option_map (λ o. o.number) (t h) ≡ Some number) opens at)

-- a world that is what an edit makes of another, but for the numbers and times that were used
becomes : (v m w : World) → w.tree ≡ m.tree → ((number : ℕ) → w.files number ≡ m.files number) → w.opens ≡ m.opens → w.script ≡ v.script → v.greatest ≤ w.greatest
    → NotAfter v.latest w.latest → Becomes v m w
becomes v m w tree files opens script more later = record {
  tree = tree;
  files = λ number held. (inr (holds_by m w number tree opens held), files number);
  script = script;
  greatest = more;
  latest = later;
}

-- ---- what is taken and moved

-- a world in which a directory has a time, which is the latest
abbrev timed : Names → FileTime → World → World
timed path t w = record (touched_to path t w) { latest = t }

takes_by : (path : Names) (w v : World) (o : Option FileTime) → w.latest.nanos < 1000000000 → tick w.latest ≡ o → touched_at (parent_of path) o (taken path w) ≡ Some v
    → Edited (takes path) w v
takes_by path w v None small t e = cc
takes_by path w v (Some u) small t e =
    let after = after_tick w.latest u small t in
    rw (← same_Some _ _ e) (
      u,
      new_by w u (timed (parent_of path) u (taken path w)) after (not_after_itself u),
      becomes w (touched_to (parent_of path) u (taken path w)) (timed (parent_of path) u (taken path w)) refl (λ number. refl) refl refl (omega arith) after.tick.later,
    )

timed_by : (b : Bool) (t : FileTime) (r : Row) (path : Names) → same_names path r.path ≡ b → timed_row path t (cond b (record r { time = t }) r) ≡ cond b (record r { time = t }) r
timed_by true t r path e = ap (λ b. cond b (record r { time = t }) (record r { time = t })) e
timed_by false t r path e = ap (λ b. cond b (record r { time = t }) r) e

-- the same time for the second time
timed_twice : (path : Names) (t : FileTime) (rows : List Row) → map (timed_row path t) (map (timed_row path t) rows) ≡ map (timed_row path t) rows
timed_twice path t [] = refl
timed_twice path t (r ∷ rows) = ap (λ x. x ∷ map (timed_row path t) (map (timed_row path t) rows)) (timed_by (same_names path r.path) t r path refl)
    ∙ ap (λ xs. timed_row path t r ∷ xs) (timed_twice path t rows)

once_by : (from to : Names) (w v : World) (o : Option FileTime) → parent_of from ≡ parent_of to → w.latest.nanos < 1000000000 → tick w.latest ≡ o
    → touched_at (parent_of from) o (moved from to w) ≡ Some v → Edited (moves from to) w v
once_by from to w v None one small t e = cc
once_by from to w v (Some u) one small t e =
    let after = after_tick w.latest u small t in
    let new = new_by w u (timed (parent_of from) u (moved from to w)) after (not_after_itself u) in
    let tree : map (timed_row (parent_of from) u) (moved from to w).tree ≡ map (timed_row (parent_of to) u) (map (timed_row (parent_of from) u) (moved from to w).tree) =
    sym (timed_twice (parent_of from) u (moved from to w).tree) ∙ ap (λ p. map (timed_row p u) (map (timed_row (parent_of from) u) (moved from to w).tree)) one in
    rw (← same_Some _ _ e) (
      u,
      u,
      new,
      new,
      becomes w (touched_to (parent_of to) u (touched_to (parent_of from) u (moved from to w))) (timed (parent_of from) u (moved from to w)) tree (λ number. refl) refl refl (omega arith) after.tick.later,
    )

twice_then : (from to : Names) (w v : World) (t : FileTime) (o : Option FileTime) → w.latest.nanos < 1000000000 → After w.latest t → tick t ≡ o
    → touched_at (parent_of to) o (timed (parent_of from) t (moved from to w)) ≡ Some v → Edited (moves from to) w v
twice_then from to w v t None small after f e = cc
twice_then from to w v t (Some u) small after f e =
    let next = after_tick t u after.tick.nanos f in
    let all = after_then w.latest t u after next in
    let m : World = timed (parent_of to) u (timed (parent_of from) t (moved from to w)) in
    rw (← same_Some _ _ e) (
      t,
      u,
      new_by w t m after next.tick.later,
      new_by w u m all (not_after_itself u),
      becomes w (touched_to (parent_of to) u (touched_to (parent_of from) t (moved from to w))) m refl (λ number. refl) refl refl (omega arith) all.tick.later,
    )

twice_by : (from to : Names) (w v : World) (o : Option FileTime) → w.latest.nanos < 1000000000 → tick w.latest ≡ o
    → then_touched (parent_of to) (touched_at (parent_of from) o (moved from to w)) ≡ Some v → Edited (moves from to) w v
twice_by from to w v None small t e = cc
twice_by from to w v (Some u) small t e = twice_then from to w v u (tick u) small (after_tick w.latest u small t) refl e

moves_by : (b : Bool) (from to : Names) (w v : World) → w.latest.nanos < 1000000000 → same_names (parent_of from) (parent_of to) ≡ b
    → cond b (touched (parent_of from) (moved from to w)) (then_touched (parent_of to) (touched (parent_of from) (moved from to w))) ≡ Some v → Edited (moves from to) w v
moves_by true from to w v small one e = once_by from to w v (tick w.latest) (names_same (parent_of from) (parent_of to) one) small refl e
moves_by false from to w v small one e = twice_by from to w v (tick w.latest) small refl e

-- ---- what is made

abbrev row_made : World → Names → Kind → FileTime → Row
row_made w path kind t = record { path = path; kind = kind; number = w.greatest + 1; time = t }

-- a world with a row more, and these files
abbrev with_made : World → Names → Kind → FileTime → (ℕ → Option Stored) → World
with_made w path kind t files = record w { tree = w.tree ++ row_made w path kind t ∷ []; files = files; greatest = w.greatest + 1; latest = t }

made_then : (path : Names) (kind : Kind) (bytes : List ℕ) (w v : World) (t : FileTime) (files : ℕ → Option Stored) (o : Option FileTime)
    → ((number : ℕ) → files number ≡ (made (row_made w path kind t) bytes w).files number) → After w.latest t → tick t ≡ o
    → touched_at (parent_of path) o (with_made w path kind t files) ≡ Some v → Edited (makes path kind bytes) w v
made_then path kind bytes w v t files None stored after f e = cc
made_then path kind bytes w v t files (Some u) stored after f e =
    let next = after_tick t u after.tick.nanos f in
    let all = after_then w.latest t u after next in
    let m : World = timed (parent_of path) u (with_made w path kind t files) in
    rw (← same_Some _ _ e) (
      w.greatest + 1,
      t,
      u,
      record { above = omega arith; used = omega arith },
      new_by w t m after next.tick.later,
      new_by w u m all (not_after_itself u),
      becomes w (touched_to (parent_of path) u (made (row_made w path kind t) bytes w)) m refl stored refl refl (omega arith) all.tick.later,
    )

-- no file has a number above all
none_stored : (b : Bool) (w : World) (n : ℕ) → AreGiven w.tree w.files w.opens w.greatest w.latest → (n == w.greatest + 1) ≡ b → w.files n ≡ cond b None (w.files n)
none_stored true w n given e = not_stored (w.files n) (equal_keys n (w.greatest + 1) e) refl
  where
    not_stored : (o : Option Stored) → n ≡ w.greatest + 1 → w.files n ≡ o → w.files n ≡ None
    not_stored None same f = f
    not_stored (Some s) same f = absurd (let le : n ≤ w.greatest = (given.files n s f).within in omega arith)
none_stored false w n given e = refl

dir_by : (b : Bool) (path : Names) (bytes : List ℕ) (w v : World) (o : Option FileTime) → AreGiven w.tree w.files w.opens w.greatest w.latest → tick w.latest ≡ o
    → then_touched (parent_of path) (cond b (added_at path Dir o w) None) ≡ Some v → Edited (makes path Dir bytes) w v
dir_by true path bytes w v None given t e = cc
dir_by true path bytes w v (Some u) given t e =
    made_then path Dir bytes w v u w.files (tick u) (λ n. none_stored (n == w.greatest + 1) w n given refl) (after_tick w.latest u given.nanos t) refl e
dir_by false path bytes w v o given t e = cc

link_by : (b : Bool) (path : Names) (bytes : List ℕ) (w v : World) (o : Option FileTime) → AreGiven w.tree w.files w.opens w.greatest w.latest → tick w.latest ≡ o
    → then_touched (parent_of path) (cond b (added_at path Link o w) None) ≡ Some v → Edited (makes path Link bytes) w v
link_by true path bytes w v None given t e = cc
link_by true path bytes w v (Some u) given t e =
    made_then path Link bytes w v u w.files (tick u) (λ n. none_stored (n == w.greatest + 1) w n given refl) (after_tick w.latest u given.nanos t) refl e
link_by false path bytes w v o given t e = cc

file_by : (b : Bool) (path : Names) (bytes : List ℕ) (w v : World) (o : Option FileTime) → AreGiven w.tree w.files w.opens w.greatest w.latest → tick w.latest ≡ o
    → then_touched (parent_of path) (stored_in bytes (cond b (added_at path File o w) None)) ≡ Some v → Edited (makes path File bytes) w v
file_by true path bytes w v None given t e = cc
file_by true path bytes w v (Some u) given t e =
    made_then path File bytes w v u (put (w.greatest + 1) (Some (record { bytes = bytes; time = u })) w.files) (tick u) (λ n. refl) (after_tick w.latest u given.nanos t) refl e
file_by false path bytes w v o given t e = cc

-- ---- what is filled

filled_by : (number : ℕ) (bytes : List ℕ) (w v : World) (o : Option FileTime) → bytes ≢ bytes_of w number → w.latest.nanos < 1000000000 → tick w.latest ≡ o
    → filled_at number bytes o w ≡ Some v → Edited (fills number bytes) w v
filled_by number bytes w v None other small t e = cc
filled_by number bytes w v (Some u) other small t e =
    let after = after_tick w.latest u small t in
    let m : World = record (filled number bytes u w) { latest = u } in
    rw (← same_Some _ _ e) (inr (other, u, new_by w u m after (not_after_itself u), becomes w (filled number bytes u w) m refl (λ number. refl) refl refl (omega arith) after.tick.later))

fills_by : (b : Bool) (number : ℕ) (bytes : List ℕ) (w v : World) → bytes_eq bytes (bytes_of w number) ≡ b → w.latest.nanos < 1000000000
    → cond b (Some w) (filled_at number bytes (tick w.latest) w) ≡ Some v → Edited (fills number bytes) w v
fills_by true number bytes w v test small e = rw (← same_Some _ _ e) (inl ((bytes_eq-Decides bytes (bytes_of w number)).0 test, same_besides w))
fills_by false number bytes w v test small e =
    filled_by number bytes w v (tick w.latest) (λ same. not_both _ ((bytes_eq-Decides bytes (bytes_of w number)).1 same) test) small refl e

-- ---- each edit

pub edited_is : (edit : Edit) (w v : World) → AreGiven w.tree w.files w.opens w.greatest w.latest → edited edit w ≡ Some v → Edited edit w v
edited_is (makes path Dir bytes) w v given e = dir_by (nat_lt w.greatest greatest) path bytes w v (tick w.latest) given refl e
edited_is (makes path File bytes) w v given e = file_by (nat_lt w.greatest greatest) path bytes w v (tick w.latest) given refl e
edited_is (makes path Link bytes) w v given e = link_by (nat_lt w.greatest greatest) path bytes w v (tick w.latest) given refl e
edited_is (fills number bytes) w v given e = fills_by (bytes_eq bytes (bytes_of w number)) number bytes w v refl given.nanos e
edited_is (takes path) w v given e = takes_by path w v (tick w.latest) given.nanos refl e
edited_is (moves from to) w v given e = moves_by (same_names (parent_of from) (parent_of to)) from to w v given.nanos refl e

pub edited_by_is : (edit : Option Edit) (w v : World) → AreGiven w.tree w.files w.opens w.greatest w.latest → edited_by edit w ≡ Some v → EditedBy edit w v
edited_by_is None w v given e = rw (← same_Some _ _ e) (same_besides w)
edited_by_is (Some edit) w v given e = edited_is edit w v given e

-- ---- what stays open

-- the same files and listings are open
abbrev StaysOpen : World → Option World → Type 0
StaysOpen w None = Unit {0}
StaysOpen w (Some v) = SameOpens w v

touched_opens : (path : Names) (w v : World) (o : Option FileTime) → SameOpens w v → StaysOpen w (touched_at path o v)
touched_opens path w v None same = tt
touched_opens path w v (Some t) same = record { opens = same.opens; listings = same.listings }

then_opens : (path : Names) (w : World) (o : Option World) → StaysOpen w o → StaysOpen w (then_touched path o)
then_opens path w None same = tt
then_opens path w (Some v) same = touched_opens path w v (tick v.latest) same

added_opens : (b : Bool) (path : Names) (kind : Kind) (w : World) (o : Option FileTime) → StaysOpen w (cond b (added_at path kind o w) None)
added_opens true path kind w None = tt
added_opens true path kind w (Some t) = record { opens = refl; listings = refl }
added_opens false path kind w o = tt

stored_opens : (bytes : List ℕ) (w : World) (o : Option World) → StaysOpen w o → StaysOpen w (stored_in bytes o)
stored_opens bytes w None same = tt
stored_opens bytes w (Some v) same = record { opens = same.opens; listings = same.listings }

either_opens : (b : Bool) (w : World) (x y : Option World) → StaysOpen w x → StaysOpen w y → StaysOpen w (cond b x y)
either_opens true w x y p q = p
either_opens false w x y p q = q

filled_opens : (number : ℕ) (bytes : List ℕ) (w : World) (o : Option FileTime) → StaysOpen w (filled_at number bytes o w)
filled_opens number bytes w None = tt
filled_opens number bytes w (Some t) = record { opens = refl; listings = refl }

stays_open : (edit : Edit) (w : World) → StaysOpen w (edited edit w)
stays_open (makes path Dir bytes) w = then_opens (parent_of path) w (added path Dir w) (added_opens (nat_lt w.greatest greatest) path Dir w (tick w.latest))
stays_open (makes path File bytes) w =
    then_opens (parent_of path) w (stored_in bytes (added path File w)) (stored_opens bytes w (added path File w) (added_opens (nat_lt w.greatest greatest) path File w (tick w.latest)))
stays_open (makes path Link bytes) w = then_opens (parent_of path) w (added path Link w) (added_opens (nat_lt w.greatest greatest) path Link w (tick w.latest))
stays_open (fills number bytes) w =
    either_opens (bytes_eq bytes (bytes_of w number)) w (Some w) (filled_at number bytes (tick w.latest) w) (record { opens = refl; listings = refl }) (filled_opens number bytes w (tick w.latest))
stays_open (takes path) w = touched_opens (parent_of path) w (taken path w) (tick w.latest) (record { opens = refl; listings = refl })
stays_open (moves from to) w =
    let m : World = moved from to w in
    let first = touched_opens (parent_of from) w m (tick w.latest) (record { opens = refl; listings = refl }) in
    either_opens (same_names (parent_of from) (parent_of to)) w (touched (parent_of from) m) (then_touched (parent_of to) (touched (parent_of from) m)) first
    (then_opens (parent_of to) w (touched (parent_of from) m) first)

same_by : (edit : Option Edit) (w : World) → StaysOpen w (edited_by edit w)
same_by None w = record { opens = refl; listings = refl }
same_by (Some edit) w = stays_open edit w

pub edited_opens : (edit : Option Edit) (w v : World) → edited_by edit w ≡ Some v → SameOpens w v
edited_opens edit w v e = subst (StaysOpen w) e (same_by edit w)
