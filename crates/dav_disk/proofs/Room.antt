-- A disk in memory uses up numbers and ticks, and gives none back: so as long as some are left it never lacked one.
use Rattle.std.proofs.Common.{◌≡◌, ◌≤◌, ◌<◌, ◌+◌, ◌-◌, ◌==◌, [], ◌∷◌, ◌++◌, ◌↔◌, ◌<ℤ◌, ◌≤ℤ◌, ◌+ℤ◌, ℤ, pos, ℕ, List, Bool, true, false, cond, length, map, nat_lt, int_lt, IsTrue, IsErrOf, Option, None, Some, Result, Ok, Err, OnOk, OnErr, refl, sym, ap, ◌∙◌, arith}
use Rattle.std.proofs.lemmas.Bool.Decides.{nat_tests}
use Rattle.std.proofs.lemmas.Int.{ints}
use Rattle.std.specs.Option.{is_none}
use Rattle.std.specs.Str.{bytes_eq}
use Rattle.dav_io.specs.Counts.{greatest}
use Rattle.dav_core.specs.declared.tree.Row.{Row}
use Rattle.dav_core.specs.declared.tree.Kind.{Kind}
use Rattle.dav_core.specs.declared.tree.Kind.TheVariants.{Dir, File, Link}
use Rattle.dav_core.specs.declared.time.FileTime.{FileTime}
use Rattle.dav_core.specs.declared.change.Change.{Change}
use Rattle.dav_core.specs.declared.change.Change.TheVariants.{AddDir, AddFile, Cut, Remove, Rename}
use Rattle.dav_core.specs.declared.handle.Handle.{Handle}
use Rattle.dav_core.specs.declared.handle.OpenOptions.{OpenOptions}
use Rattle.dav_core.specs.declared.handle.DiskError.{DiskError}
use Rattle.dav_core.specs.declared.handle.DiskError.TheVariants.{NotFound, Exists, NotDir, IsDir, NotEmpty, Failed, NoMemory}
use Rattle.dav_core.specs.Path.{Names, same_names, parent_of}
use Rattle.dav_core.specs.Tree.{look}
use Rattle.dav_core.specs.World.{World, bytes_of}
use Rattle.dav_core.specs.Changes.{tick, timed_row, touched_at, touched, then_touched, is_free_in, added_at, added, stored_in, made_or, cut_at_time, cut_kind, cut_found, without, removed_found, moved_row, renames_to, parents_touched, renamed_found, changed, all_changed, turned, turned_by}
use Rattle.dav_core.specs.Edits.{Edit, makes, fills, takes, moves}
use Rattle.dav_core.specs.Allowed.{Allowed}
use Rattle.dav_core.specs.Writing.{appends, write_place, written}
use Rattle.dav_disk.specs.Calls.{Known}
use Rattle.dav_disk.specs.Making.{edited, edited_by, filled_at, is_spent, MakesAt, OpensAs, WritesAt}
use Rattle.dav_disk.specs.Memory.{HasRoom}
use Rattle.std.proofs.lemmas.Option.{same_Some}

-- ---- what a world used up

-- no number and no second is given back
pub record Grew (v w : World) : Type 0 where
  pub numbers : v.greatest ≤ w.greatest
  pub times : v.latest.secs ≤ℤ w.latest.secs

pub grew_not : (w : World) → Grew w w
grew_not w = record { numbers = omega arith; times = omega (arith, ints) }

pub grew_as : (v w : World) → w ≡ v → Grew v w
grew_as v w same = rw same (grew_not v)

grew_then : (u v w : World) → Grew u v → Grew v w → Grew u w
grew_then u v w a b =
    let m = a.numbers in let n = b.numbers in let s = a.times in let t = b.times in
    record { numbers = omega arith; times = omega (arith, ints) }

pub room_before : (v w : World) → Grew v w → HasRoom w → HasRoom v
room_before v w g r =
    let n = g.numbers in let m = r.numbers in let s = g.times in let t = r.times in
    record { numbers = omega arith; times = omega (arith, ints) }

-- a number is left, and so many seconds
record Room (n : ℕ) (w : World) : Type 0 where
  numbers : w.greatest < greatest
  times : (w.latest.secs +ℤ pos n) <ℤ pos 9223372036854775807

record Near (n : ℕ) (v w : World) : Type 0 where
  grew : Grew v w
  near : w.latest.secs ≤ℤ (v.latest.secs +ℤ pos n)

-- At most so many seconds were used up, and something lacks only where there was no room for that.
abbrev Went : ℕ → World → Option World → Type 0
Went n w None = Room n w → ⊥
Went n w (Some v) = Near n w v

weaker : (n : ℕ) (w : World) (o : Option World) → Went n w o → Went (n + 1) w o
weaker n w None lacks = λ r. let s = r.times in lacks (record { numbers = r.numbers; times = omega (arith, ints) })
weaker n w (Some v) near = let s = near.near in record { grew = near.grew; near = omega (arith, ints) }

went_not : (v w : World) → w.greatest ≡ v.greatest → w.latest ≡ v.latest → Went 0 v (Some w)
went_not v w e f =
    let s : w.latest.secs ≡ v.latest.secs = ap (λ (t : FileTime). t.secs) f in
    record { grew = record { numbers = omega arith; times = omega (arith, ints) }; near = omega (arith, ints) }

went_some : (n : ℕ) (w v : World) (o : Option World) → Went n w o → o ≡ Some v → Grew w v
went_some n w v None lacks e = cc
went_some n w v (Some x) near e = rw (← same_Some x v e) near.grew

-- ---- ticks

abbrev Ticks : FileTime → Option FileTime → Type 0
Ticks t None = t.secs <ℤ pos 9223372036854775807 → ⊥
Ticks t (Some u) = (t.secs ≤ℤ u.secs) × (u.secs ≤ℤ (t.secs +ℤ pos 1))

no_more : (b : Bool) (x y : ℤ) → int_lt x y ≡ b → b ≡ false → x <ℤ y → ⊥
no_more b x y e f lt = grind (arith, ints)

ticks_by : (b c : Bool) (t : FileTime) → int_lt t.secs (pos 9223372036854775807) ≡ c
    → Ticks t (cond b (Some (record { secs = t.secs; nanos = t.nanos + 1000 })) (cond c (Some (record { secs = t.secs +ℤ pos 1; nanos = (t.nanos + 1000) - 1000000000 })) None))
ticks_by true c t e = (omega (arith, ints), omega (arith, ints))
ticks_by false true t e = (omega (arith, ints), omega (arith, ints))
ticks_by false false t e = no_more false t.secs (pos 9223372036854775807) e refl

ticks : (t : FileTime) → Ticks t (tick t)
ticks t = ticks_by (nat_lt (t.nanos + 1000) 1000000000) (int_lt t.secs (pos 9223372036854775807)) t refl

lacks_tick : (n : ℕ) (w v : World) → Near n w v → (v.latest.secs <ℤ pos 9223372036854775807 → ⊥) → Room (n + 1) w → ⊥
lacks_tick n w v near lacks r = let s = near.near in let t = r.times in lacks (omega (arith, ints))

takes_tick : (n g : ℕ) (w v : World) (t : FileTime) (x : World) → Near n w v → (v.latest.secs ≤ℤ t.secs) × (t.secs ≤ℤ (v.latest.secs +ℤ pos 1))
    → v.greatest ≤ x.greatest → x.latest ≡ t → Near (n + 1) w x
takes_tick n g w v t x near (low, high) more e =
    let m = near.grew.numbers in let s = near.grew.times in let u = near.near in
    let f : x.latest.secs ≡ t.secs = ap (λ (t : FileTime). t.secs) e in
    record { grew = record { numbers = omega arith; times = omega (arith, ints) }; near = omega (arith, ints) }

-- ---- changes

touched_went : (n : ℕ) (path : Names) (w v : World) (o : Option FileTime) → Near n w v → Ticks v.latest o → Went (n + 1) w (touched_at path o v)
touched_went n path w v None near lacks = lacks_tick n w v near lacks
touched_went n path w v (Some t) near by = takes_tick n 0 w v t (record v { tree = map (timed_row path t) v.tree; latest = t }) near by (omega arith) refl

then_went : (n : ℕ) (path : Names) (w : World) (o : Option World) → Went n w o → Went (n + 1) w (then_touched path o)
then_went n path w None lacks = weaker n w None lacks
then_went n path w (Some v) near = touched_went n path w v (tick v.latest) near (ticks v.latest)

no_number : (b : Bool) (w : World) (n : ℕ) → nat_lt w.greatest greatest ≡ b → b ≡ false → Room n w → ⊥
no_number b w n e f r = let lt = r.numbers in grind (arith, nat_tests)

added_by : (b : Bool) (path : Names) (kind : Kind) (w : World) (o : Option FileTime) → nat_lt w.greatest greatest ≡ b → Ticks w.latest o
    → Went 1 w (cond b (added_at path kind o w) None)
added_by false path kind w o e by = no_number false w 1 e refl
added_by true path kind w None e lacks = lacks_tick 0 w w (went_not w w refl refl) lacks
added_by true path kind w (Some t) e by = takes_tick 0 0 w w t (record w {
  tree = w.tree ++ record { path = path; kind = kind; number = w.greatest + 1; time = t } ∷ [];
  greatest = w.greatest + 1;
  latest = t;
}) (went_not w w refl refl) by (omega arith) refl

added_went : (path : Names) (kind : Kind) (w : World) → Went 1 w (added path kind w)
added_went path kind w = added_by (nat_lt w.greatest greatest) path kind w (tick w.latest) refl (ticks w.latest)

stored_went : (n : ℕ) (bytes : List ℕ) (w : World) (o : Option World) → Went n w o → Went n w (stored_in bytes o)
stored_went n bytes w None lacks = lacks
stored_went n bytes w (Some v) near =
    let g = near.grew in record { grew = record { numbers = g.numbers; times = g.times }; near = near.near }

either_went : (b : Bool) (n : ℕ) (w : World) (x y : Option World) → Went n w x → Went n w y → Went n w (cond b x y)
either_went true n w x y a b = a
either_went false n w x y a b = b

filled_went : (number : ℕ) (bytes : List ℕ) (w : World) (o : Option FileTime) → Ticks w.latest o → Went 1 w (filled_at number bytes o w)
filled_went number bytes w None lacks = lacks_tick 0 w w (went_not w w refl refl) lacks
filled_went number bytes w (Some t) by = takes_tick 0 0 w w t _ (went_not w w refl refl) by (omega arith) refl

-- a tree in its place, and then a directory is touched
retreed_went : (path : Names) (rows : List Row) (w : World) → Went 1 w (touched path (record w { tree = rows }))
retreed_went path rows w = then_went 0 path w (Some (record w { tree = rows })) (went_not w (record w { tree = rows }) refl refl)

parents_went : (from to : Names) (rows : List Row) (w : World) → Went 2 w (parents_touched from to (record w { tree = rows }))
parents_went from to rows w = either_went (same_names (parent_of from) (parent_of to)) 2 w (touched (parent_of from) (record w { tree = rows })) (then_touched (parent_of to) (touched (parent_of from) (record w { tree = rows })))
    (weaker 1 w (touched (parent_of from) (record w { tree = rows })) (retreed_went (parent_of from) rows w))
    (then_went 1 (parent_of to) w (touched (parent_of from) (record w { tree = rows })) (retreed_went (parent_of from) rows w))

edited_went : (e : Edit) (w : World) → Went 2 w (edited e w)
edited_went (makes path Dir bytes) w = then_went 1 (parent_of path) w (added path Dir w) (added_went path Dir w)
edited_went (makes path Link bytes) w = then_went 1 (parent_of path) w (added path Link w) (added_went path Link w)
edited_went (makes path File bytes) w = then_went 1 (parent_of path) w (stored_in bytes (added path File w)) (stored_went 1 bytes w (added path File w) (added_went path File w))
edited_went (takes path) w = weaker 1 w (touched (parent_of path) (record w { tree = without path w.tree })) (retreed_went (parent_of path) (without path w.tree) w)
edited_went (moves from to) w = parents_went from to (map (moved_row from to) (without to w.tree)) w
edited_went (fills number bytes) w = either_went (bytes_eq bytes (bytes_of w number)) 2 w (Some w) (filled_at number bytes (tick w.latest) w)
    (weaker 1 w (Some w) (weaker 0 w (Some w) (went_not w w refl refl)))
    (weaker 1 w (filled_at number bytes (tick w.latest) w) (filled_went number bytes w (tick w.latest) (ticks w.latest)))

-- ---- batches

made_grew : (n : ℕ) (w : World) (o : Option World) → Went n w o → Grew w (made_or w o)
made_grew n w None lacks = grew_not w
made_grew n w (Some v) near = near.grew

either_grew : (b : Bool) (w x y : World) → Grew w x → Grew w y → Grew w (cond b x y)
either_grew true w x y a b = a
either_grew false w x y a b = b

cut_grew : (row : Row) (len : ℕ) (w : World) (o : Option FileTime) → Ticks w.latest o → Grew w (cut_at_time row len o w)
cut_grew row len w None lacks = grew_not w
cut_grew row len w (Some t) (low, high) = record { numbers = omega arith; times = low }

cut_kind_grew : (kind : Kind) (row : Row) (len : ℕ) (w : World) → Grew w (cut_kind kind row len w)
cut_kind_grew Dir row len w = grew_not w
cut_kind_grew Link row len w = grew_not w
cut_kind_grew File row len w = either_grew (length (bytes_of w row.number) == len) w w (cut_at_time row len (tick w.latest) w) (grew_not w) (cut_grew row len w (tick w.latest) (ticks w.latest))

cut_found_grew : (found : Result Row DiskError) (len : ℕ) (w : World) → Grew w (cut_found found len w)
cut_found_grew (Ok row) len w = cut_kind_grew row.kind row len w
cut_found_grew (Err e) len w = grew_not w

removed_grew : (found : Result Row DiskError) (w : World) → Grew w (removed_found found w)
removed_grew (Err e) w = grew_not w
removed_grew (Ok row) w = either_grew (length row.path == 0) w w (made_or w (touched (parent_of row.path) (record w { tree = without row.path w.tree }))) (grew_not w)
    (made_grew 1 w (touched (parent_of row.path) (record w { tree = without row.path w.tree })) (retreed_went (parent_of row.path) (without row.path w.tree) w))

renamed_grew : (found : Result Row DiskError) (to : Names) (w : World) → Grew w (renamed_found found to w)
renamed_grew (Err e) to w = grew_not w
renamed_grew (Ok row) to w =
    let rows = map (moved_row row.path to) (without to w.tree) in
    either_grew (renames_to w row to) w (made_or w (parents_touched row.path to (record w { tree = rows }))) w
    (made_grew 2 w (parents_touched row.path to (record w { tree = rows })) (parents_went row.path to rows w)) (grew_not w)

changed_grew : (w : World) (change : Change) → Grew w (changed w change)
changed_grew w (AddDir path) = either_grew (is_free_in w.tree path) w (made_or w (then_touched (parent_of path) (added path Dir w))) w
    (made_grew 2 w (then_touched (parent_of path) (added path Dir w)) (edited_went (makes path Dir []) w)) (grew_not w)
changed_grew w (AddFile path bytes) = either_grew (is_free_in w.tree path) w (made_or w (then_touched (parent_of path) (stored_in bytes (added path File w)))) w
    (made_grew 2 w (then_touched (parent_of path) (stored_in bytes (added path File w))) (edited_went (makes path File bytes) w)) (grew_not w)
changed_grew w (Cut path len) = cut_found_grew (look w.tree path) len w
changed_grew w (Remove path) = removed_grew (look w.tree path) w
changed_grew w (Rename from to) = renamed_grew (look w.tree from) to w

all_grew : (w : World) (changes : List Change) → Grew w (all_changed w changes)
all_grew w [] = grew_not w
all_grew w (change ∷ changes) = grew_then w (changed w change) (all_changed (changed w change) changes) (changed_grew w change) (all_grew (changed w change) changes)

turned_by_grew : (w : World) (script : List (List Change)) → Grew w (turned_by w script)
turned_by_grew w [] = grew_not w
turned_by_grew w (batch ∷ batches) = let g = all_grew (record w { script = batches }) batch in record { numbers = g.numbers; times = g.times }

pub turned_grew : (w : World) → Grew w (turned w)
turned_grew w = turned_by_grew w w.script

-- ---- calls

by_edit : (edit : Option Edit) (w v : World) → edited_by edit w ≡ Some v → Grew w v
by_edit None w v e = grew_as w v (sym (same_Some w v e))
by_edit (Some edit) w v e = went_some 2 w v (edited edit w) (edited_went edit w) e

same_known : (k n : Known) → n ≡ k → Grew k.world n.world
same_known k n same = grew_as k.world n.world (ap (λ (n : Known). n.world) same)

pub makes_grew : (allowed : Allowed) (k n : Known) (result : Result Unit DiskError) → MakesAt allowed k result n → Grew k.world n.world
makes_grew allowed k n (Ok x) (edit, e, made, rest) = by_edit edit k.world n.world made
makes_grew allowed k n (Err Failed) (same, spent) = same_known k n same
makes_grew allowed k n (Err NoMemory) (same, left) = same_known k n same
makes_grew allowed k n (Err NotFound) (same, e) = same_known k n same
makes_grew allowed k n (Err Exists) (same, e) = same_known k n same
makes_grew allowed k n (Err NotDir) (same, e) = same_known k n same
makes_grew allowed k n (Err IsDir) (same, e) = same_known k n same
makes_grew allowed k n (Err NotEmpty) (same, e) = same_known k n same

used : (k n : Known) (m : World) → Grew k.world m → n.world.greatest ≡ m.greatest → n.world.latest ≡ m.latest → Grew k.world n.world
used k n m g e f =
    let a = g.numbers in let b = g.times in
    let s : n.world.latest.secs ≡ m.latest.secs = ap (λ (t : FileTime). t.secs) f in
    record { numbers = omega arith; times = omega (arith, ints) }

pub opens_grew : (k n : Known) (path : Names) (how : OpenOptions) (result : Result Handle DiskError) → OpensAs k path how result n → Grew k.world n.world
opens_grew k n path how (Ok h) (edit, number, kind, judged, opened, (m, made, free, e)) =
    used k n m (by_edit edit k.world m made) (ap (λ (n : Known). n.world.greatest) e) (ap (λ (n : Known). n.world.latest) e)
opens_grew k n path how (Err Failed) (same, spent) = same_known k n same
opens_grew k n path how (Err NoMemory) (same, left) = same_known k n same
opens_grew k n path how (Err NotFound) (same, e) = same_known k n same
opens_grew k n path how (Err Exists) (same, e) = same_known k n same
opens_grew k n path how (Err NotDir) (same, e) = same_known k n same
opens_grew k n path how (Err IsDir) (same, e) = same_known k n same
opens_grew k n path how (Err NotEmpty) (same, e) = same_known k n same

pub writes_grew : (k n : Known) (h : ℕ) (from : List ℕ) (result : Result ℕ DiskError) → WritesAt k h from result n → Grew k.world n.world
writes_grew k n h from (Ok count) (all, o, at, can, m, made, e) =
    let edit : Edit = fills o.number (written (write_place (appends (k.live h)) k.world o) from (bytes_of k.world o.number)) in
    used k n m (went_some 2 k.world m (edited edit k.world) (edited_went edit k.world) made) (ap (λ (n : Known). n.world.greatest) e) (ap (λ (n : Known). n.world.latest) e)
writes_grew k n h from (Err Failed) w = same_known k n w.0
writes_grew k n h from (Err NoMemory) w = same_known k n w.0
writes_grew k n h from (Err IsDir) w = same_known k n w.0
writes_grew k n h from (Err NotFound) w = absurd w
writes_grew k n h from (Err Exists) w = absurd w
writes_grew k n h from (Err NotDir) w = absurd w
writes_grew k n h from (Err NotEmpty) w = absurd w

pub turn_grew : {E : Type 0} (k n : Known) (result : Result Unit E) → OnOk result (n ≡ record k { world = turned k.world }) → OnErr result (n ≡ k)
    → Grew k.world n.world
turn_grew k n (Ok x) made left = let e : n.world ≡ turned k.world = ap (λ (n : Known). n.world) made in rw e (turned_grew k.world)
turn_grew k n (Err e) made left = same_known k n left

-- ---- no fault where room is left

is_there : (w : World) (o : Option World) → Went 2 w o → HasRoom w → is_none o ≡ false
is_there w None lacks r = absurd (lacks (record { numbers = r.numbers; times = r.times }))
is_there w (Some v) near r = refl

pub unspent : (allowed : Allowed) (w : World) → HasRoom w → is_spent allowed w ≡ false
unspent (Err e) w r = refl
unspent (Ok None) w r = refl
unspent (Ok (Some edit)) w r = is_there w (edited edit w) (edited_went edit w) r

-- A call that fails only for want of room, and only then counts a fault, counts none where room is left after it.
pub spared : {T : Type 0} (spent : Bool) (v w : World) (met now : ℕ) (result : Result T DiskError) (b : Bool)
    → (IsTrue b ↔ IsErrOf result Failed) → (IsErrOf result Failed → spent ≡ true) → (HasRoom v → spent ≡ false) → Grew v w → (b ≡ false → now ≡ met)
    → (HasRoom v → met ≡ 0) → HasRoom w → now ≡ 0
spared spent v w met now result true fails by room grew same before r =
    let e : true ≡ false = sym (by (fails.0 refl)) ∙ room (room_before v w grew r) in cc
spared spent v w met now result false fails by room grew same before r = same refl ∙ before (room_before v w grew r)

-- a call that counts no fault
pub spared_still : (v w : World) (met : ℕ) → Grew v w → (HasRoom v → met ≡ 0) → HasRoom w → met ≡ 0
spared_still v w met grew before r = before (room_before v w grew r)
