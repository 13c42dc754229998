-- Changes from outside leave which files are open.
use Rattle.std.proofs.Common.{refl, ◌∙◌}
use Rattle.std.specs.Prelude.{◌≡◌, ◌==◌, ◌+◌, ◌-◌, ◌&&◌, ◌||◌, ℕ, pos, ◌+ℤ◌, List, [], ◌∷◌, ◌++◌, Bool, true, false, cond, not, length, take, drop, map, replicate, Option, None, Some, Result, Ok, Err, nat_lt, int_lt}
use Rattle.std.specs.List.{filter, list_all}
use Rattle.std.specs.Option.{is_none}
use Rattle.dav_io.specs.Counts.{greatest}
use Rattle.dav_core.specs.declared.tree.Row.{Row}
use Rattle.dav_core.specs.declared.tree.Kind.{Kind}
use Rattle.dav_core.specs.declared.tree.Kind.TheVariants.{Dir, File, Link}
use Rattle.dav_core.specs.declared.time.FileTime.{FileTime}
use Rattle.dav_core.specs.declared.change.Change.{Change}
use Rattle.dav_core.specs.declared.change.Change.TheVariants.{AddDir, AddFile, Cut, Remove, Rename}
use Rattle.dav_core.specs.declared.handle.DiskError.{DiskError}
use Rattle.dav_core.specs.Path.{Names, same_names, parent_of, is_front}
use Rattle.dav_core.specs.Tree.{row_at, look, has_dir, is_dir}
use Rattle.dav_core.specs.World.{World, bytes_of, put}
use Rattle.dav_core.specs.Changes.{tick, timed_row, touched_at, touched, then_touched, is_free_in, added_at, added, stored_in, made_or, dir_added, file_added, resized, cut_at_time, cut_kind, cut_found, without, removed_found, moved_row, is_leaf, yields, renames_to, parents_touched, renamed_found, changed, all_changed, turned_by, turned}

-- Changes from outside keep which files are open.
abbrev KeepsOpens : World → Option World → Type 0
KeepsOpens w None = Unit {0}
KeepsOpens w (Some v) = v.opens ≡ w.opens

touched_opens : (path : Names) (t : Option FileTime) (w v : World) → v.opens ≡ w.opens → KeepsOpens w (touched_at path t v)
touched_opens path None w v e = tt
touched_opens path (Some t) w v e = e

then_opens : (path : Names) (w : World) (o : Option World) → KeepsOpens w o → KeepsOpens w (then_touched path o)
then_opens path w None k = tt
then_opens path w (Some v) k = touched_opens path (tick v.latest) w v k

added_opens : (path : Names) (kind : Kind) (t : Option FileTime) (w : World) → KeepsOpens w (added_at path kind t w)
added_opens path kind None w = tt
added_opens path kind (Some t) w = refl

added_or_opens : (b : Bool) (path : Names) (kind : Kind) (w : World) → KeepsOpens w (cond b (added_at path kind (tick w.latest) w) None)
added_or_opens true path kind w = added_opens path kind (tick w.latest) w
added_or_opens false path kind w = tt

stored_opens : (bytes : List ℕ) (w : World) (o : Option World) → KeepsOpens w o → KeepsOpens w (stored_in bytes o)
stored_opens bytes w None k = tt
stored_opens bytes w (Some v) k = k

made_opens : (w : World) (o : Option World) → KeepsOpens w o → (made_or w o).opens ≡ w.opens
made_opens w None k = refl
made_opens w (Some v) k = k

either_opens : (b : Bool) (w v : World) → v.opens ≡ w.opens → (cond b v w).opens ≡ w.opens
either_opens true w v e = e
either_opens false w v e = refl

or_opens : (b : Bool) (w v : World) → v.opens ≡ w.opens → (cond b w v).opens ≡ w.opens
or_opens true w v e = refl
or_opens false w v e = e

cut_time_opens : (row : Row) (len : ℕ) (t : Option FileTime) (w : World) → (cut_at_time row len t w).opens ≡ w.opens
cut_time_opens row len None w = refl
cut_time_opens row len (Some t) w = refl

cut_kind_opens : (kind : Kind) (row : Row) (len : ℕ) (w : World) → (cut_kind kind row len w).opens ≡ w.opens
cut_kind_opens Dir row len w = refl
cut_kind_opens Link row len w = refl
cut_kind_opens File row len w = or_opens (length (bytes_of w row.number) == len) w (cut_at_time row len (tick w.latest) w) (cut_time_opens row len (tick w.latest) w)

cut_found_opens : (found : Result Row DiskError) (len : ℕ) (w : World) → (cut_found found len w).opens ≡ w.opens
cut_found_opens (Ok row) len w = cut_kind_opens row.kind row len w
cut_found_opens (Err e) len w = refl

removed_opens : (found : Result Row DiskError) (w : World) → (removed_found found w).opens ≡ w.opens
removed_opens (Err e) w = refl
removed_opens (Ok row) w = or_opens (length row.path == 0) w _
    (made_opens w _ (touched_opens (parent_of row.path) (tick w.latest) w (record w { tree = without row.path w.tree }) refl))

parents_opens : (b : Bool) (from to : Names) (w v : World) → v.opens ≡ w.opens
    → KeepsOpens w (cond b (touched (parent_of from) v) (then_touched (parent_of to) (touched (parent_of from) v)))
parents_opens true from to w v e = touched_opens (parent_of from) (tick v.latest) w v e
parents_opens false from to w v e = then_opens (parent_of to) w (touched (parent_of from) v) (touched_opens (parent_of from) (tick v.latest) w v e)

renamed_opens : (found : Result Row DiskError) (to : Names) (w : World) → (renamed_found found to w).opens ≡ w.opens
renamed_opens (Err e) to w = refl
renamed_opens (Ok row) to w = either_opens (renames_to w row to) w _
    (made_opens w _ (parents_opens (same_names (parent_of row.path) (parent_of to)) row.path to w (record w { tree = map (moved_row row.path to) (without to w.tree) }) refl))

changed_opens : (w : World) (change : Change) → (changed w change).opens ≡ w.opens
changed_opens w (AddDir path) = either_opens (is_free_in w.tree path) w _
    (made_opens w _ (then_opens (parent_of path) w (added path Dir w) (added_or_opens (nat_lt w.greatest greatest) path Dir w)))
changed_opens w (AddFile path bytes) = either_opens (is_free_in w.tree path) w _
    (made_opens w _ (then_opens (parent_of path) w (stored_in bytes (added path File w)) (stored_opens bytes w (added path File w) (added_or_opens (nat_lt w.greatest greatest) path File w))))
changed_opens w (Cut path len) = cut_found_opens (look w.tree path) len w
changed_opens w (Remove path) = removed_opens (look w.tree path) w
changed_opens w (Rename from to) = renamed_opens (look w.tree from) to w

all_changed_opens : (changes : List Change) (w : World) → (all_changed w changes).opens ≡ w.opens
all_changed_opens [] w = refl
all_changed_opens (change ∷ changes) w = all_changed_opens changes (changed w change) ∙ changed_opens w change

turned_by_opens : (batches : List (List Change)) (w : World) → (turned_by w batches).opens ≡ w.opens
turned_by_opens [] w = refl
turned_by_opens (batch ∷ batches) w = all_changed_opens batch (record w { script = batches })

pub turned_opens : (w : World) → (turned w).opens ≡ w.opens
turned_opens w = turned_by_opens w.script w
