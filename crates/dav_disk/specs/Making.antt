-- What a writing call makes of a disk in memory: its edit, with the next number and the next ticks.
use Rattle.std.specs.Prelude.{◌≡◌, ◌&&◌, ◌+◌, ◌⊎◌, ℕ, [], length, List, Bool, true, false, map, cond, Option, None, Some, Result, Ok, Err, nat_lt}
use Rattle.std.specs.Option.{is_none, is_some}
use Rattle.dav_io.specs.Counts.{greatest}
use Rattle.std.specs.Str.{bytes_eq}
use Rattle.dav_core.specs.declared.tree.Kind.TheVariants.{Dir, File, Link}
use Rattle.dav_core.specs.declared.time.FileTime.{FileTime}
use Rattle.dav_core.specs.declared.tree.Row.{Row}
use Rattle.dav_core.specs.declared.tree.Kind.{Kind}
use Rattle.dav_core.specs.declared.handle.Handle.{Handle}
use Rattle.dav_core.specs.declared.handle.OpenOptions.{OpenOptions}
use Rattle.dav_core.specs.declared.handle.DiskError.{DiskError}
use Rattle.dav_core.specs.declared.handle.DiskError.TheVariants.{IsDir, Failed, NoMemory}
use Rattle.dav_core.specs.Path.{Names, same_names, parent_of}
use Rattle.dav_core.specs.World.{World, OpenFile, put, bytes_of}
use Rattle.dav_core.specs.Changes.{tick, touched, then_touched, added, stored_in, without, moved_row, parents_touched}
use Rattle.dav_core.specs.Edits.{Edit, makes, fills, takes, moves, filled}
use Rattle.dav_core.specs.Allowed.{Allowed, place, opening, making_dir, taking_dir, taking_file, moving, copying}
use Rattle.dav_core.specs.Disk.{Live, DiskState, at_start, with_opens}
use Rattle.dav_core.specs.Tree.{is_dir, is_file, look}
use Rattle.dav_core.specs.Writing.{can_write, appends, write_place, written, CreatesDir, RemovesDir, RemovesFile, Renames, Copies}
use Rattle.dav_disk.specs.Calls.{Known, with_place}
use Rattle.dav_disk.specs.declared.judge.Copying.{Copying}
use Rattle.dav_disk.specs.declared.judge.Copying.TheVariants.{Stays, Makes, Fills}
use Rattle.dav_disk.specs.Files.{stored_at}
use Rattle.dav_disk.specs.declared.drawn.Drawn.{Drawn}
use Rattle.dav_disk.specs.declared.path_call.PathCall.{PathCall}
use Rattle.dav_disk.specs.declared.path_call.PathCall.TheVariants.{CreateDir, RemoveDir, RemoveFile, Rename, Copy}

-- a file's bytes with a tick as its time
abbrev pub filled_at : ℕ → List ℕ → Option FileTime → World → Option World
filled_at number bytes None w = None
filled_at number bytes (Some t) w = Some (record (filled number bytes t w) { latest = t })

-- What an edit makes of a disk's world, or none where no next number is left, or no next tick. The row that is made has
-- the first tick, then come the directories whose names changed, `from`'s parent before `to`'s. Bytes that stay equal
-- take no tick.
abbrev pub edited : Edit → World → Option World
edited (makes path Dir bytes) w = then_touched (parent_of path) (added path Dir w)
edited (makes path File bytes) w = then_touched (parent_of path) (stored_in bytes (added path File w))
edited (makes path Link bytes) w = then_touched (parent_of path) (added path Link w)
edited (takes path) w = touched (parent_of path) (record w { tree = without path w.tree })
edited (moves from to) w = parents_touched from to (record w { tree = map (moved_row from to) (without to w.tree) })
edited (fills number bytes) w =
    cond (bytes_eq bytes (bytes_of w number)) (Some w) (filled_at number bytes (tick w.latest) w)

abbrev pub edited_by : Option Edit → World → Option World
edited_by None w = Some w
edited_by (Some e) w = edited e w

-- whether what is allowed needs a number or a tick that isn't left
abbrev pub is_spent : Allowed → World → Bool
is_spent (Ok edit) w = is_none (edited_by edit w)
is_spent (Err e) w = false

-- What is allowed is made, whole; or nothing is made, for want of a number or a tick, or of memory, or as the tree
-- calls for it.
abbrev pub MakesAt : Allowed → Known → Result Unit DiskError → Known → Type 0
MakesAt allowed k (Ok x) n =
    (edit : Option Edit) × (allowed ≡ Ok edit) × (edited_by edit k.world ≡ Some n.world)
    × (n ≡ record k { world = n.world })
MakesAt allowed k (Err Failed) n = (n ≡ k) × (is_spent allowed k.world ≡ true)
MakesAt allowed k (Err NoMemory) n = (n ≡ k) × (is_spent allowed k.world ≡ false)
MakesAt allowed k (Err e) n = (n ≡ k) × (allowed ≡ Err e)

abbrev pub tick_after : Option FileTime → Option FileTime
tick_after None = None
tick_after (Some t) = tick t

-- a next number is left, a tick, and another after it
abbrev pub row_is_left : World → Bool
row_is_left w = nat_lt w.greatest greatest && is_some (tick_after (tick w.latest))

-- a tick is left for each directory whose names a move changes
abbrev pub move_is_left : Names → Names → World → Bool
move_is_left from to w =
    is_some (cond (same_names (parent_of from) (parent_of to)) (tick w.latest) (tick_after (tick w.latest)))

-- a world in which a file has these bytes, with the latest time
abbrev pub filled_now : ℕ → List ℕ → FileTime → World → World
filled_now number bytes t w = record (filled number bytes t w) { latest = t }

-- ---- a write

-- What writing to an open file is allowed: it has these bytes at its place then, zeros in a gap before it.
abbrev pub writing_at : Option OpenFile → Option Live → World → List ℕ → Allowed
writing_at None l w from = Err IsDir
writing_at (Some o) l w from =
    cond (can_write l)
    (Ok (Some (fills o.number (written (write_place (appends l) w o) from (bytes_of w o.number)))))
    (Err IsDir)

abbrev pub writing : Known → ℕ → List ℕ → Allowed
writing k h from = writing_at (k.world.opens h) (k.live h) k.world from

abbrev pub to_unit : Result ℕ DiskError → Result Unit DiskError
to_unit (Ok n) = Ok tt
to_unit (Err e) = Err e

-- All bytes are written at once, and the file's place is behind them; or nothing is done.
abbrev pub WritesAt : Known → ℕ → List ℕ → Result ℕ DiskError → Known → Type 0
WritesAt k h from (Ok n) t =
    (n ≡ length from) × (o : OpenFile) × (k.world.opens h ≡ Some o) × (can_write (k.live h) ≡ true) × (m : World)
    × (edited (fills o.number (written (write_place (appends (k.live h)) k.world o) from (bytes_of k.world o.number)))
    k.world ≡ Some m)
    × (t ≡ with_place (record k { world = m }) h o (write_place (appends (k.live h)) k.world o + n))
WritesAt k h from (Err Failed) t =
    (t ≡ k) × (can_write (k.live h) ≡ true) × (is_spent (writing k h from) k.world ≡ true)
WritesAt k h from (Err NoMemory) t =
    (t ≡ k) × (can_write (k.live h) ≡ true) × (is_spent (writing k h from) k.world ≡ false)
WritesAt k h from (Err IsDir) t = (t ≡ k) × (can_write (k.live h) ≡ false) × (writing k h from ≡ Err IsDir)
WritesAt k h from (Err e) t = ⊥

-- ---- an opening

-- what opening makes of what stands at a path, where it isn't refused
abbrev pub opened_edit : OpenOptions → Names → Option Row → Option Edit
opened_edit how path None = Some (makes path File [])
opened_edit how path (Some row) =
    cond (is_file row.kind && (how.write && how.truncate)) (Some (fills row.number [])) None

-- what is known once this is open in a world
abbrev pub opened_known : Known → World → ℕ → ℕ → Kind → OpenOptions → Known
opened_known k m h number kind how = record {
  world = with_opens m (put h (Some (at_start number)) m.opens);
  live = put h (Some (record { kind = kind; how = how })) k.live;
}

-- An edit is made, and what has the number is opened under a handle that was free; or nothing is done.
abbrev pub OpensBy : Option Edit → ℕ → Kind → OpenOptions → Known → Result Handle DiskError → Known → Type 0
OpensBy edit number kind how k (Ok h) n =
    (m : World) × (edited_by edit k.world ≡ Some m) × (k.live h.0 ≡ None) × (n ≡ opened_known k m h.0 number kind how)
OpensBy edit number kind how k (Err Failed) n = (n ≡ k) × (is_none (edited_by edit k.world) ≡ true)
OpensBy edit number kind how k (Err NoMemory) n = (n ≡ k) × (is_none (edited_by edit k.world) ≡ false)
OpensBy edit number kind how k (Err e) n = ⊥

-- what is opened is what stood at the path, or what was made there
abbrev pub IsOpened : World → Names → Option Edit → ℕ → Kind → Type 0
IsOpened w path edit number kind =
    ((number ≡ w.greatest + 1) × (kind ≡ File) × (edit ≡ Some (makes path File [])) × (place w.tree path ≡ Ok None))
    ⊎ ((row : Row) × (place w.tree path ≡ Ok (Some row)) × (row.number ≡ number) × (row.kind ≡ kind))

abbrev pub OpensAs : Known → Names → OpenOptions → Result Handle DiskError → Known → Type 0
OpensAs k path how (Ok h) n =
    (edit : Option Edit) × (number : ℕ) × (kind : Kind) × (opening k.world.tree path how ≡ Ok edit)
    × IsOpened k.world path edit number kind × OpensBy edit number kind how k (Ok h) n
OpensAs k path how (Err Failed) n = (n ≡ k) × (is_spent (opening k.world.tree path how) k.world ≡ true)
OpensAs k path how (Err NoMemory) n = (n ≡ k) × (is_spent (opening k.world.tree path how) k.world ≡ false)
OpensAs k path how (Err e) n = (n ≡ k) × (opening k.world.tree path how ≡ Err e)

-- ---- a copy

-- the edit of a copy that is made
abbrev pub copied_edit : World → Names → Copying → Option Edit
copied_edit w to Stays = None
copied_edit w to (Makes source) = Some (makes to File (bytes_of w source))
copied_edit w to (Fills source number) = Some (fills number (bytes_of w source))

-- which files a copy has to do with
abbrev pub copies_over : Row → Names → Option Row → Result Copying DiskError
copies_over row to None = Ok (Makes row.number)
copies_over row to (Some there) =
    cond (is_dir there.kind) (Err IsDir) (cond (same_names row.path to) (Ok Stays) (Ok (Fills row.number there.number)))

abbrev pub copies_to : Row → Names → Result (Option Row) DiskError → Result Copying DiskError
copies_to row to (Err e) = Err e
copies_to row to (Ok there) = cond (is_dir row.kind) (Err IsDir) (copies_over row to there)

abbrev pub copies_from : Result Row DiskError → Names → Result (Option Row) DiskError → Result Copying DiskError
copies_from (Err e) to there = Err e
copies_from (Ok row) to there = copies_to row to there

abbrev pub copies : List Row → Names → Names → Result Copying DiskError
copies tree from to = copies_from (look tree from) to (place tree to)

-- ---- a call that changes what stands at a path

-- what the tree allows it
abbrev pub allows : PathCall → World → Allowed
allows (CreateDir path) w = making_dir w.tree path.now
allows (RemoveDir path) w = taking_dir w.tree path.now
allows (RemoveFile path) w = taking_file w.tree path.now
allows (Rename from to) w = moving w.tree from.now to.now
allows (Copy from to) w = copying w from.now to.now

-- what it does to a disk
abbrev pub Performs : PathCall → DiskState → Result Unit DiskError → DiskState → Type 0
Performs (CreateDir path) old result new = CreatesDir old path.now result new
Performs (RemoveDir path) old result new = RemovesDir old path.now result new
Performs (RemoveFile path) old result new = RemovesFile old path.now result new
Performs (Rename from to) old result new = Renames old from.now to.now result new
Performs (Copy from to) old result new = Copies old from.now to.now result new

-- ---- a world's rows and files, as a batch of changes is made on them

abbrev pub drawn_in : Drawn → World → World
drawn_in d w = record w { tree = d.rows; files = stored_at d.files; greatest = d.greatest; latest = d.latest }
