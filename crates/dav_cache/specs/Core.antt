-- The core: what each event does to the caches, by any number of callers over a tree that changes.
use Rattle.std.specs.Prelude.{◌≡◌, ℕ, ◌+◌, ◌-◌, ◌^◌, Bool, true, false, not, ◌&&◌, nat_lt, List, [], ◌∷◌, ◌++◌, replicate, Option, Some, None, if◌then◌else◌, slice_get, slice_set}
use Rattle.std.specs.Map.{lookup}
use Rattle.std.specs.List.{list_any}
pub use Rattle.dav_core.specs.declared.time.FileTime.{FileTime}
pub use Rattle.dav_io.specs.declared.clock.Moment.{Moment}
pub use Rattle.dav_cache.specs.declared.event.Event.{Event}
use Rattle.dav_cache.specs.declared.event.Event.TheVariants.{Ask, Peek, Check, Conclude, DropDir, Begin, Before, ListNext, After, Seal, Find, Get, Probe, Drop, Insert, Purge, Change}
pub use Rattle.dav_cache.specs.declared.event.Told.{Told}
use Rattle.dav_cache.specs.declared.event.Told.TheVariants.{Nothing, Absent, Path, Misplaced}
pub use Rattle.dav_cache.specs.declared.place.Listing.{Listing}
pub use Rattle.dav_cache.specs.declared.place.Place.{Place}
use Rattle.dav_cache.specs.declared.place.Place.TheVariants.{Idle, Asked, Peeked, Passed, Failed, Begun, Lists, Ended, Finding, Got, Missed}
pub use Rattle.dav_memory.specs.declared.entry.PathEntry.{PathEntry}
pub use Rattle.dav_memory.specs.declared.key.DuKey.{DuKey}
pub use Rattle.dav_memory.specs.declared.key.DuEntry.{DuEntry}
use Rattle.dav_memory.specs.Trees.{Name, Names, Tree, same_name, same_path, is_dot, is_after, fold_path, has_row, time_of, next_name}
use Rattle.dav_memory.specs.Entries.{Paths, Dots, without, inserted, purged, promoted, is_old_path, is_old_dot, dir_key, same_key, concludes, sealed, is_rising}
pub use Rattle.dav_memory.specs.Entries.{is_time, one_time}

pub record State : Type 0 where
  pub tree : Tree
  pub places : List Place
  pub paths : Paths
  pub paths_size : ℕ
  pub dots : Dots
  pub dots_size : ℕ
  pub next : ℕ

abbrev pub start : Tree → ℕ → ℕ → ℕ → State
start tree callers paths dots =
    record {
      tree = tree;
      places = replicate callers Idle;
      paths = [];
      paths_size = paths;
      dots = [];
      dots_size = dots;
      next = 1;
    }

-- the next state, and what the caller is told
abbrev pub Turn : Type 0
Turn = State × Told

abbrev pub goes : State → ℕ → Place → Told → Turn
goes s caller place told = (record s { places = slice_set s.places caller place }, told)

-- an idle caller goes to a place
abbrev pub enters : State → ℕ → Place → Option Place → Turn
enters s c place (Some Idle) = goes s c place Nothing
enters s c place _ = (s, Misplaced)

-- what the disk tells of a directory's time
abbrev pub time_told : Bool → Tree → Names → Option FileTime
time_told refused tree dir = if refused then None else time_of tree dir

-- ---- asking whether a name is absent

abbrev pub ask : State → ℕ → Names → Name → Option Place → Turn
ask s c dir name at = enters s c (Asked dir name) at

abbrev pub peeked : State → ℕ → Names → Name → Option DuEntry → Turn
peeked s c dir name None = goes s c Idle (Absent false)
peeked s c dir name (Some e) = goes s c (Peeked dir name e.number e.time) Nothing

abbrev pub peek : State → ℕ → Option Place → Turn
peek s c (Some (Asked dir name)) = peeked s c dir name (lookup (same_key (dir_key dir)) s.dots)
peek s c _ = (s, Misplaced)

abbrev pub check : State → ℕ → Bool → Option Place → Turn
check s c refused (Some (Peeked dir name number time)) =
    goes s c (if is_time time (time_told refused s.tree dir) then Passed dir name number time else Failed dir) Nothing
check s c refused _ = (s, Misplaced)

abbrev pub conclude : State → ℕ → Option Place → Turn
conclude s c (Some (Passed dir name number time)) = goes s c Idle (Absent (concludes s.dots dir name number))
conclude s c _ = (s, Misplaced)

abbrev pub drop_dir : State → ℕ → Option Place → Turn
drop_dir s c (Some (Failed dir)) =
    goes (record s { dots = without (same_key (dir_key dir)) s.dots }) c Idle (Absent false)
drop_dir s c _ = (s, Misplaced)

-- ---- listing a directory

abbrev pub begin : State → ℕ → Names → Option Place → Turn
begin s c dir at = enters s c (Begun dir) at

abbrev pub before : State → ℕ → Bool → Option Place → Turn
before s c refused (Some (Begun dir)) =
    goes s c (Lists (record {
      dir = dir;
      before = time_told refused s.tree dir;
      last = None;
      names = [];
      ended = false;
      whole = true;
    })) Nothing
before s c refused _ = (s, Misplaced)

-- a name, or the end
abbrev pub given : Listing → Option Name → Listing
given l None = record { dir = l.dir; before = l.before; last = l.last; names = l.names; ended = true; whole = l.whole }
given l (Some name) =
    record {
      dir = l.dir;
      before = l.before;
      last = Some name;
      names = if is_dot name then l.names ++ name ∷ [] else l.names;
      ended = false;
      whole = l.whole;
    }

-- a listing of what is no directory now counts as refused
abbrev pub lists_next : Tree → Listing → Option FileTime → Listing
lists_next tree l None =
    record { dir = l.dir; before = l.before; last = l.last; names = l.names; ended = true; whole = false }
lists_next tree l (Some time) = given l (next_name tree l.dir l.last)

abbrev pub list_next : State → ℕ → Bool → Option Place → Turn
list_next s c refused (Some (Lists l)) =
    if l.ended then (s, Misplaced) else goes s c (Lists (lists_next s.tree l (time_told refused s.tree l.dir))) Nothing
list_next s c refused _ = (s, Misplaced)

abbrev pub after : State → ℕ → Bool → Option Place → Turn
after s c refused (Some (Lists l)) =
    if l.ended then goes s c (Ended l (time_told refused s.tree l.dir)) Nothing else (s, Misplaced)
after s c refused _ = (s, Misplaced)

-- the time that a listing may be sealed with
unfoldable pub settled : Listing → Option FileTime → Option FileTime
settled l after = if l.whole then one_time l.before after else None

-- the entries that a seal leaves, where there is one. At the greatest number nothing more is remembered
unfoldable pub new_dots : State → Listing → Moment → ℕ → Option FileTime → Option Dots
new_dots s l now room None = None
new_dots s l now room (Some time) =
    if nat_lt s.next (2 ^ 64 - 1)
    then Some
    (sealed s.dots_size (record { dir = l.dir; time = time; moment = now; number = s.next }) l.names room s.dots)
    else None

abbrev pub with_dots : State → Option Dots → State
with_dots s None = s
with_dots s (Some dots) =
    record {
      tree = s.tree;
      places = s.places;
      paths = s.paths;
      paths_size = s.paths_size;
      dots = dots;
      dots_size = s.dots_size;
      next = s.next + 1;
    }

abbrev pub seal : State → ℕ → Moment → ℕ → Option Place → Turn
seal s c now room (Some (Ended l after)) = goes (with_dots s (new_dots s l now room (settled l after))) c Idle Nothing
seal s c now room _ = (s, Misplaced)

-- ---- looking up a path

abbrev pub find : State → ℕ → Names → Option Place → Turn
find s c path at = enters s c (Finding path) at

abbrev pub got : State → ℕ → Names → Option PathEntry → Turn
got s c asked None = goes s c Idle (Path None)
got s c asked (Some e) =
    goes (record s { paths = promoted (fold_path asked) (Some e) s.paths }) c (Got asked e.path) Nothing

abbrev pub get : State → ℕ → Option Place → Turn
get s c (Some (Finding asked)) = got s c asked (lookup (same_path (fold_path asked)) s.paths)
get s c _ = (s, Misplaced)

abbrev pub probe : State → ℕ → Bool → Option Place → Turn
probe s c refused (Some (Got asked path)) =
    if not refused && has_row s.tree path then goes s c Idle (Path (Some path)) else goes s c (Missed asked) Nothing
probe s c refused _ = (s, Misplaced)

abbrev pub drop : State → ℕ → Option Place → Turn
drop s c (Some (Missed asked)) =
    goes (record s { paths = without (same_path (fold_path asked)) s.paths }) c Idle (Path None)
drop s c _ = (s, Misplaced)

abbrev pub insert : State → ℕ → Names → Moment → Option Place → Turn
insert s c path now (Some Idle) =
    goes (record s { paths = inserted s.paths_size path now s.paths }) c Idle Nothing
insert s c path now _ = (s, Misplaced)

abbrev pub purge : State → Moment → Bool → Turn
purge s now true = (record s { dots = purged (is_old_dot now) s.dots }, Nothing)
purge s now false = (record s { paths = purged (is_old_path now) s.paths }, Nothing)

-- ---- all events

abbrev pub turn : State → Event → Turn
turn s (Ask c dir name) = ask s c dir name (slice_get s.places c)
turn s (Peek c) = peek s c (slice_get s.places c)
turn s (Check c refused) = check s c refused (slice_get s.places c)
turn s (Conclude c) = conclude s c (slice_get s.places c)
turn s (DropDir c) = drop_dir s c (slice_get s.places c)
turn s (Begin c dir) = begin s c dir (slice_get s.places c)
turn s (Before c refused) = before s c refused (slice_get s.places c)
turn s (ListNext c refused) = list_next s c refused (slice_get s.places c)
turn s (After c refused) = after s c refused (slice_get s.places c)
turn s (Seal c now room) = seal s c now room (slice_get s.places c)
turn s (Find c path) = find s c path (slice_get s.places c)
turn s (Get c) = get s c (slice_get s.places c)
turn s (Probe c refused) = probe s c refused (slice_get s.places c)
turn s (Drop c) = drop s c (slice_get s.places c)
turn s (Insert c path now) = insert s c path now (slice_get s.places c)
turn s (Purge now dots) = purge s now dots
turn s (Change tree) = (record s { tree = tree }, Nothing)

-- the state after an event, what it tells, and a run
abbrev pub step : State → Event → State
step s event = (turn s event).0

abbrev pub told : State → Event → Told
told s event = (turn s event).1

abbrev pub run : State → List Event → State
run s [] = s
run s (event ∷ events) = run (step s event) events

-- ---- what every world keeps

-- The `._` names of a listing rise, and none comes after the last name given.
abbrev pub Rises : Place → Type 0
Rises (Lists l) =
    (is_rising None l.names ≡ true) × ((x : Name) → list_any (same_name x) l.names ≡ true → is_after l.last x ≡ false)
Rises (Ended l after) = is_rising None l.names ≡ true
Rises _ = Unit {0}

abbrev pub AllRise : List Place → Type 0
AllRise [] = Unit {0}
AllRise (place ∷ places) = Rises place × AllRise places
