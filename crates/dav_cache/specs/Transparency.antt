-- What the caches promise over every list of events.
use Rattle.std.specs.Prelude.{◌≡◌, ◌↔◌, ◌⊎◌, ℕ, ◌<◌, ◌≤◌, ◌-◌, ◌^◌, ◌==◌, not, ◌&&◌, ◌||◌, if◌then◌else◌, Bool, true, false, IsTrue, List, [], ◌∷◌, ◌++◌, Option, option_map, Some, Result, slice_get, Contains, take, length}
use Rattle.std.specs.Map.{lookup}
use Rattle.std.specs.List.{list_any}
use Rattle.std.specs.Option.{option_map_or}
use Rattle.dav_io.specs.declared.clock.Moment.{Moment}
use Rattle.dav_core.specs.declared.handle.DiskError.{DiskError}
use Rattle.dav_core.specs.Disk.{DiskState}
use Rattle.dav_core.specs.World.{World}
use Rattle.dav_core.specs.Tree.{is_linked}
use Rattle.dav_memory.specs.Trees.{Name, Names, FileTime, Tree, is_dot, is_after, same_name, same_path, fold_path, has_row, has_name, time_of}
pub use Rattle.dav_memory.specs.Entries.{AllBelow, Falling, AllFolded}
use Rattle.dav_memory.specs.Entries.{Dots, Paths, AreCounted, PathCache, DotCache, dir_key, name_key, same_key, stands}
use Rattle.dav_memory.specs.declared.entry.PathEntry.{PathEntry}
use Rattle.dav_memory.specs.declared.key.DuKey.{DuKey}
use Rattle.dav_memory.specs.declared.key.DuEntry.{DuEntry}
use Rattle.dav_cache.specs.Core.{Event, State, Place, Told, Listing, settled, start, step, told, run}
use Rattle.dav_memory.specs.Calls.{LooksBy, Seeing, Opening, Denies}
use Rattle.dav_cache.specs.declared.event.Event.TheVariants.{Ask, Peek, Check, Conclude, DropDir, Begin, Before, ListNext, After, Seal, Find, Get, Probe, Drop, Insert, Purge, Change}
use Rattle.dav_cache.specs.declared.place.Place.TheVariants.{Idle, Asked, Peeked, Passed, Failed, Begun, Lists, Ended, Finding, Got, Missed}
use Rattle.dav_cache.specs.declared.event.Told.TheVariants.{Nothing, Absent, Path, Misplaced}

-- the trees of a list of events, of which the first is the one at the start
abbrev pub changes : List Event → List Tree
changes [] = []
changes (Change tree ∷ events) = tree ∷ changes events
changes (_ ∷ events) = changes events

abbrev pub trees_of : State → List Event → List Tree
trees_of s events = s.tree ∷ changes events

-- one time of a directory means the same names
abbrev pub SameNames : List Tree → Type 0
SameNames trees =
    (a b : Tree) → Contains trees a → Contains trees b → (dir : Names) (time : FileTime) → time_of a dir ≡ Some time
    → time_of b dir ≡ Some time
    → (name : Name) → has_name a dir name ≡ has_name b dir name

-- the caller's listing of the directory is between Before and After
abbrev pub IsListing : State → ℕ → Names → Type 0
IsListing s caller dir = (l : Listing) × (slice_get s.places caller ≡ Some (Lists l)) × (l.dir ≡ dir)

-- the state after the first n events
abbrev pub moment : List Event → State → ℕ → State
moment events s n = run s (take n events)

-- from moment i to moment k the caller's listing goes on, and the directory has the time at both: then it has it at
-- each moment j between.
-- So a time that the directory left doesn't come back while the listing goes on
abbrev pub NoReturn : List Event → State → Type 0
NoReturn events s =
    (caller : ℕ) (dir : Names) (time : FileTime) (i j k : ℕ) → i ≤ j → j ≤ k → k ≤ length events
    → ((m : ℕ) → i ≤ m → m ≤ k → IsListing (moment events s m) caller dir)
    → time_of (moment events s i).tree dir ≡ Some time → time_of (moment events s k).tree dir ≡ Some time
    → time_of (moment events s j).tree dir ≡ Some time

-- a plainer premise, which implies it: a time that the directory left doesn't come back to it at a moment at which a
-- listing of it goes on
abbrev pub NeverBack : List Event → State → Type 0
NeverBack events s =
    (caller : ℕ) (dir : Names) (time : FileTime) (i j k : ℕ) → i ≤ j → j ≤ k → k ≤ length events
    → time_of (moment events s i).tree dir ≡ Some time → (time_of (moment events s j).tree dir ≡ Some time → ⊥)
    → IsListing (moment events s k) caller dir → time_of (moment events s k).tree dir ≡ Some time → ⊥

-- the premises on the list of trees
pub record IsFair (events : List Event) (s : State) : Type 0 where
  pub same_names : SameNames (trees_of s events)
  pub no_return : NoReturn events s

-- where a directory's entry stands, its `._` names are those that stand with the entry's number, in each tree that has
-- the directory with the entry's time
abbrev pub SoundAt : List Tree → List (DuKey × DuEntry) → Names → Type 0
SoundAt trees dots dir =
    (e : DuEntry) → lookup (same_key (dir_key dir)) dots ≡ Some e → (tree : Tree) → Contains trees tree
    → time_of tree dir ≡ Some e.time
    → (name : Name) → IsTrue (is_dot name) → has_name tree dir name ≡ stands dots (name_key dir name) e.number

-- at two moments of one listing the directory has the time at the first, and not at the second
pub record LeavesDuring (events : List Event) (s : State) : Type 0 where
  pub caller : ℕ
  pub dir : Names
  pub time : FileTime
  pub i : ℕ
  pub k : ℕ
  pub later : i ≤ k
  pub within : k ≤ length events
  pub lists : (m : ℕ) → i ≤ m → m ≤ k → IsListing (moment events s m) caller dir
  pub has : time_of (moment events s i).tree dir ≡ Some time
  pub left : time_of (moment events s k).tree dir ≡ Some time → ⊥

-- A tree and events that meet both premises, in which a directory leaves a time during a listing of it, and after which
-- a name is denied
abbrev pub CanBeMet : Type 0
CanBeMet =
    (now : Moment)
    → (tree : Tree) × (events : List Event) × IsFair events (start tree 1 2 3)
    × LeavesDuring events (start tree 1 2 3)
    × (told (run (start tree 1 2 3) events) (Conclude 0) ≡ Absent true)

-- ---- whose events they are

abbrev pub is_caller : ℕ → Event → Bool
is_caller c (Ask caller dir name) = caller == c
is_caller c (Peek caller) = caller == c
is_caller c (Check caller refused) = caller == c
is_caller c (Conclude caller) = caller == c
is_caller c (DropDir caller) = caller == c
is_caller c (Begin caller dir) = caller == c
is_caller c (Before caller refused) = caller == c
is_caller c (ListNext caller refused) = caller == c
is_caller c (After caller refused) = caller == c
is_caller c (Seal caller now room) = caller == c
is_caller c (Find caller path) = caller == c
is_caller c (Get caller) = caller == c
is_caller c (Probe caller refused) = caller == c
is_caller c (Drop caller) = caller == c
is_caller c (Insert caller path now) = caller == c
is_caller c (Purge now dots) = false
is_caller c (Change tree) = false

abbrev pub is_misplaced : Told → Bool
is_misplaced Nothing = false
is_misplaced (Absent absent) = false
is_misplaced (Path path) = false
is_misplaced Misplaced = true

abbrev pub is_own : ℕ → State → Event → Bool
is_own caller s event = is_caller caller event && not (is_misplaced (told s event))

-- the caller's events in a run from s, save those that were Misplaced
abbrev pub own : ℕ → State → List Event → List Event
own caller s [] = []
own caller s (event ∷ events) =
    if is_own caller s event then event ∷ own caller (step s event) events else own caller (step s event) events

-- ---- the items, for a run from s and what is told next

-- it is told at the end of the caller's Ask, Peek, Check and Conclude, and at the Check the name wasn't in the
-- directory
pub record WasAbsent (s : State) (events : List Event) (event : Event) : Type 0 where
  pub caller : ℕ
  pub is_conclude : event ≡ Conclude caller
  pub dir : Names
  pub name : Name
  pub earlier : List Event
  pub before : List Event
  pub between : List Event
  pub parts : events ≡ before ++ Check caller false ∷ between
  pub asked : own caller s before ≡ earlier ++ Ask caller dir name ∷ Peek caller ∷ []
  pub waited : own caller (run s (before ++ Check caller false ∷ [])) between ≡ []
  pub absent : IsTrue (is_dot name) → has_name (run s before).tree dir name ≡ false

-- it is told at the end of the caller's Find, Get and Probe, and at the Probe a row stood at the path, which folds like
-- the path asked
pub record WasThere (s : State) (events : List Event) (event : Event) (path : Names) : Type 0 where
  pub caller : ℕ
  pub is_probe : event ≡ Probe caller false
  pub asked : Names
  pub earlier : List Event
  pub found : own caller s events ≡ earlier ++ Find caller asked ∷ Get caller ∷ []
  pub stood : has_row (run s events).tree path ≡ true
  pub folds : fold_path path ≡ fold_path asked

abbrev pub AbsentOnlyWhereAbsent : State → Type 0
AbsentOnlyWhereAbsent s =
    (events : List Event) (event : Event) → IsFair events s → told (run s events) event ≡ Absent true
    → WasAbsent s events event

abbrev pub PathOnlyWhereThere : State → Type 0
PathOnlyWhereThere s =
    (events : List Event) (event : Event) (path : Names) → told (run s events) event ≡ Path (Some path)
    → WasThere s events event path

abbrev pub EntriesAreSound : State → Type 0
EntriesAreSound s =
    (before after : List Event) → IsFair (before ++ after) s → (dir : Names)
    → SoundAt (trees_of s (before ++ after)) (run s before).dots dir

-- ---- the facts that each event keeps

-- a table of the numbers: which directory the listing with this number was of, and the directory's time
abbrev pub Numbers : Type 0
Numbers = ℕ → Names × FileTime

-- each entry, of a directory or of a name, has the directory and the time that stand in the table for its number
abbrev pub AllNumbered : Numbers → Dots → Type 0
AllNumbered table [] = Unit {0}
AllNumbered table (e ∷ es) = (table e.1.number ≡ (e.0.dir, e.1.time)) × AllNumbered table es

-- so does what a caller past its Peek holds, and its number is one that was given
abbrev pub HoldsNumber : Numbers → ℕ → Place → Type 0
HoldsNumber table next (Peeked dir name number time) = (number < next) × (table number ≡ (dir, time))
HoldsNumber table next (Passed dir name number time) = (number < next) × (table number ≡ (dir, time))
HoldsNumber table next _ = Unit {0}

-- one number belongs to one directory and one time, in the entries of directories and of names, and in what callers
-- hold
pub record OneListing (s : State) : Type 0 where
  pub table : Numbers
  pub entries : AllNumbered table s.dots
  pub held : (caller : ℕ) (place : Place) → slice_get s.places caller ≡ Some place → HoldsNumber table s.next place

pub record IsKept (s : State) : Type 0 where
  pub folded : AllFolded s.paths
  pub dots : AreCounted s.next s.dots
  pub numbers : OneListing s

abbrev pub FactsAreKept : State → Type 0
FactsAreKept s = (events : List Event) → IsKept (run s events)

-- the `._` names that a listing has are those of the directory up to the last name given, and at the end all
abbrev pub HasUpTo : Listing → Tree → Type 0
HasUpTo l tree =
    (x : Name) → IsTrue (is_dot x)
    → list_any (same_name x) l.names ≡ (has_name tree l.dir x && (l.ended || not (is_after l.last x)))

-- a listing in flight, of which nothing was refused and whose directory has the time of its Before, has them
abbrev pub ListingsAreRight : State → Type 0
ListingsAreRight s =
    (before after : List Event) → IsFair (before ++ after) s → (caller : ℕ) (l : Listing) (time : FileTime)
    → slice_get (run s before).places caller ≡ Some (Lists l)
    → l.whole ≡ true → l.before ≡ Some time → time_of (run s before).tree l.dir ≡ Some time
    → HasUpTo l (run s before).tree

-- ---- a caller past its Peek

-- what a caller past its Peek holds: the directory and the name asked, and its entry's number and time
pub record Held : Type 0 where
  pub dir : Names
  pub name : Name
  pub number : ℕ
  pub time : FileTime

abbrev pub holding : Names → Name → ℕ → FileTime → Held
holding dir name number time = record { dir = dir; name = name; number = number; time = time }

-- The caller's last own events are its Ask, its Peek, and these. At the Peek the directory's entry was this one
pub record Noted (s : State) (events : List Event) (caller : ℕ) (held : Held) (since : List Event) : Type 0 where
  pub earlier : List Event
  pub before : List Event
  pub between : List Event
  pub parts : events ≡ before ++ Peek caller ∷ between
  pub asked : own caller s before ≡ earlier ++ Ask caller held.dir held.name ∷ []
  pub waited : own caller (run s (before ++ Peek caller ∷ [])) between ≡ since
  pub entry : DuEntry
  pub found : lookup (same_key (dir_key held.dir)) (run s before).dots ≡ Some entry
  pub same_number : entry.number ≡ held.number
  pub same_time : entry.time ≡ held.time

-- the events of a caller in this place since its Peek, where it is past it
abbrev pub IsNoted : State → List Event → ℕ → Place → Type 0
IsNoted s events caller (Peeked dir name number time) = Noted s events caller (holding dir name number time) []
IsNoted s events caller (Passed dir name number time) =
    Noted s events caller (holding dir name number time) (Check caller false ∷ [])
IsNoted s events caller _ = Unit {0}

abbrev pub PeeksAreHeld : State → Type 0
PeeksAreHeld s =
    (events : List Event) (caller : ℕ) (place : Place) → slice_get (run s events).places caller ≡ Some place
    → IsNoted s events caller place

-- ---- a caller past its Check

-- the caller's last own events are its Ask, Peek and Check, and at the Check the directory had this time
pub record Checked (s : State) (events : List Event) (caller : ℕ) (dir : Names) (name : Name)
    (time : FileTime) : Type 0 where
  pub earlier : List Event
  pub before : List Event
  pub between : List Event
  pub parts : events ≡ before ++ Check caller false ∷ between
  pub asked : own caller s before ≡ earlier ++ Ask caller dir name ∷ Peek caller ∷ []
  pub waited : own caller (run s (before ++ Check caller false ∷ [])) between ≡ []
  pub found : time_of (run s before).tree dir ≡ Some time

abbrev pub ChecksAreHeld : State → Type 0
ChecksAreHeld s =
    (events : List Event) (caller : ℕ) (dir : Names) (name : Name) (number : ℕ) (time : FileTime)
    → slice_get (run s events).places caller ≡ Some (Passed dir name number time)
    → Checked s events caller dir name time

-- ---- the names of a listing

-- as long as the directory's entry stands with the number of a sealed listing, so does each name of the listing
abbrev pub ListedStand : State → Type 0
ListedStand s =
    (before after : List Event) (caller : ℕ) (l : Listing) (found : Option FileTime) (time : FileTime)
    (now : Moment) (room : ℕ)
    → slice_get (run s before).places caller ≡ Some (Ended l found) → settled l found ≡ Some time
    → (run s before).next < 2 ^ 64 - 1
    → (e : DuEntry) → lookup (same_key (dir_key l.dir)) (run s (before ++ Seal caller now room ∷ after)).dots ≡ Some e
    → e.number ≡ (run s before).next
    → (name : Name) → list_any (same_name name) l.names ≡ true
    → stands (run s (before ++ Seal caller now room ∷ after)).dots (name_key l.dir name) e.number ≡ true

-- ---- which events fit

abbrev pub is_idle : Place → Bool
is_idle Idle = true
is_idle _ = false

abbrev pub is_asked : Place → Bool
is_asked (Asked dir name) = true
is_asked _ = false

abbrev pub is_peeked : Place → Bool
is_peeked (Peeked dir name number time) = true
is_peeked _ = false

abbrev pub is_passed : Place → Bool
is_passed (Passed dir name number time) = true
is_passed _ = false

abbrev pub is_failed : Place → Bool
is_failed (Failed dir) = true
is_failed _ = false

abbrev pub is_begun : Place → Bool
is_begun (Begun dir) = true
is_begun _ = false

-- a listing that has not met its end, or has
abbrev pub lists_on : Place → Bool
lists_on (Lists l) = not l.ended
lists_on _ = false

abbrev pub has_listed : Place → Bool
has_listed (Lists l) = l.ended
has_listed _ = false

abbrev pub is_ended : Place → Bool
is_ended (Ended l after) = true
is_ended _ = false

abbrev pub is_finding : Place → Bool
is_finding (Finding path) = true
is_finding _ = false

abbrev pub is_got : Place → Bool
is_got (Got asked path) = true
is_got _ = false

abbrev pub is_missed : Place → Bool
is_missed (Missed asked) = true
is_missed _ = false

-- the caller is one of the callers, and its place is such
abbrev pub is_at : State → ℕ → (Place → Bool) → Bool
is_at s caller test = option_map_or test (slice_get s.places caller) false

abbrev pub fits : State → Event → Bool
fits s (Ask caller dir name) = is_at s caller is_idle
fits s (Peek caller) = is_at s caller is_asked
fits s (Check caller refused) = is_at s caller is_peeked
fits s (Conclude caller) = is_at s caller is_passed
fits s (DropDir caller) = is_at s caller is_failed
fits s (Begin caller dir) = is_at s caller is_idle
fits s (Before caller refused) = is_at s caller is_begun
fits s (ListNext caller refused) = is_at s caller lists_on
fits s (After caller refused) = is_at s caller has_listed
fits s (Seal caller now room) = is_at s caller is_ended
fits s (Find caller path) = is_at s caller is_idle
fits s (Get caller) = is_at s caller is_finding
fits s (Probe caller refused) = is_at s caller is_got
fits s (Drop caller) = is_at s caller is_missed
fits s (Insert caller path now) = is_at s caller is_idle
fits s (Purge now dots) = true
fits s (Change tree) = true

-- Misplaced is told exactly where the event doesn't fit, and then nothing is changed.
pub record IsMisplacedExactly (s : State) (event : Event) : Type 0 where
  pub exactly : (told s event ≡ Misplaced) ↔ (fits s event ≡ false)
  pub unchanged : told s event ≡ Misplaced → step s event ≡ s

-- ---- the calls of the caches

-- the events of `get` and of `negative`, as far as they go
abbrev pub IsGetRow : ℕ → Names → List Event → Type 0
IsGetRow caller path events =
    (events ≡ Find caller path ∷ Get caller ∷ [])
    ⊎ ((refused : Bool) × ((events ≡ Find caller path ∷ Get caller ∷ Probe caller refused ∷ [])
    ⊎ (events ≡ Find caller path ∷ Get caller ∷ Probe caller refused ∷ Drop caller ∷ [])))

abbrev pub IsNegativeRow : ℕ → Names → Name → List Event → Type 0
IsNegativeRow caller dir name events =
    (events ≡ Ask caller dir name ∷ Peek caller ∷ [])
    ⊎ ((refused : Bool) × ((events ≡ Ask caller dir name ∷ Peek caller ∷ Check caller refused ∷ Conclude caller ∷ [])
    ⊎ (events ≡ Ask caller dir name ∷ Peek caller ∷ Check caller refused ∷ DropDir caller ∷ [])))

-- what such a world tells is what a call of `get` answers, and leaves
pub record GetIsEvents (s : State) (caller : ℕ) (path : Names) (found : Option Names) (paths : Paths) : Type 0 where
  pub events : List Event
  pub last : Event
  pub row : IsGetRow caller path (events ++ last ∷ [])
  pub tells : told (run s events) last ≡ Path found
  pub leaves : step (run s events) last ≡ record s { paths = paths }

pub record NegativeIsEvents (s : State) (caller : ℕ) (dir : Names) (name : Name) (absent : Bool)
    (dots : Dots) : Type 0 where
  pub events : List Event
  pub last : Event
  pub row : IsNegativeRow caller dir name (events ++ last ∷ [])
  pub tells : told (run s events) last ≡ Absent absent
  pub leaves : step (run s events) last ≡ record s { dots = dots }

-- A look-up by a call of a disk that tells the tree of the world is the caller's events Find, Get, Probe and Drop in a
-- row.
abbrev pub LookUpsAreEvents : {A : Type 0} → (DiskState → Names → Result A DiskError → DiskState → Type 0) → Type 0
LookUpsAreEvents call =
    (s : State) (caller : ℕ) (path : Names) (before after : DiskState) (w : World)
    (found : Option (Names × _)) (new : PathCache)
    → slice_get s.places caller ≡ Some Idle → before.told ≡ Some w → w.tree ≡ s.tree
    → ((e : PathEntry) → lookup (same_path (fold_path path)) s.paths ≡ Some e → is_linked w.tree e.path ≡ false)
    → LooksBy call (lookup (same_path (fold_path path)) s.paths)
    (record { entries = s.paths; size = s.paths_size }) path before found new after
    → GetIsEvents s caller path (option_map (λ f. f.0) found) new.entries

-- Such calls are `get`, and `get_open`, of which the opening is the Probe.
abbrev pub GetsAreEvents : Type 0
GetsAreEvents = LookUpsAreEvents Seeing

abbrev pub OpensAreEvents : Type 0
OpensAreEvents = LookUpsAreEvents Opening

-- And a call of `negative` is its Ask, Peek, Check and Conclude or DropDir.
abbrev pub NegativesAreEvents : Type 0
NegativesAreEvents =
    (s : State) (caller : ℕ) (dir : Names) (name : Name) (before after : DiskState) (w : World) (absent : Bool)
    (new : DotCache)
    → slice_get s.places caller ≡ Some Idle → before.told ≡ Some w → w.tree ≡ s.tree → is_linked w.tree dir ≡ false
    → Denies (lookup (same_key (dir_key dir)) s.dots) (record { entries = s.dots; size = s.dots_size; next = s.next })
    dir name before absent new after
    → NegativeIsEvents s caller dir name absent new.entries
