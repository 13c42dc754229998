-- The two lists of entries, the most recent first, and what is done to them.
use Rattle.std.specs.Prelude.{◌≡◌, is_some, ℕ, ◌+◌, ◌-◌, ◌/◌, ◌<◌, zero, suc, Bool, true, false, not, ◌==◌, ◌&&◌, nat_lt, nat_le, List, [], ◌∷◌, length, take, filter, Option, Some, None, if◌then◌else◌}
use Rattle.std.specs.List.{list_all}
use Rattle.std.specs.Option.{option_map_or, option_eq}
use Rattle.std.specs.Map.{lookup}
pub use Rattle.dav_memory.specs.declared.entry.PathEntry.{PathEntry}
pub use Rattle.dav_memory.specs.declared.key.DuKey.{DuKey}
pub use Rattle.dav_memory.specs.declared.key.DuEntry.{DuEntry}
pub use Rattle.dav_io.specs.declared.clock.Moment.{Moment}
pub use Rattle.dav_core.specs.declared.time.FileTime.{FileTime}
use Rattle.dav_memory.specs.Trees.{Name, Names, same_name, same_path, same_time, fold_path, is_dot, is_less, is_after}

-- whether this is the time, where one is known
abbrev pub is_time : FileTime → Option FileTime → Bool
is_time time None = false
is_time time (Some other) = same_time time other

-- the time that was found before and after
abbrev pub one_time : Option FileTime → Option FileTime → Option FileTime
one_time None after = None
one_time (Some time) after = if is_time time after then Some time else None

-- ---- both lists

-- all entries but that of the key
abbrev pub without : {K X : Type 0} → (K → Bool) → List (K × X) → List (K × X)
without test entries = filter (λ e. not (test e.0)) entries

-- the entry first; a full list drops its last one
abbrev pub put : {K X : Type 0} → ℕ → (K → Bool) → K → X → List (K × X) → List (K × X)
put size test key entry entries = (key, entry) ∷ take (size - 1) (without test entries)

-- the last entry goes, as long as it is old
abbrev pub unless_old : {K X : Type 0} → (X → Bool) → (K × X) → List (K × X) → List (K × X)
unless_old is_old e [] = if is_old e.1 then [] else (e ∷ [])
unless_old is_old e (f ∷ fs) = e ∷ f ∷ fs

abbrev pub purged : {K X : Type 0} → (X → Bool) → List (K × X) → List (K × X)
purged is_old [] = []
purged is_old (e ∷ es) = unless_old is_old e (purged is_old es)

-- of nanoseconds
abbrev pub whole_seconds : ℕ → ℕ
whole_seconds nanos = nanos / 1000000000

-- ---- path entries

abbrev pub Paths : Type 0
Paths = List (Names × PathEntry)

-- an entry is old from 900 s on
abbrev pub is_old_path : Moment → PathEntry → Bool
is_old_path now e = nat_le (e.secs + 900) (whole_seconds now.0)

-- the path's entry first
abbrev pub inserted : ℕ → Names → Moment → Paths → Paths
inserted size path now entries =
    put size (same_path (fold_path path)) (fold_path path) (record { path = path; secs = whole_seconds now.0 }) entries

-- the entry of the key comes to the front
abbrev pub promoted : Names → Option PathEntry → Paths → Paths
promoted key None entries = entries
promoted key (Some e) entries = (key, e) ∷ without (same_path key) entries

-- each path entry's key is the folding of its path
abbrev pub AllFolded : Paths → Type 0
AllFolded [] = Unit {0}
AllFolded (e ∷ es) = (e.0 ≡ fold_path e.1.path) × AllFolded es

-- a path cache as contracts see it: its entries, the most recently used first, and how many it may have
pub record PathCache : Type 0 where
  pub entries : Paths
  pub size : ℕ

-- ---- dot-underscore entries

-- the key of a directory itself, and that of a name in it
abbrev pub dir_key : Names → DuKey
dir_key dir = record { dir = dir; name = None }

abbrev pub name_key : Names → Name → DuKey
name_key dir name = record { dir = dir; name = Some name }

abbrev pub same_key : DuKey → DuKey → Bool
same_key a b = same_path a.dir b.dir && option_eq same_name a.name b.name

-- the keys and entries, the most recent first. `count` is that of a directory's entry: of the names sealed with it
abbrev pub Dots : Type 0
Dots = List (DuKey × DuEntry)

-- an entry is old where its age in whole seconds is above 60. One of the future has no age
abbrev pub is_old_dot : Moment → DuEntry → Bool
is_old_dot now e = nat_lt 60 (whole_seconds (now.0 - e.moment.0))

-- the entry of the key stands with this number
abbrev pub stands : Dots → DuKey → ℕ → Bool
stands dots key number = option_map_or (λ e. e.number == number) (lookup (same_key key) dots) false

-- the second hold of `negative`: the directory's entry stands with the number, and the name's doesn't
abbrev pub concludes : Dots → Names → Name → ℕ → Bool
concludes dots dir name number = stands dots (dir_key dir) number && not (stands dots (name_key dir name) number)

-- ---- sealing a listing

-- what a listing is sealed with
pub record Listed : Type 0 where
  pub dir : Names
  pub time : FileTime
  pub moment : Moment
  pub number : ℕ

abbrev pub put_name : ℕ → Listed → Name → Dots → Dots
put_name size l name dots =
    put size (same_key (name_key l.dir name)) (name_key l.dir name)
    (record { moment = l.moment; time = l.time; number = l.number; count = None }) dots

abbrev pub put_dir : ℕ → Listed → ℕ → Dots → Dots
put_dir size l count dots =
    put size (same_key (dir_key l.dir)) (dir_key l.dir)
    (record { moment = l.moment; time = l.time; number = l.number; count = Some count }) dots

-- what the listing is sealed with whose directory has this key, by an entry of it
abbrev pub listed_by : DuKey → DuEntry → Listed
listed_by key e = record { dir = key.dir; time = e.time; moment = e.moment; number = e.number }

-- the names, in order
abbrev pub put_names : ℕ → Listed → List Name → Dots → Dots
put_names size l [] dots = dots
put_names size l (name ∷ names) dots = put_names size l names (put_name size l name dots)

-- so many puts: of the directory, and then of the names in order
abbrev pub some_put : ℕ → Listed → List Name → ℕ → Dots → Dots
some_put size l names zero dots = dots
some_put size l names (suc count) dots = put_names size l (take count names) (put_dir size l (length names) dots)

-- the directory's entry and then the names, as far as there is room; where it ends the directory's entry is out
abbrev pub sealed : ℕ → Listed → List Name → ℕ → Dots → Dots
sealed size l names zero dots = without (same_key (dir_key l.dir)) dots
sealed size l names (suc room) dots =
    if nat_lt room (length names)
    then without (same_key (dir_key l.dir)) (put_names size l (take room names) (put_dir size l (length names) dots))
    else put_names size l names (put_dir size l (length names) dots)

-- ---- what holds of the dot-underscore entries

-- the entry is a name's, and has this number
abbrev pub is_named : ℕ → (DuKey × DuEntry) → Bool
is_named number e = is_some e.0.name && (e.1.number == number)

-- how many names have entries with this number
abbrev pub named : ℕ → Dots → ℕ
named number [] = 0
named number (e ∷ es) = (if is_named number e then 1 else 0) + named number es

-- each entry with this number is of this directory
abbrev pub AllUnder : Names → ℕ → Dots → Type 0
AllUnder dir number [] = Unit {0}
AllUnder dir number (e ∷ es) = (e.1.number ≡ number → e.0.dir ≡ dir) × AllUnder dir number es

-- the count of a directory's entry is the number of name entries with its number, and they are under that directory
abbrev pub IsCounted : Dots → Names → Type 0
IsCounted dots dir =
    (e : DuEntry) → lookup (same_key (dir_key dir)) dots ≡ Some e → (e.count ≡ Some (named e.number dots))
    × AllUnder dir e.number dots

-- the numbers of these entries are below n
abbrev pub AllBelow : ℕ → Dots → Type 0
AllBelow n [] = Unit {0}
AllBelow n (e ∷ es) = (e.1.number < n) × AllBelow n es

-- a directory's entry has a greater number than each older entry
abbrev pub Falling : Dots → Type 0
Falling [] = Unit {0}
Falling (e ∷ es) = (e.0.name ≡ None → AllBelow e.1.number es) × Falling es

-- What holds of the entries of every dot-underscore cache. By `falling` the names that `counted` counts are more recent
-- than their directory's entry
pub record AreCounted (next : ℕ) (dots : Dots) : Type 0 where
  pub below : AllBelow next dots
  pub falling : Falling dots
  pub counted : (dir : Names) → IsCounted dots dir

-- a dot-underscore cache as contracts see it: its entries, the most recently used first, how many it may have, and the
-- number of the next listing
pub record DotCache : Type 0 where
  pub entries : Dots
  pub size : ℕ
  pub next : ℕ

-- ---- the names that a listing may be sealed with

-- the names rise from the last one on, so none stands twice
abbrev pub is_rising : Option Name → List Name → Bool
is_rising last [] = true
is_rising last (name ∷ names) = is_after last name && is_rising (Some name) names

-- they begin with `._`, are in order, and none stands twice
abbrev pub are_sealable : List Name → Bool
are_sealable names = list_all is_dot names && is_rising None names

-- a name among names that rise, in its place and once
abbrev pub kept : Name → List Name → List Name
kept name [] = name ∷ []
kept name (other ∷ names) =
    if is_less name other then name ∷ other ∷ names
    else (if is_less other name then other ∷ kept name names else other ∷ names)

-- names in order, and each once
abbrev pub in_order : List Name → List Name
in_order [] = []
in_order (name ∷ names) = kept name (in_order names)
