-- What a book tells, and what a memory knows that threads share and that keeps to it.
use Rattle.std.specs.Prelude.{pos, ◌≡◌, ◌==◌, ◌&&◌, ℕ, Bool, false, not, List, [], ◌∷◌, Option, Some, None, is_some, option_map, if◌then◌else◌, codes}
use Rattle.std.specs.List.{list_any}
use Rattle.std.specs.Option.{option_map_or}
use Rattle.std.specs.Map.{lookup}
use Rattle.dav_memory.specs.Trees.{Name, Names, FileTime, is_dot, same_name, same_path, same_time}
use Rattle.dav_memory.specs.declared.key.DuKey.{DuKey}
use Rattle.dav_memory.specs.declared.key.DuEntry.{DuEntry}
use Rattle.dav_memory.specs.Entries.{Dots, dir_key, name_key, same_key, stands}
use Rattle.dav_memory.specs.Memory.{Known, MemoryState}

-- the names that begin with `._` of a directory path at a time, where they are told
abbrev pub Page : Type 0
Page = Names → FileTime → Option (List Name)

-- of what is told only names that begin with `._` count
abbrev pub has_in : List Name → Name → Bool
has_in names x = is_dot x && list_any (same_name x) names

-- A listing that waits to be put into the cache: of a directory, at a time.
pub record Listing : Type 0 where
  pub dir : Names
  pub time : FileTime
  pub names : List Name

abbrev pub is_of : Listing → Names → FileTime → Bool
is_of l dir time = same_path l.dir dir && same_time l.time time

abbrev pub known_in : Page → Option Listing → Names → FileTime → Known
known_in page None dir time = option_map has_in (page dir time)
known_in page (Some l) dir time = if is_of l dir time then Some (has_in l.names) else option_map has_in (page dir time)

-- What a memory knows that keeps to a page: what the page tells, whatever others put into the cache, and the listing
-- that waits. Where the page tells nothing, it may call any name absent.
abbrev pub kept_by : Page → Option Listing → MemoryState
kept_by page waits = record {
  paths = None;
  dots = None;
  knows = known_in page waits;
  is_open = λ dir time. not (is_some (page dir time));
}

-- Where the page tells names, the listing has these.
abbrev pub MaySeal : Page → Names → FileTime → List Name → Type 0
MaySeal page dir time names = (told : List Name) → page dir time ≡ Some told → (x : Name)
    → has_in names x ≡ has_in told x

abbrev pub MaySettle : Page → Option Listing → Type 0
MaySettle page None = Unit {0}
MaySettle page (Some l) = MaySeal page l.dir l.time l.names

-- Of each directory's entry whose directory and time the page tells, the names with its number are those told.
abbrev pub KeepsTo : Page → Dots → Type 0
KeepsTo page dots = (dir : Names) (e : DuEntry) (told : List Name) → lookup (same_key (dir_key dir)) dots ≡ Some e
    → page dir e.time ≡ Some told
    → (x : Name) → stands dots (name_key dir x) e.number ≡ has_in told x

-- whether the key's entry has this time
abbrev pub stands_at : Dots → DuKey → FileTime → Bool
stands_at dots key time = option_map_or (λ e. same_time e.time time) (lookup (same_key key) dots) false

-- whether the directory's entry has this time and number, and the name's entry doesn't have the number
abbrev pub denies_at : Dots → DuKey → DuKey → ℕ → FileTime → Bool
denies_at dots dir name number time =
    stands_at dots dir time && (stands dots dir number && not (stands dots name number))

-- A name that the page doesn't tell of the directory at the time, where it tells names.
abbrev pub IsUntold : Page → Names → FileTime → Name → Type 0
IsUntold page dir time x = (told : List Name) → page dir time ≡ Some told → has_in told x ≡ false

-- ---- two books

abbrev pub untold : ℕ → Page
untold folder dir time = None

abbrev pub seconds : ℕ → FileTime
seconds n = record { secs = pos n; nanos = 0 }

-- of folder 1 the root at time 0, which has no such name, and `/d` at 1 s, which has `._a`
abbrev pub one_folder : Page
one_folder dir time =
    if same_path dir [] then (if same_time time (seconds 0) then Some [] else None)
    else (if same_path dir (codes "d" ∷ []) then (if same_time time (seconds 1) then Some (codes "._a" ∷ []) else None)
    else None)

abbrev pub one_book : ℕ → Page
one_book folder = if folder == 1 then one_folder else (λ dir time. None)
