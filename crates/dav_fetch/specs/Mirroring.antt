-- What a fetched copy is worth, over a peer that tells.
use Rattle.std.specs.Prelude.{◌≡◌, ◌==◌, ◌&&◌, ◌<◌, ◌≤◌, ◌⊎◌, ◌↔◌, ◌^◌, ℕ, List, [], ◌∷◌, length, Bool, true, false, not, is_some, Some, Result, Ok, Err}
use Rattle.std.specs.List.{AllByRecursion, filter, flat_map, list_all}
use Rattle.dav_io.specs.Counts.{RefusedNothing}
use Rattle.dav_core.specs.declared.tree.Row.{Row}
use Rattle.dav_core.specs.Members.{members}
use Rattle.dav_core.specs.Path.{Names}
use Rattle.dav_core.specs.Tree.{is_dir, is_file, is_linked, look}
use Rattle.dav_core.specs.World.{IsWorld, SameBesidesOpens, World, bytes_of, is_numbered}
use Rattle.dav_model.specs.Finding.{is_clear}
use Rattle.dav_page.specs.Index.{IsIndex}
use Rattle.dav_page.specs.Listed.{AreRows, begins_with_dot}
use Rattle.dav_fetch.specs.declared.copied.Copied.{Copied}
use Rattle.dav_fetch.specs.declared.copied.Kept.{Kept}
use Rattle.dav_fetch.specs.declared.error.MirrorError.{MirrorError}
use Rattle.dav_fetch.specs.declared.error.MirrorError.TheVariants.{NoMemory}
use Rattle.dav_fetch.specs.Asking.{dir_path}
use Rattle.dav_fetch.specs.Copy.{IsCopy, IsFaithful, IsFileAt, IsKept, IsOf, IsOfWorld, tag_in}
use Rattle.dav_fetch.specs.Fetching.{link_is_short}
use Rattle.dav_fetch.specs.Peer.{MeetsNone, PeerState, Seen}
use Rattle.dav_fetch.specs.Walk.{Visit, page_most}

-- a visit is of this world
abbrev pub MetIn : World → List Visit → Type 0
MetIn w [] = ⊥
MetIn w (visit ∷ visits) = (visit.world ≡ Some w) ⊎ MetIn w visits

-- What is kept of the file at a path, faithful for a world.
pub record IsGood (w : World) (names : Names) (k : Kept) : Type 0 where
  pub path : k.path ≡ names
  pub kept : IsKept k
  pub faithful : IsFaithful w k
  pub small : k.len < 2 ^ 64

-- The lengths of the world's files, as they stand at this path, are those of files.
abbrev pub AreShort : World → Names → Type 0
AreShort w names = (row : Row) → IsFileAt w names row → length (bytes_of w row.number) < 2 ^ 64

-- What is asked of each world that is met: what is kept at entry is faithful for it, and its files have lengths.
pub record IsMet (old : List Kept) (w : World) : Type 0 where
  pub faithful : (k : Kept) → IsOf k old → IsFaithful w k
  pub short : (path : Names) → AreShort w path

-- what holds of each file at entry
abbrev pub AreKept : List Kept → Type 0
AreKept old = (k : Kept) → IsOf k old → IsKept k × (k.len < 2 ^ 64)

-- Sound: each file at exit is one of the entry, or a front of what its path had in one world of the call.
abbrev pub IsSound : Copied → List Visit → Copied → Type 0
IsSound old visits new = (f : Kept) → IsOf f new.files → IsOf f old.files ⊎ ((w : World) × MetIn w visits × IsOfWorld w f)

-- The peer told at each visit.
abbrev pub AllTold : List Visit → Type 0
AllTold visits = AllByRecursion (λ (visit : Visit). is_some visit.world ≡ true) visits

-- ---- a tree that stands still

-- no name of the path begins with a dot
abbrev pub is_shown : Names → Bool
is_shown path = list_all (λ name. not (begins_with_dot name)) path

-- This row stands at the path, and pages lead to it.
pub record IsShownAt (w : World) (path : Names) (row : Row) : Type 0 where
  pub there : look w.tree path ≡ Ok row
  pub shown : is_shown path ≡ true

-- A directory is reached so. The root is none of them: no page names it.
abbrev pub IsShownDir : World → Names → Type 0
IsShownDir w path = (0 < length path) × ((row : Row) × IsShownAt w path row × (is_dir row.kind ≡ true))

-- the file of this row: its tag, its length and all its bytes
abbrev pub whole_file : World → Names → Row → Kept
whole_file w path row = record {
  path = path;
  tag = tag_in w row;
  len = length (bytes_of w row.number);
  bytes = bytes_of w row.number;
}

-- A file is reached so, and this is the whole of it.
abbrev pub IsWholeFile : World → Kept → Type 0
IsWholeFile w f = (row : Row) × IsShownAt w f.path row × (is_file row.kind ≡ true) × (f ≡ whole_file w f.path row)

-- The copy has the directories and the files that are reached by names not beginning with a dot, and no others: each
-- once, in order, each file with its tag, its length and all its bytes.
pub record IsMirror (w : World) (copy : Copied) : Type 0 where
  pub order : IsCopy copy
  pub dirs : (path : Names) → IsOf path copy.dirs ↔ IsShownDir w path
  pub files : (f : Kept) → IsOf f copy.files ↔ IsWholeFile w f

-- The other world shows the same: the tree, and the bytes of its files.
pub record ShowsSame (w v : World) : Type 0 where
  pub tree : v.tree ≡ w.tree
  pub bytes : (number : ℕ) → is_numbered w.tree number ≡ true → bytes_of v number ≡ bytes_of w number

-- Each visit was told, and of a world that shows the same as this one.
abbrev pub TellsOne : World → List Visit → Type 0
TellsOne w visits = AllByRecursion (λ (visit : Visit). (v : World) × (visit.world ≡ Some v) × ShowsSame w v) visits

-- The peer told at each of these visits, or no link of this world is met there.
abbrev pub AreClear : World → List Visit → Type 0
AreClear w visits = AllByRecursion (λ (visit : Visit). (is_some visit.world ≡ true) ⊎ MeetsNone w.tree visit.path) visits

-- It tells this world, of which nothing is to change.
pub record TellsStill (w : World) (s : PeerState) : Type 0 where
  pub now : Seen
  pub told : s.told ≡ Some now
  pub same : SameBesidesOpens w now.world
  pub script : w.script ≡ []

-- What is asked of a call: the peer refused nothing in it, and told the same of one world throughout; what was kept at
-- entry is faithful for that world; and lengths are those of files.
pub record IsOverOne (w : World) (s : PeerState) (old : Copied) (visits : List Visit) (t : PeerState) : Type 0 where
  pub nothing : RefusedNothing s.faults t.faults
  pub world : IsWorld w
  pub tells : TellsOne w visits
  pub copy : IsCopy old
  pub small : (k : Kept) → IsOf k old.files → k.len < 2 ^ 64
  pub faithful : (k : Kept) → IsOf k old.files → IsFaithful w k
  pub short : (path : Names) → is_shown path ≡ true → AreShort w path

-- the rows that pages show, which are those of all but the root
abbrev pub is_visible_row : Row → Bool
is_visible_row row = not (length row.path == 0) && is_shown row.path

abbrev pub visible_rows : World → List Row
visible_rows w = filter is_visible_row w.tree

-- No symbolic link is met on the way through what is shown: none stands on the way to it or at it, nor in a directory that
-- is shown, whatever the link's name. Below a directory that isn't shown there may be links.
pub record IsLinkless (w : World) : Type 0 where
  pub shown : (path : Names) (row : Row) → IsShownAt w path row → is_linked w.tree path ≡ false
  pub listed : (dir : Names) (row : Row) → IsShownAt w dir row → is_dir row.kind ≡ true → is_clear w.tree dir ≡ true

-- What is shown is within the limits of a fetch: the links that are asked for, the pages, and the lengths of files.
pub record IsWithinLimits (w : World) : Type 0 where
  pub links : (path : Names) (row : Row) → IsShownAt w path row
      → link_is_short (record { prefix = []; names = path; slash = is_dir row.kind })
  pub pages : (dir : Names) (row : Row) → IsShownAt w dir row → is_dir row.kind ≡ true → (texts : List (List ℕ))
      → IsIndex (dir_path dir) (AreRows (dir_path dir) (members w dir)) texts
      → length (flat_map (λ text. text) texts) ≤ page_most
  pub lengths : (path : Names) (row : Row) → IsShownAt w path row → is_file row.kind ≡ true
      → length (bytes_of w row.number) < 10 ^ 19

-- The answer is Ok, and the copy a mirror, or memory was refused.
abbrev pub Mirrors : World → Result Unit MirrorError → Copied → Type 0
Mirrors w (Ok x) new = IsMirror w new
Mirrors w (Err NoMemory) new = Unit {0}
Mirrors w (Err e) new = ⊥
