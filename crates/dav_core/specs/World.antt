-- All that a disk may tell of itself.
use Rattle.std.specs.Prelude.{◌≡◌, ◌<◌, ◌≤◌, ◌≤ℤ◌, ◌==◌, ◌⊎◌, ℕ, List, Bool, All, [], length, cond, true, Option, None, Some, slice_index_or}
use Rattle.std.specs.List.{list_any}
use Rattle.std.specs.Option.{option_map}
use Rattle.dav_core.specs.declared.tree.Row.{Row}
use Rattle.dav_core.specs.declared.tree.Kind.TheVariants.{File}
use Rattle.dav_core.specs.declared.time.FileTime.{FileTime}
use Rattle.dav_core.specs.declared.change.Change.{Change}
use Rattle.dav_core.specs.Path.{Names, all_plain}
use Rattle.dav_core.specs.Tree.{is_tree}
use Rattle.std.specs.BTreeMap.{BTreeMap, get_by}
use Rattle.std.specs.Ordering.{nat_cmp}

-- the bytes of a file, and the time of its last change
pub record Stored : Type 0 where
  pub bytes : List ℕ
  pub time : FileTime

-- an open file: the number of what was opened, and the place at which it is read and written
pub record OpenFile : Type 0 where
  pub number : ℕ
  pub place : ℕ

pub record World : Type 0 where
  pub tree : List Row
  -- The files by their numbers, which are never given again. One that was removed stays as long as it is open, and may
  -- stay.
  pub files : ℕ → Option Stored
  -- the open files by their handles
  pub opens : ℕ → Option OpenFile
  -- the open listings, with their names to come
  pub listings : ℕ → Option Names
  -- the greatest number and the latest time used so far
  pub greatest : ℕ
  pub latest : FileTime
  -- the batches of changes to come
  pub script : List (List Change)

-- f with another value at k
abbrev pub put : {A : Type 0} → ℕ → A → (ℕ → A) → ℕ → A
put k a f n = cond (n == k) a (f n)

abbrev pub bytes_or_none : Option Stored → List ℕ
bytes_or_none None = []
bytes_or_none (Some stored) = stored.bytes

-- the bytes of a file number; none where no file has the number
abbrev pub bytes_of : World → ℕ → List ℕ
bytes_of w number = bytes_or_none (w.files number)

-- the time of a file number
abbrev pub time_of : World → ℕ → Option FileTime
time_of w number = option_map (λ s. s.time) (w.files number)

-- the number of what a handle has open
abbrev pub number_of : World → ℕ → Option ℕ
number_of w h = option_map (λ o. o.number) (w.opens h)

-- a row has the number
abbrev pub is_numbered : List Row → ℕ → Bool
is_numbered tree number = list_any (λ row. number == row.number) tree

-- A row of the tree or an open file has the number.
abbrev pub Holds : World → ℕ → Type 0
Holds w number = (is_numbered w.tree number ≡ true) ⊎ ((h : ℕ) × (number_of w h ≡ Some number))

-- The same world, but that bytes and times of files that nobody holds may be others, or none.
pub record SameHeld (v w : World) : Type 0 where
  pub same : w ≡ record v { files = w.files }
  pub files : (number : ℕ) → Holds w number → w.files number ≡ v.files number

-- The same but for which files and listings are open. What somebody holds was held before, and has its bytes and its
-- time.
pub record SameBesidesOpens (v w : World) : Type 0 where
  pub tree : w.tree ≡ v.tree
  pub files : (number : ℕ) → Holds w number → Holds v number × (w.files number ≡ v.files number)
  pub greatest : w.greatest ≡ v.greatest
  pub latest : w.latest ≡ v.latest
  pub script : w.script ≡ v.script

-- a time doesn't stand after another
abbrev pub NotAfter : FileTime → FileTime → Type 0
NotAfter a b = (a.secs ≤ℤ b.secs) × (a.secs ≡ b.secs → a.nanos ≤ b.nanos)

-- a number and a time that a disk has given: none is above the greatest or after the latest
pub record IsGiven (greatest : ℕ) (latest : FileTime) (number : ℕ) (time : FileTime) : Type 0 where
  pub within : number ≤ greatest
  pub nanos : time.nanos < 1000000000
  pub past : NotAfter time latest

-- The numbers and times of rows and of stored files are given ones, and the numbers of open files.
pub record AreGiven (tree : List Row) (stored : ℕ → Option Stored) (open_at : ℕ → Option OpenFile) (greatest : ℕ)
    (latest : FileTime)
    : Type 0 where
  pub rows : All (λ row. IsGiven greatest latest row.number row.time) tree
  pub files : (n : ℕ) (f : Stored) → stored n ≡ Some f → IsGiven greatest latest n f.time
  pub opens : (h : ℕ) (o : OpenFile) → open_at h ≡ Some o → o.number ≤ greatest
  pub nanos : latest.nanos < 1000000000

-- Each name of a row's path is plain.
abbrev pub IsPlain : Row → Type 0
IsPlain row = all_plain row.path ≡ true

abbrev pub ArePlain : List Row → Type 0
ArePlain tree = All IsPlain tree

-- What holds of every world that is told: its rows are a tree, whose names are plain, each file of the tree is stored
-- with its row's time, and the greatest number and the latest time bound all.
pub record IsWorld (w : World) : Type 0 where
  pub tree : is_tree w.tree ≡ true
  pub plain : ArePlain w.tree
  pub stored : (k : ℕ) (d : Row) → k < length w.tree → (slice_index_or w.tree k d).kind ≡ File
      → time_of w (slice_index_or w.tree k d).number ≡ Some (slice_index_or w.tree k d).time
  pub given : AreGiven w.tree w.files w.opens w.greatest w.latest

-- ---- a map of std by numbers, seen as a function

-- a map as a function
abbrev pub at_key : {X : Type 0} → BTreeMap ℕ X → ℕ → Option X
at_key m n = get_by (nat_cmp n) m
