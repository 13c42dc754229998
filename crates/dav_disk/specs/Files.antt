-- The tables that a disk in memory keeps, as the world has them.
use Rattle.std.specs.Prelude.{◌≡◌, ◌≢◌, ℕ, List, Option, None, Some, true, false, All}
use Rattle.std.specs.Option.{option_map, is_some}
use Rattle.std.specs.BTreeMap.{BTreeMap}
use Rattle.dav_core.specs.declared.handle.Meta.{Meta}
use Rattle.dav_core.specs.declared.tree.Row.{Row}
use Rattle.dav_core.specs.declared.tree.Kind.TheVariants.{Dir, File}
use Rattle.dav_core.specs.World.{Stored, OpenFile, at_key}
use Rattle.dav_core.specs.Disk.{Live}
use Rattle.dav_disk.specs.declared.tables.StoredFile.{StoredFile}
use Rattle.dav_disk.specs.declared.tables.Opened.{Opened}

abbrev pub stored_of : StoredFile → Stored
stored_of f = record { bytes = f.bytes.items; time = f.time }

-- what is stored under a number
abbrev pub stored_at : BTreeMap ℕ StoredFile → ℕ → Option Stored
stored_at files n = option_map stored_of (at_key files n)

abbrev pub open_of : Opened → OpenFile
open_of o = record { number = o.number; place = o.place }

-- the open file of a handle
abbrev pub open_at : BTreeMap ℕ Opened → ℕ → Option OpenFile
open_at opens h = option_map open_of (at_key opens h)

abbrev pub live_of : Opened → Live
live_of o = record { kind = o.kind; how = o.how }

-- what is known of a live handle
abbrev pub live_at : BTreeMap ℕ Opened → ℕ → Option Live
live_at opens h = option_map live_of (at_key opens h)

-- a file is stored with its row's time
abbrev pub IsStored : (ℕ → Option Stored) → Row → Type 0
IsStored files row = row.kind ≡ File → option_map (λ s. s.time) (files row.number) ≡ Some row.time

-- Each file of the tree is stored with its row's time.
abbrev pub AreStored : List Row → (ℕ → Option Stored) → Type 0
AreStored tree files = All (IsStored files) tree

-- a directory's number stores nothing
abbrev pub IsBare : (ℕ → Option Stored) → Row → Type 0
IsBare files row = row.kind ≡ Dir → files row.number ≡ None

-- No number of a directory of the tree stores anything.
abbrev pub AreBare : List Row → (ℕ → Option Stored) → Type 0
AreBare tree files = All (IsBare files) tree

-- What is open as a file is stored, also where it was removed.
abbrev pub AreKept : (ℕ → Option Opened) → (ℕ → Option Stored) → Type 0
AreKept opens files = (h : ℕ) (o : Opened) → opens h ≡ Some o → o.kind ≡ File → is_some (files o.number) ≡ true

-- No directory of the tree has this number.
abbrev pub NamesNoDir : List Row → ℕ → Type 0
NamesNoDir tree number = All (λ row. row.kind ≡ Dir → row.number ≢ number) tree

-- a directory has no length
abbrev pub HasNoLength : Meta → Type 0
HasNoLength meta = meta.kind ≡ Dir → meta.len ≡ 0

-- what is said of a row beside its kind, its number, its length and the time of its last change: nothing
pub record SaysNoMore (meta : Meta) : Type 0 where
  pub created : meta.created ≡ None
  pub accessed : meta.accessed ≡ None
  pub changed : meta.changed ≡ None
  pub exec : meta.exec ≡ false
