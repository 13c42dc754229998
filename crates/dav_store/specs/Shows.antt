-- What a store shows at a path: each call answers what stands there, or was spoiled by a fault or want of memory.
use Rattle.std.specs.Prelude.{◌≡◌, ◌≤◌, ◌⊎◌, true, Option, Some, Result, Ok, Err}
use Rattle.dav_core.specs.declared.error.FsError.{FsError}
use Rattle.dav_core.specs.DavPath.{WebPath}
use Rattle.dav_core.specs.Disk.{DiskState}
use Rattle.dav_core.specs.Info.{Info}
use Rattle.dav_core.specs.Writing.{reading}
use Rattle.dav_core.specs.Tree.{is_file}
use Rattle.dav_store.specs.Standing.{Standing, Seen, Agrees}
use Rattle.dav_store.specs.Files.{Spoiled}
use Rattle.dav_store.specs.View.{View}

-- a look answers what stands there, or the refusal
abbrev pub LooksThere : Result Standing FsError → Result Info FsError → Type 0
LooksThere (Ok there) (Ok info) = Agrees info there
LooksThere (Ok there) (Err e) = ⊥
LooksThere (Err e) (Ok info) = ⊥
LooksThere (Err e) (Err f) = f ≡ e

-- the open file of what stands there, at its first byte
abbrev pub seen_of : Standing → Seen
seen_of there = record { stands = there; place = 0 }

-- What was opened is what stands there. Of what is no regular file only the number and the kind are told.
pub record IsThere (there : Standing) (f : Seen) : Type 0 where
  pub number : f.stands.number ≡ there.number
  pub kind : f.stands.kind ≡ there.kind
  pub place : f.place ≡ 0
  pub file : is_file there.kind ≡ true → f ≡ seen_of there

-- an opening answers an open file of what stands there, or the refusal
abbrev pub OpensThere : {F : Type 0} → (F → DiskState → Option Seen) → Result Standing FsError → Result F FsError
    → DiskState → Type 0
OpensThere seen (Ok there) (Ok file) t = (f : Seen) × (seen file t ≡ Some f) × IsThere there f
OpensThere seen (Ok there) (Err e) t = ⊥
OpensThere seen (Err e) (Ok file) t = ⊥
OpensThere seen (Err e) (Err f) t = f ≡ e

-- The stores that looks lead to from here.
pub data Looked {S C F : Type 0} (view : View S C F) (s : S) (c : C) : S → Type 0 where
  here : Looked view s c s
  looks : (m n : S) (path : WebPath) (r : Result Info FsError) → Looked view s c m → view.looks m c path r n
      → Looked view s c n
  looks_at_link : (m n : S) (path : WebPath) (r : Result Info FsError) → Looked view s c m
      → view.looks_at_link m c path r n → Looked view s c n

-- The store shows this at a path, now and after looks: what a look finds there, and what is opened for reading, which
-- may be refused where a look isn't.
pub record Shows {S C F : Type 0} (view : View S C F) (s : S) (c : C) (path : WebPath)
    (looked opened : Result Standing FsError) : Type 0 where
  pub looks_there : (m n : S) (r : Result Info FsError) → Looked view s c m → view.looks m c path r n
      → LooksThere looked r ⊎ Spoiled (view.state m) r (view.state n)
  pub opens_there : (m n : S) (o : Result F FsError) → Looked view s c m → view.opens m c path reading o n
      → OpensThere view.file.seen opened o (view.state n) ⊎ Spoiled (view.state m) o (view.state n)
  -- no count of faults falls
  pub looks_counts : (m n : S) (r : Result Info FsError) → Looked view s c m → view.looks m c path r n
      → (view.state m).faults ≤ (view.state n).faults
  pub opens_counts : (m n : S) (o : Result F FsError) → Looked view s c m → view.opens m c path reading o n
      → (view.state m).faults ≤ (view.state n).faults
