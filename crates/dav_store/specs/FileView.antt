-- An open file's meanings in one value.
use Rattle.std.specs.Prelude.{◌≡◌, ℕ, List, Option, Result, refl}
use Rattle.dav_core.specs.declared.error.FsError.{FsError}
use Rattle.dav_core.specs.Disk.{DiskState}
use Rattle.dav_store.specs.Standing.{Seen}

pub record FileView (F : Type 0) : Type 1 where
  -- the handle of the disk that it holds
  pub handle : F → ℕ
  -- what it is and its place, where the disk tells it
  pub seen : F → DiskState → Option Seen
  -- what a writing of bytes may answer, by the file and the disk before and after
  pub writes : F → DiskState → List ℕ → Result Unit FsError → F → DiskState → Type 0
  -- What must hold of it and of its disk where it is moved, read or written, beside that it is live.
  pub reads_from : F → DiskState → Type 0
  -- Each move and each read of it asks its disk one call.
  pub asks_once : Type 0
  -- What a file becomes by calls of its own: none, one, or one after another.
  pub becomes : F → F → Type 0
  pub becomes_same : (f : F) → becomes f f
  pub becomes_then : (f g k : F) → becomes f g → becomes g k → becomes f k

-- Two views say the same of each file. (They aren't equal: an equality of relations lies one universe higher.)
pub record SameFiles {F : Type 0} (one other : FileView F) : Type 0 where
  pub handle : (f : F) → one.handle f ≡ other.handle f
  pub seen : (f : F) (s : DiskState) → one.seen f s ≡ other.seen f s
  pub writes : (f g : F) (s t : DiskState) (bytes : List ℕ) (r : Result Unit FsError) → other.writes f s bytes r g t
      → one.writes f s bytes r g t
  pub reads_from : (f : F) (s : DiskState) → one.reads_from f s → other.reads_from f s
  pub from_reads : (f : F) (s : DiskState) → other.reads_from f s → one.reads_from f s
  pub asks_once : one.asks_once → other.asks_once
  pub becomes : (f g : F) → other.becomes f g → one.becomes f g

pub same_files : {F : Type 0} (view : FileView F) → SameFiles view view
same_files view = record {
  handle = λ f. refl;
  seen = λ f s. refl;
  writes = λ f g s t bytes r w. w;
  reads_from = λ f s r. r;
  from_reads = λ f s r. r;
  asks_once = λ o. o;
  becomes = λ f g b. b;
}
