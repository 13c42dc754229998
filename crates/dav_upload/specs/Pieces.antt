-- The pieces of an upload in its open file.
use Rattle.std.specs.Prelude.{◌≡◌, ℕ, List, true, false, length, None, Some, IsSome}
use Rattle.dav_core.specs.declared.handle.OpenOptions.{OpenOptions}
use Rattle.dav_core.specs.Disk.{DiskState, Live}
use Rattle.dav_store.specs.Frames.{KeepsOpenBut}
use Rattle.dav_store.specs.Standing.{Seen}

-- How a hidden file is opened: it is made, and nothing may stand there.
abbrev pub upload_options : OpenOptions
upload_options = record {
  read = false;
  write = true;
  append = false;
  truncate = false;
  create = false;
  create_new = true;
}

-- An open file holds the pieces in order, and its place is behind them.
pub record HoldsPieces (pieces : List ℕ) (f : Seen) : Type 0 where
  pub bytes : f.stands.bytes ≡ pieces
  pub place : f.place ≡ length pieces

-- A file was opened to be uploaded to, and all else that is open stays.
pub record IsMade (h : ℕ) (s t : DiskState) : Type 0 where
  pub others : KeepsOpenBut h s t
  pub fresh : s.live h ≡ None
  pub live : IsSome (t.live h)
  pub options : (l : Live) → t.live h ≡ Some l → l.how ≡ upload_options

-- A file that is open stays open under its handle, and all else that is open stays as it is.
pub record KeepsUpload (h after : ℕ) (s t : DiskState) : Type 0 where
  pub others : KeepsOpenBut h s t
  pub handle : after ≡ h
  pub live : t.live h ≡ s.live h

-- A file was closed, and all else that is open stays.
pub record ClosesUpload (h : ℕ) (s t : DiskState) : Type 0 where
  pub others : KeepsOpenBut h s t
  pub live : t.live h ≡ None
