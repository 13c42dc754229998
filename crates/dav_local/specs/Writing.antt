-- What a local store's file answers where it is written, by what its disk answers.
use Rattle.std.specs.Prelude.{◌<◌, ℕ, List, [], length, drop, Result, Ok, Err}
use Rattle.bytes.specs.Unread.{IsChunkOf}
use Rattle.dav_core.specs.declared.error.FsError.{FsError}
use Rattle.dav_core.specs.declared.handle.DiskError.{DiskError}
use Rattle.dav_core.specs.Disk.{DiskState}
use Rattle.dav_core.specs.Errors.{fs_error_of}
use Rattle.dav_core.specs.Writing.{Writes}

-- Bytes are written by as many writes of the disk as it takes, each of a front of those that are left. The first that
-- is refused ends it.
pub data WritesAll (h : ℕ) : DiskState → List ℕ → Result Unit FsError → DiskState → Type 0 where
  nothing : (s : DiskState) → WritesAll h s [] (Ok tt) s
  refused : (s t : DiskState) (from piece : List ℕ) (e : DiskError) → IsChunkOf piece from → 0 < length piece
      → Writes s h piece (Err e) t
      → WritesAll h s from (Err (fs_error_of e)) t
  more : (s m t : DiskState) (from piece : List ℕ) (n : ℕ) (result : Result Unit FsError) → IsChunkOf piece from
      → Writes s h piece (Ok n) m
      → WritesAll h m (drop n from) result t → WritesAll h s from result t
