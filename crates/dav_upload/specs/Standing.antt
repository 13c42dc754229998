-- An upload that stands in a world.
use Rattle.std.specs.Prelude.{◌≡◌, ◌≢◌, ℕ, List, length, Bool, true, false, Option, Some, IsSome}
use Rattle.dav_core.specs.declared.tree.Row.{Row}
use Rattle.dav_core.specs.declared.tree.Kind.TheVariants.{File}
use Rattle.dav_core.specs.Disk.{Live}
use Rattle.dav_core.specs.Path.{Names}
use Rattle.dav_core.specs.Tree.{row_at}
use Rattle.dav_core.specs.World.{OpenFile, World, bytes_of}
use Rattle.dav_upload.specs.declared.upload.Upload.{Upload}
use Rattle.dav_upload.specs.Names.{is_hidden_path}
use Rattle.dav_upload.specs.Pieces.{upload_options}
use Rattle.dav_upload.specs.Shown.{IsUnseen}

-- An upload that isn't ended yet: its hidden path, the handle of its open file, whether it is broken, and the pieces that
-- were handed to it, in order.
pub record Pending : Type 0 where
  pub hidden : Names
  pub handle : ℕ
  pub broken : Bool
  pub pieces : List ℕ

-- what an upload is with the pieces that were handed to it
abbrev pub pending : {F : Type 0} → (F → ℕ) → Upload F → List ℕ → Pending
pending handle u pieces = record {
  hidden = u.hidden.names;
  handle = handle u.file;
  broken = u.broken;
  pieces = pieces;
}

-- `shown` tells which handles count as those of bodies of files that are shown. At the hidden path stands a file, which
-- the upload's handle has open, and no other live one that counts: so a reader of the hidden path, which counts for
-- nothing, may have it open too. No row that is shown is that file. Where the upload isn't broken, the file has the
-- pieces in order, and the place is behind them.
pub record StandsIn (shown : ℕ → Bool) (live : ℕ → Option Live) (w : World) (u : Pending) : Type 0 where
  pub lives : IsSome (live u.handle)
  pub how : (l : Live) → live u.handle ≡ Some l → l.how ≡ upload_options
  pub file : (l : Live) → live u.handle ≡ Some l → l.kind ≡ File
  pub held : OpenFile
  pub opens : w.opens u.handle ≡ Some held
  pub row : Row
  pub at : row_at w.tree u.hidden ≡ Some row
  pub kind : row.kind ≡ File
  pub number : row.number ≡ held.number
  pub hides : is_hidden_path u.hidden ≡ true
  pub unseen : IsUnseen w held.number
  pub apart : (k : ℕ) (l : Live) (o : OpenFile) → shown k ≡ true → live k ≡ Some l → w.opens k ≡ Some o
      → o.number ≡ held.number → k ≡ u.handle
  pub whole : u.broken ≡ false → (bytes_of w held.number ≡ u.pieces) × (held.place ≡ length u.pieces)

-- Each other handle is live as it was, and has open what it had.
pub record OthersOpen (own : ℕ) (live then : ℕ → Option Live) (v w : World) : Type 0 where
  pub lives : (k : ℕ) → k ≢ own → then k ≡ live k
  pub opens : (k : ℕ) (l : Live) → k ≢ own → live k ≡ Some l → w.opens k ≡ v.opens k
