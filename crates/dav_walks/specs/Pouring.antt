-- How the body of a PUT goes from its reader into a file.
use Rattle.std.specs.Prelude.{◌≡◌, ◌≤◌, ◌<◌, ◌+◌, ◌^◌, ◌++◌, ◌⊎◌, ℕ, List, [], length, None, Some, Result, Ok, Err}
use Rattle.dav_io.specs.declared.failure.Failed.{Failed}
use Rattle.dav_core.specs.declared.dav_error.DavError.{DavError}
use Rattle.dav_core.specs.declared.dav_error.DavError.TheVariants.{Status, Body}
use Rattle.dav_core.specs.declared.error.FsError.{FsError}
use Rattle.dav_core.specs.Disk.{DiskState}
use Rattle.dav_core.specs.Statuses.{of_fs}
use Rattle.dav_store.specs.Bodies.{BodyState, GivesPiece}
use Rattle.dav_store.specs.Files.{FileWrites}
use Rattle.dav_store.specs.Frames.{KeepsOpenBut}
use Rattle.dav_store.specs.View.{View, Lent, seen_in}
use Rattle.dav_walks.specs.Lines.{Line}

-- what a writing of bytes may answer, by the file and the disk before and after
abbrev pub Writes : Type 0 → Type 1
Writes F = F → DiskState → List ℕ → Result Unit FsError → F → DiskState → Type 0

-- A body that reaches so many bytes is refused.
abbrev pub most_bytes : ℕ
most_bytes = 2 ^ 60

module _ {S C F : Type 0} (view : View S C F) where
  -- A file stays open under its handle, and all others as they were.
  pub record FileStays (s : S) (file : F) (t : S) (after : F) : Type 0 where
    pub handle : view.file.handle after ≡ view.file.handle file
    pub keeps : KeepsOpenBut (view.file.handle file) (view.state s) (view.state t)
    pub live : (view.state t).live (view.file.handle file) ≡ (view.state s).live (view.file.handle file)
    pub loan : view.loan t ≡ view.loan s

module _ {S C F : Type 0} (view : View S C F) (writes : Writes F) where
  -- Bytes are written to a file, on the disk inside.
  pub record WritesFile (s : S) (file : F) (from : List ℕ) (result : Result Unit FsError) (t : S) (after : F)
      : Type 0 where
    pub done : writes file (view.state s) from result after (view.state t)
    pub told : FileWrites (view.state s) (view.file.handle file) (seen_in view s file) from result (view.state t)
        (seen_in view t after)
    pub reads_from : view.file.reads_from after (view.state t)
    pub handle : view.file.handle after ≡ view.file.handle file
    pub lent : Lent view s t

  -- A piece is refused: the body reaches its bound with it, or the writing is refused, which may have written a front.
  abbrev pub RefusesPiece : ℕ → S → F → List ℕ → DavError → S → F → Type 0
  RefusesPiece total s f piece e t h = ((e ≡ Status 413) × (most_bytes ≤ total + length piece) × (t ≡ s) × (h ≡ f))
      ⊎ ((refusal : FsError) × (e ≡ of_fs refusal) × WritesFile s f piece (Err refusal) t h)

  -- A piece is written after so many bytes; or refused.
  abbrev pub TakesPiece : ℕ → S → F → List ℕ → Result ℕ DavError → S → F → Type 0
  TakesPiece total s f piece (Ok sum) t h = (sum ≡ total + length piece) × (sum < most_bytes)
      × WritesFile s f piece (Ok tt) t h
  TakesPiece total s f piece (Err e) t h = RefusesPiece total s f piece e t h

  -- Pieces that the reader gave were written, each as it came: these bytes in all.
  pub data Poured (s : S) (f : F) (b : BodyState) : List ℕ → S → F → BodyState → Type 0 where
    begun : Poured s f b [] s f b
    goes : (bytes piece : List ℕ) (m n : S) (g h : F) (k j : BodyState) → Poured s f b bytes m g k
        → GivesPiece k (Ok (Some piece)) j → WritesFile m g piece (Ok tt) n h → Poured s f b (bytes ++ piece) n h j

  -- how a file and a reader go on, in a store, with a line of the table at the end
  abbrev pub Flow : Type 1
  Flow = S → F → BodyState → Line → S → F → BodyState → Type 0

  -- What came after so many bytes: the end of the body, a fault of the reader, or a piece that was refused.
  abbrev pub Stops : ℕ → Flow
  Stops total s f b (Ok x) t h n = GivesPiece b (Ok None) n × (t ≡ s) × (h ≡ f)
  Stops total s f b (Err e) t h n = ((failed : Failed) × GivesPiece b (Err failed) n × (e ≡ Body) × (t ≡ s) × (h ≡ f))
      ⊎ ((piece : List ℕ) × GivesPiece b (Ok (Some piece)) n × RefusesPiece total s f piece e t h)

  -- The body goes into the file, up to its end or the first refusal.
  pub record Pours (s : S) (f : F) (b : BodyState) (result : Line) (t : S) (after : F) (n : BodyState) : Type 0 where
    pub bytes : List ℕ
    pub place : S
    pub file : F
    pub reader : BodyState
    pub poured : Poured s f b bytes place file reader
    pub short : length bytes < most_bytes
    pub stops : Stops (length bytes) place file reader result t after n
