-- A piece of a file that is read behind others.
use Rattle.std.specs.Prelude.{◌≡◌, ◌≤◌, ◌+◌, ◌-◌, ◌++◌, ℕ, min, List, [], length, take, None, Some, Result, Ok, Err}
use Rattle.dav_core.specs.declared.error.FsError.{FsError}
use Rattle.dav_core.specs.Unchanged.{KeepsBut}
use Rattle.dav_store.specs.Files.{moved_by, rest_of}
use Rattle.dav_store.specs.Standing.{Seen}
use Rattle.dav_store.specs.View.{View, Lent, Reads, seen_in}

-- the most bytes that one read asks for
abbrev pub piece_size : ℕ
piece_size = 16384

-- how many bytes a read gave
abbrev pub count_of : Result ℕ FsError → ℕ
count_of (Ok n) = n
count_of (Err e) = 0

module _ {S C F : Type 0} (view : View S C F) where
  -- One read asked for so many bytes, and gave so many.
  pub record Asks (most n : ℕ) (s : S) (file : F) (t : S) (after : F) : Type 0 where
    pub buffer : List ℕ
    pub got : Result ℕ FsError
    pub reads : Reads view s file buffer got t after
    pub most_is : length buffer ≡ most
    pub gave : n ≡ count_of got

  -- Reads, one after the other, gave so many bytes of the first `len`. Each asked for a whole piece, or for what was left
  -- of them, whichever is less.
  pub data InPieces (len : ℕ) (s : S) (file : F) : ℕ → S → F → Type 0 where
    none_read : InPieces len s file 0 s file
    next_read : (had n : ℕ) (m t : S) (g h : F) → InPieces len s file had m g → Asks (min (len - had) piece_size) n m g t h
        → InPieces len s file (had + n) t h

  -- So many bytes of the rest stand behind the others. None came only where none is left.
  abbrev pub Appends : Seen → List ℕ → Result ℕ FsError → List ℕ → S → F → Type 0
  Appends f old (Ok n) new t after =
      (seen_in view t after ≡ Some (moved_by n f)) × (n ≤ length (rest_of f)) × (new ≡ old ++ take n (rest_of f))
      × (n ≡ 0 → rest_of f ≡ [])
  Appends f old (Err e) new t after = Unit {0}

  -- what a read does besides giving bytes
  pub record Touches (s : S) (file : F) (t : S) (after : F) : Type 0 where
    pub keeps : KeepsBut (view.file.handle file) (view.state s) (view.state t)
    pub live : (view.state t).live (view.file.handle file) ≡ (view.state s).live (view.file.handle file)
    pub handle : view.file.handle after ≡ view.file.handle file
    pub lent : Lent view s t

  -- The file in hand was closed, and nothing else changed.
  pub record ClosesAfter (handle : ℕ) (s t : S) : Type 0 where
    pub keeps : KeepsBut handle (view.state s) (view.state t)
    pub live : (view.state t).live handle ≡ None
    pub lent : Lent view s t

  -- These bytes are those of the file from its place on, and its place is behind them.
  pub record ReadSoFar (f : Seen) (bytes : List ℕ) (t : S) (after : F) : Type 0 where
    pub at : seen_in view t after ≡ Some (moved_by (length bytes) f)
    pub front : bytes ≡ take (length bytes) (rest_of f)
    pub within : length bytes ≤ length (rest_of f)
