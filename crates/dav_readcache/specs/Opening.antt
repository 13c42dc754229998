-- What an opening for reading alone asks, and what it leaves: the content that the file holds, and the entries.
use Rattle.std.specs.Prelude.{◌≡◌, ◌<◌, ◌≤◌, ◌+◌, ◌==◌, ◌&&◌, ◌⊎◌, ℕ, List, [], length, take, Bool, true, false, not, cond, nat_le, Option, None, Some, IfSome, Result, Ok, Err, IsErr}
use Rattle.std.specs.Option.{option_map}
use Rattle.dav_io.specs.Counts.{Rose}
use Rattle.dav_io.specs.Told.{Both}
use Rattle.dav_io.specs.declared.failure.NoMemory.{NoMemory}
use Rattle.dav_core.specs.declared.error.FsError.{FsError}
use Rattle.dav_core.specs.declared.error.FsError.TheVariants as fs
use Rattle.dav_core.specs.declared.handle.OpenOptions.{OpenOptions}
use Rattle.dav_core.specs.DavPath.{WebPath}
use Rattle.dav_core.specs.Disk.{can_read}
use Rattle.dav_core.specs.Info.{Info}
use Rattle.dav_core.specs.Tree.{is_file}
use Rattle.dav_core.specs.Unchanged.{KeepsBut}
use Rattle.dav_store.specs.Files.{moved_by, rest_of}
use Rattle.dav_store.specs.Standing.{Seen}
use Rattle.dav_store.specs.View.{Closes, Lent, Reads, Says, View, seen_in}
use Rattle.dav_readcache.specs.declared.cached.CachedFile.{CachedFile}
use Rattle.dav_readcache.specs.declared.cached.Reading.{Reading}
use Rattle.dav_readcache.specs.declared.keeping.Wanted.{Wanted}
use Rattle.dav_readcache.specs.declared.store.ReadCache.{ReadCache}
use Rattle.dav_readcache.specs.Cached.{is_tag, placed_at}
use Rattle.dav_readcache.specs.Shelf.{ShelfState, bytes_for, made_room, promoted, put_first}

-- whether a file is opened for reading alone
abbrev pub is_reading : OpenOptions → Bool
is_reading how = how.read && not how.write && not how.append && not how.truncate && not how.create && not how.create_new

-- The content of a regular file with a tag is to be held where it is no longer than `most`.
abbrev pub wanted_of : ℕ → Info → Option Wanted
wanted_of most info = cond (is_file info.kind && nat_le info.len most)
    (option_map (λ tag. record { tag = tag; len = info.len }) info.tag) None

abbrev pub wanted_by : ℕ → Result Info FsError → Option Wanted
wanted_by most (Ok info) = wanted_of most info
wanted_by most (Err e) = None

-- whether it says this tag
abbrev pub says_tag : List ℕ → Result Info FsError → Bool
says_tag tag (Ok info) = is_tag tag info.tag
says_tag tag (Err e) = false

-- a file of which so many bytes were read, that is read from its first byte on: with no content, and with one
abbrev pub unheld : ℕ → Reading
unheld count = placed_at 0 (record { content = None; pending = None; at = Some count })

abbrev pub holding : List ℕ → List ℕ → ℕ → Reading
holding tag bytes count = placed_at 0 (record { content = Some (record { tag = tag; bytes = bytes }); pending = None; at = Some count })

-- A front of the bytes from a place on went to the front of a buffer.
abbrev pub FrontIn : List ℕ → ℕ → Seen → Seen → Type 0
FrontIn buffer n f g = (n ≤ length (rest_of f)) × (take n buffer ≡ take n (rest_of f)) × (g ≡ moved_by n f)

-- where an opening stands: the store inside, the file that it opened there, and the entries
pub record Opening (S F : Type 0) : Type 0 where
  pub store : S
  pub file : F
  pub shelf : ShelfState

-- Memory was refused, and nothing changed.
pub record Starves {S F : Type 0} (p : Opening S F) (result : Result Reading NoMemory) (q : Opening S F) : Type 0 where
  pub refused : IsErr result
  pub same : q ≡ p

-- What was read whole is put first. Where memory for that is refused, the last entries may be gone.
abbrev pub Keeps : List ℕ → List ℕ → ShelfState → Result Reading NoMemory → ShelfState → Type 0
Keeps tag bytes s result t = ((result ≡ Ok (holding tag bytes (length bytes))) × (t ≡ put_first tag bytes s))
    ⊎ ((IsErr result) × ((t ≡ s) ⊎ (t ≡ made_room (length bytes) s)))

-- It is where all bytes came and the tag is the same.
abbrev pub KeepsWhere : Bool → List ℕ → List ℕ → ℕ → ShelfState → Result Reading NoMemory → ShelfState → Type 0
KeepsWhere true tag buffer count s result t = Keeps tag buffer s result t
KeepsWhere false tag buffer count s result t = (result ≡ Ok (unheld count)) × (t ≡ s)

module _ {S C F : Type 0} (view : View S C F) where
  -- reads, one after the other, to the front of a buffer
  pub record ReadsFront (s : S) (file : F) (buffer : List ℕ) (n : ℕ) (t : S) (after : F) : Type 0 where
    pub within : n ≤ length buffer
    pub reads_from : view.file.reads_from after (view.state t)
    pub keeps : KeepsBut (view.file.handle file) (view.state s) (view.state t)
    pub live : (view.state t).live (view.file.handle file) ≡ (view.state s).live (view.file.handle file)
    pub handle : view.file.handle after ≡ view.file.handle file
    pub lent : Lent view s t
    pub told : Both (seen_in view s file) (seen_in view t after) (FrontIn buffer n)

  -- Reads that gave bytes lead here, one behind the other, and nothing else was asked: so many bytes of so many.
  pub data FilledTo (len : ℕ) (s : S) (file : F) : ℕ → S → F → Type 0 where
    none : FilledTo len s file 0 s file
    one_more : (n k : ℕ) (m t : S) (g after : F) (into : List ℕ) → FilledTo len s file n m g
        → n + length into ≡ len → 0 < k → Reads view m g into (Ok k) t after → FilledTo len s file (n + k) t after

  -- a read that gave no byte, or was refused
  abbrev pub GaveNone : Result ℕ FsError → Type 0
  GaveNone (Ok n) = n ≡ 0
  GaveNone (Err e) = Unit {0}

  -- The last read gave no byte.
  pub record EndsEarly (len : ℕ) (s : S) (file : F) (n : ℕ) (t : S) (after : F) : Type 0 where
    pub store : S
    pub at : F
    pub into : List ℕ
    pub result : Result ℕ FsError
    pub filled : FilledTo len s file n store at
    pub rest : n + length into ≡ len
    pub some : n < len
    pub last : Reads view store at into result t after
    pub none : GaveNone result

  -- The calls that were asked: reads, until all bytes came, or one gave none.
  abbrev pub Fills : ℕ → S → F → ℕ → S → F → Type 0
  Fills len s file n t after = (FilledTo len s file n t after × (n ≡ len)) ⊎ EndsEarly len s file n t after

  -- Reads until the buffer is full, no byte stands there, or one is refused. Of a regular file that was opened for
  -- reading one is refused only by a fault.
  pub record ReadsWhole (s : S) (file : F) (buffer : List ℕ) (n : ℕ) (t : S) (after : F) : Type 0 where
    pub reads : ReadsFront s file buffer n t after
    pub calls : Fills (length buffer) s file n t after
    pub ends : can_read ((view.state s).live (view.file.handle file)) ≡ true → (n ≡ length buffer)
        ⊎ (Rose (view.state s).faults (view.state t).faults ⊎ IfSome (seen_in view t after) (λ g. rest_of g ≡ []))

  -- The file is read, and asked for its metadata again.
  pub record Fetches (wanted : Wanted) (p : Opening S F) (result : Result Reading NoMemory) (q : Opening S F)
      : Type 0 where
    pub buffer : List ℕ
    pub count : ℕ
    pub store : S
    pub file : F
    pub said : Result Info FsError
    pub len : length buffer ≡ wanted.len
    pub reads : ReadsWhole p.store p.file buffer count store file
    pub says : Says view store file said q.store q.file
    pub keeps : KeepsWhere ((count == wanted.len) && says_tag wanted.tag said) wanted.tag buffer count p.shelf result
        q.shelf

  -- An entry of the tag comes first, and the file holds its content. Where there is none, the file is read.
  abbrev pub HoldsBy : Option (List ℕ) → Wanted → Opening S F → Result Reading NoMemory → Opening S F → Type 0
  HoldsBy (Some bytes) wanted p result q =
      ((result ≡ Ok (holding wanted.tag bytes 0)) × (q ≡ record p { shelf = promoted wanted.tag p.shelf }))
      ⊎ Starves p result q
  HoldsBy None wanted p result q = Starves p result q ⊎ Fetches wanted p result q

  abbrev pub HoldsWanted : Option Wanted → Opening S F → Result Reading NoMemory → Opening S F → Type 0
  HoldsWanted None p result q = (result ≡ Ok (unheld 0)) × (q ≡ p)
  HoldsWanted (Some wanted) p result q = HoldsBy (bytes_for wanted.tag p.shelf) wanted p result q

  -- The file is asked for its metadata.
  pub record Holds (p : Opening S F) (result : Result Reading NoMemory) (q : Opening S F) : Type 0 where
    pub said : Result Info FsError
    pub store : S
    pub file : F
    pub says : Says view p.store p.file said store file
    pub holds : Starves (record p { store = store; file = file }) result q
        ⊎ HoldsWanted (wanted_by p.shelf.most said) (record p { store = store; file = file }) result q

  -- Where memory was refused, the file is closed.
  abbrev pub EndsOpen : Result Reading NoMemory → Opening S F → Result (CachedFile F) FsError → S → ShelfState → Type 0
  EndsOpen (Ok r) q result t shelf = (result ≡ Ok (record { file = q.file; reading = Some r })) × (t ≡ q.store)
      × (shelf ≡ q.shelf)
  EndsOpen (Err e) q result t shelf = (result ≡ Err fs.NoMemory) × Closes view q.store q.file t × (shelf ≡ q.shelf)

  -- A file that was opened for reading alone holds its content where that is had.
  pub record HoldsOpened (p : Opening S F) (result : Result (CachedFile F) FsError) (t : S) (shelf : ShelfState)
      : Type 0 where
    pub held : Result Reading NoMemory
    pub at : Opening S F
    pub holds : Holds p held at
    pub ends : EndsOpen held at result t shelf

  -- the store inside, and the entries
  abbrev pub put_back : ReadCache S C → S → ShelfState → ReadCache S C
  put_back s store shelf = record s { store = store; shelf = shelf }

  abbrev pub AfterOpen : Result F FsError → S → ReadCache S C → Result (CachedFile F) FsError → ReadCache S C → Type 0
  AfterOpen (Err e) m s result t = (result ≡ Err e) × (t ≡ put_back s m s.shelf)
  AfterOpen (Ok file) m s result t = HoldsOpened (record { store = m; file = file; shelf = s.shelf }) result t.store
      t.shelf × (t ≡ put_back s t.store t.shelf)

  -- a file of the store, of which every call passes on
  abbrev pub passed_on : Result F FsError → Result (CachedFile F) FsError
  passed_on (Ok file) = Ok (record { file = file; reading = None })
  passed_on (Err e) = Err e

  abbrev pub OpensBy : Bool → ReadCache S C → C → WebPath → OpenOptions → Result (CachedFile F) FsError → ReadCache S C
      → Type 0
  OpensBy false s c path how result t = (o : Result F FsError) × view.opens s.store c path how o t.store
      × (result ≡ passed_on o) × (t ≡ put_back s t.store s.shelf)
  OpensBy true s c path how result t = (o : Result F FsError) × (m : S) × view.opens s.store c path how o m
      × AfterOpen o m s result t

  -- The store opens the file. Opened for reading alone, it holds its content where that is had.
  abbrev pub OpensCached : ReadCache S C → C → WebPath → OpenOptions → Result (CachedFile F) FsError → ReadCache S C
      → Type 0
  OpensCached s c path how result t = OpensBy (is_reading how) s c path how result t
