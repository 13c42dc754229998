-- Open files whose contents may be held.
use Rattle.std.specs.Prelude.{◌≡◌, ◌<◌, ◌+◌, ◌==◌, ◌&&◌, ◌^◌, ◌⊎◌, nat_lt, [], ℕ, List, Bool, true, false, cond, length, take, drop, min, Option, None, Some, IsSome, Result, Ok, Err, IfOk, nat_eq}
use Rattle.std.specs.Option.{option_map}
use Rattle.std.specs.Cmp.Lexicographic.{pointwise}
use Rattle.dav_core.specs.declared.error.FsError.{FsError}
use Rattle.dav_core.specs.declared.error.FsError.TheVariants.{NoMemory}
use Rattle.dav_core.specs.Disk.{DiskState, Live}
use Rattle.dav_core.specs.Info.{Info}
use Rattle.dav_io.specs.Counts.{one_more}
use Rattle.dav_io.specs.Told.{Both}
use Rattle.dav_core.specs.Tree.{is_file}
use Rattle.dav_core.specs.declared.tree.Kind.{Kind}
use Rattle.dav_core.specs.Unchanged.{KeepsBut}
use Rattle.dav_core.specs.Writing.{reading}
use Rattle.dav_store.specs.Files.{AsksOnce, FileSays}
use Rattle.dav_store.specs.FileView.{FileView}
use Rattle.dav_store.specs.Standing.{Seen, Standing}
use Rattle.dav_readcache.specs.declared.cached.Content.{Content}
use Rattle.dav_readcache.specs.declared.cached.Reading.{Reading}
use Rattle.dav_readcache.specs.declared.cached.CachedFile.{CachedFile}

-- whether something with this tag is held
abbrev pub is_tag : List ℕ → Option (List ℕ) → Bool
is_tag tag None = false
is_tag tag (Some other) = pointwise nat_eq tag other

-- whether a regular file of this tag is held
abbrev pub is_of : Content → Kind → Option (List ℕ) → Bool
is_of c kind tag = is_file kind && is_tag c.tag tag

-- A file is shown with the bytes that are held, as long as it has their tag.
abbrev pub shown : Option Content → Standing → Standing
shown None there = there
shown (Some c) there = cond (is_of c there.kind there.tag) (record there { bytes = c.bytes }) there

abbrev pub place_of : Option ℕ → ℕ → ℕ
place_of None place = place
place_of (Some p) place = p

abbrev pub seen_as : Reading → Seen → Seen
seen_as r f = record { stands = shown r.content f.stands; place = place_of r.pending f.place }

abbrev pub seen_reading : Option Reading → Option Seen → Option Seen
seen_reading None seen = seen
seen_reading (Some r) seen = option_map (seen_as r) seen

abbrev pub seen_by : {F : Type 0} → FileView F → CachedFile F → DiskState → Option Seen
seen_by view f s = seen_reading f.reading (view.seen f.file s)

abbrev pub place_or : Option ℕ → Option ℕ → Option ℕ
place_or None at = at
place_or (Some p) at = Some p

-- the place where it is read next, where it is known
abbrev pub place_in : Reading → Option ℕ
place_in r = place_or r.pending r.at

abbrev pub pending_at : Option ℕ → ℕ → Option ℕ
pending_at None place = Some place
pending_at (Some at) place = cond (at == place) None (Some place)

abbrev pub placed_at : ℕ → Reading → Reading
placed_at place r = record r { pending = pending_at r.at place }

-- The store's file is where it is known to be. Where a content is held, that is known.
abbrev pub IsKnown : Reading → Option Seen → Type 0
IsKnown r seen = (IsSome r.content → IsSome r.at) × ((at : ℕ) (f : Seen) → r.at ≡ Some at → seen ≡ Some f → f.place ≡ at)

abbrev pub IsAtKnown : Option Reading → Option Seen → Type 0
IsAtKnown None seen = Unit {0}
IsAtKnown (Some r) seen = IsKnown r seen

-- what is read by a cache was opened for reading alone
abbrev pub IsShut : Option Reading → Option Live → Type 0
IsShut None live = Unit {0}
IsShut (Some r) live = (l : Live) → live ≡ Some l → l.how ≡ reading

abbrev pub reads_by : {F : Type 0} → FileView F → CachedFile F → DiskState → Type 0
reads_by view f s = view.reads_from f.file s × IsAtKnown f.reading (view.seen f.file s)
    × IsShut f.reading (s.live (view.handle f.file))

-- the content that a file holds
abbrev pub content_in : Option Reading → Option Content
content_in None = None
content_in (Some r) = r.content

abbrev pub content_of : {F : Type 0} → CachedFile F → Option Content
content_of file = content_in file.reading

-- What is held then was held before.
abbrev pub IsLeft : Option Content → Option Content → Type 0
IsLeft before after = (c : Content) → after ≡ Some c → before ≡ Some c

-- What it becomes: the store's file what that becomes, and no other content is held.
abbrev pub becomes_by : {F : Type 0} → FileView F → CachedFile F → CachedFile F → Type 0
becomes_by view f g = view.becomes f.file g.file × IsLeft (content_of f) (content_of g)

-- An open file of a store, as it is shown by a cache. It is written as the store's file is; a move asks nothing, and a
-- read may ask more than once.
abbrev pub cached_file : {F : Type 0} → FileView F → FileView (CachedFile F)
cached_file view = record {
  handle = λ f. view.handle f.file;
  seen = seen_by view;
  writes = λ f s from result g t. view.writes f.file s from result g.file t × (g.reading ≡ f.reading);
  reads_from = reads_by view;
  asks_once = ⊥;
  becomes = becomes_by view;
  becomes_same = λ f. (view.becomes_same f.file, λ c is. is);
  becomes_then = λ f g k one other. (view.becomes_then f.file g.file k.file one.0 other.0, λ c is. one.1 c (other.1 c is));
}

-- ---- steps of a read

abbrev pub added : Option ℕ → ℕ → Option ℕ
added None n = None
added (Some at) n = cond (nat_lt (at + n) (2 ^ 64)) (Some (at + n)) None

-- The file is shown as it was, and no other is touched.
pub record Stays (h : ℕ) (s : DiskState) (seen : Option Seen) (t : DiskState) (after : Option Seen) : Type 0 where
  pub keeps : KeepsBut h s t
  pub live : t.live h ≡ s.live h
  pub told : Both seen after (λ f g. g ≡ f)

-- whether the content that is held is of what has this metadata
abbrev pub is_held : Option Content → Info → Bool
is_held None info = false
is_held (Some c) info = is_of c info.kind info.tag

-- A content of another tag is dropped.
abbrev pub IsFreshFor : Bool → Reading → Result Bool FsError → Reading → Type 0
IsFreshFor true r result q = (result ≡ Ok true) × (q ≡ r)
IsFreshFor false r result q = (result ≡ Ok false) × (q ≡ record r { content = None })

abbrev pub IsFresh : Result Info FsError → Reading → Result Bool FsError → Reading → Type 0
IsFresh (Err e) r result q = (result ≡ Err e) × (q ≡ r)
IsFresh (Ok info) r result q = IsFreshFor (is_held r.content info) r result q

abbrev pub bytes_in : Option Content → List ℕ
bytes_in None = []
bytes_in (Some c) = c.bytes

-- All bytes of the content that stand from its place on and fit are copied.
pub record Copies (r : Reading) (buffer : List ℕ) (n : ℕ) (q : Reading) : Type 0 where
  pub place : ℕ
  pub at : place_in r ≡ Some place
  pub some : 0 < length buffer
  pub count : n ≡ min (length buffer) (length (drop place (bytes_in r.content)))
  pub copied : take n buffer ≡ take n (drop place (bytes_in r.content))
  pub left : q ≡ placed_at (place + n) r

-- A read of a file that has the tag of the content that is held asks the disk once, where that refuses nothing, and
-- gives all bytes that stand there and fit.
abbrev pub IsHit : Reading → Option Seen → DiskState → List ℕ → Result ℕ FsError → DiskState → Type 0
IsHit r seen s buffer result t = (c : Content) (f : Seen) → r.content ≡ Some c → seen ≡ Some f
    → is_of c f.stands.kind f.stands.tag ≡ true → AsksOnce s t
    × IfOk result (λ n. n ≡ min (length buffer) (length (drop (place_of r.pending f.place) c.bytes)))

-- the same of a cached file
abbrev pub HitsBy : Option Reading → Option Seen → DiskState → List ℕ → Result ℕ FsError → DiskState → Type 0
HitsBy None seen s buffer result t = Unit {0}
HitsBy (Some r) seen s buffer result t = IsHit r seen s buffer result t

-- ---- which calls a read asks, where each move and each read of the store's file asks one

abbrev pub AsksTwice : DiskState → DiskState → Type 0
AsksTwice s t = t.asked ≡ one_more (one_more s.asked)

-- The store's file is moved where it is read elsewhere than it stands.
abbrev pub MovesThere : Type 0 → Option ℕ → Result Unit FsError → DiskState → DiskState → Type 0
MovesThere once None result s t = (result ≡ Ok tt) × (t ≡ s)
MovesThere once (Some place) result s t = once → AsksOnce s t

-- It is moved, where that is to be, and read. Where the move is refused, it isn't read.
abbrev pub AsksOn : Option ℕ → Result ℕ FsError → DiskState → DiskState → Type 0
AsksOn None result s t = AsksOnce s t
AsksOn (Some place) (Ok n) s t = AsksTwice s t
AsksOn (Some place) (Err e) s t = AsksOnce s t ⊎ AsksTwice s t

-- where a read stands: the store's file inside, how it is read, and the disk
pub record ReadAt (F R : Type 0) : Type 0 where
  pub file : F
  pub reading : R
  pub disk : DiskState

-- where a read of a cached file stands
abbrev pub read_at : {F : Type 0} → CachedFile F → DiskState → ReadAt F (Option Reading)
read_at f s = record { file = f.file; reading = f.reading; disk = s }

-- how it is read, where that is known to be by this reading
abbrev pub read_by : {F : Type 0} → Reading → ReadAt F (Option Reading) → ReadAt F Reading
read_by r p = record { file = p.file; reading = r; disk = p.disk }

-- A read goes from `p` to `q`: into a buffer, which is told as it was filled, with this result.
module _ {F : Type 0} (view : FileView F) where
  -- It is read without a content.
  abbrev pub ReadsOn : ReadAt F Reading → Result ℕ FsError → ReadAt F Reading → Type 0
  ReadsOn p result q = (view.asks_once → AsksOn p.reading.pending result p.disk q.disk) × (q.reading.content ≡ None)

  -- Where metadata has the tag of the content that is held, the bytes come from that, and nothing more is asked. Else
  -- the content is dropped.
  abbrev pub AfterTag : Bool → ReadAt F Reading → List ℕ → Result ℕ FsError → ReadAt F Reading → Type 0
  AfterTag true p buffer result q = (n : ℕ) × (result ≡ Ok n) × (q.disk ≡ p.disk)
      × (q.reading.content ≡ p.reading.content) × Copies p.reading buffer n q.reading
  AfterTag false p buffer result q = ReadsOn p result q

  -- Where metadata is refused, that is the answer.
  abbrev pub AfterSaid : Result Info FsError → ReadAt F Reading → List ℕ → Result ℕ FsError → ReadAt F Reading → Type 0
  AfterSaid (Err e) p buffer result q = (result ≡ Err e) × (q.disk ≡ p.disk) × (q.reading ≡ p.reading)
  AfterSaid (Ok info) p buffer result q = AfterTag (is_held p.reading.content info) p buffer result q

  -- Where a content is held, metadata is asked first.
  pub record SaysFirst (p : ReadAt F Reading) (buffer : List ℕ) (result : Result ℕ FsError) (q : ReadAt F Reading)
      : Type 0 where
    pub said : Result Info FsError
    pub disk : DiskState
    pub seen_then : Option Seen
    pub says : FileSays p.disk (view.handle p.file) (view.seen p.file p.disk) said disk seen_then
    pub after : AfterSaid said (record p { disk = disk }) buffer result q

  abbrev pub StepsWith : Option Content → ReadAt F Reading → List ℕ → Result ℕ FsError → ReadAt F Reading → Type 0
  StepsWith None p buffer result q = ReadsOn p result q
  StepsWith (Some c) p buffer result q = SaysFirst p buffer result q

  -- What a read asks in order, in every run, and what is held after it.
  abbrev pub StepsBy : ReadAt F Reading → List ℕ → Result ℕ FsError → ReadAt F Reading → Type 0
  StepsBy p buffer result q = StepsWith p.reading.content p buffer result q

  -- the same of a cached file: without a reading its calls pass on
  abbrev pub StepsOf : Option Reading → ReadAt F (Option Reading) → List ℕ → Result ℕ FsError
      → ReadAt F (Option Reading) → Type 0
  StepsOf None p buffer result q = (view.asks_once → AsksOnce p.disk q.disk) × (q.reading ≡ None)
  StepsOf (Some r) p buffer result q = (g : Reading) × (q.reading ≡ Some g)
      × StepsBy (read_by r p) buffer result (read_by g q)

  abbrev pub Steps : ReadAt F (Option Reading) → List ℕ → Result ℕ FsError → ReadAt F (Option Reading) → Type 0
  Steps p buffer result q = StepsOf p.reading p buffer result q

-- the bytes at the front of a buffer, or want of memory for a value of their own
abbrev pub GivesFront : List ℕ → Result ℕ FsError → Result (List ℕ) FsError → Type 0
GivesFront buffer (Ok n) result = (result ≡ Ok (take n buffer)) ⊎ (result ≡ Err NoMemory)
GivesFront buffer (Err e) result = result ≡ Err e

-- Bytes are given by one read into a buffer of that length. Where memory for the buffer is refused, nothing is asked.
abbrev pub GivesBySteps : {F : Type 0} → FileView F → ReadAt F (Option Reading) → ℕ → Result (List ℕ) FsError
    → ReadAt F (Option Reading) → Type 0
GivesBySteps view p count result q = ((result ≡ Err NoMemory) × (q.disk ≡ p.disk) × (q.reading ≡ p.reading))
    ⊎ ((buffer : List ℕ) × (read : Result ℕ FsError) × (length buffer ≡ count) × Steps view p buffer read q
    × HitsBy p.reading (view.seen p.file p.disk) p.disk buffer read q.disk × GivesFront buffer read result)

-- where a cached file is read next
abbrev pub moved_to : ℕ → Option Reading → Option Reading
moved_to place reading = option_map (placed_at place) reading

-- A move of a file that was opened for reading alone asks nothing, and is never refused.
abbrev pub MovesFree : Option Reading → DiskState → ℕ → Result ℕ FsError → DiskState → Type 0
MovesFree None s place result t = Unit {0}
MovesFree (Some r) s place result t = (result ≡ Ok place) × (t ≡ s)
