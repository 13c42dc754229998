-- How a resource of a store is read: which calls are made, and what came of them.
use Rattle.std.specs.Prelude.{◌≡◌, ◌≤◌, ◌⊎◌, ℕ, List, [], length, take, Bool, true, false, Option, Some, Result, Ok, Err, IfOk, OnErr, unwrap_or}
use Rattle.dav_core.specs.declared.error.FsError.{FsError}
use Rattle.dav_core.specs.declared.error.FsError.TheVariants as fs
use Rattle.dav_core.specs.DavPath.{WebPath}
use Rattle.dav_core.specs.Disk.{can_read}
use Rattle.dav_core.specs.Info.{Info}
use Rattle.dav_core.specs.Writing.{reading}
use Rattle.dav_core.specs.Tree.{is_file}
use Rattle.dav_core.specs.Unchanged.{KeepsBut}
use Rattle.dav_store.specs.Files.{Spoiled, rest_of}
use Rattle.dav_store.specs.Frames.{OpensOne}
use Rattle.dav_store.specs.Standing.{Seen}
use Rattle.dav_store.specs.View.{View, Closes, Lent, Says, seen_in}
use Rattle.dav_selection.specs.Pieces.{InPieces}
use Rattle.dav_selection.specs.declared.resource.Resource.{Resource}
use Rattle.dav_selection.specs.declared.resource.Unread.{Unread}
use Rattle.dav_selection.specs.declared.resource.Unread.TheVariants.{Unsaid, Refused, NoMemory}

-- why it isn't read: a refusal, or want of memory
abbrev pub unread : FsError → Unread
unread fs.NoMemory = NoMemory
unread e = Refused

-- with these bytes, and the text of its entity tag, empty where it has none
abbrev pub resource : Option (List ℕ) → List ℕ → Resource
resource tag bytes = record { etag = unwrap_or tag []; content = bytes }

-- what came of a resource whose metadata is known
abbrev pub content_of : Info → Result (List ℕ) FsError → Result Resource Unread
content_of info (Ok bytes) = Ok (resource info.tag bytes)
content_of info (Err e) = Err (unread e)

module _ {S C F : Type 0} (view : View S C F) where
  -- The file was read from its place on, to so many bytes or its end.
  pub record ReadsTo (s : S) (file : F) (len : ℕ) (result : Result (List ℕ) FsError) (t : S) (after : F) : Type 0 where
    pub keeps : KeepsBut (view.file.handle file) (view.state s) (view.state t)
    pub live : (view.state t).live (view.file.handle file) ≡ (view.state s).live (view.file.handle file)
    pub handle : view.file.handle after ≡ view.file.handle file
    pub lent : Lent view s t
    pub refused : can_read ((view.state s).live (view.file.handle file)) ≡ true
        → OnErr result (Spoiled (view.state s) result (view.state t))
    pub within : IfOk result (λ bytes. length bytes ≤ len)
    pub told : (f : Seen) → seen_in view s file ≡ Some f → IfOk result (λ bytes. bytes ≡ take len (rest_of f))
    -- how many bytes were read, and in which pieces: those that it gives
    pub had : ℕ
    pub pieces : InPieces view len s file had t after
    pub given : IfOk result (λ bytes. length bytes ≡ had)

  -- What is no regular file isn't read.
  abbrev pub AfterKind : Bool → Info → F → S → Result Resource Unread → S → Type 0
  AfterKind false info file s result t = Closes view s file t × (result ≡ Err Refused)
  AfterKind true info file s result t = (read : Result (List ℕ) FsError) × (g : F) × (m : S)
      × ReadsTo s file info.len read m g × Closes view m g t × (result ≡ content_of info read)

  abbrev pub AfterMeta : Result Info FsError → F → S → Result Resource Unread → S → Type 0
  AfterMeta (Err e) file s result t = Closes view s file t × (result ≡ Err (Unsaid e))
  AfterMeta (Ok info) file s result t = AfterKind (is_file info.kind) info file s result t

  -- a file that was opened: it is asked for its metadata, read to its length, and closed again
  abbrev pub AfterOpen : Result F FsError → S → Result Resource Unread → S → Type 0
  AfterOpen (Err e) s result t = (t ≡ s) × (result ≡ Err (unread e))
  AfterOpen (Ok file) s result t = ((said : Result Info FsError) × (g : F) × (m : S)
      × Says view s file said m g × AfterMeta said g m result t) ⊎ (result ≡ Err NoMemory)

  -- The resource at a path was opened and read.
  abbrev pub Fetches : C → WebPath → S → Result Resource Unread → S → Type 0
  Fetches c path s result t = (opened : Result F FsError) × (m : S) × view.opens s c path reading opened m
      × OpensOne view.file reading (view.state s) opened (view.state m) × AfterOpen opened m result t
