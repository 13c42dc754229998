-- What a look and an opening save where the memory has their path.
use Rattle.std.specs.Prelude.{◌≡◌, ◌⊎◌, true, false, Option, Some, Result, Ok, Err, IfOk, OnErr, option_map}
use Rattle.dav_io.specs.Counts.{RefusedNothing}
use Rattle.dav_core.specs.declared.error.FsError.{FsError}
use Rattle.dav_core.specs.declared.error.FsError.TheVariants.{NoMemory}
use Rattle.dav_core.specs.declared.handle.Handle.{Handle}
use Rattle.dav_core.specs.declared.handle.Meta.{Meta}
use Rattle.dav_core.specs.declared.handle.OpenOptions.{OpenOptions}
use Rattle.dav_core.specs.DavPath.{WebPath}
use Rattle.dav_core.specs.Disk.{DiskState}
use Rattle.dav_core.specs.Info.{Info}
use Rattle.dav_core.specs.Path.{Names}
use Rattle.dav_core.specs.Writing.{reading}
use Rattle.dav_store.specs.Files.{AsksOnce}
use Rattle.dav_model.specs.Finding.{has_slash, is_virtual}
use Rattle.dav_local.specs.declared.file.LocalFsFile.{LocalFsFile}
use Rattle.dav_local.specs.declared.gathering.LocalFsReadDir.{LocalFsReadDir}
use Rattle.dav_local.specs.Calls.{LooksAt, is_shut}
use Rattle.dav_local.specs.FromRoot.{CostsBy}
use Rattle.dav_local.specs.Near.{Calls, CallsAtMost, IsAsAsked, IsAtOnce, KeepsSeen, SeeksNear}
use Rattle.dav_local.specs.Places.{Place}
use Rattle.dav_local.specs.Remembering.{IsRemembered}
use Rattle.dav_local.specs.Seeing.{OpensAt}
use Rattle.dav_local.specs.Ways.{is_known, rules_of}
pub use Rattle.dav_local.specs.Ways.{is_judged}

-- The disk was asked one call, or none where memory was wanting before it.
abbrev pub AsksOneCall : {T : Type 0} → Place → Result T FsError → Place → Type 0
AsksOneCall p result q = AsksOnce p.disk q.disk ⊎ ((result ≡ Err NoMemory) × (q.disk ≡ p.disk))

-- Where names fold and nothing was refused, a look at a path that is remembered costs one call of the disk: that by
-- which it is found. A name that the rules for macOS judge may cost another.
abbrev pub SavesAt : Place → Names → Result Info FsError → Place → Type 0
SavesAt p names result q = is_known p.ways ≡ false → RefusedNothing p.disk.faults q.disk.faults → (at : Names)
    → IsRemembered p names at → is_judged p.ways at ≡ false → AsksOneCall p result q

-- So does a look at a path that the memory hasn't and that stands as it is asked.
abbrev pub SeesAsAsked : Place → Names → Result Info FsError → Place → Type 0
SeesAsAsked p names result q = RefusedNothing p.disk.faults q.disk.faults → IsAsAsked p names
    → is_judged p.ways names ≡ false → AsksOneCall p result q

abbrev pub SeesHere : Place → Names → Result Info FsError → Place → Type 0
SeesHere p names result q = is_known p.ways ≡ false → SeesAsAsked p names result q

-- A path that the memory hasn't, and that doesn't stand as it is asked, is sought in the directory above it where the
-- memory has that, or where it stands as it is asked: four calls, and one for each name in it at most. Then a call
-- follows at the place found.
abbrev pub SeeksAbove : {T : Type 0} → Place → Names → (Names → Place → Result T FsError → Place → Type 0)
    → Result T FsError → Place → Type 0
SeeksAbove p names call result q = is_known p.ways ≡ false → SeeksNear 4 p names call result q

-- The two empty files that clients of macOS look for cost none. Whatever the memory has, and whatever was refused, a look
-- costs two calls at most where names don't fold, or one file is served alone: with the rules for macOS the directory's
-- time may be asked before the place. Where they fold, it costs six at most beside those of a walk from the root.
pub record SavesLook (p : Place) (path : WebPath) (result : Result Info FsError) (q : Place) : Type 0 where
  pub held : is_virtual (rules_of p.ways) path ≡ false → SavesAt p path.names result q
  pub here : is_virtual (rules_of p.ways) path ≡ false → SeesHere p path.names result q
  pub above : is_virtual (rules_of p.ways) path ≡ false
      → SeeksAbove p path.names (LooksAt true (has_slash p.ways.alone path)) result q
  pub kept : is_virtual (rules_of p.ways) path ≡ false → is_known p.ways ≡ false → KeepsSeen p path.names q
  pub most : CostsBy (is_known p.ways) 2 6 p path.names q

-- Where names fold and nothing was refused, an opening for reading at a path that is remembered costs one call of the
-- disk: that by which it is found.
abbrev pub SavesOpening : Place → Names → Result LocalFsFile FsError → Place → Type 0
SavesOpening p names result q = is_known p.ways ≡ false → RefusedNothing p.disk.faults q.disk.faults → (at : Names)
    → IsRemembered p names at → AsksOneCall p result q

-- Two calls were asked, or at most two where nothing was opened.
abbrev pub OpensByTwo : DiskState → Result LocalFsFile FsError → DiskState → Type 0
OpensByTwo s (Ok file) t = Calls 2 s t
OpensByTwo s (Err e) t = CallsAtMost 2 s t

-- A path that the memory hasn't and that stands as it is asked is looked at, and opened.
abbrev pub OpensAsAsked : Place → Names → Result LocalFsFile FsError → Place → Type 0
OpensAsAsked p names result q = RefusedNothing p.disk.faults q.disk.faults → IsAsAsked p names
    → OpensByTwo p.disk result q.disk

abbrev pub OpensHere : Place → Names → Result LocalFsFile FsError → Place → Type 0
OpensHere p names result q = is_known p.ways ≡ false → OpensAsAsked p names result q

-- What these rules shut costs none. An opening costs one call at most where names don't fold, or one file is served
-- alone, and else five at most beside those of a walk from the root.
pub record SavesOpen (p : Place) (path : WebPath) (how : OpenOptions) (result : Result LocalFsFile FsError) (q : Place)
    : Type 0 where
  pub held : is_shut p.ways path ≡ false → how ≡ reading → SavesOpening p path.names result q
  pub here : is_shut p.ways path ≡ false → how ≡ reading → OpensHere p path.names result q
  pub above : is_shut p.ways path ≡ false → how ≡ reading
      → SeeksAbove p path.names (OpensAt reading) result q
  pub most : how ≡ reading → CostsBy (is_known p.ways) 1 5 p path.names q

-- A listing of a directory that is found at once, and that is refused: the path, the directory's time where names are
-- gathered, and the listing.
abbrev pub SavesListing : Place → Names → Result LocalFsReadDir FsError → Place → Type 0
SavesListing p names result q = is_known p.ways ≡ false → RefusedNothing p.disk.faults q.disk.faults → (at : Names)
    → IsAtOnce p names at → OnErr result (CallsAtMost 3 p.disk q.disk)

-- The beginning of a listing costs two calls at most where names don't fold, or one file is served alone: with the rules
-- for macOS the directory's time is asked before it. Where they fold, it costs six at most beside those of a walk from
-- the root.
pub record SavesDir (p : Place) (path : WebPath) (result : Result LocalFsReadDir FsError) (q : Place) : Type 0 where
  pub held : SavesListing p path.names result q
  pub most : CostsBy (is_known p.ways) 2 6 p path.names q

-- The memory is asked for a path, and what stands there is opened: where it has the path, one call of the disk opens it,
-- or is refused for want of memory.
pub record OpensOnce (p : Place) (names : Names) (result : Result (Option (Names × Handle)) FsError) (q : Place)
    : Type 0 where
  pub starved : OnErr result (AsksOneCall p result q)
  pub saved : IfOk result (λ found. RefusedNothing p.disk.faults q.disk.faults → (at : Names) → IsRemembered p names at
      → (option_map (λ f. f.0) found ≡ Some at) × AsksOnce p.disk q.disk)

-- The memory is asked for a path and what stands there: where it has them, one call of the disk tells.
pub record SeesOnce (p : Place) (names : Names) (result : Result (Option (Names × Meta)) FsError) (q : Place)
    : Type 0 where
  pub starved : OnErr result ((result ≡ Err NoMemory) × (q.disk ≡ p.disk))
  pub saved : IfOk result (λ found. RefusedNothing p.disk.faults q.disk.faults → (at : Names) → IsRemembered p names at
      → (option_map (λ f. f.0) found ≡ Some at) × AsksOnce p.disk q.disk)
