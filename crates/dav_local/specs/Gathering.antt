-- The listings of a local store. Where the rules for macOS hold, a listing gathers the names that begin with `._`, and
-- at its end the memory is sealed with them.
use Rattle.std.specs.Prelude.{◌≡◌, ◌⊎◌, ℕ, Bool, true, false, Option, None, Some, Result, Ok, Err}
use Rattle.dav_io.specs.declared.clock.Moment.{Moment}
use Rattle.dav_io.specs.declared.failure.NoMemory.{NoMemory as Starved}
use Rattle.dav_core.specs.declared.error.FsError.{FsError}
use Rattle.dav_core.specs.declared.error.FsError.TheVariants.{NoMemory}
use Rattle.dav_core.specs.Disk.{DiskState}
use Rattle.dav_core.specs.Path.{Names}
use Rattle.dav_store.specs.declared.entry.ReadDirMeta.{ReadDirMeta}
use Rattle.dav_store.specs.declared.entry.ReadDirMeta.TheVariants as wanted
use Rattle.dav_memory.specs.Builder.{BuilderState, Finishes, Site, Starts, with_name}
use Rattle.dav_memory.specs.Memory.{MemoryState}
use Rattle.dav_local.specs.declared.entry.LocalFsDirEntry.{LocalFsDirEntry}
use Rattle.dav_local.specs.Listing.{Begins, ListingState, NextEntry, stopped, to_come}
use Rattle.dav_local.specs.Places.{Place}
pub use Rattle.dav_local.specs.declared.gathering.LocalFsReadDir.{LocalFsReadDir}

-- Whether a listing gathers names. One that is read before a removal or a copy, with links not followed, doesn't: what
-- it lists is about to change.
abbrev pub gathers : Bool → ReadDirMeta → Bool
gathers macos wanted.Data = macos
gathers macos wanted.DataSymlink = false
gathers macos wanted.None = macos

-- ---- its beginning

abbrev pub dir_with : Option BuilderState → Result ListingState FsError → Result LocalFsReadDir FsError
dir_with builder (Ok reading) = Ok (record { reading = reading; builder = builder })
dir_with builder (Err e) = Err e

-- The directory's time is asked before the listing is begun, after memory for its path was had.
abbrev pub BeginsDir : Bool → Names → ReadDirMeta → DiskState → Result LocalFsReadDir FsError → DiskState → Type 0
BeginsDir false at wanted s result t = (begun : Result ListingState FsError) × Begins s at wanted begun t
    × (result ≡ dir_with None begun)
BeginsDir true at wanted s result t = ((result ≡ Err NoMemory) × (t ≡ s))
    ⊎ ((b : BuilderState) × (m : DiskState) × Starts s at b m
    × (begun : Result ListingState FsError) × Begins m at wanted begun t × (result ≡ dir_with (Some b) begun))

-- ---- one answer more

-- A name is gathered, or memory for it is refused: then that is told, and the listing gives nothing more.
abbrev pub Gathers : BuilderState → LocalFsDirEntry → LocalFsReadDir → Result (Option LocalFsDirEntry) FsError
    → LocalFsReadDir → Type 0
Gathers b entry d (Ok found) e = (found ≡ Some entry) × (e ≡ record d { builder = Some (with_name entry.name b) })
Gathers b entry d (Err f) e = (f ≡ NoMemory)
    × (e ≡ record { reading = stopped d.reading; builder = Some (record b { faulted = true }) })

-- what is answered at the end
abbrev pub at_end : Result Unit Starved → Result (Option LocalFsDirEntry) FsError
at_end (Ok x) = Ok None
at_end (Err e) = Err NoMemory

abbrev pub site_of : BuilderState → Place → Site MemoryState
site_of b p = record { builder = b; disk = p.disk; memory = p.memory }

-- The end of the listing finishes what was gathered, by a moment. Want of memory for the seal is told once.
abbrev pub EndsGathering : BuilderState → Moment → Place → LocalFsReadDir → Result (Option LocalFsDirEntry) FsError
    → Place → LocalFsReadDir → Type 0
EndsGathering b now p d result q e = (sealed : Result Unit Starved) × (c : BuilderState)
    × Finishes (λ m. m) b.finished (site_of b p) now sealed (site_of c q)
    × (q.ways ≡ p.ways) × (result ≡ at_end sealed) × (e ≡ record d { builder = Some c })

-- how a listing goes on by a moment, with what is answered
abbrev pub ListingStep : Type 1
ListingStep = Moment → Place → LocalFsReadDir → Result (Option LocalFsDirEntry) FsError → Place → LocalFsReadDir → Type 0

-- what follows an answer of the disk's listing
abbrev pub AfterNext : Option BuilderState → Result (Option LocalFsDirEntry) FsError → ListingStep
AfterNext None given now p d result q e = (result ≡ given) × (q ≡ p) × (e ≡ d)
AfterNext (Some b) (Ok (Some entry)) now p d result q e = (q ≡ p) × Gathers b entry d result e
AfterNext (Some b) (Ok None) now p d result q e = EndsGathering b now p d result q e
AfterNext (Some b) (Err f) now p d result q e = (result ≡ Err f) × (q ≡ p)
    × (e ≡ record d { builder = Some (record b { faulted = true }) })

-- One answer of a listing, by the store's moment.
abbrev pub GivesNext : Moment → Place → LocalFsReadDir → Result (Option LocalFsDirEntry) FsError → Place
    → LocalFsReadDir → Type 0
GivesNext now p d result q e = (given : Result (Option LocalFsDirEntry) FsError) × (t : DiskState) × (f : ListingState)
    × NextEntry p.disk d.reading given t f
    × AfterNext d.builder given now (record p { disk = t }) (record d { reading = f }) result q e

-- how many answers are to come
abbrev pub dir_to_come : LocalFsReadDir → Option ℕ → ℕ
dir_to_come d left = to_come d.reading left
