-- The listings of a local store, over its disk.
use Rattle.std.proofs.Common.{◌≡◌, Option, Result}
use Rattle.dav_io.specs.declared.clock.Moment.{Moment}
use Rattle.dav_core.specs.declared.error.FsError.{FsError}
use Rattle.dav_store.specs.View.{Listings, View}
use Rattle.dav_walks.specs.Pouring.{Writes}
use Rattle.dav_memory.specs.Memory.{MemoryState}
use Rattle.dav_local.specs.declared.entry.LocalFsDirEntry.{LocalFsDirEntry}
use Rattle.dav_local.specs.declared.file.LocalFsFile.{LocalFsFile}
use Rattle.dav_local.specs.declared.ways.Ways.{Ways}
use Rattle.dav_local.specs.declared.gathering.LocalFsReadDir.{LocalFsReadDir}
use Rattle.dav_local.specs.Places.{Place}
use Rattle.dav_local.proofs.Gathered.{Next, after_ways, next_of}
use Rattle.dav_local.proofs.Walked.{ListsLocal}
use Rattle.dav_local_laws.specs.LocalStore.{IsLocalStore, place}

module _ {S C : Type 0} (view : View S C LocalFsFile) (lists : Listings S C LocalFsReadDir LocalFsDirEntry) (writes : Writes LocalFsFile) (ways : S → Ways) (memory : S → MemoryState) (moment : S → Moment)
    (local : IsLocalStore view lists writes ways memory moment) where
  abbrev at : S → Place
  at s = place view lists writes ways memory moment s

  -- what a listing answers
  pub next_local : (s t : S) (d e : LocalFsReadDir) (r : Result (Option LocalFsDirEntry) FsError) → lists.lists_on s d r t e → Next (view.state s) d r (view.state t) e
  next_local s t d e r on = let (now, gives, here, timed) = local.goes_on s t d e r on in next_of now (at s) (at t) d e r gives

  pub lists_local : ListsLocal view lists
  lists_local = record { next_so = λ s d r t e on. next_local s t d e r on; called_so = local.called; says_so = λ e s r t says. local.says s t e r says }

  -- A listing leaves how paths are found.
  pub next_ways : (s t : S) (d e : LocalFsReadDir) (r : Result (Option LocalFsDirEntry) FsError) → lists.lists_on s d r t e → ways t ≡ ways s
  next_ways s t d e r on =
      let (now, gives, here, timed) = local.goes_on s t d e r on in
      let (given, m, f, first, follows) = gives in
      after_ways d.builder given now (record (at s) { disk = m }) (record d { reading = f }) r (at t) e follows
